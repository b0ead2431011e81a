-- A number read digit by digit: what one byte more makes of it, and where it ends.
use mathlib.Core.Path.{◌≡◌, refl, sym, ap, ◌∙◌}
use mathlib.Core.Bool.{Bool, true, false, cond, ◌&&◌, and-false}
use mathlib.Core.List.{List, [], ◌∷◌}
use Rattle.std.proofs.Common.{Option, None, Some}
use Prim.Native.Nat.{ℕ, suc, ◌+◌, ◌-◌, ◌*◌, ◌^◌, ◌≤◌, ◌<◌}
use native.Mathlib.Nat.{add_assoc, add-mul, mul_assoc, pow-succ', zero-mul, zero-add, le-mul_of_pos_right, one-le-pow}
use native.Mathlib.Numerals.{add-one}
use native.Mathlib.Omega.{arith}
use lib.ListN.{length, get_or, drop, drop_of_length-le}
use lib.Seq.{drop-cons}
use lib.Dec.{ltb, lit<}
use borrow.Author.Tests.{lt-ltb, le-ltb, ltb-true, ltb-false}
use Rattle.text.specs.Text.{is_digit, all_digits, value, decimal}
use Rattle.text.specs.Digits.{decimal_from}
use Rattle.text.proofs.Ranges.{digit, no_digit}

-- ---- a digit more

shift : (n c : ℕ) (s : List ℕ) → n * 10 ^ length (c ∷ s) + value (c ∷ s) ≡ (n * 10 + (c - 48)) * 10 ^ length s + value s
unfolding value
shift n c s =
    rw (pow-succ' 10 (length s), ← mul_assoc n 10 (10 ^ length s), add-mul (n * 10) (c - 48) (10 ^ length s))
    (sym (add_assoc (n * 10 * 10 ^ length s) ((c - 48) * 10 ^ length s) (value s)))

from-digit : (n c : ℕ) (s : List ℕ) → is_digit c ≡ true → decimal_from n (c ∷ s) ≡ decimal_from (n * 10 + (c - 48)) s
unfolding decimal_from all_digits
from-digit n c s e = rw (e, shift n c s)

from-other : (n c : ℕ) (s : List ℕ) → is_digit c ≡ false → None ≡ decimal_from n (c ∷ s)
unfolding decimal_from all_digits
from-other n c s e = rw e

-- too large already
from-large : (n : ℕ) (s : List ℕ) → 2 ^ 64 ≤ n → None ≡ decimal_from n s
unfolding decimal_from
from-large n s h =
    let m = le-mul_of_pos_right n (one-le-pow (length s) 10 (lit< tt)) in
    rw (le-ltb (n * 10 ^ length s + value s) (2 ^ 64) (omega arith), and-false)

from_nothing : (n : ℕ) → n < 2 ^ 64 → Some n ≡ decimal_from n []
unfolding decimal_from all_digits value
from_nothing n h =
    let e : n * 10 ^ 0 + 0 ≡ n = omega arith in
    rw (e, lt-ltb n (2 ^ 64) h)

-- ---- what `with_digit` answers

pub not_digit : (n c : ℕ) → (48 ≤ c → c ≤ 57 → ⊥) → None ≡ decimal_from n (c ∷ [])
not_digit n c f = from-other n c [] (no_digit c f)

pub one-too-large : (n c : ℕ) → 48 ≤ c → c ≤ 57 → 2 ^ 64 ≤ n * 10 + (c - 48) → None ≡ decimal_from n (c ∷ [])
one-too-large n c h k l = from-large (n * 10 + (c - 48)) [] l ∙ sym (from-digit n c [] (digit c h k))

pub one_more : (n c : ℕ) → 48 ≤ c → c ≤ 57 → n * 10 + (c - 48) < 2 ^ 64 → Some (n * 10 + (c - 48)) ≡ decimal_from n (c ∷ [])
one_more n c h k l = from_nothing (n * 10 + (c - 48)) l ∙ sym (from-digit n c [] (digit c h k))

-- ---- what that tells of all that is left

-- an answer is a number of 64 bits
below : (n : ℕ) (s : List ℕ) (m : ℕ) → Some m ≡ decimal_from n s → m < 2 ^ 64
unfolding decimal_from
below n s m e = go (all_digits s) (n * 10 ^ length s + value s) (ltb (n * 10 ^ length s + value s) (2 ^ 64)) refl e
  where
    go : (a : Bool) (v : ℕ) (b : Bool) → ltb v (2 ^ 64) ≡ b → Some m ≡ cond (a && b) (Some v) None → m < 2 ^ 64
    go true v true q f = let k : m ≡ v = cc in rw k (ltb-true v (2 ^ 64) q)
    go true v false q f = let z : ◌≡◌ {A = ℕ} 0 1 = cc in absurd (omega arith)
    go false v b q f = let z : ◌≡◌ {A = ℕ} 0 1 = cc in absurd (omega arith)

taken : (n c : ℕ) (s : List ℕ) (m : ℕ) → Some m ≡ decimal_from n (c ∷ []) → decimal_from n (c ∷ s) ≡ decimal_from m s
taken n c s m e = go (is_digit c) (ltb (n * 10 + (c - 48)) (2 ^ 64)) refl refl
  where
    go : (a b : Bool) → is_digit c ≡ a → ltb (n * 10 + (c - 48)) (2 ^ 64) ≡ b → decimal_from n (c ∷ s) ≡ decimal_from m s
    go false b p q = let z : ◌≡◌ {A = ℕ} 0 1 = cc (e, from-other n c [] p) in absurd (omega arith)
    go true true p q =
        let same : Some m ≡ Some (n * 10 + (c - 48)) = e ∙ from-digit n c [] p ∙ sym (from_nothing (n * 10 + (c - 48)) (ltb-true _ _ q)) in
        let k : m ≡ n * 10 + (c - 48) = cc in
        from-digit n c s p ∙ ap (λ (j : ℕ). decimal_from j s) (sym k)
    go true false p q =
        let l : 2 ^ 64 ≤ n * 10 + (c - 48) = ltb-false _ _ q in
        let z : ◌≡◌ {A = ℕ} 0 1 = cc (e, from-digit n c [] p, from-large (n * 10 + (c - 48)) [] l) in absurd (omega arith)

passed : (n c : ℕ) (s : List ℕ) → None ≡ decimal_from n (c ∷ []) → None ≡ decimal_from n (c ∷ s)
passed n c s e = go (is_digit c) (ltb (n * 10 + (c - 48)) (2 ^ 64)) refl refl
  where
    go : (a b : Bool) → is_digit c ≡ a → ltb (n * 10 + (c - 48)) (2 ^ 64) ≡ b → None ≡ decimal_from n (c ∷ s)
    go false b p q = from-other n c s p
    go true true p q =
        let z : ◌≡◌ {A = ℕ} 0 1 = cc (e, from-digit n c [] p, from_nothing (n * 10 + (c - 48)) (ltb-true _ _ q)) in absurd (omega arith)
    go true false p q = from-large (n * 10 + (c - 48)) s (ltb-false _ _ q) ∙ sym (from-digit n c s p)

-- ---- the turns of the loop

pub empty : (s : List ℕ) → length s ≡ 0 → None ≡ decimal s
unfolding decimal
empty [] e = refl
empty (c ∷ s) e = absurd (omega arith)

pub begins : (s : List ℕ) → 0 < length s → decimal_from 0 (drop 0 s) ≡ decimal s
unfolding decimal_from decimal
begins s h = rw (zero-mul (10 ^ length s), zero-add (value s), lt-ltb 0 (length s) h)

module _ (s : List ℕ) (n i : ℕ) {r one : Option ℕ} (so_far : decimal_from n (drop i s) ≡ r) (told : one ≡ decimal_from n (get_or s i 0 ∷ []))
    (h : i < length s) where
  pub goes_on : {m : ℕ} → one ≡ Some m → (m < 2 ^ 64) × (decimal_from m (drop (i + 1) s) ≡ r)
  goes_on {m} e =
      let t : Some m ≡ decimal_from n (get_or s i 0 ∷ []) = sym e ∙ told in
      (below n _ m t, rw add-one (sym (taken n (get_or s i 0) (drop (suc i) s) m t) ∙ (rw (drop-cons s i 0 h) at so_far)))

  pub stops : one ≡ None → None ≡ r
  stops e = passed n (get_or s i 0) (drop (suc i) s) (sym e ∙ told) ∙ (rw (drop-cons s i 0 h) at so_far)

pub ends : (s : List ℕ) (n i : ℕ) {r : Option ℕ} → decimal_from n (drop i s) ≡ r → length s ≤ i → n < 2 ^ 64 → Some n ≡ r
ends s n i so_far h l = from_nothing n l ∙ (rw (drop_of_length-le s h) at so_far)

-- ---- what the code is proved by

pub ruleset digits = (not_digit, one-too-large, one_more)

pub ruleset turns = (empty, begins, goes_on, stops, ends)
