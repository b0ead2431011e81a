-- The place of the first stop: what stands before it, at it and behind it, as loops and slices have it.
use Rattle.std.proofs.Common.{◌≡◌, refl, sym, ap, ◌∙◌, Bool, true, false, cond, List, [], ◌∷◌, ℕ, zero, suc, ◌+◌, ◌-◌, ◌≤◌, ◌<◌, min, add-suc, add-one, arith, length, take, drop, drop_of_length-le, drop-drop, eqb, ltb, ltb-false, length-drop, Option, Some, None, position}
use Rattle.std.specs.List.{position_or_len}
use Rattle.std.proofs.Math.Nat.{zero-min, min-zero, suc-min-suc}
use Rattle.lists.specs.ChoiceLaws.{either}
use Rattle.text.specs.Text.{until, behind, place, words_from, word_at}
use Rattle.text.specs.TextLaws.{place-le, place-ge}

-- ---- as many as there are

take-min-length : (n : ℕ) (s : List ℕ) → take (min n (length s)) s ≡ take n s
take-min-length zero s = rw zero-min
take-min-length (suc n) [] = rw min-zero
take-min-length (suc n) (x ∷ s) = rw (suc-min-suc, take-min-length n s)

pub first_of : (n : ℕ) (s : List ℕ) (k : ℕ) → k ≡ min n (length s) → take k s ≡ take n s
first_of n s k e = rw e (take-min-length n s)

drop-min-length : (n : ℕ) (s : List ℕ) → drop (min n (length s)) s ≡ drop n s
drop-min-length zero s = rw zero-min
drop-min-length (suc n) [] = rw min-zero
drop-min-length (suc n) (x ∷ s) = rw (suc-min-suc, drop-min-length n s)

-- ---- up to the stop and behind it

module _ (stop : ℕ) where
  pub take-until : (s : List ℕ) → take (length (until stop s)) s ≡ until stop s
  unfolding until
  take-until [] = refl
  take-until (c ∷ s) =
      let rest = take-until s in
      either (λ (l : List ℕ). take (length l) (c ∷ s) ≡ l) (eqb c stop) [] (c ∷ until stop s) (λ e. refl) (λ e. rw rest)

  drop-until : (s : List ℕ) → drop (suc (length (until stop s))) s ≡ behind stop s
  unfolding until behind
  drop-until [] = refl
  drop-until (c ∷ s) = turn (eqb c stop) (drop-until s)
    where
      turn : (b : Bool) → drop (suc (length (until stop s))) s ≡ behind stop s
          → drop (length (cond b [] (c ∷ until stop s))) s ≡ cond b s (behind stop s)
      turn true rest = refl
      turn false rest = rest

  -- ---- one turn of the search

  pub begins : (s : List ℕ) (from i : ℕ) → i ≡ min from (length s) → i + length (until stop (drop i s)) ≡ place s from stop
  unfolding place
  begins s from i e = rw (e, drop-min-length)

  -- std's position is the length of what stands before the stop
  until_by_std : (s : List ℕ) → position_or_len (λ c. eqb c stop) s ≡ length (until stop s)
  unfolding until
  until_by_std [] = refl
  until_by_std (c ∷ s) = turn (eqb c stop) refl (until_by_std s)
    where
      turn : (b : Bool) → eqb c stop ≡ b → position_or_len (λ x. eqb x stop) s ≡ length (until stop s)
          → position_or_len (λ x. eqb x stop) (c ∷ s) ≡ length (cond b [] (c ∷ until stop s))
      turn true e rest = rw e
      turn false e rest = rw e (ap (λ n. 1 + n) rest ∙ omega arith)

  found : (s : List ℕ) (r : Option ℕ) (n : ℕ) → r ≡ position (λ c. eqb c stop) s → r ≡ Some n → n ≡ length (until stop s)
  found s r n e f = go (ltb (position_or_len (λ c. eqb c stop) s) (length s)) refl
    where
      go : (b : Bool) → ltb (position_or_len (λ c. eqb c stop) s) (length s) ≡ b → n ≡ length (until stop s)
      go true q = let g : Some n ≡ Some (position_or_len (λ c. eqb c stop) s) = sym f ∙ rw q at e in cc (g, until_by_std s)
      go false q = let g : Some n ≡ None = sym f ∙ rw q at e in let z : ◌≡◌ {A = ℕ} 0 1 = cc in absurd (omega arith)

  missed : (s : List ℕ) (r : Option ℕ) → r ≡ position (λ c. eqb c stop) s → r ≡ None → length s ≤ length (until stop s)
  missed s r e f = go (ltb (position_or_len (λ c. eqb c stop) s) (length s)) refl
    where
      go : (b : Bool) → ltb (position_or_len (λ c. eqb c stop) s) (length s) ≡ b → length s ≤ length (until stop s)
      go true q = let g : None ≡ Some (position_or_len (λ c. eqb c stop) s) = sym f ∙ rw q at e in let z : ◌≡◌ {A = ℕ} 0 1 = cc in absurd (omega arith)
      go false q = let p = ltb-false (position_or_len (λ c. eqb c stop) s) (length s) q in rw (until_by_std s) at p

  -- counted from the place that is searched from
  pub found_from : (s : List ℕ) (from i : ℕ) (r : Option ℕ) (n : ℕ) → i ≡ min from (length s) → r ≡ position (λ c. eqb c stop) (drop i s) → r ≡ Some n
      → i + n ≡ place s from stop
  found_from s from i r n h e f = rw (found (drop i s) r n e f) (begins s from i h)

  pub missed_from : (s : List ℕ) (from i : ℕ) (r : Option ℕ) → i ≡ min from (length s) → r ≡ position (λ c. eqb c stop) (drop i s) → r ≡ None
      → length s ≡ place s from stop
  missed_from s from i r h e f = omega (arith, missed (drop i s) r e f, begins s from i h, place-le s from stop, length-drop i s)

  -- ---- the place of the stop

  pub behind-place : (s : List ℕ) (from end : ℕ) → end ≡ place s from stop → drop (end + 1) s ≡ behind stop (drop from s)
  behind-place s from end e =
      rw (e, ← begins s from (min from (length s)) refl, add-one, ← add-suc, ← drop-drop, drop-until, drop-min-length)

  -- where there is none, nothing stands behind the end either
  pub behind-end : (s : List ℕ) (from end : ℕ) → end ≡ place s from stop → length s ≤ end → drop end s ≡ behind stop (drop from s)
  behind-end s from end e h =
      let h' : length s ≤ end + 1 = omega arith in
      drop_of_length-le s h ∙ sym (drop_of_length-le s h') ∙ behind-place s from end e

  -- what stands between a place and the stop
  pub between : (s : List ℕ) (from : ℕ) → from ≤ length s → take (place s from stop - from) (drop from s) ≡ until stop (drop from s)
  unfolding place
  between s from h =
      let e : place s from stop - from ≡ length (until stop (drop from s)) = omega arith in
      rw e (take-until (drop from s))

-- ---- words

pub words-go-on : (line : List ℕ) (k at next : ℕ) {w : List ℕ} → 0 < k → drop next line ≡ behind 32 (drop at line) → words_from k (drop at line) ≡ w
    → words_from (k - 1) (drop next line) ≡ w
unfolding words_from
words-go-on line zero at next h e p = absurd (omega arith)
words-go-on line (suc k) at next h e p = let z : suc k - 1 ≡ k = omega arith in rw (z, e) p

pub words-end : (line : List ℕ) (k at : ℕ) {w : List ℕ} → k ≡ 0 → words_from k (drop at line) ≡ w → drop at line ≡ w
unfolding words_from
words-end line zero at h p = p
words-end line (suc k) at h p = absurd (omega arith)

pub word_of : (line : List ℕ) (k start end : ℕ) → start ≤ length line → drop start line ≡ words_from k line → end ≡ place line start 32
    → take (end - start) (drop start line) ≡ word_at k line
unfolding word_at
word_of line k start end h d e = rw e (between 32 line start h ∙ ap (until 32) d)

-- ---- what the code is proved by

pub ruleset behind_stop = (place-le, behind-place, behind-end)

pub ruleset words = (place-le, place-ge, words-go-on, words-end, word_of)
