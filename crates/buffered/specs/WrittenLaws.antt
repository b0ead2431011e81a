-- One write in closed form: the loop of `written` goes at most two rounds. The code goes these three ways.
use Prim.Native.Nat.{ℕ, zero, suc, ◌+◌, ◌-◌, ◌≤◌, ◌<◌, max}
use Rattle.std.proofs.Common.{add-zero, arith, ◌∙◌, drop_of_length-le, take_all}
use Rattle.std.specs.Prelude.{◌≡◌, Bool, take, drop, ltb}
use Rattle.std.proofs.Math.Path.{refl, ap, sym}
use Rattle.std.proofs.Math.Bool.{true, false}
use mathlib.Core.List.{List, [], ◌∷◌}
use Rattle.std.proofs.Math.ListN.{length, length-take, length-drop}
use Rattle.std.proofs.Math.Dec.{leb}
use borrow.Author.Tests.{lt-ltb, le-ltb, le-leb, lt-leb, leb-true, leb-false, ltb-true, ltb-false}
use Rattle.lists.specs.LayLaws.{length-lay, lay-nil}
use Rattle.buffered.specs.declared.Buffered.{Buffered}
use Rattle.buffered.specs.Staging.{Store, store, flushed, direct, staged, emptied, room, rounds, written, Room}

rounds-nil : (fuel : ℕ) (s : Store) → rounds fuel s [] ≡ s
unfolding rounds
rounds-nil zero s = refl
rounds-nil (suc fuel) s = refl

staged-nil : (s : Store) → staged s [] ≡ s
unfolding staged
staged-nil s = rw (lay-nil s.staging s.file.staged, add-zero)

flushed-twice : (s : Store) → flushed (flushed s) ≡ flushed s
unfolding flushed
flushed-twice s =
    let p = s.file.position + s.file.staged in
    let e : max (max s.file.length p) (p + 0) ≡ max s.file.length p = omega arith in
    rw (lay-nil, e, add-zero)

staged-staging : (s : Store) (xs : List ℕ) → length (staged s xs).staging ≡ length s.staging
unfolding staged
staged-staging s xs = length-lay s.staging s.file.staged xs

staged_count : (s : Store) (xs : List ℕ) → (staged s xs).file.staged ≡ s.file.staged + length xs
unfolding staged
staged_count s xs = refl

flushed-staging : (s : Store) → (flushed s).staging ≡ s.staging
unfolding flushed
flushed-staging s = refl

-- ---- a round that begins with a full staging, and one that does not

emptied-full : (s : Store) → length s.staging ≤ s.file.staged → emptied s ≡ flushed s
unfolding emptied
emptied-full s h = rw (le-leb _ _ h)

emptied-not : (s : Store) → s.file.staged < length s.staging → emptied s ≡ s
unfolding emptied
emptied-not s h = rw (lt-leb _ _ h)

-- what is left is staged whole where it fits what is free
last-round : (fuel : ℕ) (s t : Store) (x : ℕ) (xs : List ℕ) → emptied s ≡ t → length (x ∷ xs) ≤ room t
    → rounds (suc fuel) s (x ∷ xs) ≡ staged t (x ∷ xs)
unfolding rounds
last-round fuel s t x xs e h =
    rw (e, le-ltb (length t.staging) (suc (length xs)) (omega arith), take_all (room t) (x ∷ xs) h, drop_of_length-le (x ∷ xs) h) (rounds-nil fuel (staged t (x ∷ xs)))

flushed-room : (s : Store) → room (flushed s) ≡ length s.staging
unfolding flushed
flushed-room s = omega arith

full-round : (fuel : ℕ) (s : Store) (xs : List ℕ) → 0 < fuel → length s.staging ≤ s.file.staged → length xs ≤ length s.staging → 0 < length xs
    → rounds fuel s xs ≡ staged (flushed s) xs
full-round zero s xs f h l n = absurd (omega arith)
full-round (suc fuel) s [] f h l n = absurd (omega arith)
full-round (suc fuel) s (x ∷ xs) f h l n =
    let r : room (flushed s) ≡ length s.staging = flushed-room s in
    last-round fuel s (flushed s) x xs (emptied-full s h) (omega arith)

-- ---- the three ways

module _ (s : Store) where
  -- longer than the whole staging: flush, and straight into the image
  pub written-long : (xs : List ℕ) → length s.staging < length xs → direct (flushed s) xs ≡ written s xs
  unfolding written rounds
  written-long [] h = absurd (omega arith)
  written-long (x ∷ xs) h = go (leb (length s.staging) s.file.staged) refl
    where
      go : (b : Bool) → leb (length s.staging) s.file.staged ≡ b → direct (flushed s) (x ∷ xs) ≡ written s (x ∷ xs)
      go true e =
          let l : length (flushed s).staging < suc (length xs) = rw (flushed-staging s) h in
          rw (emptied-full s (leb-true _ _ e), lt-ltb _ _ l, flushed-twice s)
      go false e = rw (emptied-not s (leb-false _ _ e), lt-ltb _ _ h)

  -- what is free takes it all
  pub written_keeps : (xs : List ℕ) → length xs ≤ room s → staged s xs ≡ written s xs
  unfolding written
  written_keeps [] h = staged-nil s ∙ sym (rounds-nil 0 s)
  written_keeps (x ∷ xs) h = sym (last-round (length xs) s s x xs (emptied-not s (omega arith)) h)

  -- what is free is filled, flushed, and takes the rest
  pub written-split : (xs : List ℕ) → s.file.staged ≤ length s.staging → length xs ≤ length s.staging → room s < length xs
      → staged (flushed (staged s (take (room s) xs))) (drop (room s) xs) ≡ written s xs
  unfolding written rounds
  written-split [] f l h = absurd (omega arith)
  written-split (x ∷ xs) f l h = go (leb (length s.staging) s.file.staged) refl
    where
      go : (b : Bool) → leb (length s.staging) s.file.staged ≡ b
          → staged (flushed (staged s (take (room s) (x ∷ xs)))) (drop (room s) (x ∷ xs)) ≡ written s (x ∷ xs)
      go true e =
          let z : room s ≡ 0 = omega (arith, leb-true) in
          rw (z, staged-nil s) (sym (full-round (suc (length xs)) s (x ∷ xs) (omega arith) (leb-true _ _ e) l (omega arith)))
      go false e =
          let t = staged s (take (room s) (x ∷ xs)) in
          let k : length (take (room s) (x ∷ xs)) ≡ room s = simp length-take (omega arith) in
          let d : length (drop (room s) (x ∷ xs)) ≡ suc (length xs) - room s = length-drop (room s) (x ∷ xs) in
          let q : length t.staging ≡ length s.staging = staged-staging s (take (room s) (x ∷ xs)) in
          let u : t.file.staged ≡ s.file.staged + room s = staged_count s (take (room s) (x ∷ xs)) ∙ ap (λ (n : ℕ). s.file.staged + n) k in
          rw (emptied-not s (leb-false _ _ e), le-ltb (length s.staging) (suc (length xs)) l)
          (sym (full-round (length xs) t (drop (room s) (x ∷ xs)) (omega (arith, leb-false)) (omega (arith, leb-false)) (omega arith) (omega arith)))

-- ---- room: what fits after a write

pub flushed-fits : (s : Store) (n : ℕ) → Room s n → Room (flushed s) n
unfolding flushed
flushed-fits s n r =
    record { image = rw (length-lay s.image s.file.position (take s.file.staged s.staging)) (omega arith); staging = omega arith }

staged-fits : (s : Store) (xs : List ℕ) (n : ℕ) → Room s (length xs + n) → s.file.staged + length xs ≤ length s.staging → Room (staged s xs) n
unfolding staged
staged-fits s xs n r h = record { image = omega arith; staging = rw (length-lay s.staging s.file.staged xs) h }

direct-fits : (s : Store) (xs : List ℕ) (n : ℕ) → Room s (length xs + n) → Room (direct s xs) n
unfolding direct
direct-fits s xs n r = record { image = rw (length-lay s.image s.file.position xs) (omega arith); staging = omega arith }

flushed-none : (s : Store) → (flushed s).file.staged ≡ 0
unfolding flushed
flushed-none s = refl

pub written-fits : (s : Store) (xs : List ℕ) (n : ℕ) → Room s (length xs + n) → Room (written s xs) n
written-fits s xs n r = go (ltb (length s.staging) (length xs)) refl (ltb (room s) (length xs)) refl
  where
    go : (a : Bool) → ltb (length s.staging) (length xs) ≡ a → (b : Bool) → ltb (room s) (length xs) ≡ b → Room (written s xs) n
    go true e b f = rw (← (written-long s xs (ltb-true _ _ e))) (direct-fits (flushed s) xs n (flushed-fits s (length xs + n) r))
    go false e true f =
        let ys = take (room s) xs in
        let zs = drop (room s) xs in
        let k : length ys ≡ room s = simp length-take (omega (arith, ltb-true)) in
        let d : length zs ≡ length xs - room s = length-drop (room s) xs in
        let t : Room (staged s ys) (length zs + n) = staged-fits s ys (length zs + n) (omega (arith, ltb-true, ltb-false)) (omega (arith, ltb-true)) in
        let z : (flushed (staged s ys)).file.staged ≡ 0 = flushed-none (staged s ys) in
        let l : length (flushed (staged s ys)).staging ≡ length s.staging = ap length (flushed-staging (staged s ys)) ∙ staged-staging s ys in
        rw (← (written-split s xs r.staging (ltb-false _ _ e) (ltb-true _ _ f)))
        (staged-fits (flushed (staged s ys)) zs n (flushed-fits (staged s ys) (length zs + n) t) (omega (arith, ltb-false)))
    go false e false f = rw (← (written_keeps s xs (ltb-false _ _ f))) (staged-fits s xs n r (omega (arith, ltb-false)))

-- ---- the numbers of a call's result, out of the equation that it promises

pub after-flush : (i s : List ℕ) (f : Buffered) (t : Store) → store i s f ≡ flushed t
    → (f.position ≡ t.file.position + t.file.staged) × (f.staged ≡ 0)
unfolding flushed
after-flush i s f t e = (ap (λ (x : Store). x.file.position) e, ap (λ (x : Store). x.file.staged) e)

pub after-staged : (i s : List ℕ) (f : Buffered) (t : Store) (xs : List ℕ) → store i s f ≡ staged t xs
    → (f.position ≡ t.file.position) × (f.staged ≡ t.file.staged + length xs)
unfolding staged
after-staged i s f t xs e = (ap (λ (x : Store). x.file.position) e, ap (λ (x : Store). x.file.staged) e)
