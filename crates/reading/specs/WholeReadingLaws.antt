-- A whole reading goes forward, so it is what its turns say: it ends (`read-ended`), or finds an entry and goes on (`read-entry`). What it finds
-- lies one behind the other (`in_order`).
use Rattle.std.specs.Prelude.{◌≡◌, Bool, List, [], ◌∷◌, length}
use Rattle.std.proofs.Math.Path.{refl}
use Rattle.std.proofs.Common.{ap, ◌∙◌}
use Rattle.std.proofs.Math.Bool.{true, false}
use Prim.Native.Nat.{ℕ, ◌+◌, ◌≤◌, ◌<◌}
use native.Mathlib.Omega.{arith}
use Rattle.lists.specs.Walk.{Forward, Keeps, around-stop, around-on, around-ind}
use Rattle.reading.specs.Reading.{Mark, chunk, close, cut, other, standing, fits, matches, Skipped, at, broken}
use Rattle.reading.specs.Reading.{skip_turn, skip, Whole, complete, aborted, cut_off, wrong_sum, also, whole_turn, whole, after_cut, left}
use Rattle.reading.specs.Reading.{Lead, entry, none, lead}
use Rattle.reading.specs.ReadingLaws.{cut_inside, lead-says, leads, skip-forward, skip-chunk, skip-close, skip-other, chunk_turn, whole-forward}
use Rattle.reading.specs.WholeReading.{Found, Reading, after, landed, onward, ended, with_entry, found_at, read_turn, read_from}
use Rattle.entry.specs.declared.CutPart.{CutPart}
use Rattle.entry.specs.declared.CutPart.TheVariants.{Header, Data, Crc}
use Rattle.reading.specs.Yielded.{InOrder}

after-also : (r : Whole) → after (also r) ≡ after r
unfolding after also
after-also (complete count q) = refl
after-also (aborted q) = refl
after-also (cut_off c q) = refl
after-also (wrong_sum q) = refl

-- ---- skipping never goes back, and neither does what follows an entry

module _ (image : List ℕ) where
  -- a cut header that is met lies inside the image
  abbrev pub From : ℕ → Skipped → Type 0
  From p (at q) = p ≤ q
  From p (broken c) = p < length image

  from-later : (p q : ℕ) (s : Skipped) → p ≤ q → From q s → From p s
  from-later p q (at t) h i = omega arith
  from-later p q (broken c) h i = omega arith

  pub skip-from : (p : ℕ) → From p (skip image p)
  unfolding skip skip_turn
  skip-from p = around-ind _ (at 0) (length image) (skip-forward image) From (λ q. go q (standing image q) refl) p
    where
      go : (q : ℕ) (m : Mark) → standing image q ≡ m → Keeps From q (skip_turn q m)
      go q (chunk n) e = λ s h. from-later q (q + 9 + n) s (omega arith) h
      go q close e = omega arith
      go q (cut k) e = cut_inside image q e
      go q other e = omega arith

  landed-from : (p : ℕ) (s : Skipped) → From p s → p ≤ landed image s
  unfolding landed
  landed-from p (at q) h = h
  landed-from p (broken c) h = omega arith

  pub pass-from : (p : ℕ) → p ≤ landed image (skip image p)
  pass-from p = landed-from p (skip image p) (skip-from p)

  pub onward-from : (w : Whole) → after w ≤ onward image (left w)
  unfolding onward left after after_cut
  onward-from (complete count q) = pass-from q
  onward-from (aborted q) = pass-from q
  onward-from (wrong_sum q) = pass-from q
  onward-from (cut_off c q) = go c.part
    where
      go : (x : CutPart) → q ≤ onward image (after_cut x q)
      go Header = omega arith
      go Data = pass-from q
      go Crc = pass-from q

  -- a complete entry that is followed by no 02 and no 03
  pub onward-complete : (count q : ℕ) → standing image q ≡ other → onward image (left (complete count q)) ≡ q
  unfolding onward left landed
  onward-complete count q e = rw (skip-other image q e)

  pub whole-after : (p : ℕ) → p ≤ after (whole image p)
  unfolding whole whole_turn after
  whole-after p = around-ind _ (aborted 0) (length image) (whole-forward image) (λ q r. q ≤ after r) (λ q. go q (standing image q) refl) p
    where
      in_chunk : (q n : ℕ) (a b : Bool) → Keeps (λ q r. q ≤ after r) q (chunk_turn image q n a b)
      in_chunk q n true true = λ r h. rw after-also (omega arith)
      in_chunk q n true false = omega arith
      in_chunk q n false b = omega arith

      go : (q : ℕ) (m : Mark) → standing image q ≡ m → Keeps (λ q r. q ≤ after r) q (whole_turn image q m)
      go q (chunk n) e = in_chunk q n (fits image q n) (matches image q n)
      go q close e = omega arith
      go q (cut k) e = omega (arith, cut_inside image q e)
      go q other e = omega arith

  -- an entry that is skipped unread is left where reading it whole leaves it, if it is complete
  abbrev Skips : ℕ → Whole → Type 0
  Skips p (complete count q) = skip image p ≡ at q
  Skips p (aborted q) = Unit {0}
  Skips p (cut_off c q) = Unit {0}
  Skips p (wrong_sum q) = Unit {0}

  skips : (p : ℕ) → Skips p (whole image p)
  unfolding whole whole_turn also
  skips p = around-ind _ (aborted 0) (length image) (whole-forward image) Skips (λ q. go q (standing image q) refl) p
    where
      more : (q n : ℕ) (r : Whole) → standing image q ≡ chunk n → Skips (q + 9 + n) r → Skips q (also r)
      more q n (complete count t) e h = skip-chunk image q e ∙ h
      more q n (aborted t) e h = tt
      more q n (cut_off c t) e h = tt
      more q n (wrong_sum t) e h = tt

      in_chunk : (q n : ℕ) (a b : Bool) → standing image q ≡ chunk n → Keeps Skips q (chunk_turn image q n a b)
      in_chunk q n true true e = λ r h. more q n r e h
      in_chunk q n true false e = tt
      in_chunk q n false b e = tt

      go : (q : ℕ) (m : Mark) → standing image q ≡ m → Keeps Skips q (whole_turn image q m)
      go q (chunk n) e = in_chunk q n (fits image q n) (matches image q n) e
      go q close e = skip-close image q e
      go q (cut k) e = tt
      go q other e = tt

  pub skip-complete : (p : ℕ) {count q : ℕ} → whole image p ≡ complete count q → skip image p ≡ at q
  skip-complete p e = rw e at (skips p)

-- ---- the reading's two equations

module _ (file : ℕ) (image : List ℕ) where
  pub read-forward : (p : ℕ) → Forward (length image) p (read_turn image p (lead file image p))
  unfolding read_turn
  read-forward p = go (lead file image p) refl
    where
      go : (l : Lead) → lead file image p ≡ l → Forward (length image) p (read_turn image p l)
      go (entry id) e =
          let h = lead-says file image p e in
          omega (arith, whole-after image (p + 9), onward-from image (whole image (p + 9)))
      go none e = tt

  module _ (p : ℕ) where
    pub read-ended : lead file image p ≡ none → read_from file image p ≡ ended p
    unfolding read_from read_turn
    read-ended e = around-stop _ (ended 0) (length image) read-forward p (ap (read_turn image p) e)

    pub read_short : length image < p + 9 → read_from file image p ≡ ended p
    read_short h = read-ended (leads file image p none (λ a b c. omega arith))

    pub read-entry : {id : ℕ} → lead file image p ≡ entry id
        → read_from file image p ≡ with_entry (found_at image p id) (read_from file image (onward image (left (whole image (p + 9)))))
    unfolding read_from read_turn
    read-entry e = around-on _ (ended 0) (length image) read-forward p (ap (read_turn image p) e)

  -- what is found lies one behind the other
  pub in_order : (p : ℕ) → InOrder p (read_from file image p).entries (read_from file image p).valid_until
  unfolding read_from read_turn with_entry
  in_order p = around-ind _ (ended 0) (length image) read-forward Q (λ q. go q (lead file image q) refl) p
    where
      Q : ℕ → Reading → Type 0
      Q q r = InOrder q r.entries r.valid_until

      earlier : (p q : ℕ) (fs : List Found) (to : ℕ) → p ≤ q → InOrder q fs to → InOrder p fs to
      earlier p q [] to h i = omega arith
      earlier p q (f ∷ fs) to h i = (omega arith, i.1, i.2)

      go : (q : ℕ) (l : Lead) → lead file image q ≡ l → Keeps Q q (read_turn image q l)
      go q (entry id) e =
          λ r i. (omega arith, whole-after image (q + 9), earlier _ _ r.entries r.valid_until (onward-from image (whole image (q + 9))) i)
      go q none e = omega arith
