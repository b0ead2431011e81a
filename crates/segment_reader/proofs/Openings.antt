-- A refused opening: its header is never cut as a chunk is, so what is told of it is its number.
use Rattle.std.proofs.Common.{◌≡◌, ◌+◌, ◌≤◌, ℕ, Bool, true, false, cond, ◌&&◌, List, length, refl, ap, ◌∙◌, leb, eqb, le-leb, get_or, arith}
use Rattle.entry.specs.Format.{largest_image}
use Rattle.entry.specs.Refusal.{refusal_number}
use Rattle.entry.specs.declared.Refusal.{Refusal}
use Rattle.entry.specs.declared.Refusal.TheVariants.{Short, Magic, Version, InfoTooLong, NoRoom, NotNow, LowId, BytesOwed, Cut, WrongSum, OutsideImage, OutOfRange}
use Rattle.reading.specs.Reading.{Opened, opens, refuses, opened}
use Rattle.segment_reader.specs.Calls.{refusal, step, zeros, opened_with, new}
use Rattle.segment_reader.specs.Promises.{refused_by}
use Rattle.segment_reader.specs.declared.SegmentReader.{SegmentReader}

abbrev number_in : Opened → ℕ
number_in (opens v) = 0
number_in (refuses n) = n

never_nine : (image : List ℕ) → refuses 9 ≡ opened image → ⊥
unfolding opened
never_nine image e =
    go (leb 5 (length image)) (eqb (get_or image 0 0) 0x6F && eqb (get_or image 1 0) 0x6B && eqb (get_or image 2 0) 0x77) (eqb (get_or image 3 0) 0)
    (leb (5 + get_or image 4 0) (length image)) (get_or image 4 0) e
  where
    go : (s m v l : Bool) (k : ℕ) → refuses 9 ≡ cond s (cond m (cond v (cond l (opens k) (refuses 1)) (refuses 3)) (refuses 2)) (refuses 1) → ⊥
    go true true true true k e = let z : ◌≡◌ {A = ℕ} 9 0 = ap number_in e in absurd (omega arith)
    go true true true false k e = let z : ◌≡◌ {A = ℕ} 9 1 = ap number_in e in absurd (omega arith)
    go true true false l k e = let z : ◌≡◌ {A = ℕ} 9 3 = ap number_in e in absurd (omega arith)
    go true false v l k e = let z : ◌≡◌ {A = ℕ} 9 2 = ap number_in e in absurd (omega arith)
    go false m v l k e = let z : ◌≡◌ {A = ℕ} 9 1 = ap number_in e in absurd (omega arith)

by_number : (image : List ℕ) (why : Refusal) → refuses (refusal_number why) ≡ opened image → refused_by why ≡ refusal (refusal_number why)
by_number image Short e = refl
by_number image Magic e = refl
by_number image Version e = refl
by_number image InfoTooLong e = refl
by_number image NoRoom e = refl
by_number image NotNow e = refl
by_number image LowId e = refl
by_number image BytesOwed e = refl
by_number image (Cut c) e = absurd (never_nine image e)
by_number image WrongSum e = refl
by_number image OutsideImage e = refl
by_number image OutOfRange e = refl

pub refused_opening : (file : ℕ) (image : List ℕ) (why : Refusal) (r : SegmentReader) → length image ≤ 1048576 → refuses (refusal_number why) ≡ opened image
    → r ≡ zeros → step r (refused_by why) ≡ new file image
unfolding new opened_with
refused_opening file image why r h e z = rw z (ap (step zeros) (by_number image why e) ∙ rw (le-leb (length image) largest_image h, ← e) refl)
