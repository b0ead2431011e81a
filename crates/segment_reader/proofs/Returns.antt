-- Ways out of the small functions, over plain variables: a chunk that is cut in its sum, and the chunk that a call needs.
use mathlib.Core.Bool.{true}
use mathlib.Core.List.{List}
use mathlib.Core.Path.{◌≡◌, ap}
use Prim.Native.Nat.{ℕ, ◌+◌, ◌-◌, ◌≤◌}
use native.Mathlib.Omega.{arith}
use lib.ListN.{length}
use borrow.Author.Tests.{le-leb}
use Rattle.entry.specs.declared.CutPart.TheVariants.{Crc}
use Rattle.reading.specs.Reading.{body_cut}
use Rattle.segment_reader.specs.State.{fit, holding, open_of}
use Rattle.segment_reader.specs.declared.Moment.{Moment}
use Rattle.segment_reader.specs.declared.SegmentReader.{SegmentReader}

pub cut_sum : (s : List ℕ) (p n : ℕ) → p + 5 + n ≤ length s → record { part = Crc; mark = p; lacks = p + 5 + n + 4 - length s } ≡ body_cut s p n
unfolding body_cut
cut_sum s p n h = rw (le-leb (p + 5 + n) (length s) h) (ap (λ (k : ℕ). record { part = Crc; mark = p; lacks = k }) (omega arith))

pub open_at : (r : SegmentReader) (size : ℕ) (m : Moment) → fit r size ≡ true → r.moment ≡ m → holding m ≡ open_of r size
unfolding open_of
open_at r size m e q = rw (e, q)
