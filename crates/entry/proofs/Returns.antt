-- The two ways out of each function, over plain variables; two stores of eight bytes are one of sixteen.
use Prim.Native.Nat.{ℕ, ◌≤◌, ◌<◌}
use mathlib.Core.Path.{◌≡◌, sym}
use mathlib.Core.List.{List, [], ◌∷◌, ◌++◌}
use lib.ListN.{length}
use native.Mathlib.Omega.{arith}
use borrow.Author.Tests.{lt-ltb, le-ltb}
use Rattle.lists.specs.Lay.{lay}
use Rattle.lists.specs.LayLaws.{lay-append}
use Rattle.lists.specs.Answers.{accepted, refused}
use Rattle.lists.specs.Numbers.{le, number}
use Rattle.lists.specs.NumbersLaws.{length-le}
use Rattle.entry.specs.declared.LogPosition.{LogPosition}
use Rattle.entry.specs.Position.{position_bytes, written, serialized, deserialized}

pub write-short : (p : LogPosition) (b : List ℕ) → length b < 16 → written (refused 5) b ≡ serialized p b
unfolding serialized
write-short p b h = rw (lt-ltb (length b) 16 h)

pub write_done : (p : LogPosition) (b c d : List ℕ) → 16 ≤ length b → c ≡ lay b 0 (le 8 p.file_id) → d ≡ lay c 8 (le 8 p.offset)
    → written (accepted []) d ≡ serialized p b
unfolding serialized position_bytes
write_done p b c d h e f = rw (le-ltb (length b) 16 h, lay-append b 0 (le 8 p.file_id) (le 8 p.offset) 8 (omega (arith, length-le 8 p.file_id)), f, e)

pub read_short : (b : List ℕ) → length b < 16 → refused 1 ≡ deserialized b
unfolding deserialized
read_short b h = rw (lt-ltb (length b) 16 h)

pub read_done : (b : List ℕ) (f o : ℕ) → 16 ≤ length b → f ≡ number 8 b 0 → o ≡ number 8 b 8 → accepted (f ∷ o ∷ []) ≡ deserialized b
unfolding deserialized
read_done b f o h e g = rw (le-ltb (length b) 16 h, e, g)

pub halves : (b : List ℕ) (f o : ℕ) → lay (lay b 0 (le 8 f)) 8 (le 8 o) ≡ lay b 0 (le 8 f ++ le 8 o)
halves b f o = sym (lay-append b 0 (le 8 f) (le 8 o) 8 (omega (arith, length-le 8 f)))
