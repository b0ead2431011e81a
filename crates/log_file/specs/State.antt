-- The writer and its buffers, and the rules that every state keeps (document 01, "Numbers of refusal", ranges). The laws are in `StateLaws`.
use Rattle.std.specs.Prelude.{ℕ, ◌+◌, ◌-◌, Bool, ◌&&◌, List, [], ◌∷◌, length, leb, eqb}
use Rattle.lists.specs.Answers.{all}
use Rattle.entry.specs.Format.{largest_image}
use Rattle.buffered.specs.Staging.{Store, store, logical_position}
use Rattle.log_file.specs.declared.Moment.{Moment}
use Rattle.log_file.specs.declared.Moment.TheVariants.{Idle, InEntry, InChunk}
use Rattle.log_file.specs.declared.LogFileWriter.{LogFileWriter}

-- a writer with the buffers that it is used with
pub record Machine : Type 0 where
  pub writer : LogFileWriter
  pub image : List ℕ
  pub staging : List ℕ

abbrev pub machine : LogFileWriter → (image staging : List ℕ) → Machine
machine w image staging = record { writer = w; image = image; staging = staging }

abbrev pub store_of : Machine → Store
store_of m = store m.image m.staging m.writer.file

abbrev pub position : LogFileWriter → ℕ
position w = logical_position w.file

-- ---- the rules

-- image and staging in their ranges; v ≤ 255; staged bytes fit staging; synchronized number ≤ file position ≤ file length ≤ image size;
-- 5 + v ≤ image size
abbrev pub number_rules : LogFileWriter → List Bool
number_rules w =
    leb w.size largest_image ∷ leb w.capacity 65536 ∷ leb w.info_length 255 ∷ leb w.file.staged w.capacity
    ∷ leb w.file.synchronized w.file.position ∷ leb w.file.position w.file.length ∷ leb w.file.length w.size
    ∷ leb (5 + w.info_length) w.size ∷ []

-- what an open entry or chunk may still ask for: an end mark; bytes owed, a sum and an end mark
abbrev pub reserve : Moment → ℕ
reserve Idle = 0
reserve (InEntry id start) = 1
reserve (InChunk id start n owed crc) = owed + 5

-- an open entry's start + 9 ≤ logical position; bytes owed ≤ n; in a chunk, start + 14 + n - owed ≤ logical position
abbrev pub open_rules : Moment → (position : ℕ) → List Bool
open_rules Idle position = []
open_rules (InEntry id start) position = leb (start + 9) position ∷ []
open_rules (InChunk id start n owed crc) position =
    leb (start + 9) position ∷ leb owed n ∷ leb (start + (14 + (n - owed))) position ∷ []

-- logical position plus reserve ≤ image size
abbrev pub moment_rules : Moment → (position size : ℕ) → List Bool
moment_rules m position size = leb (position + reserve m) size ∷ open_rules m position

-- the state's own rules
unfoldable pub ruled : LogFileWriter → Bool
ruled w = all (number_rules w) && all (moment_rules w.moment (position w) w.size)

-- and the buffers have the sizes at opening
abbrev pub valid_with : LogFileWriter → (image staging : ℕ) → Bool
valid_with w image staging = ruled w && eqb image w.size && eqb staging w.capacity

unfoldable pub valid : Machine → Bool
valid m = valid_with m.writer (length m.image) (length m.staging)
