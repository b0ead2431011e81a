-- Programs that are wrong, as small definitions: in none may cuts and staging be said not to show. That `CutsDoNotShow` holds of none is in
-- `WrongProgramsFall`; that the answers of two of them agree all the same is in `WrongProgramsAgree` and proofs/CutsDoNotShowHolds.
use Rattle.std.specs.Prelude.{ℕ, suc, Bool, true, false, List, [], ◌∷◌, length, ltb}
use Rattle.lists.specs.Answers.{Answer, accepted, refused}
use Rattle.log_file.specs.declared.Moment.{Moment}
use Rattle.log_file.specs.State.{machine}
use Rattle.log_file.specs.Calls.{Called, after, called, length_of, owed_of}
use Rattle.log_file.specs.Opening.{blank}
use Rattle.journal.specs.Stories.{Part, left_out, piece, matching, part}
use Rattle.journal.specs.CutsDoNotShow.{Program, ours}

-- refuses everything, with any number
abbrev pub refuses_everything : (n : ℕ) → Program
refuses_everything n =
    record { opens = λ o g. after (refused (suc n)) (machine blank g.image g.staging); steps = λ m c. after (refused (suc n)) m }

-- opens as ours does, and refuses every call
abbrev pub refuses_every_call : (n : ℕ) → Program
refuses_every_call n = record { opens = ours.opens; steps = λ m c. after (refused (suc n)) m }

-- a fixed answer, whichever; nothing changes
abbrev pub fixed_answer : Answer → Program
fixed_answer a = record { opens = λ o g. after a (machine blank g.image g.staging); steps = λ m c. after a m }

-- stores nothing: the right answers and the right numbers, but no byte of image or staging ever changes
abbrev pub unstored : (image staging : List ℕ) → Called → Called
unstored image staging r = after r.answer (machine r.machine'.writer image staging)

abbrev pub stores_nothing : Program
stores_nothing =
    record { opens = λ o g. unstored g.image g.staging (ours.opens o g); steps = λ m c. unstored m.image m.staging (called m c) }

-- stages only the first piece of a chunk: later ones are answered and counted, but none of their bytes is stored
abbrev pub has_bytes : Moment → Bool
has_bytes now = ltb (owed_of now) (length_of now)

abbrev pub only_first : Part → (later : Bool) → (right wrong : Called) → Called
only_first left_out later right wrong = right
only_first (piece offered) true right wrong = wrong
only_first (piece offered) false right wrong = right
only_first matching later right wrong = right

abbrev pub stages_only_first : Program
stages_only_first =
    record {
      opens = ours.opens;
      steps = λ m c. only_first (part c) (has_bytes m.writer.moment) (called m c) (unstored m.image m.staging (called m c));
    }

-- a made-up count for a piece: it is said to be taken whole. All else is right
abbrev pub counted : Part → Answer → Answer
counted left_out a = a
counted (piece offered) (accepted values) = accepted (length offered ∷ [])
counted (piece offered) (refused n) = refused n
counted matching a = a

abbrev pub made_up_count : Program
made_up_count = record { opens = ours.opens; steps = λ m c. after (counted (part c) (called m c).answer) (called m c).machine' }
