-- What an accepted call finds: a valid state, no other check true; one that begins an entry, room for its write.
use Rattle.std.specs.Prelude.{ℕ, Bool, true, false, cond, not}
use Rattle.std.proofs.Common.{arith, ◌≡◌, refl, sym, ◌∙◌}
use borrow.Author.Tests.{leb-true, ltb-false}
use Rattle.lists.specs.Answers.{first}
use Rattle.lists.specs.AnswersLaws.{clear}
use Rattle.buffered.specs.Staging.{Room}
use Rattle.log_file.specs.State.{Machine, store_of, valid}
use Rattle.log_file.specs.StateLaws.{Valid, facts-of}
use Rattle.log_file.specs.Calls.{Call, begin_entry, checks, refusal}

head : (b : Bool) (rest : ℕ) → cond (not b) 12 rest ≡ 0 → (b ≡ true) × (rest ≡ 0)
head true rest e = (refl, e)
head false rest e = absurd (omega arith)

-- the state is valid, and no other check is true
pub accepted-by : (m : Machine) (c : Call) (n : ℕ) → n ≡ refusal m c → n ≡ 0 → Valid m × (first (checks m.writer c) ≡ 0)
unfolding refusal valid
accepted-by m c n e z =
    let h = head (valid m) (first (checks m.writer c)) (sym e ∙ z) in
    (facts-of m h.0, h.1)

pub begin-entry-room : (m : Machine) (id n : ℕ) → n ≡ refusal m (begin_entry id) → n ≡ 0 → Room (store_of m) 10
unfolding checks
begin-entry-room m id n e z =
    let a = accepted-by m (begin_entry id) n e z in
    let k = clear (checks m.writer (begin_entry id)) a.1 in
    record { image = omega (arith, ltb-false); staging = omega (arith, leb-true) }
