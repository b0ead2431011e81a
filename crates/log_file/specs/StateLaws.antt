-- What a valid state tells, and how to show one valid.
use Rattle.std.specs.Prelude.{◌≡◌, true, ◌&&◌, length, eqb}
use Rattle.std.proofs.Common.{eqb-true, eq-eqb}
use Rattle.lists.specs.Answers.{all}
use Rattle.lists.specs.AnswersLaws.{Every, every, all_hold, both}
use Rattle.log_file.specs.declared.LogFileWriter.{LogFileWriter}
use Rattle.log_file.specs.State.{Machine, position, number_rules, moment_rules, ruled, valid}

-- each of the state's own rules
pub record Ruled (w : LogFileWriter) : Type 0 where
  pub numbers : Every (number_rules w)
  pub moment : Every (moment_rules w.moment (position w) w.size)

-- and the buffers' sizes
pub record Valid (m : Machine) : Type 0 where
  pub rules : Ruled m.writer
  pub image : length m.image ≡ m.writer.size
  pub staging : length m.staging ≡ m.writer.capacity

pub rules-of : (w : LogFileWriter) → ruled w ≡ true → Ruled w
unfolding ruled
rules-of w e =
    let h = both (all (number_rules w)) (all (moment_rules w.moment (position w) w.size)) e in
    record { numbers = every (number_rules w) h.0; moment = every (moment_rules w.moment (position w) w.size) h.1 }

pub ruled-by : (w : LogFileWriter) → Ruled w → ruled w ≡ true
unfolding ruled
ruled-by w r = rw (all_hold (number_rules w) r.numbers, all_hold (moment_rules w.moment (position w) w.size) r.moment)

pub facts-of : (m : Machine) → valid m ≡ true → Valid m
unfolding valid
facts-of m e =
    let h = both (ruled m.writer && eqb (length m.image) m.writer.size) (eqb (length m.staging) m.writer.capacity) e in
    let g = both (ruled m.writer) (eqb (length m.image) m.writer.size) h.0 in
    record { rules = rules-of m.writer g.0; image = eqb-true _ _ g.1; staging = eqb-true _ _ h.1 }

pub valid-by : (m : Machine) → Valid m → valid m ≡ true
unfolding valid
valid-by m v = rw (ruled-by m.writer v.rules, eq-eqb _ _ v.image, eq-eqb _ _ v.staging)
