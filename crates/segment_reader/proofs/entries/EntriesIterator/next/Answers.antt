-- Each way out of a call: the answers of the reader's calls as they are, and what they come to by `Entered`; and that an item leads forward, by `Ahead`.
use Rattle.std.proofs.Common.{refl, arith, Some, None, Ok, Err}
use Rattle.segment_reader.proofs.Ahead.{next-smaller}
use Rattle.segment_reader.proofs.Entered.{found, over, over-after}
use Rattle.segment_reader.proofs.entries.EntriesIterator.next.Goals as goal

pub returns-in-Ok-Some-clause-steps : goal.returns-in-Ok-Some-clause-steps
returns-in-Ok-Some-clause-steps c =
    record {
      image = refl;
      calls =
          record {
            answer = Ok (Some c.in-Ok-Some.id);
            behind = _;
            allows = rw c.in-Ok-Some.field-0-is at c.in-Ok-Some.ensures.allows;
            says = record { answer = c.read_all_chunks.result; allows = c.read_all_chunks.ensures.allows; met = rw c.verdict_of-verdict.ensures refl };
          };
      says = λ bytes ready. found _ bytes _ ready _ _ _ c.read_all_chunks.result _ (rw c.in-Ok-Some.field-0-is at c.in-Ok-Some.ensures.allows)
          c.read_all_chunks.ensures.allows c.verdict_of-verdict.ensures;
    }

pub returns-in-Ok-Some-clause-goes : goal.returns-in-Ok-Some-clause-goes
returns-in-Ok-Some-clause-goes c =
    let h = next-smaller _ _ _ _ c.in-Ok-Some.id c.read_all_chunks.result (rw c.in-Ok-Some.field-0-is at c.in-Ok-Some.ensures.allows) c.read_all_chunks.ensures.allows in
    grind arith

pub returns-in-Ok-None-clause-steps : goal.returns-in-Ok-None-clause-steps
returns-in-Ok-None-clause-steps c =
    record {
      image = refl;
      calls = record { answer = Ok None; behind = _; allows = rw c.in-Ok-None.field-0-is at c.in-Ok-None.ensures.allows; says = (refl, refl) };
      says = λ bytes ready. over _ bytes _ ready _ (rw c.in-Ok-None.field-0-is at c.in-Ok-None.ensures.allows);
    }

pub returns-in-Err-clause-steps : goal.returns-in-Err-clause-steps
returns-in-Err-clause-steps c =
    record {
      image = refl;
      calls =
          record {
            answer = Err c.in-Err.field-0;
            behind = _;
            allows = c.in-Err.ensures.allows;
            says = record { answer = c.read_entry-in-Err.result; allows = c.read_entry-in-Err.ensures.allows; over = refl };
          };
      says = λ bytes ready. over-after _ bytes _ _ _ ready c.in-Err.field-0 c.read_entry-in-Err.result c.in-Err.ensures.allows c.read_entry-in-Err.ensures.allows;
    }
