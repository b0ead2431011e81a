-- One answer for each call, gathered.
use Rattle.std.specs.Prelude.{◌≡◌, Result, Ok, Err, IfOk}
use Rattle.std.proofs.Common.{◌∙◌, sym, ap}
use Rattle.entry.specs.declared.Refusal.{Refusal}
use Rattle.segment_reader.specs.declared.calls.Reply.{Reply}
use Rattle.segment_reader.specs.Promises.{reply_of}
use Rattle.segment_reader.specs.Step.{Kind, given, step_values, kind_given}
use Rattle.segment_reader.specs.PromisesLaws.{never-told, refused-one, replies, readers, new-one-answer, read-entry-one-answer, read-chunk-one-answer, read-one-answer, after-read-one-answer, part-one-answer, check-crc-one-answer, skip-one-answer, read-all-chunks-one-answer, version-info-one-answer}
use Rattle.segment_reader.specs.HeldLaws.{held-open-one-answer, held-new-one-answer, held-with-state-one-answer, held-entry-one-answer, held-chunk-one-answer, held-bytes-one-answer, held-after-bytes-one-answer, held-part-one-answer, held-check-crc-one-answer, held-whole-one-answer, first-whole-one-answer, first-chunks-one-answer, first-bytes-one-answer, first-crc-one-answer}
use Rattle.segment_reader.specs.Laws.{CallsHaveOneAnswer, ThinReaderHasOneAnswer}

-- replies of one kind that tell the same, a refusal too
kinds-one : (k : Kind) (s t : Result Reply Refusal) → reply_of step_values s ≡ reply_of step_values t → IfOk s (λ reply. given reply ≡ k)
    → IfOk t (λ reply. given reply ≡ k) → kind_given s ≡ kind_given t
kinds-one k (Ok x) (Ok y) e g h = ap Ok (g ∙ sym h)
kinds-one k (Ok x) (Err b) e g h = absurd (never-told (step_values x) b e)
kinds-one k (Err a) (Ok y) e g h = absurd (never-told (step_values y) a (sym e))
kinds-one k (Err a) (Err b) e g h = ap Err (refused-one a b e)

pub calls_one : CallsHaveOneAnswer
calls_one =
    record {
      opening = new-one-answer;
      read_entry = read-entry-one-answer;
      read_chunk = read-chunk-one-answer;
      read = read-one-answer;
      after_read = after-read-one-answer;
      part = part-one-answer;
      check_crc = check-crc-one-answer;
      skip = skip-one-answer;
      read_all_chunks = read-all-chunks-one-answer;
      version_info = version-info-one-answer;
      step = λ c r image s t p q x y. (replies x.0 y.0, x.1 ∙ sym y.1, readers x.0 y.0, kinds-one _ s t (replies x.0 y.0) x.2 y.2);
    }

pub thin_reader_one : ThinReaderHasOneAnswer
thin_reader_one =
    record {
      opening = held-open-one-answer;
      together = held-new-one-answer;
      with_state = held-with-state-one-answer;
      entry = held-entry-one-answer;
      chunk = held-chunk-one-answer;
      bytes = held-bytes-one-answer;
      after_bytes = held-after-bytes-one-answer;
      part = held-part-one-answer;
      check_crc = held-check-crc-one-answer;
      whole = held-whole-one-answer;
      first_whole = first-whole-one-answer;
      first_chunks = first-chunks-one-answer;
      first_bytes = first-bytes-one-answer;
      first_crc = first-crc-one-answer;
    }
