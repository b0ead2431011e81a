use Rattle.log_file.specs.ReadsLaws.{position-one-answer, buffer-position-one-answer, is-synchronized-one-answer, last-entry-id-one-answer}
use Rattle.log_file.proofs.laws.reads_have_one_answer.Goals as goal

pub returns : goal.returns
returns c =
    record {
      position = position-one-answer;
      buffer_position = buffer-position-one-answer;
      is_synchronized = is-synchronized-one-answer;
      last_entry_id = last-entry-id-one-answer;
    }
