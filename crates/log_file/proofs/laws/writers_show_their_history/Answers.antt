use Rattle.log_file.specs.ShowsLaws.{fresh-shows, still-shows}
use Rattle.log_file.proofs.ShowsTells.{same_answer}
use Rattle.log_file.proofs.laws.writers_show_their_history.Goals as goal

pub returns : goal.returns
returns c = record { begins = fresh-shows; answers = same_answer; goes_on = still-shows }
