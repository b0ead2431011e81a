use Rattle.log_file.specs.PromisesLaws.{open-one-answer}
use Rattle.log_file.proofs.laws.opening_has_one_answer.Goals as goal

pub returns : goal.returns
returns c = λ o l f image staging r r' v v' i i' s s' x y. open-one-answer v v' i i' s s' o l f image staging r r' x y
