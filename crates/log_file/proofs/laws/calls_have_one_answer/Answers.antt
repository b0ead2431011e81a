use Rattle.log_file.specs.PromisesLaws.{begin-entry-one-answer, begin-chunk-one-answer, write-one-answer, finish-one-answer, commit-one-answer, rollback-one-answer, recycle-one-answer, flush-one-answer, synchronize-one-answer, seek-one-answer}
use Rattle.log_file.specs.StepLaws.{step-one-answer}
use Rattle.log_file.proofs.laws.calls_have_one_answer.Goals as goal

pub returns : goal.returns
returns c =
    record {
      begin_entry = λ w image staging id r r' v v' i i' s s' x y. begin-entry-one-answer w image staging v v' i i' s s' id r r' x y;
      begin_chunk = λ w image staging n r r' v v' i i' s s' x y. begin-chunk-one-answer w image staging v v' i i' s s' n r r' x y;
      write = λ w image staging offered r r' v v' i i' s s' x y. write-one-answer w image staging v v' i i' s s' offered r r' x y;
      finish = λ w image staging r r' v v' i i' s s' x y. finish-one-answer w image staging v v' i i' s s' r r' x y;
      commit = λ w image staging r r' v v' i i' s s' x y. commit-one-answer w image staging v v' i i' s s' r r' x y;
      rollback = λ w image staging r r' v v' i i' s s' x y. rollback-one-answer w image staging v v' i i' s s' r r' x y;
      recycle = λ w image staging id r r' v v' i i' s s' x y. recycle-one-answer w image staging v v' i i' s s' id r r' x y;
      flush = λ w image staging r r' v v' i i' s s' x y. flush-one-answer w image staging v v' i i' s s' r r' x y;
      synchronize = λ w image staging t r r' v v' i i' s s' x y. synchronize-one-answer w image staging v v' i i' s s' t r r' x y;
      seek = seek-one-answer;
      step = step-one-answer;
    }
