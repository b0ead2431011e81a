-- The plain reads of a state: after two runs of the code with one canonical form, the logical position and the last id are read alike. The
-- file position, and whether all is synchronized, are excepted (they are numbers of staging and sync).
-- The two theorems, `positions-agree` and `last-ids-agree`, are in proofs/CutsDoNotShowHolds; here is what they rest on.
use Rattle.std.specs.Prelude.{ℕ, ◌≡◌, refl, true, List, [], ◌∷◌, length, Ok}
use Rattle.std.proofs.Common.{ap, sym, ◌∙◌}
use Rattle.lists.specs.Answers.{number_of, accepted}
use Rattle.lists.specs.AnswersLaws.{both}
use Rattle.log_file.specs.declared.LogFileWriter.{LogFileWriter}
use Rattle.entry.specs.Refusal.{answer_of}
use Rattle.log_file.specs.State.{Machine, ruled, valid}
use Rattle.log_file.specs.Promises.{no_values}
use Rattle.log_file.specs.Opening.{Terms}
use Rattle.log_file.specs.Reads.{read}
use Rattle.log_file.specs.History.{fresh}
use Rattle.log_file.specs.Shows.{Shows}
use Rattle.journal.specs.Stories.{Heard, calls, canon, Part, left_out, piece, matching, part, Seen, seen, Story, ends, tells, story_at, story}
use Rattle.journal.specs.CutsDoNotShow.{Given, InRange}
use Rattle.journal.specs.CodeRuns.{Opening, OpensFresh, opened_as, Stepping, left_as, Run, hears_one, hears}
use Rattle.journal.specs.TwoRuns.{opened-shows, openings-of-the-code}
use Rattle.journal.specs.Committed.{writer_after}
use Rattle.journal.specs.CommittedLaws.{after-shows}

-- ---- what is seen at a story's end is what is seen of the writer after the run

pub end_of : Story → Seen
end_of (ends s) = s
end_of (tells a s rest) = end_of rest

end-call : (k : Part) (x : Heard) (rest : Story) → end_of (story_at k x rest) ≡ end_of rest
unfolding end_of
end-call left_out x rest = refl
end-call (piece offered) x rest = refl
end-call matching x rest = refl

pub end_after : (m : Machine) (xs : List Stepping) → end_of (story m (hears xs)) ≡ seen (writer_after m xs)
unfolding story end_of
end_after m [] = refl
end_after m (x ∷ xs) = end-call (part (hears_one x).call) (hears_one x) (story (left_as x) (hears xs)) ∙ end_after (left_as x) xs

-- ---- a shown state is read, and not refused

shown-ruled : (n : ℕ) (m : Machine) (h : _) → Shows n m h → ruled m.writer ≡ true
unfolding valid
shown-ruled n m h x = (both (ruled m.writer) _ (both _ _ x.rules).0).0

pub read_alike : (v w : LogFileWriter) (xs ys : List ℕ) → ruled v ≡ true → ruled w ≡ true → xs ≡ ys → read v xs ≡ read w ys
unfolding read
read_alike v w xs ys p q e = rw (p, q) (ap accepted e)

module _ (o : Terms) (a b : Given) (ra : InRange a) (rb : InRange b) (same : length a.image ≡ length b.image) (x y : Opening)
    (p : OpensFresh o a x) (q : OpensFresh o b y) (accepts : x.result ≡ Ok tt) (xs ys : List Stepping) (r : Run (opened_as x) xs)
    (s : Run (opened_as y) ys) (form : canon (calls (hears xs)) ≡ canon (calls (hears ys))) where
  pub read_one : ruled (writer_after (opened_as x) xs).writer ≡ true
  read_one =
      shown-ruled _ _ _ (after-shows (length a.image) (opened_as x) (fresh o.info o.id o.last) xs
      (opened-shows o a x p (ap (λ k. number_of (answer_of no_values k)) accepts)) r)

  pub read-other : ruled (writer_after (opened_as y) ys).writer ≡ true
  read-other =
      let z = ap number_of (sym (openings-of-the-code o a b ra rb same x y p q).0) ∙ ap (λ k. number_of (answer_of no_values k)) accepts in
      shown-ruled _ _ _ (after-shows (length b.image) (opened_as y) (fresh o.info o.id o.last) ys (opened-shows o b y q z) s)
