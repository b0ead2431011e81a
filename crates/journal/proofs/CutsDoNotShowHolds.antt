-- Cuts and staging do not show in ours, which is what the promises of the code allow (`two_runs`), nor in any runs of the code itself
-- (`two-runs-of-the-code`). And what rests on that: plain reads agree, and so do the answers of a program that stores nothing.
-- Here are the laws that rest on `effect` of specs/StoriesLaws, by `told-from`. They stand in proofs/ so that no law of specs/ waits for `effect`, which
-- must-fail/file_length_landing_matches.edit makes false: an edit that leaves a law of specs/ waiting counts as unreadable, and not as refused.
use Rattle.std.specs.Prelude.{ℕ, ◌≡◌, List, [], ◌∷◌, length, Ok, Option, Result}
use Rattle.std.proofs.Common.{ap, sym, ◌∙◌, subst}
use Rattle.lists.specs.Answers.{number_of}
use Rattle.log_file.specs.State.{Machine}
use Rattle.log_file.specs.Calls.{Call, write, called}
use Rattle.log_file.specs.Opening.{Terms}
use Rattle.log_file.specs.History.{History, fresh, next}
use Rattle.log_file.specs.HistoryLaws.{write-none}
use Rattle.log_file.specs.Shows.{Shows}
use Rattle.log_file.specs.ShowsLaws.{fresh-shows}
use Rattle.journal.specs.Stories.{calls, part, canon_from, canon, seen, ends, story, tale, answers_of, Seen}
use Rattle.journal.specs.CutsDoNotShow.{Given, InRange, heard, ours, Follows, AnswersAgree, FollowsFormat, CutsDoNotShow}
use Rattle.entry.specs.declared.Refusal.{Refusal}
use Rattle.entry.specs.Refusal.{answer_of}
use Rattle.log_file.specs.Promises.{no_values}
use Rattle.journal.specs.CodeRuns.{Opening, OpensFresh, opened_as, Stepping, Run, hears, OneStory}
use Rattle.log_file.specs.Reads.{last_values, PositionAllows, LastEntryIdAllows}
use Rattle.log_file.specs.ReadsLaws.{position-one-answer, last-entry-id-one-answer}
use Rattle.journal.specs.Committed.{writer_after}
use Rattle.journal.specs.WrongPrograms.{stores_nothing}
use Rattle.journal.specs.StoriesLaws.{effect, shown-seen, told-call, each_from, calls-heard, opening-as-told}
use Rattle.journal.specs.TwoRuns.{format-two-runs, run-heard, opened-shows, openings-of-the-code}
use Rattle.journal.specs.PlainReads.{end_of, end_after, read_alike, read_one, read-other}
use Rattle.journal.specs.WrongProgramsAgree.{nothing-story}

-- ---- one run of ours

told-from : (n : ℕ) (m : Machine) (h : History) (cs : List Call) (sofar : List ℕ) → Shows n m (next n h (write sofar))
    → story m (heard ours m cs) ≡ tale n h (canon_from cs sofar)
unfolding canon_from heard story tale
told-from n m h [] sofar x = ap ends (shown-seen n m (next n h (write sofar)) x)
told-from n m h (c ∷ cs) sofar x =
    told-call n m h c sofar _ _ (part c) x (effect n (next n h (write sofar)) c) (λ h' more y. told-from n (called m c).machine' h' cs more y)

pub follows : (n : ℕ) (m : Machine) (h : History) (cs : List Call) → Shows n m h → Follows n h m (heard ours m cs)
follows n m h cs x =
    record {
      as_told = told-from n m h cs [] (rw (write-none n h) x) ∙ ap (λ ds. tale n h (canon ds)) (sym (calls-heard ours m cs));
      each_told = each_from n m h cs x;
    }

-- ---- ours

ours-format : FollowsFormat ours
ours-format =
    record {
      opening = opening-as-told;
      format = λ o a r e cs. follows (length a.image) _ _ cs (fresh-shows o a.file_length a.image a.staging e);
    }

pub two_runs : CutsDoNotShow ours
two_runs = record { answers_agree = format-two-runs ours ours-format; follows_format = ours-format }

-- ---- the code

pub run-follows : (n : ℕ) (h : History) (m : Machine) (xs : List Stepping) → Shows n m h → Run m xs → Follows n h m (hears xs)
run-follows n h m xs x r = subst (λ ys. Follows n h m ys) (sym (run-heard m xs r)) (follows n m h (calls (hears xs)) x)

module _ (o : Terms) (a b : Given) (ra : InRange a) (rb : InRange b) (same : length a.image ≡ length b.image) (x y : Opening)
    (p : OpensFresh o a x) (q : OpensFresh o b y) where
  pub two-runs-of-the-code : x.result ≡ Ok tt → (xs ys : List Stepping)
      → Run (opened_as x) xs → Run (opened_as y) ys → canon (calls (hears xs)) ≡ canon (calls (hears ys))
      → OneStory (length a.image) (fresh o.info o.id o.last) (opened_as x) (opened_as y) (hears xs) (hears ys)
  two-runs-of-the-code e xs ys r s c =
      let h = fresh o.info o.id o.last in
      let z : number_of (answer_of no_values x.result) ≡ 0 = ap (λ k. number_of (answer_of no_values k)) e in
      let u = run-follows (length a.image) h (opened_as x) xs (opened-shows o a x p z) r in
      let y0 = ap number_of (sym (openings-of-the-code o a b ra rb same x y p q).0) ∙ z in
      let v = run-follows (length a.image) h (opened_as y) ys (rw same (opened-shows o b y q y0)) s in
      record {
        stories = u.as_told ∙ ap (λ d. tale (length a.image) h d) c ∙ sym v.as_told;
        answers = ap answers_of (u.as_told ∙ ap (λ d. tale (length a.image) h d) c ∙ sym v.as_told);
        one = u;
        other = v;
      }

-- ---- plain reads

module _ (o : Terms) (a b : Given) (ra : InRange a) (rb : InRange b) (same : length a.image ≡ length b.image) (x y : Opening)
    (p : OpensFresh o a x) (q : OpensFresh o b y) (accepts : x.result ≡ Ok tt) (xs ys : List Stepping) (r : Run (opened_as x) xs)
    (s : Run (opened_as y) ys) (form : canon (calls (hears xs)) ≡ canon (calls (hears ys))) where
  one_end : seen (writer_after (opened_as x) xs) ≡ seen (writer_after (opened_as y) ys)
  one_end =
      sym (end_after (opened_as x) xs) ∙ ap end_of (two-runs-of-the-code o a b ra rb same x y p q accepts xs ys r s form).stories ∙ end_after (opened_as y) ys

  pub positions-agree : (i j : Result ℕ Refusal) → PositionAllows (writer_after (opened_as x) xs).writer i → PositionAllows (writer_after (opened_as y) ys).writer j
      → i ≡ j
  positions-agree i j k l =
      position-one-answer _ i j k
      (l ∙ read_alike _ _ _ _ (read-other o a b ra rb same x y p q accepts xs ys r s form) (read_one o a b ra rb same x y p q accepts xs ys r s form)
      (ap (λ (e : Seen). e.position' ∷ []) (sym one_end)))

  pub last-ids-agree : (i j : Result (Option ℕ) Refusal) → LastEntryIdAllows (writer_after (opened_as x) xs).writer i
      → LastEntryIdAllows (writer_after (opened_as y) ys).writer j → i ≡ j
  last-ids-agree i j k l =
      last-entry-id-one-answer _ i j k
      (l ∙ read_alike _ _ _ _ (read-other o a b ra rb same x y p q accepts xs ys r s form) (read_one o a b ra rb same x y p q accepts xs ys r s form)
      (ap (λ (e : Seen). last_values e.last) (sym one_end)))

-- ---- stores nothing

pub stores-nothing-agrees : AnswersAgree stores_nothing
stores-nothing-agrees =
    let h = two_runs.answers_agree in
    record {
      openings = h.openings;
      answers =
          λ o g g' r r' same e cs ds c.
          nothing-story o g cs e
          ∙ h.answers o g g' r r' same e cs ds c
          ∙ sym (nothing-story o g' ds (ap number_of (sym (h.openings o g g' r r' same)) ∙ e));
    }
