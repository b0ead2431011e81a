-- Cuts and staging do not show.
--   `two_runs`: so it is of ours, which is what the promises of the code allow.
--   `one-story`: of any program of which it holds, two runs with one canonical form tell one story, segments, positions, ids and moments included.
--   `two-runs-of-the-code`: the same said of any runs of the code itself: openings that `OpenAllows` allows, steps that `StepAllows` allows.
-- The first and the last are in proofs/CutsDoNotShowHolds, which says why.
use Rattle.std.specs.Prelude.{◌≡◌, refl, List, [], ◌∷◌, length}
use Rattle.std.proofs.Common.{ap, sym, ◌∙◌, subst}
use Rattle.lists.specs.Answers.{number_of}
use Rattle.entry.specs.Refusal.{answer_of}
use Rattle.log_file.specs.State.{Machine}
use Rattle.log_file.specs.Calls.{Call, Called}
use Rattle.log_file.specs.Promises.{no_values}
use Rattle.log_file.specs.Opening.{Terms}
use Rattle.log_file.specs.History.{fresh}
use Rattle.log_file.specs.Shows.{Shows}
use Rattle.log_file.specs.ShowsLaws.{fresh-shows}
use Rattle.log_file.specs.Step.{call_of}
use Rattle.journal.specs.Stories.{calls, canon, answers_of, tale}
use Rattle.journal.specs.CutsDoNotShow.{Given, InRange, Program, heard, story_of, ours, opening_told, AnswersAgree, FollowsFormat, CutsDoNotShow}
use Rattle.journal.specs.StoriesLaws.{calls-heard, opening-as-told}
use Rattle.journal.specs.CodeRuns.{Opening, OpensFresh, opened_as, Stepping, left_as, Run, hears}

-- of any program whose runs are the format's
format-story : (p : Program) → FollowsFormat p → (o : Terms) (a : Given) → InRange a → number_of (p.opens o a).answer ≡ 0 → (cs : List Call)
    → story_of p o a cs ≡ tale (length a.image) (fresh o.info o.id o.last) (canon cs)
format-story p f o a r e cs =
    (f.format o a r e cs).as_told
    ∙ ap (λ ds. tale (length a.image) (fresh o.info o.id o.last) (canon ds)) (calls-heard p (p.opens o a).machine' cs)

module _ (p : Program) (d : FollowsFormat p) (o : Terms) (a b : Given) (ra : InRange a) (rb : InRange b) (same : length a.image ≡ length b.image) where
  openings-alike : (p.opens o a).answer ≡ (p.opens o b).answer
  openings-alike = d.opening o a ra ∙ rw same (sym (d.opening o b rb))

  one-story-format : number_of (p.opens o a).answer ≡ 0 → (cs ds : List Call) → canon cs ≡ canon ds → story_of p o a cs ≡ story_of p o b ds
  one-story-format e cs ds c =
      format-story p d o a ra e cs ∙ rw (same, c) (sym (format-story p d o b rb (ap number_of (sym openings-alike) ∙ e) ds))

-- to follow the format is the stronger one
pub format-two-runs : (p : Program) → FollowsFormat p → AnswersAgree p
format-two-runs p d =
    record {
      openings = openings-alike p d;
      answers = λ o a b ra rb same e cs ds c. ap answers_of (one-story-format p d o a b ra rb same e cs ds c);
    }

pub one-story : (p : Program) → CutsDoNotShow p → (o : Terms) (a b : Given) → InRange a → InRange b → length a.image ≡ length b.image
    → number_of (p.opens o a).answer ≡ 0 → (cs ds : List Call) → canon cs ≡ canon ds → story_of p o a cs ≡ story_of p o b ds
one-story p d = one-story-format p d.follows_format

-- ---- the code

-- what a run of the code lets hear is what ours does
pub run-heard : (m : Machine) (xs : List Stepping) → Run m xs → hears xs ≡ heard ours m (calls (hears xs))
unfolding heard
run-heard m [] r = refl
run-heard m (x ∷ xs) r =
    let c = call_of x.call in
    let e = r.0.0 in
    let f = run-heard (left_as x) xs r.1 ∙ ap (λ (u : Called). heard ours u.machine' (calls (hears xs))) e in
    λ i. record { call = c; answer = (e i).answer; machine' = (e i).machine' } ∷ f i

-- what an opening of the code leaves, where it is accepted, shows the fresh history
pub opened-shows : (o : Terms) (g : Given) (x : Opening) → OpensFresh o g x → number_of (answer_of no_values x.result) ≡ 0
    → Shows (length g.image) (opened_as x) (fresh o.info o.id o.last)
opened-shows o g x p e =
    let z : number_of (ours.opens o g).answer ≡ 0 = ap (λ (u : Called). number_of u.answer) (sym p) ∙ e in
    subst (λ m. Shows (length g.image) m (fresh o.info o.id o.last)) (ap (λ (u : Called). u.machine') (sym p))
    (fresh-shows o g.file_length g.image g.staging z)

module _ (o : Terms) (a b : Given) (ra : InRange a) (rb : InRange b) (same : length a.image ≡ length b.image) (x y : Opening)
    (p : OpensFresh o a x) (q : OpensFresh o b y) where
  -- both openings answer alike, and as the format has it
  pub openings-of-the-code : (answer_of no_values x.result ≡ answer_of no_values y.result) × (answer_of no_values x.result ≡ opening_told (length a.image) o)
  openings-of-the-code =
      let e = ap (λ (u : Called). u.answer) p in
      let f = ap (λ (u : Called). u.answer) q in
      (e ∙ opening-as-told o a ra ∙ rw same (sym (opening-as-told o b rb)) ∙ sym f, e ∙ opening-as-told o a ra)
