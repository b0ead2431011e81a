-- Of a program with a fixed answer, and of one that stores nothing, the answers of two runs agree, however data is cut and staged. It is the format that
-- they fall to (`WrongProgramsFall`). Of the second it is `stores-nothing-agrees` of proofs/CutsDoNotShowHolds, from what stands here.
use Rattle.std.specs.Prelude.{ℕ, ◌≡◌, refl, List, [], ◌∷◌}
use Rattle.std.proofs.Common.{ap, sym, ◌∙◌}
use Rattle.lists.specs.Answers.{Answer, number_of}
use Rattle.log_file.specs.State.{Machine}
use Rattle.log_file.specs.StateLaws.{facts-of}
use Rattle.log_file.specs.Calls.{Call, called}
use Rattle.log_file.specs.CallsLaws.{called-kept}
use Rattle.log_file.specs.Opening.{Terms, opened_machine}
use Rattle.log_file.specs.OpeningLaws.{opened-machine, opened-valid}
use Rattle.journal.specs.Stories.{Heard, Part, left_out, piece, matching, part, Canon, done, then, canon_at, canon_from, Story, story, story_at, answers_of}
use Rattle.journal.specs.CutsDoNotShow.{Given, heard, story_of, ours, AnswersAgree}
use Rattle.journal.specs.NumbersOnly.{SameNumbers, same-numbers-answer, same-numbers-writer}
use Rattle.journal.specs.WrongPrograms.{fixed_answer, stores_nothing}

-- ---- a fixed answer: as many as there are matching calls

each : Answer → Canon → List Answer
each a (done offered) = []
each a (then offered c rest) = a ∷ each a rest

fixed-call : (a : Answer) (x : Heard) (sofar : List ℕ) (rest : Story) (later : List ℕ → Canon) (k : Part) → x.answer ≡ a
    → ((more : List ℕ) → answers_of rest ≡ each a (later more)) → answers_of (story_at k x rest) ≡ each a (canon_at k x.call sofar later)
unfolding each
fixed-call a x sofar rest later left_out e f = f sofar
fixed-call a x sofar rest later (piece offered) e f = f _
fixed-call a x sofar rest later matching e f = λ i. e i ∷ f [] i

fixed-answers : (a : Answer) (m : Machine) (cs : List Call) (sofar : List ℕ) → answers_of (story m (heard (fixed_answer a) m cs)) ≡ each a (canon_from cs sofar)
unfolding heard story canon_from each
fixed-answers a m [] sofar = refl
fixed-answers a m (c ∷ cs) sofar =
    fixed-call a (record { call = c; answer = a; machine' = m }) sofar _ _ (part c) refl (λ more. fixed-answers a m cs more)

pub fixed-answer-agrees : (a : Answer) → AnswersAgree (fixed_answer a)
fixed-answer-agrees a =
    record {
      openings = λ o g g' r r' same. refl;
      answers = λ o g g' r r' same e cs ds c. fixed-answers a _ cs [] ∙ ap (each a) c ∙ sym (fixed-answers a _ ds []);
    }

-- ---- stores nothing: the numbers are those of ours, and the answers hang on these alone

nothing-call : (x y : Heard) (rest rest' : Story) (k : Part) → x.answer ≡ y.answer → answers_of rest ≡ answers_of rest'
    → answers_of (story_at k x rest) ≡ answers_of (story_at k y rest')
nothing-call x y rest rest' left_out e f = f
nothing-call x y rest rest' (piece offered) e f = f
nothing-call x y rest rest' matching e f = λ i. e i ∷ f i

nothing-answers : (m m' : Machine) (cs : List Call) → SameNumbers m m'
    → answers_of (story m (heard stores_nothing m cs)) ≡ answers_of (story m' (heard ours m' cs))
unfolding heard story
nothing-answers m m' [] e = refl
nothing-answers m m' (c ∷ cs) e =
    let z = (called-kept m' c).buffers in
    nothing-call _ _ _ _ (part c) (same-numbers-answer m m' c e)
    (nothing-answers (stores_nothing.steps m c).machine' (called m' c).machine' cs
    (record { writer = same-numbers-writer m m' c e; image = e.image ∙ sym z.image; staging = e.staging ∙ sym z.staging }))

opened-numbers : (o : Terms) (g : Given) → number_of (ours.opens o g).answer ≡ 0
    → SameNumbers (stores_nothing.opens o g).machine' (ours.opens o g).machine'
unfolding opened_machine
opened-numbers o g e =
    let m = (ours.opens o g).machine' in
    let k = opened-machine o g.file_length g.image g.staging 0 e in
    let v = facts-of m (opened-valid o g.file_length g.image g.staging 0 e) in
    record {
      writer = refl;
      image = sym (v.image ∙ ap (λ (u : Machine). u.writer.size) k);
      staging = sym (v.staging ∙ ap (λ (u : Machine). u.writer.capacity) k);
    }

pub nothing-story : (o : Terms) (g : Given) (cs : List Call) → number_of (ours.opens o g).answer ≡ 0
    → answers_of (story_of stores_nothing o g cs) ≡ answers_of (story_of ours o g cs)
nothing-story o g cs e = nothing-answers (stores_nothing.opens o g).machine' (ours.opens o g).machine' cs (opened-numbers o g e)
