-- What `laws` promises: of any program and of the code, of what the code leaves, and of cases.
use Rattle.std.specs.Prelude.{ℕ, ◌-◌, min, ◌≡◌, List, [], ◌∷◌, length, take, Ok, Option, Result}
use Rattle.lists.specs.Answers.{Answer, accepted, number_of}
use Rattle.entry.specs.declared.Refusal.{Refusal}
use Rattle.entry.specs.Refusal.{answer_of}
use Rattle.entry.specs.Format.{Entry}
use Rattle.log_file.specs.State.{Machine, position}
use Rattle.log_file.specs.Calls.{Call, write}
use Rattle.log_file.specs.Opening.{Terms}
use Rattle.log_file.specs.Promises.{no_values}
use Rattle.log_file.specs.Reads.{PositionAllows, LastEntryIdAllows}
use Rattle.log_file.specs.History.{a_chunk, History, fresh, with_open, told}
use Rattle.segment_reader.specs.declared.survey.EntryRead.{EntryRead}
use Rattle.segment_reader.specs.declared.survey.SegmentRead.{SegmentRead}
use Rattle.segment_reader.specs.Driver.{ReadSegmentAllows}
use Rattle.journal.specs.Stories.{calls, canon}
use Rattle.journal.specs.CutsDoNotShow.{Given, InRange, Program, story_of, ours, opening_told, AnswersAgree, CutsDoNotShow}
use Rattle.journal.specs.CodeRuns.{Opening, OpensFresh, opened_as, Stepping, Run, hears, OneStory}
use Rattle.journal.specs.WrongPrograms.{refuses_everything, refuses_every_call, fixed_answer, stores_nothing, stages_only_first, made_up_count}
use Rattle.journal.specs.Committed.{history_after, writer_after, Typed, AtRest, HoldsSegment, GivesBack}
use Rattle.journal.specs.Cases.{cases, AllHold}

-- ---- cuts and staging do not show: of ours, which is what the promises of the code allow

abbrev pub CutsAndStagingDoNotShow : Type 0
CutsAndStagingDoNotShow = CutsDoNotShow ours

-- where they do not show, two runs with one canonical form tell one story: segments, positions, ids and moments included
abbrev pub ProgramsTellOneStory : Type 0
ProgramsTellOneStory =
    (p : Program) → CutsDoNotShow p → (o : Terms) (a b : Given) → InRange a → InRange b → length a.image ≡ length b.image
    → number_of (p.opens o a).answer ≡ 0 → (cs ds : List Call) → canon cs ≡ canon ds → story_of p o a cs ≡ story_of p o b ds

-- what the format tells of a single piece: it takes as many bytes as are offered and owed
abbrev pub PiecesTakeWhatIsOwed : Type 0
PiecesTakeWhatIsOwed =
    (n : ℕ) (h : History) (id : ℕ) (chunks : List (List ℕ)) (k : ℕ) (got offered : List ℕ)
    → told n (with_open h (a_chunk id chunks k got)) (write offered) ≡ accepted (min (length offered) (k - length got) ∷ [])

-- ---- the same of any runs of the code: openings that `OpenAllows` allows, steps that `StepAllows` allows

-- both openings answer alike, and as the format has it
abbrev pub OpeningsAnswerAlike : Type 0
OpeningsAnswerAlike =
    (o : Terms) (a b : Given) → InRange a → InRange b → length a.image ≡ length b.image → (x y : Opening) → OpensFresh o a x → OpensFresh o b y
    → (answer_of no_values x.result ≡ answer_of no_values y.result) × (answer_of no_values x.result ≡ opening_told (length a.image) o)

-- what is said of two runs whose openings, on equal terms over images of one size, accept, and whose calls have one canonical form
abbrev pub OfTwoRuns : ((o : Terms) (a : Given) (x y : Opening) (xs ys : List Stepping) → Type 0) → Type 0
OfTwoRuns said =
    (o : Terms) (a b : Given) → InRange a → InRange b → length a.image ≡ length b.image → (x y : Opening) → OpensFresh o a x → OpensFresh o b y
    → x.result ≡ Ok tt → (xs ys : List Stepping) → Run (opened_as x) xs → Run (opened_as y) ys → canon (calls (hears xs)) ≡ canon (calls (hears ys))
    → said o a x y xs ys

abbrev pub RunsTellOneStory : Type 0
RunsTellOneStory =
    OfTwoRuns
    (λ o a x y xs ys. OneStory (length a.image) (fresh o.info o.id o.last) (opened_as x) (opened_as y) (hears xs) (hears ys))

-- the logical position and the last id are read alike
abbrev pub PositionsAgree : Type 0
PositionsAgree =
    OfTwoRuns
    (λ o a x y xs ys. (i j : Result ℕ Refusal) → PositionAllows (writer_after (opened_as x) xs).writer i
    → PositionAllows (writer_after (opened_as y) ys).writer j → i ≡ j)

abbrev pub LastIdsAgree : Type 0
LastIdsAgree =
    OfTwoRuns
    (λ o a x y xs ys. (i j : Result (Option ℕ) Refusal) → LastEntryIdAllows (writer_after (opened_as x) xs).writer i
    → LastEntryIdAllows (writer_after (opened_as y) ys).writer j → i ≡ j)

-- ---- wrong programs: in each of them they show; and of two the answers agree all the same, so that agreeing alone would say too little

abbrev pub WrongProgramsFall : Type 0
WrongProgramsFall =
    ((n : ℕ) → CutsDoNotShow (refuses_everything n) → ⊥) × ((n : ℕ) → CutsDoNotShow (refuses_every_call n) → ⊥)
    × ((a : Answer) → CutsDoNotShow (fixed_answer a) → ⊥) × (CutsDoNotShow stores_nothing → ⊥) × (CutsDoNotShow stages_only_first → ⊥)
    × (CutsDoNotShow made_up_count → ⊥)

abbrev pub WrongAnswersAgree : Type 0
WrongAnswersAgree = ((a : Answer) → AnswersAgree (fixed_answer a)) × AnswersAgree stores_nothing

-- ---- a writer opened fresh, after any calls, idle and flushed: its image, cut off at the logical position, is the segment of the entries committed since
-- opening or recycling; and a reader, with the writer's id, gets exactly these from it

abbrev pub OfARun : ((o : Terms) (g : Given) (x : Opening) (xs : List Stepping) → Type 0) → Type 0
OfARun said =
    (o : Terms) (g : Given) (x : Opening) → OpensFresh o g x → x.result ≡ Ok tt → (xs : List Stepping) → Run (opened_as x) xs → Typed xs
    → AtRest (writer_after (opened_as x) xs) → said o g x xs

-- the entries committed since opening or recycling
abbrev pub committed_by : Terms → Given → List Stepping → List Entry
committed_by o g xs = (history_after (length g.image) (fresh o.info o.id o.last) (calls (hears xs))).committed

abbrev pub ImagesHoldTheSegment : Type 0
ImagesHoldTheSegment = OfARun (λ o g x xs. HoldsSegment (writer_after (opened_as x) xs) o.info (committed_by o g xs))

-- the image, cut off at the logical position
abbrev pub cut_off : Machine → List ℕ
cut_off m = take (position m.writer) m.image

abbrev pub BackFromBytes : Type 0
BackFromBytes =
    OfARun
    (λ o g x xs. (before : List EntryRead) (a : Result SegmentRead Refusal) (after : List EntryRead)
    → ReadSegmentAllows (writer_after (opened_as x) xs).writer.id (cut_off (writer_after (opened_as x) xs)) before a after
    → GivesBack (cut_off (writer_after (opened_as x) xs)) o.info (committed_by o g xs) (position (writer_after (opened_as x) xs).writer) before a
    after)

-- ---- cases

abbrev pub CasesHold : Type 0
CasesHold = AllHold cases
