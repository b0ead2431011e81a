-- Neither how data is cut into pieces nor how it is staged shows, as a statement about any program that opens a writer and steps it.
-- `AnswersAgree`: the answers of two runs agree. `FollowsFormat`: each run is the one that the format gives. `CutsDoNotShow` is both. That ours meets it
-- is `two_runs` of proofs/CutsDoNotShowHolds; programs that do not are in `WrongPrograms`. Of chunks that are read in cuts speaks `cuts-do-not-show` of
-- the reader.
use Rattle.std.specs.Prelude.{ℕ, ◌≤◌, ◌≡◌, List, [], ◌∷◌, length, ltb}
use Rattle.lists.specs.Answers.{Answer, number_of, Check, ◌⇒◌, first, reply}
use Rattle.entry.specs.Format.{largest_image}
use Rattle.log_file.specs.State.{Machine}
use Rattle.log_file.specs.Calls.{Call, Called, called}
use Rattle.log_file.specs.Opening.{Terms, opened}
use Rattle.log_file.specs.History.{History, fresh, crowds}
use Rattle.journal.specs.Stories.{Heard, calls, canon, Story, story, answers_of, tale, EachTold}

-- ---- a program

-- what a fresh opening is given beside its terms (id, last id, version info, preallocation): in these two writers may differ, but for the image's size
pub record Given : Type 0 where
  pub file_length : ℕ
  pub image : List ℕ
  pub staging : List ℕ

-- staging sizes and file lengths in range; the old bytes are any
pub record InRange (g : Given) : Type 0 where
  pub staging : length g.staging ≤ 65536
  pub file : g.file_length ≤ length g.image

-- it opens a writer fresh, and makes calls: an answer, and the writer with its buffers afterwards
pub record Program : Type 0 where
  pub opens : Terms → Given → Called
  pub steps : Machine → Call → Called

-- each call on the writer and the buffers that the last one left
unfoldable pub heard : Program → Machine → List Call → List Heard
heard p m [] = []
heard p m (c ∷ cs) =
    let r = p.steps m c in
    record { call = c; answer = r.answer; machine' = r.machine' } ∷ heard p r.machine' cs

-- a trace from a fresh opening
abbrev pub runs : Program → Terms → Given → List Call → List Heard
runs p o g cs = heard p (p.opens o g).machine' cs

abbrev pub story_of : Program → Terms → Given → List Call → Story
story_of p o g cs = story (p.opens o g).machine' (runs p o g cs)

-- our own: what the promises `OpenAllows` and `StepAllows` of the code allow
abbrev pub ours : Program
ours = record { opens = λ o g. opened o 0 g.file_length g.image g.staging; steps = called }

-- ---- the answers of two runs agree

-- Two writers opened fresh with equal id, last id, version info, preallocation (o) and image size. Both openings answer alike. Where they accept, any
-- two traces with one canonical form have the same answers.
-- Where each exception is made:
--   answers to flush and sync: `part` leaves these calls out, so that one run may have them and the other not;
--   answers to single pieces: a story has none; `canon` joins the pieces between two other calls, so that each run may cut them anew;
--   landings counted from the file length, refused or not: `part` leaves them out;
--   the file length, the file position, the staging and sync numbers: `Seen` has none of them.
-- Every other call is matched, and every other answer compared, refusals with their numbers. The plain reads of a state are no calls of a trace: that
-- the logical position and the last id are read alike is in proofs/CutsDoNotShowHolds.
pub record AnswersAgree (p : Program) : Type 0 where
  pub openings : (o : Terms) (a b : Given) → InRange a → InRange b → length a.image ≡ length b.image
      → (p.opens o a).answer ≡ (p.opens o b).answer
  pub answers : (o : Terms) (a b : Given) → InRange a → InRange b → length a.image ≡ length b.image → number_of (p.opens o a).answer ≡ 0
      → (cs ds : List Call) → canon cs ≡ canon ds → answers_of (story_of p o a cs) ≡ answers_of (story_of p o b ds)

-- ---- each run is the one that the format gives

-- why a fresh opening on an image of n bytes is refused, staging and file length being in range: 12 for the image or the preallocation, 4 for too long
-- an info, 5 where the preallocation or the fresh segment exceeds the image (at L = 0, padded is the preallocation)
abbrev pub opening_causes : (n : ℕ) → Terms → List Check
opening_causes n o =
    (ltb largest_image n ⇒ 12) ∷ (ltb o.preallocate 1 ⇒ 12) ∷ (ltb 4294967295 o.preallocate ⇒ 12) ∷ (ltb 255 (length o.info) ⇒ 4)
    ∷ (ltb n o.preallocate ⇒ 5) ∷ (crowds n (fresh o.info o.id o.last) ⇒ 5) ∷ []

abbrev pub opening_told : (n : ℕ) → Terms → Answer
opening_told n o = reply (first (opening_causes n o)) []

-- a run that began with the history h, under an image of n bytes: its story is the format's tale of its calls, and each single answer is told
pub record Follows (n : ℕ) (h : History) (m : Machine) (xs : List Heard) : Type 0 where
  pub as_told : story m xs ≡ tale n h (canon (calls xs))
  pub each_told : EachTold n h xs

-- After each matching call the logical segment is, byte by byte, what the format gives for the history since opening or recycling; so are position,
-- ids and moment, and the answers. A trace may be cut off anywhere, so what is said of its end is said after every call, also after those that are
-- left out. Two traces with one canonical form have one tale (`one-story` of `TwoRuns`).
pub record FollowsFormat (p : Program) : Type 0 where
  pub opening : (o : Terms) (a : Given) → InRange a → (p.opens o a).answer ≡ opening_told (length a.image) o
  pub format : (o : Terms) (a : Given) → InRange a → number_of (p.opens o a).answer ≡ 0 → (cs : List Call)
      → Follows (length a.image) (fresh o.info o.id o.last) (p.opens o a).machine' (runs p o a cs)

-- ---- both

pub record CutsDoNotShow (p : Program) : Type 0 where
  pub answers_agree : AnswersAgree p
  pub follows_format : FollowsFormat p
