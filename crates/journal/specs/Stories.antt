-- A run, call by call, and what is compared of two runs: the canonical form of its calls, the story that is seen of it, and the tale that the format
-- tells of the same calls. The laws are in `StoriesLaws` and proofs/CutsDoNotShowHolds.
use Rattle.std.specs.Prelude.{ℕ, ◌≡◌, true, List, [], ◌∷◌, ◌++◌, length, Option}
use Rattle.std.specs.declared.io.SeekFrom.TheVariants.{Start, End, Current}
use Rattle.lists.specs.Answers.{Answer}
use Rattle.buffered.specs.Staging.{logical}
use Rattle.log_file.specs.declared.Moment.{Moment}
use Rattle.log_file.specs.State.{Machine, store_of, position}
use Rattle.log_file.specs.Calls.{Call, begin_entry, begin_chunk, write, finish, commit, rollback, recycle, flush, synchronize, landing}
use Rattle.log_file.specs.History.{History, bytes, moment_of, told, next, tellable}

-- one call of a run: what was called, what it answered, the writer with its buffers afterwards
pub record Heard : Type 0 where
  pub call : Call
  pub answer : Answer
  pub machine' : Machine

abbrev pub calls : List Heard → List Call
calls [] = []
calls (x ∷ xs) = x.call ∷ calls xs

-- ---- the canonical form of a trace

-- a call is left out, is a piece of data, or is one that both runs make
pub data Part : Type 0 where
  left_out : Part
  piece : (offered : List ℕ) → Part
  matching : Part

-- left out: flush, sync, and landings counted from the file length
abbrev pub part : Call → Part
part (begin_entry id) = matching
part (begin_chunk n) = matching
part (write offered) = piece offered
part finish = matching
part commit = matching
part rollback = matching
part (recycle id) = matching
part flush = left_out
part (synchronize t) = left_out
part (landing (Start place)) = matching
part (landing (End offset)) = left_out
part (landing (Current offset)) = matching

-- each matching call behind all the data that was offered since the one before it; at the end, the data offered since the last. So adjacent pieces
-- are joined, and no piece and an empty one are alike
pub data Canon : Type 0 where
  done : (offered : List ℕ) → Canon
  then : (offered : List ℕ) → Call → Canon → Canon

abbrev pub canon_at : Part → Call → (offered : List ℕ) → (rest : List ℕ → Canon) → Canon
canon_at left_out c sofar rest = rest sofar
canon_at (piece offered) c sofar rest = rest (sofar ++ offered)
canon_at matching c sofar rest = then sofar c (rest [])

unfoldable pub canon_from : List Call → (sofar : List ℕ) → Canon
canon_from [] sofar = done sofar
canon_from (c ∷ cs) sofar = canon_at (part c) c sofar (λ more. canon_from cs more)

abbrev pub canon : List Call → Canon
canon cs = canon_from cs []

-- ---- what is seen of a writer: the logical segment byte by byte, the logical position, segment id, last id and moment

pub record Seen : Type 0 where
  pub segment : List ℕ
  pub position' : ℕ
  pub id : ℕ
  pub last : Option ℕ
  pub moment : Moment

abbrev pub seen : Machine → Seen
seen m =
    record {
      segment = logical (store_of m);
      position' = position m.writer;
      id = m.writer.id;
      last = m.writer.last;
      moment = m.writer.moment;
    }

-- and what the format gives for a history
abbrev pub given : History → Seen
given h = record { segment = bytes h; position' = length (bytes h); id = h.id; last = h.last; moment = moment_of h }

-- ---- the story: of each matching call its answer and what is seen after it; last of all, what is seen at the end

pub data Story : Type 0 where
  ends : Seen → Story
  tells : Answer → Seen → Story → Story

abbrev pub story_at : Part → Heard → Story → Story
story_at left_out x rest = rest
story_at (piece offered) x rest = rest
story_at matching x rest = tells x.answer (seen x.machine') rest

-- m is the writer before the first call
unfoldable pub story : (m : Machine) → List Heard → Story
story m [] = ends (seen m)
story m (x ∷ xs) = story_at (part x.call) x (story x.machine' xs)

abbrev pub answers_of : Story → List Answer
answers_of (ends s) = []
answers_of (tells a s rest) = a ∷ answers_of rest

-- ---- the tale: the story that the format tells of a history, under an image of n bytes

unfoldable pub tale : (n : ℕ) → History → Canon → Story
tale n h (done offered) = ends (given (next n h (write offered)))
tale n h (then offered c rest) =
    let before = next n h (write offered) in
    let after = next n before c in
    tells (told n before c) (given after) (tale n after rest)

-- ---- every single answer, those to flush, sync and pieces too, is the one that the history of the calls before it tells; of a landing from the file
-- length a history tells nothing

abbrev pub EachTold : (n : ℕ) → History → List Heard → Type 0
EachTold n h [] = Unit {0}
EachTold n h (x ∷ xs) = (tellable x.call ≡ true → x.answer ≡ told n h x.call) × EachTold n (next n h x.call) xs
