-- What happened since opening or recycling, the bytes that the format gives for it, and what each call answers in these terms (document 01, "The
-- writer"). Nothing here is shared with `Calls` but the calls, the declared types, the format, and how an answer is made of a row of checks and their numbers
-- (`first`, `reply`, `obey`), so that `ShowsLaws` and proofs/ShowsTells compare two accounts. The laws are in `HistoryLaws`.
use Rattle.std.specs.Prelude.{ℕ, suc, ◌+◌, ◌-◌, Bool, true, false, not, length, take, ltb, pos, negsuc}
use mathlib.Core.List.{List, [], ◌∷◌, ◌++◌, flat_map}
use Rattle.lists.specs.Answers.{Answer, Check, ◌⇒◌, first, reply, obey}
use Rattle.lists.specs.Numbers.{le}
use Rattle.entry.specs.Format.{Entry, chunk_sum, chunk, segment}
use Rattle.std.specs.declared.io.SeekFrom.TheVariants.{Start, End, Current}
use Rattle.std.specs.Prelude.{Option, Some, None}
use Rattle.log_file.specs.declared.Moment.{Moment}
use Rattle.log_file.specs.declared.Moment.TheVariants.{Idle, InEntry, InChunk}
use Rattle.log_file.specs.Calls.{Call, begin_entry, begin_chunk, write, finish, commit, rollback, flush, recycle, synchronize, landing}

-- what is open: nothing; an entry with its finished chunks; in it a chunk of n bytes with those that it got
pub data Open : Type 0 where
  nothing : Open
  an_entry : (id : ℕ) (chunks : List (List ℕ)) → Open
  a_chunk : (id : ℕ) (chunks : List (List ℕ)) (n : ℕ) (got : List ℕ) → Open

pub record History : Type 0 where
  pub info : List ℕ
  pub id : ℕ
  pub last : Option ℕ
  pub committed : List Entry
  pub pending : Open

abbrev pub fresh : (info : List ℕ) (id : ℕ) → Option ℕ → History
fresh info id last = record { info = info; id = id; last = last; committed = []; pending = nothing }

-- ---- its bytes: the segment of the committed entries, then the first part of an entry, then that of a chunk

unfoldable pub begun : (id : ℕ) (chunks : List (List ℕ)) → List ℕ
begun id chunks = 1 ∷ le 8 id ++ flat_map chunk chunks

unfoldable pub opening : (n : ℕ) (got : List ℕ) → List ℕ
opening n got = 2 ∷ le 4 n ++ got

abbrev pub open_bytes : Open → List ℕ
open_bytes nothing = []
open_bytes (an_entry id chunks) = begun id chunks
open_bytes (a_chunk id chunks n got) = begun id chunks ++ opening n got

abbrev pub base : History → List ℕ
base h = segment h.info h.committed

abbrev pub bytes : History → List ℕ
bytes h = base h ++ open_bytes h.pending

-- ---- the moment that goes with it: an open entry starts where the committed ones end

abbrev pub moment_at : (start : ℕ) → Open → Moment
moment_at start nothing = Idle
moment_at start (an_entry id chunks) = InEntry id start
moment_at start (a_chunk id chunks n got) = InChunk id start n (n - length got) (chunk_sum n got)

abbrev pub moment_of : History → Moment
moment_of h = moment_at (length (base h)) h.pending

-- ---- what an accepted call makes of it

abbrev pub with_open : History → Open → History
with_open h o = record { info = h.info; id = h.id; last = h.last; committed = h.committed; pending = o }

abbrev pub with_chunk : (n : ℕ) → Open → Open
with_chunk n nothing = nothing
with_chunk n (an_entry id chunks) = a_chunk id chunks n []
with_chunk n (a_chunk id chunks m got) = a_chunk id chunks m got

-- of the bytes offered, those that the chunk still lacks
abbrev pub with_bytes : List ℕ → Open → Open
with_bytes offered nothing = nothing
with_bytes offered (an_entry id chunks) = an_entry id chunks
with_bytes offered (a_chunk id chunks n got) = a_chunk id chunks n (got ++ take (n - length got) offered)

abbrev pub finished : Open → Open
finished nothing = nothing
finished (an_entry id chunks) = an_entry id chunks
finished (a_chunk id chunks n got) = an_entry id (chunks ++ (got ∷ []))

abbrev pub with_entry : History → Open → History
with_entry h nothing = h
with_entry h (an_entry id chunks) =
    record {
      info = h.info;
      id = h.id;
      last = Some id;
      committed = h.committed ++ (record { id = id; chunks = chunks } ∷ []);
      pending = nothing;
    }
with_entry h (a_chunk id chunks n got) = h

abbrev pub grow : History → Call → History
grow h (begin_entry id) = with_open h (an_entry id [])
grow h (begin_chunk n) = with_open h (with_chunk n h.pending)
grow h (write offered) = with_open h (with_bytes offered h.pending)
grow h finish = with_open h (finished h.pending)
grow h commit = with_entry h h.pending
grow h rollback = with_open h nothing
grow h (recycle id) = fresh h.info id None
grow h flush = h
grow h (synchronize t) = h
grow h (landing from) = h

-- ---- why a call is refused

abbrev pub is_nothing : Open → Bool
is_nothing nothing = true
is_nothing (an_entry id chunks) = false
is_nothing (a_chunk id chunks n got) = false

abbrev pub is_entry : Open → Bool
is_entry nothing = false
is_entry (an_entry id chunks) = true
is_entry (a_chunk id chunks n got) = false

abbrev pub is_chunk : Open → Bool
is_chunk nothing = false
is_chunk (an_entry id chunks) = false
is_chunk (a_chunk id chunks n got) = true

-- the bytes that it will still ask for: an end mark; the rest of the data, a sum and an end mark
abbrev pub still_asks : Open → ℕ
still_asks nothing = 0
still_asks (an_entry id chunks) = 1
still_asks (a_chunk id chunks n got) = n - length got + 5

-- an image of n bytes has no room for it
abbrev pub crowds : (n : ℕ) → History → Bool
crowds n h = ltb n (length (bytes h) + still_asks h.pending)

-- how many bytes an open chunk holds, and how many it is to hold
abbrev pub holds : Open → ℕ
holds nothing = 0
holds (an_entry id chunks) = 0
holds (a_chunk id chunks n got) = length got

abbrev pub is_to_hold : Open → ℕ
is_to_hold nothing = 0
is_to_hold (an_entry id chunks) = 0
is_to_hold (a_chunk id chunks n got) = n

-- under an image of n bytes. Of a landing from the file length, which is the store's alone, a history tells nothing (`tellable`)
unfoldable pub causes : (n : ℕ) → History → Call → List Check
causes n h (begin_entry id) = (not (is_nothing h.pending) ⇒ 6) ∷ (ltb id h.id ⇒ 7) ∷ (crowds n (grow h (begin_entry id)) ⇒ 5) ∷ []
causes n h (begin_chunk k) = (not (is_entry h.pending) ⇒ 6) ∷ (crowds n (grow h (begin_chunk k)) ⇒ 5) ∷ []
causes n h (write offered) = (not (is_chunk h.pending) ⇒ 6) ∷ []
causes n h finish = (not (is_chunk h.pending) ⇒ 6) ∷ (ltb (holds h.pending) (is_to_hold h.pending) ⇒ 8) ∷ []
causes n h commit = (not (is_entry h.pending) ⇒ 6) ∷ []
causes n h rollback = (is_nothing h.pending ⇒ 6) ∷ []
causes n h (recycle id) = (not (is_nothing h.pending) ⇒ 6) ∷ []
causes n h flush = []
causes n h (synchronize t) = []
causes n h (landing (Start place)) = (ltb n place ⇒ 11) ∷ []
causes n h (landing (End offset)) = []
causes n h (landing (Current (pos k))) = (ltb n (length (bytes h) + k) ⇒ 11) ∷ []
causes n h (landing (Current (negsuc k))) = (ltb (length (bytes h)) (suc k) ⇒ 11) ∷ (ltb n (length (bytes h) - suc k) ⇒ 11) ∷ []

-- ---- what an accepted call reports

-- an open chunk: the segment's id and where its 02 stands, its sum, its length
abbrev pub chunk_record : History → Open → List ℕ
chunk_record h nothing = []
chunk_record h (an_entry id chunks) = []
chunk_record h (a_chunk id chunks n got) = h.id ∷ length (base h ++ begun id chunks) ∷ chunk_sum n got ∷ length got ∷ []

abbrev pub open_id : Open → ℕ
open_id nothing = 0
open_id (an_entry id chunks) = id
open_id (a_chunk id chunks n got) = id

unfoldable pub tells : History → Call → List ℕ
tells h (begin_entry id) = []
tells h (begin_chunk k) = []
tells h (write offered) = (length (bytes (grow h (write offered))) - length (bytes h)) ∷ []
tells h finish = chunk_record h h.pending
tells h commit = open_id h.pending ∷ length (bytes (grow h commit)) ∷ []
tells h rollback = []
tells h (recycle id) = []
tells h flush = []
tells h (synchronize t) = []
tells h (landing (Start place)) = place ∷ []
tells h (landing (End offset)) = []
tells h (landing (Current (pos k))) = (length (bytes h) + k) ∷ []
tells h (landing (Current (negsuc k))) = (length (bytes h) - suc k) ∷ []

-- ---- a call's answer, and the history after it

abbrev pub told : (n : ℕ) → History → Call → Answer
told n h c = reply (first (causes n h c)) (tells h c)

abbrev pub next : (n : ℕ) → History → Call → History
next n h c = obey (first (causes n h c)) h (grow h c)

-- whether the answer can be told of a history
abbrev pub tellable : Call → Bool
tellable (begin_entry id) = true
tellable (begin_chunk n) = true
tellable (write offered) = true
tellable finish = true
tellable commit = true
tellable rollback = true
tellable (recycle id) = true
tellable flush = true
tellable (synchronize t) = true
tellable (landing (Start place)) = true
tellable (landing (End offset)) = false
tellable (landing (Current offset)) = true
