-- What each call of a writer answers and leaves (document 01, "The writer"), for any state and any buffers: `called`. The laws are in `CallsLaws`.
use Rattle.std.specs.Prelude.{ℕ, ◌+◌, ◌-◌, min, Bool, true, false, not, List, [], ◌∷◌, length, take, ltb}
use Rattle.lists.specs.Answers.{Answer, Check, ◌⇒◌, first, reply, obey}
use Rattle.lists.specs.Numbers.{le}
use Rattle.crc32c.specs.Crc.{crc_append}
use Rattle.entry.specs.Format.{version, chunk_sum}
use Rattle.buffered.specs.declared.Buffered.{Buffered}
use Rattle.std.specs.declared.io.SeekFrom.{SeekFrom}
use Rattle.buffered.specs.Seek.{target, misses, place_of}
use Rattle.buffered.specs.Staging.{Store, flushed, written_all, back_to, synchronized}
use Rattle.std.specs.Prelude.{Option, Some, None}
use Rattle.log_file.specs.declared.Moment.{Moment}
use Rattle.log_file.specs.declared.Moment.TheVariants.{Idle, InEntry, InChunk}
use Rattle.log_file.specs.declared.LogFileWriter.{LogFileWriter}
use Rattle.log_file.specs.State.{Machine, machine, store_of, position, valid}

pub data Call : Type 0 where
  begin_entry : (id : ℕ) → Call
  begin_chunk : (n : ℕ) → Call
  write : (offered : List ℕ) → Call
  finish commit rollback flush : Call
  recycle : (id : ℕ) → Call
  synchronize : (t : ℕ) → Call
  landing : SeekFrom → Call

-- ---- the moment

abbrev pub is_idle : Moment → Bool
is_idle Idle = true
is_idle (InEntry id start) = false
is_idle (InChunk id start n owed crc) = false

abbrev pub in_entry : Moment → Bool
in_entry Idle = false
in_entry (InEntry id start) = true
in_entry (InChunk id start n owed crc) = false

abbrev pub in_chunk : Moment → Bool
in_chunk Idle = false
in_chunk (InEntry id start) = false
in_chunk (InChunk id start n owed crc) = true

-- its numbers, 0 where it has none
abbrev pub entry_id : Moment → ℕ
entry_id Idle = 0
entry_id (InEntry id start) = id
entry_id (InChunk id start n owed crc) = id

abbrev pub entry_start : Moment → ℕ
entry_start Idle = 0
entry_start (InEntry id start) = start
entry_start (InChunk id start n owed crc) = start

abbrev pub length_of : Moment → ℕ
length_of Idle = 0
length_of (InEntry id start) = 0
length_of (InChunk id start n owed crc) = n

abbrev pub owed_of : Moment → ℕ
owed_of Idle = 0
owed_of (InEntry id start) = 0
owed_of (InChunk id start n owed crc) = owed

abbrev pub sum_of : Moment → ℕ
sum_of Idle = 0
sum_of (InEntry id start) = 0
sum_of (InChunk id start n owed crc) = crc

-- ---- the refusals of each call, in their order; 12 comes before all

unfoldable pub checks : LogFileWriter → Call → List Check
checks w (begin_entry id) = (not (is_idle w.moment) ⇒ 6) ∷ (ltb id w.id ⇒ 7) ∷ (ltb w.size (position w + 10) ⇒ 5) ∷ []
checks w (begin_chunk n) = (not (in_entry w.moment) ⇒ 6) ∷ (ltb w.size (position w + (n + 10)) ⇒ 5) ∷ []
checks w (write offered) = (not (in_chunk w.moment) ⇒ 6) ∷ []
checks w finish = (not (in_chunk w.moment) ⇒ 6) ∷ (ltb 0 (owed_of w.moment) ⇒ 8) ∷ []
checks w commit = (not (in_entry w.moment) ⇒ 6) ∷ []
checks w rollback = (is_idle w.moment ⇒ 6) ∷ []
checks w (recycle id) = (not (is_idle w.moment) ⇒ 6) ∷ []
checks w flush = []
checks w (synchronize t) = []
checks w (landing from) = (misses w.size (target from w.file.length (position w)) ⇒ 11) ∷ []

unfoldable pub refusal : Machine → Call → ℕ
refusal m c = first ((not (valid m) ⇒ 12) ∷ checks m.writer c)

-- ---- what an accepted call reports

unfoldable pub reports : LogFileWriter → Call → List ℕ
reports w (begin_entry id) = []
reports w (begin_chunk n) = []
reports w (write offered) = min (length offered) (owed_of w.moment) ∷ []
reports w finish = w.id ∷ (position w - length_of w.moment - 5) ∷ sum_of w.moment ∷ length_of w.moment ∷ []
reports w commit = entry_id w.moment ∷ (position w + 1) ∷ []
reports w rollback = []
reports w (recycle id) = []
reports w flush = []
reports w (synchronize t) = []
reports w (landing from) = place_of (target from w.file.length (position w)) ∷ []

-- ---- what it writes, and in which sizes

-- the header: 4, 1, v bytes
abbrev pub heading : (info : List ℕ) → List (List ℕ)
heading info = (0x6F ∷ 0x6B ∷ 0x77 ∷ version ∷ []) ∷ (length info ∷ []) ∷ info ∷ []

abbrev pub info_of : LogFileWriter → List ℕ
info_of w = take w.info_length w.info

unfoldable pub writes : LogFileWriter → Call → List (List ℕ)
writes w (begin_entry id) = (1 ∷ []) ∷ le 8 id ∷ []
writes w (begin_chunk n) = (2 ∷ []) ∷ le 4 n ∷ []
writes w (write offered) = take (owed_of w.moment) offered ∷ []
writes w finish = le 4 (sum_of w.moment) ∷ []
writes w commit = (3 ∷ []) ∷ []
writes w rollback = []
writes w (recycle id) = heading (info_of w)
writes w flush = []
writes w (synchronize t) = []
writes w (landing from) = []

-- ---- what an accepted call does to the store: most write; some go back first, or flush

unfoldable pub worked : LogFileWriter → Call → Store → Store
worked w (begin_entry id) s = written_all s (writes w (begin_entry id))
worked w (begin_chunk n) s = written_all s (writes w (begin_chunk n))
worked w (write offered) s = written_all s (writes w (write offered))
worked w finish s = written_all s (writes w finish)
worked w commit s = written_all s (writes w commit)
worked w rollback s = back_to s (entry_start w.moment)
worked w (recycle id) s = written_all (back_to s 0) (writes w (recycle id))
worked w flush s = flushed s
worked w (synchronize t) s = synchronized s t
worked w (landing from) s = s

-- ---- and to the rest of the state: the segment id, the last id, the moment

abbrev pub opened_chunk : (n : ℕ) → Moment → Moment
opened_chunk n Idle = Idle
opened_chunk n (InEntry id start) = InChunk id start n n (chunk_sum n [])
opened_chunk n (InChunk id start m owed crc) = InChunk id start m owed crc

abbrev pub got : List ℕ → Moment → Moment
got taken Idle = Idle
got taken (InEntry id start) = InEntry id start
got taken (InChunk id start n owed crc) = InChunk id start n (owed - length taken) (crc_append crc taken)

abbrev pub closed_chunk : Moment → Moment
closed_chunk Idle = Idle
closed_chunk (InEntry id start) = InEntry id start
closed_chunk (InChunk id start n owed crc) = InEntry id start

unfoldable pub moment_after : LogFileWriter → Call → Moment
moment_after w (begin_entry id) = InEntry id (position w)
moment_after w (begin_chunk n) = opened_chunk n w.moment
moment_after w (write offered) = got (take (owed_of w.moment) offered) w.moment
moment_after w finish = closed_chunk w.moment
moment_after w commit = Idle
moment_after w rollback = Idle
moment_after w (recycle id) = Idle
moment_after w flush = w.moment
moment_after w (synchronize t) = w.moment
moment_after w (landing from) = w.moment

unfoldable pub last_after : LogFileWriter → Call → Option ℕ
last_after w (begin_entry id) = w.last
last_after w (begin_chunk n) = w.last
last_after w (write offered) = w.last
last_after w finish = w.last
last_after w commit = Some (entry_id w.moment)
last_after w rollback = w.last
last_after w (recycle id) = None
last_after w flush = w.last
last_after w (synchronize t) = w.last
last_after w (landing from) = w.last

unfoldable pub id_after : LogFileWriter → Call → ℕ
id_after w (begin_entry id) = w.id
id_after w (begin_chunk n) = w.id
id_after w (write offered) = w.id
id_after w finish = w.id
id_after w commit = w.id
id_after w rollback = w.id
id_after w (recycle id) = id
id_after w flush = w.id
id_after w (synchronize t) = w.id
id_after w (landing from) = w.id

-- the writer with other numbers, and what is never changed
abbrev pub rewritten : LogFileWriter → (id : ℕ) → Buffered → Option ℕ → Moment → LogFileWriter
rewritten w id file last moment =
    record { id = id; info = w.info; info_length = w.info_length; size = w.size; capacity = w.capacity; file = file; last = last; moment = moment }

unfoldable pub acted : Machine → Call → Machine
acted m c =
    let w = m.writer in
    let s = worked w c (store_of m) in
    machine (rewritten w (id_after w c) s.file (last_after w c) (moment_after w c)) s.image s.staging

-- ---- a call's answer, and what it leaves: a refusal changes nothing

pub record Called : Type 0 where
  pub answer : Answer
  pub machine' : Machine

abbrev pub after : Answer → Machine → Called
after a m = record { answer = a; machine' = m }

unfoldable pub called : Machine → Call → Called
called m c = after (reply (refusal m c) (reports m.writer c)) (obey (refusal m c) m (acted m c))
