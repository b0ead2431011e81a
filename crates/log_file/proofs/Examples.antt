-- Document 01's cases, computed from the definitions that the promises cite: P1 to P5, P9, P10 and the staged rollback of P11.
use Rattle.std.specs.Prelude.{ℕ}
use Rattle.std.proofs.Common.{◌≡◌, refl, ◌∙◌}
use mathlib.Core.List.{List, [], ◌∷◌, ◌++◌, map, flat_map}
use Rattle.std.proofs.Math.ListN.{replicate}
use Rattle.std.proofs.Math.IntN.{pos, negsuc}
use Rattle.lists.specs.Lay.{lay}
use Rattle.lists.specs.Answers.{Answer, accepted, refused, number_of}
use Rattle.lists.specs.AnswersLaws.{Every, every}
use Rattle.lists.specs.Numbers.{le}
use Rattle.crc32c.specs.Crc.{bit_step, steps, byte_step, update, crc_append}
use Rattle.entry.specs.Format.{header, covered, chunk_sum, chunk, entry, segment}
use Rattle.std.specs.declared.io.SeekFrom.TheVariants.{Start, End, Current}
use Rattle.buffered.specs.Staging.{logical, flushed, direct, staged, emptied, rounds, written, written_all, back_to, synchronized}
use Rattle.std.specs.Prelude.{None}
use Rattle.log_file.specs.State.{Machine, store_of, position, ruled, valid}
use Rattle.log_file.specs.Calls.{Call, begin_entry, begin_chunk, write, finish, commit, rollback, flush, recycle, synchronize, landing, checks, refusal, reports, writes, worked, moment_after, last_after, id_after, acted, called}
use Rattle.log_file.specs.Opening.{Terms, padded, open_refusal, prepared, unheaded, headed, opened_machine, opened}
use Rattle.log_file.specs.History
use Rattle.log_file.specs.History.{History, begun, opening, bytes, causes, tells, told, next, tellable}
use Rattle.log_file.specs.Shows.{Shows}
use Rattle.log_file.proofs.ShowsTells.{same_answer}
use Rattle.log_file.specs.ShowsLaws.{still-shows, fresh-shows}

-- id 1, no version info
abbrev pub terms : (preallocate : ℕ) → Terms
terms p = record { id = 1; last = None; info = []; preallocate = p }

-- a writer opened fresh, with an image and a preallocation of n bytes and a staging of k; the old bytes are 7 and 9
abbrev pub fresh : (n k : ℕ) → Machine
fresh n k = (opened (terms n) 0 0 (replicate n 7) (replicate k 9)).machine'

-- a trace of calls: the writer after it, and its answers
abbrev pub run : Machine → List Call → Machine
run m [] = m
run m (c ∷ cs) = run (called m c).machine' cs

abbrev pub answers : Machine → List Call → List Answer
answers m [] = []
answers m (c ∷ cs) = (called m c).answer ∷ answers (called m c).machine' cs

-- P1: a fresh segment
pub p1 : ((opened (terms 64) 0 0 (replicate 64 7) (replicate 64 9)).answer ≡ accepted [])
    × (logical (store_of (fresh 64 64)) ≡ 0x6F ∷ 0x6B ∷ 0x77 ∷ 0x00 ∷ 0x00 ∷ [])
    × (position (fresh 64 64).writer ≡ 5)
unfolding opened open_refusal padded opened_machine headed unheaded prepared lay written_all written rounds emptied staged direct flushed
p1 = (refl, refl, refl)

-- P2: an entry of id 1 with an empty chunk; the chunk at 14, the length 24
abbrev one_entry : List Call
one_entry = begin_entry 1 ∷ begin_chunk 0 ∷ finish ∷ commit ∷ []

pub p2 : (answers (fresh 64 64) one_entry ≡ accepted [] ∷ accepted [] ∷ accepted (1 ∷ 14 ∷ 0 ∷ 0 ∷ []) ∷ accepted (1 ∷ 24 ∷ []) ∷ [])
    × (logical (store_of (run (fresh 64 64) one_entry))
    ≡ 0x6F ∷ 0x6B ∷ 0x77 ∷ 0x00 ∷ 0x00 ∷ 0x01 ∷ 0x01 ∷ 0x00 ∷ 0x00 ∷ 0x00 ∷ 0x00 ∷ 0x00 ∷ 0x00 ∷ 0x00 ∷ 0x02 ∷ 0x00 ∷ 0x00 ∷ 0x00 ∷ 0x00 ∷ 0x00 ∷ 0x00 ∷ 0x00 ∷ 0x00 ∷ 0x03 ∷ [])
    × (position (run (fresh 64 64) one_entry).writer ≡ 24)
unfolding opened open_refusal padded opened_machine headed unheaded prepared lay written_all written rounds emptied staged direct flushed called refusal ruled valid checks reports writes worked moment_after last_after id_after acted le chunk_sum covered crc_append update
p2 = (refl, refl, refl)

-- P3: an image of 14 has no room for an entry. P4: one of 15 has, and the commit ends at 15
pub p3 : answers (fresh 14 64) (begin_entry 1 ∷ []) ≡ refused 5 ∷ []
unfolding opened open_refusal padded opened_machine headed unheaded prepared lay written_all written rounds emptied staged direct flushed called refusal ruled valid checks reports writes worked moment_after last_after id_after acted le chunk_sum covered crc_append update
p3 = refl

pub p4 : answers (fresh 15 64) (begin_entry 1 ∷ commit ∷ []) ≡ accepted [] ∷ accepted (1 ∷ 15 ∷ []) ∷ []
unfolding opened open_refusal padded opened_machine headed unheaded prepared lay written_all written rounds emptied staged direct flushed called refusal ruled valid checks reports writes worked moment_after last_after id_after acted le chunk_sum covered crc_append update
p4 = refl

-- P5: id 0 is below the segment's, id 1 is not
pub p5 : answers (fresh 64 64) (begin_entry 0 ∷ begin_entry 1 ∷ []) ≡ refused 7 ∷ accepted [] ∷ []
unfolding opened open_refusal padded opened_machine headed unheaded prepared lay written_all written rounds emptied staged direct flushed called refusal ruled valid checks reports writes worked moment_after last_after id_after acted le chunk_sum covered crc_append update
p5 = refl

-- P9: from 5 by -5, by -6, by i64::MIN; to the image size, and one more
abbrev landings : List Call
landings =
    landing (Current (negsuc 4)) ∷ landing (Current (negsuc 5)) ∷ landing (Current (negsuc 9223372036854775807)) ∷ landing (Start 64)
    ∷ landing (Start 65) ∷ landing (Current (pos 59)) ∷ landing (Current (pos 60)) ∷ landing (End (pos 0)) ∷ landing (End (pos 1)) ∷ []

pub p9 : answers (fresh 64 64) landings
    ≡ accepted (0 ∷ []) ∷ refused 11 ∷ refused 11 ∷ accepted (64 ∷ []) ∷ refused 11 ∷ accepted (64 ∷ []) ∷ refused 11 ∷ accepted (64 ∷ [])
    ∷ refused 11 ∷ []
unfolding opened open_refusal padded opened_machine headed unheaded prepared lay written_all written rounds emptied staged direct flushed called refusal ruled valid checks reports writes worked moment_after last_after id_after acted le chunk_sum covered crc_append update
p9 = refl

-- P10: L = 100, F = 1000, p = 1024: bytes 100 to 123 and 1000 to 1023 become 0, the others stay
pub p10 : ((opened (terms 1024) 100 1000 (replicate 1024 7) (replicate 64 9)).answer ≡ accepted [])
    × ((opened (terms 1024) 100 1000 (replicate 1024 7) (replicate 64 9)).machine'.image
    ≡ replicate 100 7 ++ replicate 24 0 ++ replicate 876 7 ++ replicate 24 0)
    × ((opened (terms 1024) 100 1000 (replicate 1024 7) (replicate 64 9)).machine'.writer.file
    ≡ record { length = 1024; position = 100; staged = 0; synchronized = 100 })
unfolding opened open_refusal padded opened_machine headed unheaded prepared lay written_all written rounds emptied staged direct flushed
p10 = (refl, refl, refl)

-- P11, staged rollback: the position stays 15, and so does the file position after the sync
abbrev rolled_back : List Call
rolled_back = begin_entry 1 ∷ begin_chunk 0 ∷ finish ∷ rollback ∷ begin_entry 2 ∷ commit ∷ synchronize 15 ∷ []

pub p11 : (answers (fresh 64 64) rolled_back
    ≡ accepted [] ∷ accepted [] ∷ accepted (1 ∷ 14 ∷ 0 ∷ 0 ∷ []) ∷ accepted [] ∷ accepted [] ∷ accepted (2 ∷ 15 ∷ []) ∷ accepted [] ∷ [])
    × ((run (fresh 64 64) rolled_back).writer.file ≡ record { length = 64; position = 15; staged = 0; synchronized = 15 })
    × (logical (store_of (run (fresh 64 64) rolled_back))
    ≡ 0x6F ∷ 0x6B ∷ 0x77 ∷ 0x00 ∷ 0x00 ∷ 0x01 ∷ 0x02 ∷ 0x00 ∷ 0x00 ∷ 0x00 ∷ 0x00 ∷ 0x00 ∷ 0x00 ∷ 0x00 ∷ 0x03 ∷ [])
unfolding opened open_refusal padded opened_machine headed unheaded prepared lay written_all written rounds emptied staged direct flushed called refusal ruled valid checks reports writes worked moment_after last_after id_after acted back_to synchronized le chunk_sum covered crc_append update
p11 = (refl, refl, refl)

-- ---- one trace with no staging and with a staging of 8: a piece longer than the chunk, a cut piece, a rollback, a refusal

abbrev trace : List Call
trace =
    begin_entry 1 ∷ begin_chunk 3 ∷ write (1 ∷ []) ∷ flush ∷ write (2 ∷ 3 ∷ 4 ∷ []) ∷ finish ∷ commit ∷ begin_entry 7 ∷ begin_chunk 9 ∷ write (5 ∷ []) ∷ finish
    ∷ rollback ∷ []

abbrev trace_answers : List Answer
trace_answers =
    accepted [] ∷ accepted [] ∷ accepted (1 ∷ []) ∷ accepted [] ∷ accepted (2 ∷ []) ∷ accepted (1 ∷ 14 ∷ 0xF130_F21E ∷ 3 ∷ []) ∷ accepted (1 ∷ 27 ∷ [])
    ∷ accepted [] ∷ accepted [] ∷ accepted (1 ∷ []) ∷ refused 8 ∷ accepted [] ∷ []

abbrev trace_bytes : List ℕ
trace_bytes =
    0x6F ∷ 0x6B ∷ 0x77 ∷ 0x00 ∷ 0x00 ∷ 0x01 ∷ 0x01 ∷ 0x00 ∷ 0x00 ∷ 0x00 ∷ 0x00 ∷ 0x00 ∷ 0x00 ∷ 0x00 ∷ 0x02 ∷ 0x03 ∷ 0x00 ∷ 0x00 ∷ 0x00 ∷ 0x01 ∷ 0x02 ∷ 0x03 ∷ 0x1E ∷ 0xF2 ∷ 0x30 ∷ 0xF1 ∷ 0x03 ∷ []

-- the history's side of it, computed
abbrev begins : History
begins = History.fresh [] 1 None

abbrev pub nexts : (n : ℕ) → History → List Call → History
nexts n h [] = h
nexts n h (c ∷ cs) = nexts n (next n h c) cs

abbrev pub tolds : (n : ℕ) → History → List Call → List Answer
tolds n h [] = []
tolds n h (c ∷ cs) = told n h c ∷ tolds n (next n h c) cs

trace-told : (tolds 64 begins trace ≡ trace_answers) × (bytes (nexts 64 begins trace) ≡ trace_bytes)
unfolding causes tells segment header flat_map entry chunk begun opening le chunk_sum covered crc_append update byte_step steps bit_step
trace-told = (refl, refl)

-- the writer's side: by `still-shows` and `same_answer`, for any staging in range

shown : (n : ℕ) (m : Machine) (h : History) (cs : List Call) → Shows n m h → Shows n (run m cs) (nexts n h cs)
shown n m h [] x = x
shown n m h (c ∷ cs) x = shown n (called m c).machine' (next n h c) cs (still-shows n m h c x)

answered : (n : ℕ) (m : Machine) (h : History) (cs : List Call) → Shows n m h → Every (map tellable cs) → answers m cs ≡ tolds n h cs
answered n m h [] x t = refl
answered n m h (c ∷ cs) x t =
    let a = same_answer n m h c x t.0 in
    let b = answered n (called m c).machine' (next n h c) cs (still-shows n m h c x) t.1 in
    λ i. a i ∷ b i

trace-shown : (k : ℕ) → number_of (opened (terms 64) 0 0 (replicate 64 7) (replicate k 9)).answer ≡ 0
    → (answers (fresh 64 k) trace ≡ trace_answers) × (logical (store_of (run (fresh 64 k) trace)) ≡ trace_bytes)
trace-shown k e =
    let x : Shows 64 (fresh 64 k) begins = fresh-shows (terms 64) 0 (replicate 64 7) (replicate k 9) e in (
      answered 64 (fresh 64 k) begins trace x (every (map tellable trace) refl) ∙ trace-told.0,
      (shown 64 (fresh 64 k) begins trace x).segment ∙ trace-told.1,
    )

-- and the same two, computed
trace-none : (answers (fresh 64 0) trace ≡ trace_answers) × (logical (store_of (run (fresh 64 0) trace)) ≡ trace_bytes)
unfolding opened open_refusal padded opened_machine headed unheaded prepared lay written_all written rounds emptied staged direct flushed called refusal ruled valid checks reports writes worked moment_after last_after id_after acted back_to le chunk_sum covered crc_append update byte_step steps bit_step
trace-none = (refl, refl)

trace-eight : (answers (fresh 64 8) trace ≡ trace_answers) × (logical (store_of (run (fresh 64 8) trace)) ≡ trace_bytes)
unfolding opened open_refusal padded opened_machine headed unheaded prepared lay written_all written rounds emptied staged direct flushed called refusal ruled valid checks reports writes worked moment_after last_after id_after acted back_to le chunk_sum covered crc_append update byte_step steps bit_step
trace-eight = (refl, refl)

-- the theorem's hypothesis holds for both
trace-opened : (number_of (opened (terms 64) 0 0 (replicate 64 7) (replicate 0 9)).answer ≡ 0)
    × (number_of (opened (terms 64) 0 0 (replicate 64 7) (replicate 8 9)).answer ≡ 0)
unfolding opened open_refusal padded
trace-opened = (refl, refl)

-- ---- what no other case shows

-- an entry begins with two writes, of 1 and of 8 bytes, and 8 bytes are staged where the staging holds 8: one byte stays behind
pub write-sizes : (run (fresh 64 8) (begin_entry 1 ∷ [])).writer.file ≡ record { length = 64; position = 13; staged = 1; synchronized = 0 }
unfolding opened open_refusal padded opened_machine headed unheaded prepared lay written_all written rounds emptied staged direct flushed called refusal ruled valid checks reports writes worked moment_after last_after id_after acted le
write-sizes = refl

-- a sync to the synchronized number does nothing
pub sync-none : (run (fresh 64 64) (begin_entry 1 ∷ flush ∷ synchronize 0 ∷ [])).writer.file ≡ record { length = 64; position = 14; staged = 0; synchronized = 0 }
unfolding opened open_refusal padded opened_machine headed unheaded prepared lay written_all written rounds emptied staged direct flushed called refusal ruled valid checks reports writes worked moment_after last_after id_after acted synchronized le
sync-none = refl

-- recycling writes the header and does not flush it
pub recycle-staged : (run (fresh 64 64) (recycle 2 ∷ [])).writer.file ≡ record { length = 64; position = 0; staged = 5; synchronized = 0 }
unfolding opened open_refusal padded opened_machine headed unheaded prepared lay written_all written rounds emptied staged direct flushed called refusal ruled valid checks reports writes worked moment_after last_after id_after acted back_to
recycle-staged = refl

-- the padding rounds up: a validated length of 65 at a preallocation of 64 makes a file of 128
pub rounds-up : (opened (terms 64) 65 65 (replicate 128 7) []).machine'.writer.file ≡ record { length = 128; position = 65; staged = 0; synchronized = 65 }
unfolding opened open_refusal padded opened_machine headed unheaded prepared lay
rounds-up = refl

-- the order of an opening's refusals: 12, 4, 5
abbrev long : (preallocate : ℕ) → Terms
long p = record { id = 1; last = None; info = replicate 256 0; preallocate = p }

pub opening-order : ((opened (long 0) 0 0 (replicate 5 7) []).answer ≡ refused 12) × ((opened (long 64) 0 0 (replicate 5 7) []).answer ≡ refused 4)
unfolding opened open_refusal padded
opening-order = (refl, refl)
