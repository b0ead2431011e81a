-- The theorems used on concrete runs, and what they say there computed beside them, so that none holds for an empty reason: two runs of the code with
-- other stagings, file lengths, old bytes, cuts, flushes and syncs; and the segment that one of them leaves.
use Rattle.std.specs.Prelude.{ℕ, ◌≡◌, refl, List, [], ◌∷◌, take, replicate, pos, None, Result, Ok, Err, IfOk}
use Rattle.std.specs.declared.io.SeekFrom.TheVariants.{End, Current}
use Rattle.std.proofs.Common.{arith}
use mathlib.Core.List.{flat_map}
use Rattle.lists.specs.Lay.{lay}
use Rattle.lists.specs.Walk.{walk, around}
use Rattle.lists.specs.Answers.{Answer, accepted, refused}
use Rattle.lists.specs.Numbers.{le, from_le, number}
use Rattle.crc32c.specs.Crc.{bit_step, steps, byte_step, update, crc_append}
use Rattle.entry.specs.declared.Refusal.{Refusal}
use Rattle.entry.specs.declared.Refusal.TheVariants.{LowId, OutsideImage}
use Rattle.entry.specs.Refusal.{answer_of}
use Rattle.entry.specs.Format.{header, covered, chunk_sum, chunk, Entry, entry, segment}
use Rattle.buffered.specs.Staging.{flushed, direct, staged, emptied, rounds, written, written_all, back_to, synchronized}
use Rattle.log_file.specs.State.{Machine, position, ruled, valid}
use Rattle.log_file.specs.Calls.{after, checks, refusal, reports, writes, worked, moment_after, last_after, id_after, acted, called}
use Rattle.log_file.specs.Opening.{Terms, padded, open_refusal, prepared, unheaded, headed, opened_machine, opened}
use Rattle.log_file.specs.declared.calls.Call.{Call}
use Rattle.log_file.specs.declared.calls.Call.TheVariants.{BeginEntry, BeginChunk, Write, Finish, Commit, Flush, Synchronize, Seek}
use Rattle.log_file.specs.declared.calls.Reply.{Reply}
use Rattle.log_file.specs.declared.calls.Reply.TheVariants.{Done, Taken, Chunk, Entry as Committed, Place}
use Rattle.log_file.specs.Step.{call_of, asked, given, reply_values}
use Rattle.log_file.specs.History.{fresh, begun, opening, causes}
use Rattle.segment_reader.specs.declared.survey.EntryRead.{EntryRead}
use Rattle.segment_reader.specs.declared.survey.SegmentRead.{SegmentRead}
use Rattle.segment_reader.specs.declared.survey.Verdict.TheVariants.{Complete, Aborted}
use Rattle.reading.specs.Reading as Reading
use Rattle.reading.specs.Reading.{standing, skip_turn, skip, lead, also, whole_turn, whole, left as leaving}
use Rattle.reading.specs.WholeReading.{after as after', landed, onward, with_entry, read_turn, read_from}
use Rattle.segment_reader.specs.Driver.{verdict_read, entry_read, noted, recorded, one_if, completes, survey_of, read_opened, read_segment, ReadSegmentAllows}
use Rattle.journal.specs.Stories.{calls, canon_from, canon, story, answers_of}
use Rattle.journal.specs.CutsDoNotShow.{Given, ours}
use Rattle.journal.specs.CodeRuns.{Opening, OpensFresh, opened_as, Stepping, Run, hears, OneStory}
use Rattle.journal.proofs.CutsDoNotShowHolds.{two-runs-of-the-code}
use Rattle.journal.specs.Committed.{history_after, writer_after, AtRest, HoldsSegment, GivesBack}
use Rattle.journal.specs.BackFromBytes.{back-from-bytes}
use Rattle.journal.specs.CommittedLaws.{committed-segment}

-- ---- runs of the code, from a list of calls with the results that they get

pub record Line : Type 0 where
  pub call : Call
  pub result : Result Reply Refusal

abbrev does : Call → Reply → Line
does c reply = record { call = c; result = Ok reply }

abbrev fails : Call → Refusal → Line
fails c why = record { call = c; result = Err why }

abbrev offers : List ℕ → (count : ℕ) → Line
offers bs count = does (Write (record { ref_ptr = (0, 0); now = bs })) (Taken count)

abbrev leaves : Machine → Line → Machine
leaves m l = (called m (call_of l.call)).machine'

abbrev step : Machine → Line → Stepping
step m l =
    record {
      call = l.call;
      result = l.result;
      writer = (leaves m l).writer;
      image = (leaves m l).image;
      staging = (leaves m l).staging;
    }

abbrev steppings : Machine → List Line → List Stepping
steppings m [] = []
steppings m (l ∷ ls) = step m l ∷ steppings (leaves m l) ls

-- the results are those of the promise
abbrev Fits : Machine → List Line → Type 0
Fits m [] = Unit {0}
Fits m (l ∷ ls) =
    ((answer_of reply_values l.result ≡ (called m (call_of l.call)).answer) × IfOk l.result (λ reply. given reply ≡ asked (call_of l.call)))
    × Fits (leaves m l) ls

fitting : (m : Machine) (ls : List Line) → Fits m ls → Run m (steppings m ls)
fitting m [] f = tt
fitting m (l ∷ ls) f = ((λ i. after (f.0.0 i) (leaves m l), f.0.1), fitting (leaves m l) ls f.1)

-- ---- two of them

abbrev some_terms : Terms
some_terms = record { id = 1; last = None; info = []; preallocate = 64 }

-- no staging; and a staging of 8 bytes in front of a longer file
abbrev one : Given
one = record { file_length = 0; image = replicate 64 7; staging = [] }

abbrev other : Given
other = record { file_length = 30; image = replicate 64 8; staging = replicate 8 9 }

abbrev opens : Given → Opening
opens g =
    let m = (ours.opens some_terms g).machine' in
    record { result = Ok tt; writer = m.writer; image = m.image; staging = m.staging }

-- the chunk that both finish
abbrev finished : Reply
finished = Chunk (record { position = record { file_id = 1; offset = 14 }; crc = 0xF130_F21E; length = 3 })

abbrev committed : Reply
committed = Committed (record { id = 1; position = 27 })

-- a chunk of 3 is offered 4 bytes at once; or in pieces, with a flush, a sync, an empty piece and a landing from the file length in between. The last call
-- is refused
abbrev lines₁ : List Line
lines₁ =
    does (BeginEntry 1) Done ∷ does (BeginChunk 3) Done ∷ offers (1 ∷ 2 ∷ 3 ∷ 4 ∷ []) 3 ∷ does Finish finished ∷ does Commit committed
    ∷ does (Seek (Current (pos 0))) (Place 27) ∷ fails (BeginEntry 0) LowId ∷ []

abbrev lines₂ : List Line
lines₂ =
    does (BeginEntry 1) Done ∷ does Flush Done ∷ does (BeginChunk 3) Done ∷ offers (1 ∷ []) 1 ∷ does (Synchronize 9) Done ∷ offers (2 ∷ 3 ∷ []) 2
    ∷ offers [] 0 ∷ offers (4 ∷ []) 0 ∷ does Finish finished ∷ fails (Seek (End (pos 1))) OutsideImage ∷ does Commit committed ∷ does Flush Done
    ∷ does (Seek (Current (pos 0))) (Place 27) ∷ fails (BeginEntry 0) LowId ∷ []

fits₁ : Fits (opened_as (opens one)) lines₁
unfolding opened open_refusal padded opened_machine headed unheaded prepared lay written_all written rounds emptied staged direct flushed called refusal ruled valid checks reports writes worked moment_after last_after id_after acted back_to synchronized le chunk_sum covered crc_append update byte_step steps bit_step
fits₁ = ((refl, refl), ((refl, refl), ((refl, refl), ((refl, refl), ((refl, refl), ((refl, refl), ((refl, tt), tt)))))))

fits₂ : Fits (opened_as (opens other)) lines₂
unfolding opened open_refusal padded opened_machine headed unheaded prepared lay written_all written rounds emptied staged direct flushed called refusal ruled valid checks reports writes worked moment_after last_after id_after acted back_to synchronized le chunk_sum covered crc_append update byte_step steps bit_step
fits₂ = ((refl, refl), ((refl, refl), ((refl, refl), ((refl, refl), ((refl, refl), ((refl, refl), ((refl, refl), ((refl, refl), ((refl, refl), ((refl, tt), ((refl, refl), ((refl, refl), ((refl, refl), ((refl, tt), tt))))))))))))))

-- ---- what is said of these two

opened-so : (OpensFresh some_terms one (opens one)) × (OpensFresh some_terms other (opens other))
unfolding opened open_refusal padded
opened-so = (refl, refl)

same-form : canon (calls (hears (steppings (opened_as (opens one)) lines₁))) ≡ canon (calls (hears (steppings (opened_as (opens other)) lines₂)))
unfolding canon_from
same-form = refl

two-of-them : OneStory 64 (fresh [] 1 None) (opened_as (opens one)) (opened_as (opens other)) (hears (steppings (opened_as (opens one)) lines₁))
    (hears (steppings (opened_as (opens other)) lines₂))
two-of-them =
    two-runs-of-the-code some_terms one other (record { staging = omega arith; file = omega arith }) (record { staging = omega arith; file = omega arith })
    refl (opens one) (opens other) opened-so.0 opened-so.1 refl (steppings (opened_as (opens one)) lines₁)
    (steppings (opened_as (opens other)) lines₂) (fitting (opened_as (opens one)) lines₁ fits₁) (fitting (opened_as (opens other)) lines₂ fits₂)
    same-form

-- the answers that agree, computed in each run
abbrev agreed : List Answer
agreed =
    accepted [] ∷ accepted [] ∷ accepted (1 ∷ 14 ∷ 0xF130_F21E ∷ 3 ∷ []) ∷ accepted (1 ∷ 27 ∷ []) ∷ accepted (27 ∷ []) ∷ refused 7 ∷ []

answers₁ : answers_of (story (opened_as (opens one)) (hears (steppings (opened_as (opens one)) lines₁))) ≡ agreed
unfolding story
answers₁ = refl

answers₂ : answers_of (story (opened_as (opens other)) (hears (steppings (opened_as (opens other)) lines₂))) ≡ agreed
unfolding story
answers₂ = refl

-- ---- the segment that the second leaves, idle and flushed: one entry with one chunk

rests : AtRest (writer_after (opened_as (opens other)) (steppings (opened_as (opens other)) lines₂))
unfolding opened open_refusal padded opened_machine headed unheaded prepared lay written_all written rounds emptied staged direct flushed called refusal ruled valid checks reports writes worked moment_after last_after id_after acted back_to synchronized le chunk_sum covered crc_append update byte_step steps bit_step
rests = record { idle = refl; none_staged = refl }

abbrev entries : List Entry
entries = record { id = 1; chunks = (1 ∷ 2 ∷ 3 ∷ []) ∷ [] } ∷ []

committed_entries : (history_after 64 (fresh [] 1 None) (calls (hears (steppings (opened_as (opens other)) lines₂)))).committed ≡ entries
unfolding causes segment header flat_map entry chunk begun opening le chunk_sum covered crc_append update byte_step steps bit_step
committed_entries = refl

left_behind : HoldsSegment (writer_after (opened_as (opens other)) (steppings (opened_as (opens other)) lines₂)) [] entries
left_behind =
    rw committed_entries at
    (committed-segment some_terms other (opens other) opened-so.1 refl (steppings (opened_as (opens other)) lines₂)
    (fitting (opened_as (opens other)) lines₂ fits₂)
    (omega arith)
    rests)

-- that image, computed; and what `read_segment` answers of it, with a list of one entry for its records
abbrev left_bytes : List ℕ
left_bytes =
    0x6F ∷ 0x6B ∷ 0x77 ∷ 0x00 ∷ 0x00 ∷ 0x01 ∷ 0x01 ∷ 0x00 ∷ 0x00 ∷ 0x00 ∷ 0x00 ∷ 0x00 ∷ 0x00 ∷ 0x00 ∷ 0x02 ∷ 0x03 ∷ 0x00 ∷ 0x00 ∷ 0x00 ∷ 0x01 ∷ 0x02 ∷ 0x03 ∷ 0x1E ∷ 0xF2 ∷ 0x30 ∷ 0xF1 ∷ 0x03 ∷ []

abbrev left : Machine
left = writer_after (opened_as (opens other)) (steppings (opened_as (opens other)) lines₂)

left-image : (take (position left.writer) left.image ≡ left_bytes) × (left.writer.id ≡ 1)
unfolding opened open_refusal padded opened_machine headed unheaded prepared lay written_all written rounds emptied staged direct flushed called refusal ruled valid checks reports writes worked moment_after last_after id_after acted back_to synchronized le chunk_sum covered crc_append update byte_step steps bit_step
left-image = (refl, refl)

-- the list before, and after it: complete with one chunk, id 1, chunks from 14 on
abbrev before : List EntryRead
before = record { verdict = Aborted; id = 9; place = 9 } ∷ []

abbrev found : List EntryRead
found = record { verdict = Complete 1; id = 1; place = 14 } ∷ []

abbrev answer : Result SegmentRead Refusal
answer = Ok (record { met = 1; complete = 1; valid_until = 27 })

read-so : ReadSegmentAllows 1 left_bytes before answer found
unfolding read_segment read_opened survey_of Reading.opened read_from around walk read_turn onward landed after' with_entry completes one_if recorded noted entry_read verdict_read standing skip skip_turn lead whole whole_turn also leaving number from_le covered chunk_sum crc_append update byte_step steps bit_step
read-so = refl

given_back : GivesBack (take (position left.writer) left.image) [] entries (position left.writer) before answer found
given_back =
    rw committed_entries at
    (back-from-bytes some_terms other (opens other) opened-so.1 refl (steppings (opened_as (opens other)) lines₂)
    (fitting (opened_as (opens other)) lines₂ fits₂)
    (omega arith)
    rests
    before
    answer
    found
    (rw (left-image.1, left-image.0) read-so))
