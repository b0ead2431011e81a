-- One call by its name: what it answers and leaves is what that call does (`read_by` of `Calls`), its bytes too.
use Rattle.std.specs.Prelude.{List, [], ◌≡◌, ℕ, Result, Ok, Err, IfOk}
use Rattle.entry.specs.declared.Refusal.{Refusal}
use Rattle.segment_reader.specs.Calls as calls
use Rattle.segment_reader.specs.Calls.{next_entry, next_chunk, crc_check, skip_rest, whole_entry, data_read, read_by, read_bytes, step}
use Rattle.segment_reader.specs.Promises.{reply_of, entry_values, chunk_values, part_values, crc_values, whole_values}
use Rattle.segment_reader.specs.declared.SegmentReader.{SegmentReader}
use Rattle.segment_reader.specs.declared.calls.Call.{Call}
use Rattle.segment_reader.specs.declared.calls.Call.TheVariants.{Entry, Chunk, Data, Check, Skip, Whole}
use Rattle.segment_reader.specs.declared.calls.Reply.{Reply}
use Rattle.segment_reader.specs.declared.calls.Reply.TheVariants.{Entry as EntryReply, Chunk as ChunkReply, Data as DataReply, Check as CheckReply, Skipped, Whole as WholeReply}

abbrev pub call_of : Call → calls.Call
call_of Entry = next_entry
call_of Chunk = next_chunk
call_of (Data asked) = data_read asked
call_of Check = crc_check
call_of Skip = skip_rest
call_of Whole = whole_entry

abbrev pub step_values : Reply → List ℕ
step_values (EntryReply entry) = entry_values entry
step_values (ChunkReply chunk) = chunk_values chunk
step_values (DataReply part) = part_values part
step_values (CheckReply right) = crc_values right
step_values Skipped = []
step_values (WholeReply entry) = whole_values entry

-- the bytes that are handed out: a read's
abbrev pub bytes_in : Reply → List ℕ
bytes_in (EntryReply entry) = []
bytes_in (ChunkReply chunk) = []
bytes_in (DataReply part) = part.bytes.now
bytes_in (CheckReply right) = []
bytes_in Skipped = []
bytes_in (WholeReply entry) = []

abbrev pub bytes_given : Result Reply Refusal → List ℕ
bytes_given (Ok reply) = bytes_in reply
bytes_given (Err why) = []

abbrev pub bytes_by : Call → SegmentReader → List ℕ → List ℕ
bytes_by Entry r image = []
bytes_by Chunk r image = []
bytes_by (Data asked) r image = read_bytes r image asked
bytes_by Check r image = []
bytes_by Skip r image = []
bytes_by Whole r image = []

-- of what kind a reply is: a verdict and the word for an entry or none are one number each
pub data Kind : Type 0 where
  an_entry a_chunk a_part a_verdict nothing a_whole : Kind

abbrev pub asked : Call → Kind
asked Entry = an_entry
asked Chunk = a_chunk
asked (Data count) = a_part
asked Check = a_verdict
asked Skip = nothing
asked Whole = a_whole

abbrev pub given : Reply → Kind
given (EntryReply entry) = an_entry
given (ChunkReply chunk) = a_chunk
given (DataReply part) = a_part
given (CheckReply right) = a_verdict
given Skipped = nothing
given (WholeReply entry) = a_whole

-- what kind of reply an answer is, or the refusal
abbrev pub kind_given : Result Reply Refusal → Result Kind Refusal
kind_given (Ok reply) = Ok (given reply)
kind_given (Err why) = Err why

-- the call's answer and bytes, and of the call's kind
abbrev pub StepAllows : Call → SegmentReader → List ℕ → Result Reply Refusal → SegmentReader → Type 0
StepAllows c r image result r' =
    (step r' (reply_of step_values result) ≡ read_by (call_of c) r image) × (bytes_given result ≡ bytes_by c r image)
    × IfOk result (λ reply. given reply ≡ asked c)
