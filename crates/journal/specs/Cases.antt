-- Cases as data: what is done and asked, and what is to come of it, byte by byte and number by number. That they hold of the definitions that the public
-- promises cite is `cases-hold` of `CasesHold`.
-- Where not named: id 1, no version info, F = 0, sizes and preallocation 64. The old bytes are 7 in the image and 9 in staging, so that none is there
-- by chance.
use Rattle.std.specs.Prelude.{ℕ, zero, suc, ◌-◌, ◌≡◌, List, [], ◌∷◌, take, drop, replicate, ℤ, pos, negsuc, None}
use Rattle.lists.specs.Answers.{Answer, accepted, refused}
use Rattle.entry.specs.declared.LogPosition.{LogPosition}
use Rattle.entry.specs.Position.{written, serialized}
use Rattle.std.specs.declared.io.SeekFrom.TheVariants.{Start, Current}
use Rattle.buffered.specs.Staging.{logical}
use Rattle.log_file.specs.State as State
use Rattle.log_file.specs.State.{Machine, store_of}
use Rattle.log_file.specs.Calls.{Call, begin_entry, begin_chunk, finish, commit, rollback, synchronize, landing, Called, called}
use Rattle.log_file.specs.Opening.{terms, opened}
use Rattle.segment_reader.specs.declared.SegmentReader.{SegmentReader}
use Rattle.segment_reader.specs.Calls as Read
use Rattle.segment_reader.specs.Calls.{answer_of, new, next_entry, next_chunk, skip_rest, read_by}

-- ---- a case: what is done and asked, line by line, with what is to come of it

-- how the writer is opened
pub record Setting : Type 0 where
  pub image : ℕ
  pub preallocate : ℕ
  pub validated : ℕ
  pub file_length : ℕ

-- asked of it in turn: the opening's answer; a call's answer (what follows is asked of the writer that it leaves); the logical segment and position; the
-- file position; image bytes from one to another, both included
pub data Ask : Type 0 where
  opening segment position file_position : Ask
  call : Call → Ask
  image_bytes : (from to : ℕ) → Ask

pub data Fact : Type 0 where
  says : Answer → Fact
  bytes : List ℕ → Fact
  number : ℕ → Fact

infix 40 ◌gives◌
pub data Line : Type 0 where
  ◌gives◌ : Ask → Fact → Line

-- asked of a reader: a call, its answer, and `valid_until` after it
pub record ReadLine : Type 0 where
  pub call : Read.Call
  pub answer : Answer
  pub valid_until : ℕ

-- a writer; a position, stored into 16 bytes; a reader opened over an image with file id 1, the opening's answer, and what is asked of it
pub data Case : Type 0 where
  writer : Setting → List Line → Case
  stored : LogPosition → List ℕ → Case
  reader : (image : List ℕ) → Answer → List ReadLine → Case

-- ---- when it holds

abbrev pub opened_in : Setting → Called
opened_in s = opened (terms 1 None [] s.preallocate) s.validated s.file_length (replicate s.image 7) (replicate 64 9)

-- what is found, line by line; a is the opening's answer
unfoldable pub found : (a : Answer) → Machine → List Line → List Fact
found a m [] = []
found a m ((opening gives f) ∷ lines) = says a ∷ found a m lines
found a m ((segment gives f) ∷ lines) = bytes (logical (store_of m)) ∷ found a m lines
found a m ((position gives f) ∷ lines) = number (State.position m.writer) ∷ found a m lines
found a m ((file_position gives f) ∷ lines) = number m.writer.file.position ∷ found a m lines
found a m ((call c gives f) ∷ lines) = says (called m c).answer ∷ found a (called m c).machine' lines
found a m ((image_bytes from to gives f) ∷ lines) = bytes (take (suc to - from) (drop from m.image)) ∷ found a m lines

abbrev pub expected : List Line → List Fact
expected [] = []
expected ((ask gives f) ∷ lines) = f ∷ expected lines

-- the same of a reader
unfoldable pub readings : SegmentReader → (image : List ℕ) → List ReadLine → List ReadLine
readings r image [] = []
readings r image (l ∷ lines) =
    let s = read_by l.call r image in
    record { call = l.call; answer = answer_of s.reply; valid_until = s.reader.valid_until } ∷ readings s.reader image lines

abbrev pub Holds : Case → Type 0
Holds (writer s lines) = found (opened_in s).answer (opened_in s).machine' lines ≡ expected lines
Holds (stored p bs) = serialized p (replicate 16 7) ≡ written (accepted []) bs
Holds (reader image a lines) = (answer_of (new 1 image).reply ≡ a) × (readings (new 1 image).reader image lines ≡ lines)

abbrev pub AllHold : List Case → Type 0
AllHold [] = Unit {0}
AllHold (c ∷ cs) = Holds c × AllHold cs

-- ---- the cases

-- a fresh opening, image and preallocation of n bytes
abbrev fresh : ℕ → Setting
fresh n = record { image = n; preallocate = n; validated = 0; file_length = 0 }

-- -n
abbrev minus : ℕ → ℤ
minus zero = pos 0
minus (suc n) = negsuc n

-- fresh: the header, position 5
abbrev pub fresh_header : Case
fresh_header =
    writer (fresh 64)
    ((opening gives says (accepted [])) ∷ (segment gives bytes (0x6F ∷ 0x6B ∷ 0x77 ∷ 0x00 ∷ 0x00 ∷ [])) ∷ (position gives number 5) ∷ [])

-- begin 1, empty chunk, commit: the whole segment. Chunk at 14, length 24
abbrev pub whole_segment : Case
whole_segment =
    writer (fresh 64)
    ((call (begin_entry 1) gives says (accepted [])) ∷ (call (begin_chunk 0) gives says (accepted []))
    ∷ (call finish gives says (accepted (1 ∷ 14 ∷ 0 ∷ 0 ∷ []))) ∷ (call commit gives says (accepted (1 ∷ 24 ∷ [])))
    ∷ (segment gives bytes (0x6F ∷ 0x6B ∷ 0x77 ∷ 0x00 ∷ 0x00 ∷ 0x01 ∷ 0x01 ∷ 0x00 ∷ 0x00 ∷ 0x00 ∷ 0x00 ∷ 0x00 ∷ 0x00 ∷ 0x00 ∷ 0x02 ∷ 0x00 ∷ 0x00 ∷ 0x00 ∷ 0x00 ∷ 0x00 ∷ 0x00 ∷ 0x00 ∷ 0x00 ∷ 0x03 ∷ []))
    ∷ (position gives number 24) ∷ [])

-- image and preallocation 14: begin refused 5
abbrev pub image_of_14 : Case
image_of_14 = writer (fresh 14) ((opening gives says (accepted [])) ∷ (call (begin_entry 1) gives says (refused 5)) ∷ [])

-- 15: accepted, commit ends at 15
abbrev pub image_of_15 : Case
image_of_15 = writer (fresh 15) ((call (begin_entry 1) gives says (accepted [])) ∷ (call commit gives says (accepted (1 ∷ 15 ∷ []))) ∷ [])

-- id 0 in segment 1: 7; id 1: accepted
abbrev pub id_below_segment : Case
id_below_segment = writer (fresh 64) ((call (begin_entry 0) gives says (refused 7)) ∷ (call (begin_entry 1) gives says (accepted [])) ∷ [])

-- position 1, 2
abbrev pub position_bytes : Case
position_bytes =
    stored (record { file_id = 1; offset = 2 })
    (0x01 ∷ 0x00 ∷ 0x00 ∷ 0x00 ∷ 0x00 ∷ 0x00 ∷ 0x00 ∷ 0x00 ∷ 0x02 ∷ 0x00 ∷ 0x00 ∷ 0x00 ∷ 0x00 ∷ 0x00 ∷ 0x00 ∷ 0x00 ∷ [])

-- version byte 1: 3
abbrev pub version_byte_1 : Case
version_byte_1 = reader (0x6F ∷ 0x6B ∷ 0x77 ∷ 0x01 ∷ 0x00 ∷ []) (refused 3) []

-- four bytes: 1
abbrev pub four_bytes : Case
four_bytes = reader (0x6F ∷ 0x6B ∷ 0x77 ∷ 0x00 ∷ []) (refused 1) []

-- from 5 by -5: 0; by -6: 11; by i64::MIN: 11; to the image size: accepted; one more: 11
abbrev pub landings : Case
landings =
    writer (fresh 64)
    ((position gives number 5) ∷ (call (landing (Current (minus 5))) gives says (accepted (0 ∷ [])))
    ∷ (call (landing (Current (minus 6))) gives says (refused 11)) ∷ (call (landing (Current (minus 9223372036854775808))) gives says (refused 11))
    ∷ (call (landing (Current (pos 59))) gives says (accepted (64 ∷ []))) ∷ (call (landing (Current (pos 60))) gives says (refused 11))
    ∷ (call (landing (Start 64)) gives says (accepted (64 ∷ []))) ∷ (call (landing (Start 65)) gives says (refused 11)) ∷ [])

-- L = 100, F = 1000, p = 1024, image 1024: bytes 100 to 123 and 1000 to 1023 zero, and their neighbours not
abbrev pub padding : Case
padding =
    writer (record { image = 1024; preallocate = 1024; validated = 100; file_length = 1000 })
    ((opening gives says (accepted [])) ∷ (image_bytes 100 123 gives bytes (replicate 24 0)) ∷ (image_bytes 1000 1023 gives bytes (replicate 24 0))
    ∷ (image_bytes 0 99 gives bytes (replicate 100 7)) ∷ (image_bytes 124 999 gives bytes (replicate 876 7)) ∷ (position gives number 100) ∷ [])

-- a staged rollback, which okaywal answers otherwise: begin 1, empty chunk, rollback, begin 2, commit (15), sync: the position stays 15
abbrev pub staged_rollback : Case
staged_rollback =
    writer (fresh 64)
    ((call (begin_entry 1) gives says (accepted [])) ∷ (call (begin_chunk 0) gives says (accepted []))
    ∷ (call finish gives says (accepted (1 ∷ 14 ∷ 0 ∷ 0 ∷ []))) ∷ (call rollback gives says (accepted [])) ∷ (position gives number 5)
    ∷ (call (begin_entry 2) gives says (accepted [])) ∷ (call commit gives says (accepted (2 ∷ 15 ∷ []))) ∷ (call (synchronize 15) gives says (accepted []))
    ∷ (position gives number 15) ∷ (file_position gives number 15)
    ∷ (segment gives bytes (0x6F ∷ 0x6B ∷ 0x77 ∷ 0x00 ∷ 0x00 ∷ 0x01 ∷ 0x02 ∷ 0x00 ∷ 0x00 ∷ 0x00 ∷ 0x00 ∷ 0x00 ∷ 0x00 ∷ 0x00 ∷ 0x03 ∷ [])) ∷ [])

-- an entry skipped, which okaywal does twice: entry 1 (empty chunk), entry 2 (no chunk), zeros to 64. Entry 2 is found at 24, then ended at 34
abbrev two_entries : List ℕ
two_entries =
    0x6F ∷ 0x6B ∷ 0x77 ∷ 0x00 ∷ 0x00 ∷ 0x01 ∷ 0x01 ∷ 0x00 ∷ 0x00 ∷ 0x00 ∷ 0x00 ∷ 0x00 ∷ 0x00 ∷ 0x00 ∷ 0x02 ∷ 0x00 ∷ 0x00 ∷ 0x00 ∷ 0x00 ∷ 0x00 ∷ 0x00 ∷ 0x00 ∷ 0x00 ∷ 0x03 ∷ 0x01 ∷ 0x02 ∷ 0x00 ∷ 0x00 ∷ 0x00 ∷ 0x00 ∷ 0x00 ∷ 0x00 ∷ 0x00 ∷ 0x03 ∷ replicate 30 0

abbrev read_line : Read.Call → Answer → ℕ → ReadLine
read_line c a v = record { call = c; answer = a; valid_until = v }

abbrev pub double_skip : Case
double_skip =
    reader two_entries (accepted [])
    (read_line next_entry (accepted (1 ∷ 1 ∷ [])) 5 ∷ read_line next_entry (accepted (1 ∷ 2 ∷ [])) 24 ∷ read_line next_entry (accepted (0 ∷ [])) 34 ∷ [])

-- the same, with its chunk opened and left by a call
abbrev pub double_skip_by_call : Case
double_skip_by_call =
    reader two_entries (accepted [])
    (read_line next_entry (accepted (1 ∷ 1 ∷ [])) 5 ∷ read_line next_chunk (accepted (1 ∷ 14 ∷ 0 ∷ [])) 5 ∷ read_line skip_rest (accepted []) 5
    ∷ read_line next_entry (accepted (1 ∷ 2 ∷ [])) 24 ∷ read_line next_entry (accepted (0 ∷ [])) 34 ∷ [])

abbrev pub cases : List Case
cases =
    fresh_header ∷ whole_segment ∷ image_of_14 ∷ image_of_15 ∷ id_below_segment ∷ position_bytes ∷ version_byte_1 ∷ four_bytes ∷ landings ∷ padding
    ∷ staged_rollback ∷ double_skip ∷ double_skip_by_call ∷ []
