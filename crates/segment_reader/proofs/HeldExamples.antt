-- One entry with one chunk of three bytes, read through the thin reader: what each promise allows there, computed from the definitions, and wrong answers
-- that it does not allow. The reference is any one whose bytes are these.
use mathlib.Core.List.{List, [], ◌∷◌}
use mathlib.Core.Path.{◌≡◌, refl, sym, ap, ◌∙◌}
use Prim.Native.Nat.{ℕ}
use native.Mathlib.Omega.{arith}
use lib.ListN.{get_or}
use denote.Ref.{Bor}
use Rattle.lists.specs.Walk.{walk, around}
use Rattle.lists.specs.Numbers.{from_le, number}
use Rattle.crc32c.specs.Crc.{bit_step, steps, byte_step, update, crc_append}
use Rattle.entry.specs.Format.{covered, chunk_sum}
use Rattle.reading.specs.Reading.{standing, also, whole_turn, whole, left, lead, opened}
use Rattle.segment_reader.specs.State.{stands_at, in_place, fit, leaving, start_of, holding, open_of}
use Rattle.segment_reader.specs.Calls.{Reply, told, refusal, Step, step, resting, opened_with, new, entry_met, entry_from, read_entry, chunk_met, chunk_from, read_chunk, read_in, read, bytes_in, read_bytes, check_at, check_in, check_crc, whole_reply, whole_from, read_all_chunks}
use Rattle.segment_reader.specs.declared.Moment.{Moment}
use Rattle.segment_reader.specs.declared.Moment.TheVariants.{Between, InEntry, InChunk, Ended}
use Rattle.segment_reader.specs.declared.SegmentReader.{SegmentReader}
use Rattle.segment_reader.specs.declared.ReadChunkResult.TheVariants.{Chunk, EndOfEntry}
use Rattle.segment_reader.specs.declared.Part.{Part}
use Rattle.segment_reader.specs.declared.WholeEntry.TheVariants.{Whole, Aborted}
use Rattle.segment_reader.specs.Held.{held, HeldOpenAllows, HeldNewAllows, HeldWithStateAllows, HeldBytesAllows, HeldAfterBytesAllows, HeldPartAllows, HeldCheckCrcAllows, HeldEntryAllows, HeldChunkAllows, HeldWholeAllows, chunks_in, FirstWholeAllows, FirstChunksAllows, FirstBytesAllows, FirstCrcAllows}
use Rattle.segment_reader.specs.HeldLaws.{first-chunks-are}
use Rattle.segment_reader.specs.declared.held.Reader.{Reader}
use Rattle.segment_reader.specs.declared.held.FirstWhole.{FirstWhole}
use Rattle.entry.specs.declared.Refusal.TheVariants.{Short, Magic, NotNow}
use Rattle.std.proofs.Common.{true, false, Some, None, Ok, Err}

-- the segment 1 with the entry 1, whose chunk at 14 is 7, 8, 9
abbrev pub bytes : List ℕ
bytes = 0x6F ∷ 0x6B ∷ 0x77 ∷ 0 ∷ 0 ∷ 1 ∷ 1 ∷ 0 ∷ 0 ∷ 0 ∷ 0 ∷ 0 ∷ 0 ∷ 0 ∷ 2 ∷ 3 ∷ 0 ∷ 0 ∷ 0 ∷ 7 ∷ 8 ∷ 9 ∷ 0x67 ∷ 0xDF ∷ 0x32 ∷ 0xF1 ∷ 3 ∷ []

abbrev pub state : (place : ℕ) → Moment → SegmentReader
state p m = record { file_id = 1; size = 27; version_info_length = 0; place = p; valid_until = 5; moment = m }

abbrev pub fresh : SegmentReader
fresh = state 5 Between

abbrev pub in_entry : SegmentReader
in_entry = state 14 (InEntry 1)

-- in the chunk, with so many bytes owed
abbrev pub in_chunk : (place owed : ℕ) → SegmentReader
in_chunk p owed = state p (InChunk 1 14 3 owed)

-- behind the 03
abbrev pub behind : SegmentReader
behind = state 27 (InEntry 1)

-- two steps that are the same one have one state and one reply
states : {r s : SegmentReader} {a b : Reply} {d : Step} → step r a ≡ d → step s b ≡ d → r ≡ s
states x y = ap (λ (k : Step). k.reader) (x ∙ sym y)

replies : {r s : SegmentReader} {a b : Reply} {d : Step} → step r a ≡ d → step s b ≡ d → a ≡ b
replies x y = ap (λ (k : Step). k.reply) (x ∙ sym y)

module _ (p : ℕ × ℕ) where
  abbrev lent : Bor (List ℕ)
  lent = record { ref_ptr = p; now = bytes }

  -- a part of the image: so many bytes at a place
  abbrev part : (place : ℕ) → List ℕ → Part
  part place xs = record { place = place; bytes = record { ref_ptr = p; now = xs } }

  -- ---- what is allowed

  pub opens : HeldOpenAllows 1 (held lent in_entry) (Ok tt) (held lent fresh)
  unfolding new opened opened_with
  opens = (refl, refl)

  pub enters : HeldEntryAllows (held lent fresh) (Ok (Some 1)) (held lent in_entry)
  unfolding read_entry entry_from entry_met start_of fit in_place leaving lead number from_le
  enters = (refl, refl)

  pub chunk-met : HeldChunkAllows (held lent in_entry) (Ok (Chunk 14 3)) (held lent (in_chunk 19 3))
  unfolding read_chunk chunk_from chunk_met start_of fit in_place leaving standing number from_le
  chunk-met = (refl, refl)

  pub two_bytes : HeldBytesAllows (held lent (in_chunk 19 3)) 2 (Ok (part 19 (7 ∷ 8 ∷ []))) (held lent (in_chunk 21 1))
  unfolding read read_in read_bytes bytes_in open_of holding fit in_place stands_at
  two_bytes = (refl, (refl, refl))

  pub one-owed : HeldAfterBytesAllows (held lent (in_chunk 19 3)) 2 (Ok (19, 2)) (in_chunk 21 1)
  unfolding read read_in open_of holding fit in_place stands_at
  one-owed = refl

  pub crc-right : HeldCheckCrcAllows (held lent (in_chunk 22 0)) (Ok true)
  unfolding check_crc check_in check_at open_of holding fit in_place stands_at number from_le chunk_sum covered crc_append update byte_step steps bit_step
  crc-right = refl

  pub is_whole : HeldWholeAllows (held lent in_entry) (Ok (Whole 14 1)) (held lent behind)
  unfolding read_all_chunks whole_from whole_reply resting left start_of fit in_place leaving whole whole_turn also standing walk around number from_le chunk_sum covered crc_append update byte_step steps bit_step
  is_whole = (refl, refl)

  -- ---- what is not: wrong answers for each promise

  pub record Refuted : Type 0 where
    -- refused, though the header is right; past the header by one byte more
    pub not-refused : HeldOpenAllows 1 (held lent in_entry) (Err Short) (held lent fresh) → ⊥
    pub not-further : HeldOpenAllows 1 (held lent in_entry) (Ok tt) (held lent (state 6 Between)) → ⊥
    -- another state than the one given; a copy of the bytes elsewhere
    pub not-other : HeldNewAllows lent fresh (held lent in_entry) → ⊥
    pub not-copied : (q : ℕ × ℕ) → (q ≡ p → ⊥) → HeldNewAllows lent fresh (held (record { ref_ptr = q; now = bytes }) fresh) → ⊥
    -- the state that it had; the image lost
    pub not-stayed : HeldWithStateAllows (held lent fresh) in_entry (held lent fresh) → ⊥
    pub not-emptied : HeldWithStateAllows (held lent fresh) in_entry (held (record { ref_ptr = p; now = [] }) in_entry) → ⊥
    pub not-emptied-at-opening : HeldOpenAllows 1 (held lent in_entry) (Ok tt) (held (record { ref_ptr = p; now = [] }) fresh) → ⊥
    -- nothing; all that is owed, though two were asked for
    pub not-nothing : HeldBytesAllows (held lent (in_chunk 19 3)) 2 (Ok (part 19 [])) (held lent (in_chunk 21 1)) → ⊥
    pub not-all : HeldBytesAllows (held lent (in_chunk 19 3)) 2 (Ok (part 19 (7 ∷ 8 ∷ 9 ∷ []))) (held lent (in_chunk 21 1)) → ⊥
    pub not-no-part : HeldPartAllows (held lent (in_chunk 19 3)) 2 [] → ⊥
    pub not-all-parts : HeldPartAllows (held lent (in_chunk 19 3)) 2 (7 ∷ 8 ∷ 9 ∷ []) → ⊥
    -- owed not counted down; a made-up count
    pub not-owed : HeldAfterBytesAllows (held lent (in_chunk 19 3)) 2 (Ok (19, 2)) (in_chunk 21 3) → ⊥
    pub not_three : HeldAfterBytesAllows (held lent (in_chunk 19 3)) 2 (Ok (19, 3)) (in_chunk 21 1) → ⊥
    -- the same of the call that gives the bytes too; another place
    pub not-owed-still : HeldBytesAllows (held lent (in_chunk 19 3)) 2 (Ok (part 19 (7 ∷ 8 ∷ []))) (held lent (in_chunk 21 3)) → ⊥
    pub not-behind : HeldBytesAllows (held lent (in_chunk 19 3)) 2 (Ok (part 21 (7 ∷ 8 ∷ []))) (held lent (in_chunk 21 1)) → ⊥
    -- wrong, though it is right; refused, though no byte is owed
    pub not-wrong : HeldCheckCrcAllows (held lent (in_chunk 22 0)) (Ok false) → ⊥
    pub not-six : HeldCheckCrcAllows (held lent (in_chunk 22 0)) (Err NotNow) → ⊥
    -- another id; ended
    pub not-two : HeldEntryAllows (held lent fresh) (Ok (Some 2)) (held lent in_entry) → ⊥
    pub not-ended : HeldEntryAllows (held lent fresh) (Ok None) (held lent (state 5 Ended)) → ⊥
    -- a shorter chunk; the entry's end
    pub not-shorter : HeldChunkAllows (held lent in_entry) (Ok (Chunk 14 2)) (held lent (in_chunk 19 3)) → ⊥
    pub not-closed : HeldChunkAllows (held lent in_entry) (Ok EndOfEntry) (held lent (state 15 (InEntry 1))) → ⊥
    -- no chunk counted; before the 03
    pub not_none : HeldWholeAllows (held lent in_entry) (Ok (Whole 14 0)) (held lent behind) → ⊥
    pub not-before : HeldWholeAllows (held lent in_entry) (Ok (Whole 14 1)) (held lent (state 26 (InEntry 1))) → ⊥

  pub refuted : Refuted
  refuted =
      record {
        not-refused = λ h. let e : told [] ≡ refusal 1 = replies opens.1 h.1 in let z : ◌≡◌ {A = ℕ} 0 1 = cc in absurd (omega arith);
        not-further = λ h. let e : ◌≡◌ {A = ℕ} 5 6 = ap (λ (k : SegmentReader). k.place) (states opens.1 h.1) in absurd (omega arith);
        not-other = λ h. let e : ◌≡◌ {A = ℕ} 14 5 = ap (λ (k : Reader). k.state.place) h in absurd (omega arith);
        not-copied = λ q d h. d (ap (λ (k : Reader). k.image.ref_ptr) h);
        not-stayed = λ h. let e : ◌≡◌ {A = ℕ} 5 14 = ap (λ (k : Reader). k.state.place) h in absurd (omega arith);
        not-emptied = λ h. let e : ◌≡◌ {A = ℕ} 0 0x6F = ap (λ (k : Reader). get_or k.image.now 0 0) h in absurd (omega arith);
        not-emptied-at-opening = λ h. let e : ◌≡◌ {A = ℕ} 0 0x6F = ap (λ (k : Bor (List ℕ)). get_or k.now 0 0) h.0 in absurd (omega arith);
        not-nothing = λ h. let e : ◌≡◌ {A = ℕ} 7 0 = ap (λ (k : List ℕ). get_or k 0 0) (two_bytes.1.1 ∙ sym h.1.1) in absurd (omega arith);
        not-all = λ h. let e : ◌≡◌ {A = ℕ} 0 9 = ap (λ (k : List ℕ). get_or k 2 0) (two_bytes.1.1 ∙ sym h.1.1) in absurd (omega arith);
        not-no-part = λ h. let e : ◌≡◌ {A = ℕ} 7 0 = ap (λ (k : List ℕ). get_or k 0 0) (two_bytes.1.1 ∙ sym h) in absurd (omega arith);
        not-all-parts = λ h. let e : ◌≡◌ {A = ℕ} 0 9 = ap (λ (k : List ℕ). get_or k 2 0) (two_bytes.1.1 ∙ sym h) in absurd (omega arith);
        not-owed = λ h. let e : InChunk 1 14 3 1 ≡ InChunk 1 14 3 3 = ap (λ (k : SegmentReader). k.moment) (states one-owed h) in let z : ◌≡◌ {A = ℕ} 1 3 = cc in absurd (omega arith);
        not_three = λ h. let e : told (19 ∷ 2 ∷ []) ≡ told (19 ∷ 3 ∷ []) = replies one-owed h in let z : ◌≡◌ {A = ℕ} 2 3 = cc in absurd (omega arith);
        not-owed-still = λ h. let e : InChunk 1 14 3 1 ≡ InChunk 1 14 3 3 = ap (λ (k : SegmentReader). k.moment) (states two_bytes.1.0 h.1.0) in let z : ◌≡◌ {A = ℕ} 1 3 = cc in absurd (omega arith);
        not-behind = λ h. let e : told (19 ∷ 2 ∷ []) ≡ told (21 ∷ 2 ∷ []) = replies two_bytes.1.0 h.1.0 in let z : ◌≡◌ {A = ℕ} 19 21 = cc in absurd (omega arith);
        not-wrong = λ h. let e : told (1 ∷ []) ≡ told (0 ∷ []) = crc-right ∙ sym h in let z : ◌≡◌ {A = ℕ} 1 0 = cc in absurd (omega arith);
        not-six = λ h. let e : told (1 ∷ []) ≡ refusal 6 = crc-right ∙ sym h in let z : ◌≡◌ {A = ℕ} 0 1 = cc in absurd (omega arith);
        not-two = λ h. let e : told (1 ∷ 1 ∷ []) ≡ told (1 ∷ 2 ∷ []) = replies enters.1 h.1 in let z : ◌≡◌ {A = ℕ} 1 2 = cc in absurd (omega arith);
        not-ended = λ h. let e : ◌≡◌ {A = ℕ} 14 5 = ap (λ (k : SegmentReader). k.place) (states enters.1 h.1) in absurd (omega arith);
        not-shorter = λ h. let e : told (1 ∷ 14 ∷ 3 ∷ []) ≡ told (1 ∷ 14 ∷ 2 ∷ []) = replies chunk-met.1 h.1 in let z : ◌≡◌ {A = ℕ} 3 2 = cc in absurd (omega arith);
        not-closed = λ h. let e : ◌≡◌ {A = ℕ} 19 15 = ap (λ (k : SegmentReader). k.place) (states chunk-met.1 h.1) in absurd (omega arith);
        not_none = λ h. let e : told (1 ∷ 14 ∷ 1 ∷ []) ≡ told (1 ∷ 14 ∷ 0 ∷ []) = replies is_whole.1 h.1 in let z : ◌≡◌ {A = ℕ} 1 0 = cc in absurd (omega arith);
        not-before = λ h. let e : ◌≡◌ {A = ℕ} 27 26 = ap (λ (k : SegmentReader). k.place) (states is_whole.1 h.1) in absurd (omega arith);
      }

-- ---- the same behind plain parameters

abbrev pub first : FirstWhole
first = record { opening = Ok tt; entry = Ok (Some 1); whole = Ok (Whole 14 1); state = behind }

pub first-is : FirstWholeAllows 1 bytes first
unfolding new opened opened_with read_entry entry_from entry_met lead read_all_chunks whole_from whole_reply resting left start_of fit in_place leaving whole whole_turn also standing walk around number from_le chunk_sum covered crc_append update byte_step steps bit_step
first-is = (refl, refl, refl)

pub one_chunk : FirstChunksAllows 1 bytes 1
unfolding chunks_in
one_chunk = first-chunks-are 1 bytes first (Ok (Whole 14 1)) first-is refl

pub three-bytes : FirstBytesAllows 1 bytes 4 (7 ∷ 8 ∷ 9 ∷ [])
unfolding new opened opened_with read_entry entry_from entry_met lead read_chunk chunk_from chunk_met standing read_bytes bytes_in open_of holding stands_at start_of fit in_place leaving number from_le
three-bytes = refl

pub first-right : FirstCrcAllows 1 bytes (Ok true)
unfolding new opened opened_with read_entry entry_from entry_met lead read_chunk chunk_from chunk_met standing read read_in check_crc check_in check_at open_of holding stands_at start_of fit in_place leaving number from_le chunk_sum covered crc_append update byte_step steps bit_step
first-right = refl

pub record Refuted' : Type 0 where
  -- the opening refused; the entry aborted
  pub not-refused : FirstWholeAllows 1 bytes (record { opening = Err Magic; entry = Ok (Some 1); whole = Ok (Whole 14 1); state = behind }) → ⊥
  pub not-aborted : FirstWholeAllows 1 bytes (record { opening = Ok tt; entry = Ok (Some 1); whole = Ok Aborted; state = behind }) → ⊥
  -- no chunk; as many as it has bytes
  pub not_none : FirstChunksAllows 1 bytes 0 → ⊥
  pub not_three : FirstChunksAllows 1 bytes 3 → ⊥
  -- nothing; the length before them too
  pub not-nothing : FirstBytesAllows 1 bytes 4 [] → ⊥
  pub not-length : FirstBytesAllows 1 bytes 4 (3 ∷ 0 ∷ 0 ∷ 0 ∷ []) → ⊥
  -- wrong, though it is right; refused, as where bytes are owed
  pub not-wrong : FirstCrcAllows 1 bytes (Ok false) → ⊥
  pub not-six : FirstCrcAllows 1 bytes (Err NotNow) → ⊥

pub refuted' : Refuted'
refuted' =
    record {
      not-refused = λ h. let e : told [] ≡ refusal 2 = first-is.0 ∙ sym h.0 in let z : ◌≡◌ {A = ℕ} 0 1 = cc in absurd (omega arith);
      not-aborted = λ h. let e : told (1 ∷ 14 ∷ 1 ∷ []) ≡ told (2 ∷ []) = replies first-is.2 h.2 in let z : ◌≡◌ {A = ℕ} 1 2 = cc in absurd (omega arith);
      not_none = λ h. let e : ◌≡◌ {A = ℕ} 1 0 = one_chunk ∙ sym h in absurd (omega arith);
      not_three = λ h. let e : ◌≡◌ {A = ℕ} 1 3 = one_chunk ∙ sym h in absurd (omega arith);
      not-nothing = λ h. let e : ◌≡◌ {A = ℕ} 7 0 = ap (λ (k : List ℕ). get_or k 0 0) (three-bytes ∙ sym h) in absurd (omega arith);
      not-length = λ h. let e : ◌≡◌ {A = ℕ} 7 3 = ap (λ (k : List ℕ). get_or k 0 0) (three-bytes ∙ sym h) in absurd (omega arith);
      not-wrong = λ h. let e : told (1 ∷ []) ≡ told (0 ∷ []) = first-right ∙ sym h in let z : ◌≡◌ {A = ℕ} 1 0 = cc in absurd (omega arith);
      not-six = λ h. let e : told (1 ∷ []) ≡ refusal 6 = first-right ∙ sym h in let z : ◌≡◌ {A = ℕ} 0 1 = cc in absurd (omega arith);
    }
