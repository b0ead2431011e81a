-- In each of the wrong programs cuts and staging show: one concrete trace each, computed. Each opens a segment of id 1 with no version info in an image of 64
-- bytes, all 7, with a staging of 64 bytes, all 9.
use Rattle.std.specs.Prelude.{ℕ, suc, ◌≡◌, refl, get_or, replicate, None}
use Rattle.std.proofs.Common.{arith, ap}
use mathlib.Core.List.{[], ◌∷◌, flat_map}
use Rattle.lists.specs.Lay.{lay}
use Rattle.lists.specs.Answers.{Answer, accepted, refused, number_of}
use Rattle.lists.specs.Numbers.{le}
use Rattle.crc32c.specs.Crc.{bit_step, steps, byte_step, update, crc_append}
use Rattle.entry.specs.Format.{header, covered, chunk_sum, segment}
use Rattle.buffered.specs.Staging.{flushed, direct, staged, emptied, rounds, written, written_all}
use Rattle.log_file.specs.State.{ruled, valid}
use Rattle.log_file.specs.Calls.{begin_entry, begin_chunk, write, checks, refusal, reports, writes, worked, moment_after, last_after, id_after, acted, called}
use Rattle.log_file.specs.Opening.{Terms, padded, open_refusal, prepared, unheaded, headed, opened_machine, opened}
use Rattle.log_file.specs.History.{begun, opening, causes, tells as reports'}
use Rattle.journal.specs.Stories.{Seen, Story, ends, tells, canon_from, story, tale}
use Rattle.journal.specs.CutsDoNotShow.{Given, InRange, heard, CutsDoNotShow}
use Rattle.journal.specs.WrongPrograms.{refuses_everything, refuses_every_call, fixed_answer, stores_nothing, stages_only_first, made_up_count}

abbrev pub some_terms : Terms
some_terms = record { id = 1; last = None; info = []; preallocate = 64 }

abbrev pub some_buffers : Given
some_buffers = record { file_length = 0; image = replicate 64 7; staging = replicate 64 9 }

in_range : InRange some_buffers
in_range = record { staging = omega arith; file = omega arith }

-- what is seen at a story's end
abbrev last_seen : Story → Seen
last_seen (ends s) = s
last_seen (tells a s rest) = last_seen rest

-- the first value of an answer
abbrev value_of : Answer → ℕ
value_of (accepted []) = 0
value_of (accepted (v ∷ values)) = v
value_of (refused n) = 0

-- a segment that fits is opened
pub refuses-everything-falls : (n : ℕ) → CutsDoNotShow (refuses_everything n) → ⊥
unfolding segment header flat_map
refuses-everything-falls n d = let e : suc n ≡ 0 = ap number_of (d.follows_format.opening some_terms some_buffers in_range) in omega arith

-- where there is room, an entry is begun
pub refuses-every-call-falls : (n : ℕ) → CutsDoNotShow (refuses_every_call n) → ⊥
unfolding segment header flat_map opened open_refusal padded heard causes reports' begun le
refuses-every-call-falls n d =
    let e : suc n ≡ 0 = ap number_of ((d.follows_format.format some_terms some_buffers in_range refl (begin_entry 1 ∷ [])).each_told.0 refl) in
    omega arith

-- the opening is accepted, so the fixed answer is; and then a header of 5 bytes is in the segment
pub fixed-answer-falls : (a : Answer) → CutsDoNotShow (fixed_answer a) → ⊥
unfolding segment header flat_map heard story tale canon_from causes
fixed-answer-falls a d =
    let accepts : number_of a ≡ 0 = ap number_of (d.follows_format.opening some_terms some_buffers in_range) in
    let e : ◌≡◌ {A = ℕ} 0 5 = ap (λ s. (last_seen s).position') (d.follows_format.format some_terms some_buffers in_range accepts []).as_told in
    omega arith

-- the segment begins with 6F, and not with the old 7
pub stores-nothing-falls : CutsDoNotShow stores_nothing → ⊥
unfolding segment header flat_map opened open_refusal padded opened_machine headed unheaded prepared lay written_all written rounds emptied staged direct flushed heard story tale canon_from causes
stores-nothing-falls d =
    let e : ◌≡◌ {A = ℕ} 7 0x6F =
    ap (λ s. get_or (last_seen s).segment 0 0) (d.follows_format.format some_terms some_buffers in_range refl []).as_told in
    omega arith

-- the second piece's byte, 2, is the last of the segment, and not the old 9
pub stages-only-first-falls : CutsDoNotShow stages_only_first → ⊥
unfolding segment header flat_map begun opening le opened open_refusal padded opened_machine headed unheaded prepared lay written_all written rounds emptied staged direct flushed called refusal ruled valid checks reports writes worked moment_after last_after id_after acted chunk_sum covered crc_append update byte_step steps bit_step heard story tale canon_from causes reports'
stages-only-first-falls d =
    let cs = begin_entry 1 ∷ begin_chunk 2 ∷ write (1 ∷ []) ∷ write (2 ∷ []) ∷ [] in
    let e : ◌≡◌ {A = ℕ} 9 2 =
    ap (λ s. get_or (last_seen s).segment 20 0) (d.follows_format.format some_terms some_buffers in_range refl cs).as_told in
    omega arith

-- of two bytes offered to a chunk of one, one is taken
pub made-up-count-falls : CutsDoNotShow made_up_count → ⊥
unfolding segment header flat_map begun opening le opened open_refusal padded opened_machine headed unheaded prepared lay written_all written rounds emptied staged direct flushed called refusal ruled valid checks reports writes worked moment_after last_after id_after acted chunk_sum covered crc_append update byte_step steps bit_step heard causes reports'
made-up-count-falls d =
    let cs = begin_entry 1 ∷ begin_chunk 1 ∷ write (1 ∷ 2 ∷ []) ∷ [] in
    let e : ◌≡◌ {A = ℕ} 2 1 = ap value_of ((d.follows_format.format some_terms some_buffers in_range refl cs).each_told.1.1.0 refl) in
    omega arith
