-- Document 01's cases that the reader decides, computed from the definitions: P7, P8, and the double skip of P11.
use mathlib.Core.List.{List, [], ◌∷◌, ◌++◌, flat_map}
use mathlib.Core.Path.{◌≡◌, refl}
use Prim.Native.Nat.{ℕ}
use lib.ListN.{replicate}
use Rattle.lists.specs.Answers.{refused}
use Rattle.lists.specs.Walk.{walk, around}
use Rattle.lists.specs.Numbers.{le, from_le, number}
use Rattle.crc32c.specs.Crc.{update, crc_append}
use Rattle.entry.specs.Format.{header, covered, chunk_sum, chunk, entry, segment}
use Rattle.reading.specs.Reading.{standing, skip_turn, skip, lead, opened}
use Rattle.segment_reader.specs.State.{stands_at, in_place, fit, leaving, start_of, holding, open_of}
use Rattle.segment_reader.specs.Calls.{Reply, told, answer_of, opened_with, new, entry_met, entry_past, entry_from, read_entry, chunk_met, chunk_from, read_chunk, skip_in, skip_remaining, Call, next_entry, next_chunk, skip_rest, read_by}
use Rattle.segment_reader.specs.declared.SegmentReader.{SegmentReader}

-- version byte 1
pub p7 : answer_of (new 1 (0x6F ∷ 0x6B ∷ 0x77 ∷ 1 ∷ 0 ∷ [])).reply ≡ refused 3
unfolding answer_of new opened opened_with
p7 = refl

-- four bytes
pub p8 : answer_of (new 1 (0x6F ∷ 0x6B ∷ 0x77 ∷ 0 ∷ [])).reply ≡ refused 1
unfolding answer_of new opened opened_with
p8 = refl

-- entry 1 with an empty chunk, entry 2 with none, zeros to 64
abbrev pub two : List ℕ
two = segment [] (record { id = 1; chunks = [] ∷ [] } ∷ record { id = 2; chunks = [] } ∷ []) ++ replicate 30 0

-- what each call answers, and `valid_until` after it
pub record Said : Type 0 where
  pub reply : Reply
  pub valid : ℕ

abbrev pub at : Reply → ℕ → Said
at a v = record { reply = a; valid = v }

unfoldable pub said : List Call → SegmentReader → List ℕ → List Said
said [] r image = []
said (c ∷ cs) r image = at (read_by c r image).reply (read_by c r image).reader.valid_until ∷ said cs (read_by c r image).reader image

-- the double skip: entry 1 is left unread, entry 2 is found at 24, then the reading has ended at 34
pub p11-unread : said (next_entry ∷ next_entry ∷ next_entry ∷ []) (new 1 two).reader two
    ≡ at (told (1 ∷ 1 ∷ [])) 5 ∷ at (told (1 ∷ 2 ∷ [])) 24 ∷ at (told (0 ∷ [])) 34 ∷ []
unfolding said segment header entry chunk chunk_sum covered flat_map le crc_append update new opened opened_with read_by read_entry entry_from entry_past entry_met start_of fit in_place leaving skip skip_turn around walk standing lead number from_le
p11-unread = refl

-- the same with its chunk opened, and left by a call
pub p11-skipped : said (next_entry ∷ next_chunk ∷ skip_rest ∷ next_entry ∷ next_entry ∷ []) (new 1 two).reader two
    ≡ at (told (1 ∷ 1 ∷ [])) 5 ∷ at (told (1 ∷ 14 ∷ 0 ∷ [])) 5 ∷ at (told []) 5 ∷ at (told (1 ∷ 2 ∷ [])) 24 ∷ at (told (0 ∷ [])) 34 ∷ []
unfolding said segment header entry chunk chunk_sum covered flat_map le crc_append update new opened opened_with read_by read_entry entry_from entry_past entry_met start_of fit in_place leaving skip skip_turn around walk standing lead number from_le read_chunk chunk_from chunk_met skip_remaining skip_in open_of holding stands_at
p11-skipped = refl
