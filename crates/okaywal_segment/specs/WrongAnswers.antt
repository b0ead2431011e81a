-- Wrong answers across the boundary, refuted: the law, and the functions that have no state. On a small example the right answer is computed from the
-- definitions, and two wrong ones are shown not to be allowed. Writers and readers are in `WriterWrongAnswers` and `ReaderWrongAnswers`.
use Rattle.std.specs.Prelude.{ℕ, ◌≡◌, refl, false, List, [], ◌∷◌, ◌++◌, replicate, eqb}
use Rattle.std.proofs.Common.{sym, ap, ◌∙◌}
use Rattle.std.proofs.lemmas.Bool.{eqb-false}
use Rattle.lists.specs.Lay.{lay}
use Rattle.lists.specs.Numbers.{le, from_le, number}
use Rattle.crc32c.specs.Crc.{bit_step, steps, byte_step, update, crc_append, AppendAllows}
use Rattle.entry.specs.Position.{position_bytes, serialized, deserialized}
use Rattle.okaywal_segment.specs.Words.{word}
use Rattle.okaywal_segment.specs.Positions.{Stored, PositionWriteAllows, PositionReadAllows}

-- where the right answer is known, none is allowed that differs from it in a number
pub apart : {A : Type 0} (look : A → ℕ) {right wrong due : A} → right ≡ due → eqb (look right) (look wrong) ≡ false → wrong ≡ due → ⊥
apart look r e w = eqb-false _ _ e (ap look (r ∙ sym w))

-- ---- the calls

-- the sum of 7, 8, continued by 9
abbrev pub Append : (result : ℕ) → Type 0
Append = AppendAllows 0x1D5_E658 (9 ∷ [])

-- the position 15 in file 4, into 17 bytes and into 15
abbrev pub Write : (number : ℕ) (buffer' : List ℕ) → Type 0
Write = PositionWriteAllows 4 15 (replicate 17 9)

abbrev pub WriteShort : (number : ℕ) (buffer' : List ℕ) → Type 0
WriteShort = PositionWriteAllows 4 15 (replicate 15 9)

-- a number below 256 in 8 bytes
abbrev pub eight : ℕ → List ℕ
eight n = n ∷ replicate 7 0

-- and read again, into four words and into three
abbrev pub Read : (number : ℕ) (answer' : List ℕ) → Type 0
Read = PositionReadAllows (eight 4 ++ eight 15) (replicate 4 9)

abbrev pub ReadShort : (number : ℕ) (answer' : List ℕ) → Type 0
ReadShort = PositionReadAllows (eight 4 ++ eight 15) (replicate 3 9)

-- ---- what is allowed

pub record Right : Type 0 where
  pub appends : Append 0xF132_DF67
  pub writes : Write 0 (eight 4 ++ eight 15 ++ (9 ∷ []))
  pub write_refused : WriteShort 5 (replicate 15 9)
  pub reads : Read 0 (4 ∷ 15 ∷ 0 ∷ 0 ∷ [])
  pub read_refused : ReadShort 12 (replicate 3 9)

pub right : Right
unfolding crc_append update byte_step steps bit_step serialized deserialized position_bytes lay le number from_le
right = record { appends = refl; writes = refl; write_refused = refl; reads = refl; read_refused = refl }

-- ---- what is not

pub record Refuted : Type 0 where
  -- the sum of 9 alone; the register, not complemented
  pub append_begun_anew : Append 0x2ACF_889D → ⊥
  pub append_unfinished : Append 0xECD_2098 → ⊥
  -- offset before file id; 0 for a buffer that is too short, with what fits of the bytes
  pub write_swapped : Write 0 (eight 15 ++ eight 4 ++ (9 ∷ [])) → ⊥
  pub write_cut : WriteShort 0 (eight 4 ++ (15 ∷ replicate 6 0)) → ⊥
  -- offset before file id; zeros beside 12 in an answer that is too short
  pub read_swapped : Read 0 (15 ∷ 4 ∷ 0 ∷ 0 ∷ []) → ⊥
  pub read_short_zeroed : ReadShort 12 (replicate 3 0) → ⊥

pub refuted : Refuted
refuted =
    record {
      append_begun_anew = apart (λ (n : ℕ). n) right.appends refl;
      append_unfinished = apart (λ (n : ℕ). n) right.appends refl;
      write_swapped = apart (λ (s : Stored). word 0 s.slice) right.writes refl;
      write_cut = apart (λ (s : Stored). s.number) right.write_refused refl;
      read_swapped = apart (λ (s : Stored). word 0 s.slice) right.reads refl;
      read_short_zeroed = apart (λ (s : Stored). word 0 s.slice) right.read_refused refl;
    }
