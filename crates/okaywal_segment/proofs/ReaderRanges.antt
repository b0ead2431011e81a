-- A reader's words in their ranges: only a chunk's numbers have a range.
use Rattle.std.proofs.Common.{◌≡◌, refl, true, ℕ, zero, suc}
use Rattle.okaywal_segment.specs.ReaderWords.{part_fits}

pub no_part : (kind n owed : ℕ) → (kind ≡ 2 → ⊥) → true ≡ part_fits kind n owed
no_part zero n owed h = refl
no_part (suc zero) n owed h = refl
no_part (suc (suc zero)) n owed h = absurd (h refl)
no_part (suc (suc (suc k))) n owed h = refl
