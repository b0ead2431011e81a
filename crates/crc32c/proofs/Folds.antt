-- A sum is a fold over its bytes.
use Rattle.std.specs.Prelude.{◌≡◌, refl, List, [], ◌∷◌, ℕ, fold}
use Rattle.crc32c.specs.Crc.{byte_step, update, complement, crc_append}

fold-update : (r : ℕ) (s : List ℕ) → fold byte_step r s ≡ update r s
unfolding update
fold-update r [] = refl
fold-update r (b ∷ s) = fold-update (byte_step r b) s

pub folded : (c : ℕ) (s : List ℕ) {r : ℕ} → r ≡ fold byte_step (complement c) s → complement r ≡ crc_append c s
unfolding crc_append
folded c s e = rw (e, fold-update)
