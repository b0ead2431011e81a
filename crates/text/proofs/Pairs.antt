-- Bytes from pairs of hex digits: how many there are, which stands at a place, and one turn of the loop that stores them.
use Rattle.std.proofs.Common.{◌≡◌, refl, ◌∙◌, List, [], ◌∷◌, ℕ, zero, suc, ◌+◌, ◌*◌, ◌/◌, ◌≤◌, ◌<◌, min, add-one, arith, length, get_or, drop, set, length-take, drop_of_length-le, drop-cons, get_or-take}
use Rattle.lists.specs.Lay.{lay}
use Rattle.text.specs.Text.{hex_digit, unhexed, fitting}

length-unhexed : (s : List ℕ) → length (unhexed s) ≡ length s / 2
unfolding unhexed
length-unhexed [] = refl
length-unhexed (a ∷ []) = refl
length-unhexed (a ∷ b ∷ s) = omega (arith, length-unhexed s)

pub as_many : (s out : List ℕ) (n : ℕ) → n ≡ min (length s / 2) (length out) → n ≡ length (fitting s out)
as_many s out n e = omega (arith, length-take (length out) (unhexed s), length-unhexed s)

pair-at : (s : List ℕ) (i : ℕ) → i < length (unhexed s) → get_or (unhexed s) i 0 ≡ hex_digit (get_or s (2 * i) 0) * 16 + hex_digit (get_or s (2 * i + 1) 0)
unfolding unhexed
pair-at [] i h = absurd (omega arith)
pair-at (a ∷ []) i h = absurd (omega arith)
pair-at (a ∷ b ∷ s) zero h = refl
pair-at (a ∷ b ∷ s) (suc i) h =
    let e : 2 * suc i ≡ suc (suc (2 * i)) = omega arith in
    let f : 2 * suc i + 1 ≡ suc (suc (2 * i + 1)) = omega arith in
    rw (f, e) (pair-at s i (omega arith))

fitting-at : (s out : List ℕ) (i : ℕ) → i < length (fitting s out)
    → get_or (fitting s out) i 0 ≡ hex_digit (get_or s (2 * i) 0) * 16 + hex_digit (get_or s (2 * i + 1) 0)
fitting-at s out i h =
    let l = length-take (length out) (unhexed s) in
    get_or-take (length out) (unhexed s) i 0 (omega arith) ∙ pair-at s i (omega arith)

module _ (s out₀ out : List ℕ) (i : ℕ) {l : List ℕ} (so_far : lay out i (drop i (fitting s out₀)) ≡ l) where
  pub goes_on : (b : ℕ) → i < length (fitting s out₀) → b ≡ hex_digit (get_or s (2 * i) 0) * 16 + hex_digit (get_or s (2 * i + 1) 0)
      → lay (set out i b) (i + 1) (drop (i + 1) (fitting s out₀)) ≡ l
  unfolding lay
  goes_on b h e = rw (add-one, e, ← fitting-at s out₀ i h) (rw (drop-cons (fitting s out₀) i 0 h) at so_far)

  pub ends : length (fitting s out₀) ≤ i → out ≡ l
  unfolding lay
  ends h = rw (drop_of_length-le (fitting s out₀) h) at so_far
