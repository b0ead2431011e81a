-- The laws of the sum, each once, for any register and any list.
use Rattle.std.specs.Prelude.{◌≡◌, refl, List, [], ◌∷◌, ◌++◌, ℕ, zero, suc, ◌/◌, ◌%◌, ◌^◌, ◌<◌}
use Rattle.std.proofs.Common.{sym, ap, ◌∙◌, arith, lit<}
use Rattle.std.specs.Int.Bits.{bit_xor}
use Rattle.std.proofs.lemmas.Nat.{xor_lt}
use Rattle.std.proofs.Math.Pow.{ones_sub-lt}
use Rattle.crc32c.specs.Crc.{tap, bit_step, steps, byte_step, update, complement, crc_append, crc32c, AppendAllows}

-- ---- it fits 32 bits

complement-lt : (c : ℕ) → complement c < 2 ^ 32
complement-lt c = ones_sub-lt 32 c

pub crc_append-lt : (c : ℕ) (s : List ℕ) → crc_append c s < 2 ^ 32
unfolding crc_append
crc_append-lt c s = complement-lt (update (complement c) s)

-- ---- a register of 32 bits stays one

tap-lt : (b : ℕ) → tap b < 2 ^ 32
tap-lt zero = lit< tt
tap-lt (suc b) = lit< tt

bit_step-lt : (r : ℕ) → r < 2 ^ 32 → bit_step r < 2 ^ 32
unfolding bit_step
bit_step-lt r h = xor_lt 32 (r / 2) (tap (r % 2)) (omega arith) (tap-lt (r % 2))

steps-lt : (n r : ℕ) → r < 2 ^ 32 → steps n r < 2 ^ 32
unfolding steps
steps-lt zero r h = h
steps-lt (suc n) r h = bit_step-lt (steps n r) (steps-lt n r h)

byte_step-lt : (r b : ℕ) → r < 2 ^ 32 → byte_step r b < 2 ^ 32
unfolding byte_step
byte_step-lt r b h = steps-lt 8 (bit_xor r (b % 256)) (xor_lt 32 r (b % 256) h (omega arith))

update-lt : (r : ℕ) (s : List ℕ) → r < 2 ^ 32 → update r s < 2 ^ 32
unfolding update
update-lt r [] h = h
update-lt r (b ∷ s) h = update-lt (byte_step r b) s (byte_step-lt r b h)

-- ---- appending continues a finished sum

pub update-append : (r : ℕ) (s t : List ℕ) → update r (s ++ t) ≡ update (update r s) t
unfolding update
update-append r [] t = refl
update-append r (b ∷ s) t = update-append (byte_step r b) s t

complement-twice : (c : ℕ) → c < 2 ^ 32 → complement (complement c) ≡ c
complement-twice c h = omega arith

pub crc_append-append : (c : ℕ) (s t : List ℕ) → crc_append c (s ++ t) ≡ crc_append (crc_append c s) t
unfolding crc_append
crc_append-append c s t =
    ap complement
    (update-append (complement c) s t
    ∙ ap (λ (r : ℕ). update r t) (sym (complement-twice (update (complement c) s) (update-lt (complement c) s (complement-lt c)))))

-- ---- no bytes add nothing; the sum of no bytes is 0

pub crc_append-nil : (c : ℕ) → c < 2 ^ 32 → crc_append c [] ≡ c
unfolding crc_append update
crc_append-nil c h = complement-twice c h

pub crc32c-nil : crc32c [] ≡ 0
crc32c-nil = crc_append-nil 0 (lit< tt)

-- ---- any two answers that `append` may give are equal

pub append-one-answer : (crc : ℕ) (bytes : List ℕ) (r r' : ℕ) → AppendAllows crc bytes r → AppendAllows crc bytes r' → r ≡ r'
append-one-answer crc bytes r r' p q = p ∙ sym q
