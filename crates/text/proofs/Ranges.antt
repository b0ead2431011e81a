-- Bytes in a range and out of it: digits in decimal and in hex.
use mathlib.Core.Path.{◌≡◌, refl}
use mathlib.Core.Bool.{Bool, true, false, ◌&&◌}
use Prim.Native.Nat.{ℕ, ◌+◌, ◌-◌, ◌≤◌}
use native.Mathlib.Omega.{arith}
use lib.Dec.{leb}
use borrow.Author.Tests.{le-leb, leb-true}
use Rattle.text.specs.Text.{is_digit, hex_digit}

in_range : (low high c : ℕ) → low ≤ c → c ≤ high → (leb low c && leb c high) ≡ true
in_range low high c h k = rw (le-leb low c h, le-leb c high k)

out_of_range : (low high c : ℕ) → (low ≤ c → c ≤ high → ⊥) → (leb low c && leb c high) ≡ false
out_of_range low high c f = go (leb low c) (leb c high) refl refl
  where
    go : (a b : Bool) → leb low c ≡ a → leb c high ≡ b → (a && b) ≡ false
    go true true p q = absurd (f (leb-true low c p) (leb-true c high q))
    go true false p q = refl
    go false b p q = refl

module _ (c : ℕ) where
  pub digit : 48 ≤ c → c ≤ 57 → is_digit c ≡ true
  digit h k = in_range 48 57 c h k

  pub no_digit : (48 ≤ c → c ≤ 57 → ⊥) → is_digit c ≡ false
  no_digit f = out_of_range 48 57 c f

  pub hex-digit : 48 ≤ c → c ≤ 57 → c - 48 ≡ hex_digit c
  unfolding hex_digit
  hex-digit h k = rw (digit h k)

  pub hex-letter : 97 ≤ c → c ≤ 102 → c - 97 + 10 ≡ hex_digit c
  unfolding hex_digit
  hex-letter h k =
      let n : is_digit c ≡ false = no_digit (λ p q. omega arith) in
      let e : c - 97 + 10 ≡ c - 87 = omega arith in
      rw (n, in_range 97 102 c h k) e

  pub hex-other : (48 ≤ c → c ≤ 57 → ⊥) → (97 ≤ c → c ≤ 102 → ⊥) → 0 ≡ hex_digit c
  unfolding hex_digit
  hex-other f g = rw (no_digit f, out_of_range 97 102 c g)
