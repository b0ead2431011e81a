-- A signed number and its distance from 0 or from -1. A local holds bits, and r stands for what the machine reads back from those of z: it is z.
use Prim.Native.Nat.{ℕ, suc, ◌-◌, ◌^◌, ◌<◌}
use native.Mathlib.Omega.{arith}
use mathlib.Core.Path.{◌≡◌, refl}
use mathlib.Core.Bool.{true, false}
use lib.Dec.{T}
use lib.IntN.{ℤ, pos, negsuc, nat_abs, ◌-ℤ◌}
use lib.Signed.{mag, lt_z, non_neg}
use borrow.Author.Tests.{ltb-true, le-ltb}
use mir.Syntax.{w64}
use mir.Val.{Fits}

-- below 0: -1 - z is the distance from -1
pub turned : (z : ℤ) → lt_z z (pos 0) ≡ true → (negsuc 0 -ℤ z ≡ pos (mag z)) × (negsuc (mag z) ≡ z)
turned (pos n) e = absurd (omega (arith, ltb-true n 0 e))
turned (negsuc k) e =
    let s : suc k - 1 ≡ k = omega arith in
    (rw (le-ltb (suc k) 1 (omega arith), s), refl)

-- not below 0
pub plain : (z : ℤ) → lt_z z (pos 0) ≡ false → pos (mag z) ≡ z
plain (pos n) e = refl
plain (negsuc k) e = let b : ◌≡◌ {A = ℕ} 0 1 = cc in absurd (omega arith)

-- a number that is no less than 0 may be cast, and is cast to itself
pub cast : (n : ℕ) (r : ℤ) → r ≡ pos n → n < 2 ^ 63 → T (non_neg r) × Fits w64 (nat_abs r)
cast n r e h = rw e (tt, record { fits = omega arith })
