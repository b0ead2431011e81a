-- An image read from a place on: `drop p image` is the stream there. What stands first in it, at its offset, and what
-- stands after a part of it.
use Rattle.std.specs.Prelude.{◌≡◌, refl, List, ◌∷◌, ◌++◌, ℕ, suc, ◌+◌, ◌≤◌, ◌<◌, length, get_or, take, drop}
use Rattle.std.proofs.Common.{sym, add-zero, add-one, arith, length-drop, take-append-drop, drop-drop, drop-cons, get_or-drop, length-take-le, take_at, drop_at}

-- the k bytes at p
abbrev pub part : List ℕ → ℕ → ℕ → List ℕ
part image p k = take k (drop p image)

module _ (image : List ℕ) (p : ℕ) where
  pub first : {s : List ℕ} → drop p image ≡ s → get_or image p 0 ≡ get_or s 0 0
  first e = sym (rw (add-zero, e) at (get_or-drop p image 0 0))

  pub size : {x : ℕ} {rest : List ℕ} → drop p image ≡ x ∷ rest → length image ≡ p + suc (length rest)
  size {rest = rest} e = omega (arith, rw e at (length-drop p image))

  pub here : (a rest : List ℕ) (k : ℕ) → length a ≡ k → drop p image ≡ a ++ rest → part image p k ≡ a
  here a rest k l e = rw e (take_at a rest k l)

  pub past : (a rest : List ℕ) (q : ℕ) → p + length a ≡ q → drop p image ≡ a ++ rest → drop q image ≡ rest
  past a rest q l e = rw (← l, ← drop-drop (length a) p image, e) (drop_at a rest (length a) refl)

  pub joined : (k q : ℕ) {a rest : List ℕ} → p + k ≡ q → part image p k ≡ a → drop q image ≡ rest → drop p image ≡ a ++ rest
  joined k q l e t = rw (← e, ← t, ← l, ← drop-drop k p image, take-append-drop)

  -- the other way: bytes that are there, as what they are the bytes of
  pub starts : (x : ℕ) → get_or image p 0 ≡ x → p < length image → drop p image ≡ x ∷ drop (p + 1) image
  starts x e h = rw (add-one, ← e) (drop-cons image p 0 h)

  module _ (k : ℕ) (fits : p + k ≤ length image) where
    pub length_part : length (part image p k) ≡ k
    length_part = length-take-le k (drop p image) (simp length-drop (omega arith))
