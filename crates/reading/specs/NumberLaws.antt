-- A number that stands at a place of an image: what it is, where its bytes were written; and its bytes, where it is read.
use Rattle.std.specs.Prelude.{◌≡◌, List, ◌++◌, ℕ, ◌+◌, ◌*◌, ◌^◌, ◌≤◌, ◌<◌, length, drop}
use Rattle.std.proofs.Math.Path.{ap}
use Rattle.std.proofs.Common.{◌∙◌, arith, get_or-drop, get_or-take}
use Rattle.lists.specs.Stream.{part, here, length_part}
use Rattle.lists.specs.Numbers.{le, from_le, number}
use Rattle.lists.specs.NumbersLaws.{Bytes, length-le, from_le-le, le-from_le, from_le-lt}

module _ (image : List ℕ) (p : ℕ) where
  pub number-here : (k n : ℕ) (rest : List ℕ) → n < 2 ^ (8 * k) → drop p image ≡ le k n ++ rest → number k image p ≡ n
  unfolding number
  number-here k n rest h e = ap from_le (here image p (le k n) rest k (length-le k n) e) ∙ from_le-le k n h

  module _ (k : ℕ) (fits : p + k ≤ length image) (bytes : Bytes image) where
    bytes-part : Bytes (part image p k)
    bytes-part i l =
        let z = length_part image p k fits in
        rw (get_or-take k (drop p image) i 0 (omega arith), get_or-drop) (bytes (p + i) (omega arith))

    pub le-number : le k (number k image p) ≡ part image p k
    unfolding number
    le-number = le-from_le k (part image p k) (length_part image p k fits) bytes-part

    pub number_lt : number k image p < 2 ^ (8 * k)
    unfolding number
    number_lt = from_le-lt k (part image p k) (length_part image p k fits) bytes-part
