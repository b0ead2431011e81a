-- One turn of a loop that stores, as its invariant has it: what is left to store, behind what is stored.
use mathlib.Core.Path.{◌≡◌}
use mathlib.Core.List.{List}
use Prim.Native.Nat.{ℕ, ◌+◌, ◌<◌, ◌≤◌}
use native.Mathlib.Nat.{add-zero, add-suc}
use native.Mathlib.Numerals.{add-one}
use lib.ListN.{length, get_or, drop, set, drop_of_length-le}
use lib.Seq.{drop-cons}
use Rattle.lists.specs.Lay.{lay}

pub begins : (d : List ℕ) (at : ℕ) (s : List ℕ) → lay d (at + 0) (drop 0 s) ≡ lay d at s
begins d at s = rw add-zero

pub goes_on : (d : List ℕ) (at : ℕ) (s : List ℕ) (i p : ℕ) {l : List ℕ} → i < length s → p ≡ at + i → lay d (at + i) (drop i s) ≡ l
    → lay (set d p (get_or s i 0)) (at + (i + 1)) (drop (i + 1) s) ≡ l
unfolding lay
goes_on d at s i p h q e = rw (q, add-one, add-suc) (rw (drop-cons s i 0 h) at e)

pub ends : (d : List ℕ) (at : ℕ) (s : List ℕ) (i : ℕ) {l : List ℕ} → length s ≤ i → lay d (at + i) (drop i s) ≡ l → d ≡ l
unfolding lay
ends d at s i h e = rw (drop_of_length-le s h) at e
