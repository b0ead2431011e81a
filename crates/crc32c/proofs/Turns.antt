-- A loop over a list, as its invariant has it: r is the register before the byte at i, and u what the whole list comes to.
use Rattle.std.specs.Prelude.{◌≡◌, List, ℕ, ◌+◌, ◌<◌, ◌≤◌, length, get_or, drop}
use Rattle.std.proofs.Common.{add-one, drop_of_length-le, drop-cons}
use Rattle.crc32c.specs.Crc.{byte_step, update}

pub turn : (r : ℕ) (s : List ℕ) (i : ℕ) {x u : ℕ} → i < length s → x ≡ byte_step r (get_or s i 0) → update r (drop i s) ≡ u
    → update x (drop (i + 1) s) ≡ u
unfolding update
turn r s i h e inv = rw (e, add-one) (rw (drop-cons s i 0 h) at inv)

pub done : (r : ℕ) (s : List ℕ) (i : ℕ) {u : ℕ} → length s ≤ i → update r (drop i s) ≡ u → r ≡ u
unfolding update
done r s i h inv = rw (drop_of_length-le s h) at inv
