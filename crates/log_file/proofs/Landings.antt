-- A landing's way out: nothing moves.
use Rattle.std.proofs.Common.{◌≡◌, refl}
use Rattle.std.specs.declared.io.SeekFrom.{SeekFrom}
use Rattle.log_file.specs.State.{Machine}
use Rattle.log_file.specs.Calls.{landing, worked, id_after, last_after, moment_after, acted}

lands_here : (m : Machine) (from : SeekFrom) → acted m (landing from) ≡ m
unfolding acted worked id_after last_after moment_after
lands_here m from = refl
