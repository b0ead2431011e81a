-- As many as are made; the law is over any number, so that nothing counts them.
use Rattle.std.proofs.Common.{◌≡◌, ℕ, length, sym}
use Rattle.std.proofs.Math.ListN.{replicate}
use Rattle.std.proofs.lemmas.List.{length-replicate}
use Rattle.okw.proofs.room.Goals as goal

many : (n : ℕ) → n ≡ length {A = ℕ} (replicate n 0)
many n = sym (length-replicate n 0)

pub returns : goal.returns
returns c = many 1048576
