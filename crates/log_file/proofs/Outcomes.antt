-- How a call comes out, over plain variables: refused, or accepted with what it did.
use Rattle.std.specs.Prelude.{ℕ, zero, suc}
use Rattle.std.proofs.Common.{◌≡◌, refl}
use mathlib.Core.List.{List}
use Rattle.lists.specs.Answers.{accepted, refused, reply, obey}
use Rattle.log_file.specs.State.{Machine}
use Rattle.log_file.specs.Calls.{Call, refusal, reports, acted, after, called}

refuses : (n : ℕ) (m m' : Machine) (values : List ℕ) → (n ≡ 0 → ⊥) → after (refused n) m ≡ after (reply n values) (obey n m m')
refuses zero m m' values h = absurd (h refl)
refuses (suc n) m m' values h = refl

pub is-refused : (m : Machine) (c : Call) (n : ℕ) → n ≡ refusal m c → (n ≡ 0 → ⊥) → after (refused n) m ≡ called m c
unfolding called
is-refused m c n e h = rw (← e) (refuses n m (acted m c) (reports m.writer c) h)

pub is-accepted : (m : Machine) (c : Call) (n : ℕ) (values : List ℕ) (m' : Machine) → n ≡ refusal m c → n ≡ 0 → values ≡ reports m.writer c
    → m' ≡ acted m c → after (accepted values) m' ≡ called m c
unfolding called
is-accepted m c n values m' e z v a = rw (← e, z, v, a)
