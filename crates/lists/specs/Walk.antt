-- A walk over places: a step at a place stops with a result, or goes on at a later place, with a function for what becomes
-- of the rest's result. It is run by fuel, and a walk whose every turn but the last starts inside `size` needs no more
-- than `size + 1`: `around-stop` and `around-on` are the equations that code is proved by, `around-ind` is the induction,
-- and `more-fuel` says that more fuel than needed changes nothing.
use Rattle.std.specs.Prelude.{◌≡◌, refl, ℕ, zero, suc, ◌+◌, ◌<◌}
use Rattle.std.proofs.Common.{sym, ◌∙◌, arith}
use Rattle.std.proofs.Math.Path.{ap}

pub data Turn (R : Type 0) : Type 0 where
  stop : R → Turn R
  on : ℕ → (R → R) → Turn R

module _ {R : Type 0} where
  -- a turn that goes on starts inside the size, and goes forward
  abbrev pub Forward : ℕ → ℕ → Turn R → Type 0
  Forward size p (stop r) = Unit {0}
  Forward size p (on q k) = (p < size) × (p < q)

  -- a turn keeps Q, a statement of a place and the result of the walk from there
  abbrev pub Keeps : (ℕ → R → Type 0) → ℕ → Turn R → Type 0
  Keeps Q p (stop r) = Q p r
  Keeps Q p (on q k) = (r : R) → Q q r → Q p (k r)

module _ {R : Type 0} (step : ℕ → Turn R) (out : R) where
  unfoldable pub walk : ℕ → ℕ → R
  walk zero p = out
  walk (suc f) p = elim (step p) [ stop r ↦ r | on q k ↦ k (walk f q) ]

  unfoldable pub around : ℕ → ℕ → R
  around size p = walk (suc size) p

  walk-stop : (f p : ℕ) {r : R} → step p ≡ stop r → walk (suc f) p ≡ r
  unfolding walk
  walk-stop f p e = rw (e, walk)

  walk-on : (f p : ℕ) {q : ℕ} {k : R → R} → step p ≡ on q k → walk (suc f) p ≡ k (walk f q)
  unfolding walk
  walk-on f p e = rw (e, walk)

  module _ (size : ℕ) (forward : (p : ℕ) → Forward size p (step p)) where
    enough : (f g p : ℕ) → 0 < f → 0 < g → size < p + f → size < p + g → walk f p ≡ walk g p
    enough zero g p f0 g0 hf hg = absurd (omega arith)
    enough (suc f) zero p f0 g0 hf hg = absurd (omega arith)
    enough (suc f) (suc g) p f0 g0 hf hg = turn (step p) refl (enough f g)
      where
        turn : (t : Turn R) → step p ≡ t → ((q : ℕ) → 0 < f → 0 < g → size < q + f → size < q + g → walk f q ≡ walk g q) → walk (suc f) p ≡ walk (suc g) p
        turn (stop r) e ih = walk-stop f p e ∙ sym (walk-stop g p e)
        turn (on q k) e ih =
            let z : Forward size p (on q k) = rw e at (forward p) in
            walk-on f p e ∙ ap k (ih q (omega arith) (omega arith) (omega arith) (omega arith)) ∙ sym (walk-on g p e)

    pub more-fuel : (f p : ℕ) → 0 < f → size < p + f → walk f p ≡ around size p
    unfolding around
    more-fuel f p f0 h = enough f (suc size) p f0 (omega arith) h (omega arith)

    pub around-stop : (p : ℕ) {r : R} → step p ≡ stop r → around size p ≡ r
    unfolding around
    around-stop p e = walk-stop size p e

    pub around-on : (p : ℕ) {q : ℕ} {k : R → R} → step p ≡ on q k → around size p ≡ k (around size q)
    unfolding around
    around-on p {q} {k} e =
        let z : Forward size p (on q k) = rw e at (forward p) in
        walk-on size p e ∙ ap k (enough size (suc size) q (omega arith) (omega arith) (omega arith) (omega arith))

    module _ (Q : ℕ → R → Type 0) (keeps : (p : ℕ) → Keeps Q p (step p)) where
      walk-ind : (f p : ℕ) → 0 < f → size < p + f → Q p (walk f p)
      walk-ind zero p f0 h = absurd (omega arith)
      walk-ind (suc f) p f0 h = turn (step p) refl (walk-ind f)
        where
          turn : (t : Turn R) → step p ≡ t → ((q : ℕ) → 0 < f → size < q + f → Q q (walk f q)) → Q p (walk (suc f) p)
          turn (stop r) e ih = rw (walk-stop f p e) (let z : Keeps Q p (stop r) = rw e at (keeps p) in z)
          turn (on q k) e ih =
              let z : Forward size p (on q k) = rw e at (forward p) in
              let y : Keeps Q p (on q k) = rw e at (keeps p) in
              rw (walk-on f p e) (y (walk f q) (ih q (omega arith) (omega arith)))

      pub around-ind : (p : ℕ) → Q p (around size p)
      unfolding around
      around-ind p = walk-ind (suc size) p (omega arith) (omega arith)
