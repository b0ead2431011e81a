-- An opening's row of checks in two parts, over plain variables: out of range, and no room.
use Rattle.std.specs.Prelude.{ℕ}
use Rattle.std.proofs.Common.{◌≡◌, refl, sym, ◌∙◌}
use Rattle.std.specs.Prelude.{true, false, List, [], ◌∷◌, ◌++◌}
use Rattle.lists.specs.Answers.{Check, ◌⇒◌, first}
use Rattle.lists.specs.AnswersLaws.{clear}
use Rattle.log_file.specs.Opening.{range_checks, room_checks, open_checks}

first-left : (xs ys : List Check) → (first xs ≡ 0 → ⊥) → first xs ≡ first (xs ++ ys)
first-left [] ys h = absurd (h refl)
first-left ((true ⇒ n) ∷ xs) ys h = refl
first-left ((false ⇒ n) ∷ xs) ys h = first-left xs ys h

module _ (p v l f image staging n : ℕ) (e : n ≡ first (range_checks p l f image staging)) where
  pub out_of_range : (n ≡ 0 → ⊥) → n ≡ first (open_checks p v l f image staging)
  out_of_range h = e ∙ first-left (range_checks p l f image staging) (room_checks p v l image) (λ z. h (e ∙ z))

  pub in_range : n ≡ 0 → first (room_checks p v l image) ≡ first (open_checks p v l f image staging)
  in_range z =
      let k = clear (range_checks p l f image staging) (sym e ∙ z) in
      rw (k.0, k.1.0, k.1.1.0, k.1.1.1.0, k.1.1.1.1.0, k.1.1.1.1.1.0)
