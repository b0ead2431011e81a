-- Positions there and back, and that each promise allows one answer.
use Rattle.std.specs.Prelude.{ℕ, ◌^◌, ◌<◌, ◌≤◌, ◌≡◌, refl, List, [], ◌∷◌, ◌++◌, length, ltb, Bool, true, false, Result}
use Rattle.std.proofs.Common.{arith, ap, sym, ◌∙◌, append_assoc, length-append, take_at, drop_at, le-ltb}
use Rattle.lists.specs.Answers.{accepted, number_of, ◌⇒◌, first}
use Rattle.lists.specs.Numbers.{le, number}
use Rattle.lists.specs.NumbersLaws.{length-le, from_le-le}
use Rattle.entry.specs.declared.LogPosition.{LogPosition}
use Rattle.entry.specs.declared.Refusal.{Refusal}
use Rattle.entry.specs.RefusalLaws.{answered_one, one_result}
use Rattle.entry.specs.Position.{position_bytes, serialized_as, Written, SerializeAllows, serialized, deserialized_as, DeserializeAllows, deserialized}

pub length-position_bytes : (p : LogPosition) → length (position_bytes p) ≡ 16
unfolding position_bytes
length-position_bytes p = simp (length-append, length-le)

-- what was written is read back
pub position-back : (p : LogPosition) (rest : List ℕ) → p.file_id < 2 ^ 64 → p.offset < 2 ^ 64
    → deserialized (position_bytes p ++ rest) ≡ accepted (p.file_id ∷ p.offset ∷ [])
unfolding deserialized position_bytes number
position-back p rest h g =
    let f = le 8 p.file_id in
    let o = le 8 p.offset in
    let e : (f ++ o) ++ rest ≡ f ++ (o ++ rest) = append_assoc f o rest in
    let l : 16 ≤ length (f ++ (o ++ rest)) = simp (length-append, length-le) (omega arith) in
    rw (
      e,
      le-ltb _ 16 l,
      take_at f (o ++ rest) 8 (length-le 8 _),
      drop_at f (o ++ rest) 8 (length-le 8 _),
      take_at o rest 8 (length-le 8 _),
      from_le-le 8 p.file_id h,
      from_le-le 8 p.offset g,
    )

-- ---- one answer

-- but for 9, which does not say what was cut
serialized-one : (a b : Result (Unit {0}) Refusal) → serialized_as a ≡ serialized_as b → (number_of (serialized_as a) ≡ 9 → ⊥) → a ≡ b
serialized-one = answered_one (λ _. []) (λ _ _ _. refl)

no_nine : (bad : Bool) (n : ℕ) → (n ≡ 9 → ⊥) → first ((bad ⇒ n) ∷ []) ≡ 9 → ⊥
no_nine true n h e = h e
no_nine false n h e = omega arith

pub serialize-one-answer : (p : LogPosition) (before : List ℕ) (a b : Result (Unit {0}) Refusal) (after after' : List ℕ)
    → SerializeAllows p before a after → SerializeAllows p before b after' → (a ≡ b) × (after ≡ after')
unfolding serialized
serialize-one-answer p before a b after after' x y = (
  one_result (λ _. []) (λ _ _ _. refl) a b _ [] (no_nine (ltb (length before) 16) 5 (λ e. omega arith)) (ap (λ (w : Written). w.answer) x) (ap (λ (w : Written). w.answer) y),
  ap (λ (w : Written). w.buffer) (x ∙ sym y),
)

same_position : (p q : LogPosition) → p.file_id ∷ p.offset ∷ [] ≡ q.file_id ∷ q.offset ∷ [] → p ≡ q
same_position p q e =
    let f : p.file_id ≡ q.file_id = cc in
    let o : p.offset ≡ q.offset = cc in
    λ i. record { file_id = f i; offset = o i }

deserialized-one : (a b : Result LogPosition Refusal) → deserialized_as a ≡ deserialized_as b → (number_of (deserialized_as a) ≡ 9 → ⊥) → a ≡ b
deserialized-one = answered_one (λ (p : LogPosition). p.file_id ∷ p.offset ∷ []) same_position

pub deserialize-one-answer : (bytes : List ℕ) (a b : Result LogPosition Refusal) → DeserializeAllows bytes a → DeserializeAllows bytes b → a ≡ b
unfolding deserialized
deserialize-one-answer bytes a b x y = one_result _ same_position a b _ _ (no_nine (ltb (length bytes) 16) 1 (λ e. omega arith)) x y
