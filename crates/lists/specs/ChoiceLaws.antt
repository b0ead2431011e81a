-- What holds of both outcomes holds of the choice: of a test, and of a refusal number.
use Rattle.std.specs.Prelude.{ℕ, zero, suc, ◌≡◌, refl, Bool, true, false, cond, List}
use Rattle.std.proofs.Common.{ap}
use Rattle.lists.specs.Answers.{number_of, reply, obey}

pub either {ℓ} : {A : Type 0} (P : A → Type ℓ) (b : Bool) (x y : A) → (b ≡ true → P x) → (b ≡ false → P y) → P (cond b x y)
either P true x y f g = f refl
either P false x y f g = g refl

-- refused, it stays; accepted, it goes
pub obeyed {ℓ} : {A : Type 0} (P : A → Type ℓ) (no' : ℕ) (stay go : A) → P stay → (no' ≡ 0 → P go) → P (obey no' stay go)
obeyed P zero stay go s g = g refl
obeyed P (suc n) stay go s g = s

pub obeyed-both {ℓ} : {A B : Type 0} (P : A → B → Type ℓ) (no' : ℕ) (stay go : A) (stay' go' : B) → P stay stay' → (no' ≡ 0 → P go go')
    → P (obey no' stay go) (obey no' stay' go')
obeyed-both P zero stay go stay' go' s g = g refl
obeyed-both P (suc n) stay go stay' go' s g = s

-- a refusal changes nothing
pub refusal-keeps : {A : Type 0} (no' : ℕ) (stay go : A) (values : List ℕ) → (number_of (reply no' values) ≡ 0 → ⊥) → obey no' stay go ≡ stay
refusal-keeps zero stay go values f = absurd (f refl)
refusal-keeps (suc n) stay go values f = refl

-- ---- replies

pub number-reply : (no' : ℕ) (values : List ℕ) → number_of (reply no' values) ≡ no'
number-reply zero values = refl
number-reply (suc n) values = refl

-- the same number, and the same values beside 0
pub same-reply : (no' : ℕ) (values values' : List ℕ) → (no' ≡ 0 → values ≡ values') → reply no' values ≡ reply no' values'
same-reply zero values values' e = ap (λ vs. reply 0 vs) (e refl)
same-reply (suc n) values values' e = refl
