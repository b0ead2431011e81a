-- Whether a call is made, over plain variables.
use Rattle.std.proofs.Common.{◌≡◌, refl, ap, sym, ◌∙◌, Bool, true, false, ◌&&◌, cond, List, [], ℕ, arith, replicate}
use Rattle.lists.specs.Lay.{lay}
use Rattle.lists.specs.AnswersLaws.{both}
use Rattle.okaywal_segment.proofs.Ways.{lay_none}

-- the slices are long enough and the words in their ranges; where not, zeros in the answer, unless a slice is too short
pub record Starts (long fits : Bool) (answer : List ℕ) (made : Bool) (answer' : List ℕ) : Type 0 where
  pub made_is : made ≡ (long && fits)
  pub answer_is : answer' ≡ cond made answer (cond long (lay answer 0 (replicate 4 0)) answer)

module _ {long fits : Bool} where
  pub too_short : {answer : List ℕ} → long ≡ false → Starts long fits answer false answer
  too_short e = record { made_is = rw e; answer_is = rw e }

  pub long-enough : {answer answer' : List ℕ} {made : Bool} → long ≡ true → made ≡ fits → answer' ≡ cond made answer (lay answer 0 (replicate 4 0))
      → Starts long fits answer made answer'
  long-enough e f g = record { made_is = rw (e, f); answer_is = rw e g }

  pub no_answer : (made : Bool) → long ≡ true → made ≡ fits → Starts long fits [] made []
  no_answer made e f = long-enough e f (nothing made)
    where
      nothing : (b : Bool) → [] ≡ cond b [] (lay [] 0 (replicate 4 0))
      nothing true = refl
      nothing false = sym (lay_none (replicate 4 0) 0)

-- ---- what follows from it

-- not made: 12, and nothing or zeros in the answer
pub not_made : {A : Type 0} (end : List ℕ → A) (call : A) (long fits made : Bool) (answer answer' : List ℕ) → Starts long fits answer made answer'
    → made ≡ false → end answer' ≡ cond long (cond fits call (end (lay answer 0 (replicate 4 0)))) (end answer)
not_made end call true true made answer answer' s e = let z : ◌≡◌ {A = ℕ} 0 1 = cc in absurd (omega arith)
not_made end call true false made answer answer' s e = ap end (rw e at s.answer_is)
not_made end call false fits made answer answer' s e = ap end (rw e at s.answer_is)

pub both_hold : (long fits made : Bool) (answer answer' : List ℕ) → Starts long fits answer made answer' → made ≡ true → (long ≡ true) × (fits ≡ true)
both_hold long fits made answer answer' s e = both long fits (sym s.made_is ∙ e)
