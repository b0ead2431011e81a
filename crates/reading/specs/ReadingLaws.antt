-- What the functions of `Reading` say of the bytes; and each walk goes forward, so it is what its turns say, with no fuel in sight. Code is proved
-- by these.
use Rattle.std.specs.Prelude.{◌≡◌, Bool, ◌&&◌, List, [], ◌∷◌, ℕ, zero, suc, ◌+◌, ◌-◌, ◌≤◌, ◌<◌}
use Rattle.std.proofs.Math.Path.{refl}
use Rattle.std.proofs.Common.{ap, ◌∙◌, suc-le-suc, zero-lt-suc}
use Rattle.std.proofs.Math.Bool.{true, false, cond}
use native.Mathlib.Omega.{arith}
use Rattle.std.proofs.Math.ListN.{length, get_or, get_or-eq_default}
use Rattle.std.proofs.Math.Dec.{leb, eqb}
use borrow.Author.Tests.{le-leb, lt-leb, eq-eqb, ne_eqb, leb-true, leb-false, eqb-true, eqb-false}
use Rattle.lists.specs.Walk.{Turn, stop, on, Forward, around-stop, around-on}
use Rattle.lists.specs.Numbers.{number}
use Rattle.entry.specs.Format.{chunk_sum}
use Rattle.reading.specs.Reading.{Mark, chunk, close, cut, other, standing, header_cut, body_cut, chunk_data, fits, matches, at, broken}
use Rattle.reading.specs.Reading.{skip_turn, skip, Whole, complete, aborted, cut_off, wrong_sum, also, whole_turn, whole, chunks_at, Lead}
use Rattle.reading.specs.Reading.{entry, none, lead, Opened, opens, refuses, opened}

-- a byte other than 0 lies inside
pub inside : (s : List ℕ) (p : ℕ) → 0 < get_or s p 0 → p < length s
inside [] p h = absurd (omega arith)
inside (x ∷ s) zero h = zero-lt-suc _
inside (x ∷ s) (suc p) h = suc-le-suc (inside s p h)

-- ---- what stands at a place, as facts about the bytes: `says` from the mark to the facts, `stands` back

abbrev pub Says : List ℕ → ℕ → Mark → Type 0
Says image p (chunk n) = (get_or image p 0 ≡ 2) × (p + 5 ≤ length image) × (number 4 image (p + 1) ≡ n)
Says image p close = get_or image p 0 ≡ 3
Says image p (cut k) = (get_or image p 0 ≡ 2) × (length image < p + 5) × (p + 5 - length image ≡ k)
Says image p other = (get_or image p 0 ≡ 2 → ⊥) × (get_or image p 0 ≡ 3 → ⊥)

module _ (image : List ℕ) (p : ℕ) where
  pub says : {m : Mark} → standing image p ≡ m → Says image p m
  unfolding standing
  says e = rw e at (go (eqb (get_or image p 0) 2) (leb (p + 5) (length image)) (eqb (get_or image p 0) 3) refl refl refl)
    where
      go : (a b c : Bool) → eqb (get_or image p 0) 2 ≡ a → leb (p + 5) (length image) ≡ b → eqb (get_or image p 0) 3 ≡ c
          → Says image p (cond a (cond b (chunk (number 4 image (p + 1))) (cut (p + 5 - length image))) (cond c close other))
      go true true c ea eb ec = (eqb-true _ _ ea, leb-true _ _ eb, refl)
      go true false c ea eb ec = (eqb-true _ _ ea, leb-false _ _ eb, refl)
      go false b true ea eb ec = eqb-true _ _ ec
      go false b false ea eb ec = (eqb-false _ _ ea, eqb-false _ _ ec)

  pub stands : (m : Mark) → Says image p m → standing image p ≡ m
  unfolding standing
  stands (chunk n) h = simp (eq-eqb _ _ h.0, le-leb _ _ h.1, h.2)
  stands close h = simp (ne_eqb (get_or image p 0) 2 (omega arith), eq-eqb _ _ h)
  stands (cut k) h = simp (eq-eqb _ _ h.0, lt-leb _ _ h.1, h.2)
  stands other h = simp (ne_eqb _ _ h.0, ne_eqb _ _ h.1)

  pub nothing-stands : length image ≤ p → standing image p ≡ other
  nothing-stands h = let z = get_or-eq_default image 0 h in stands other (omega arith)

  pub close-inside : standing image p ≡ close → p < length image
  close-inside e = let z = says e in inside image p (omega arith)

  pub cut_inside : {k : ℕ} → standing image p ≡ cut k → p < length image
  cut_inside e = let z = says e in inside image p (omega arith)

-- ---- the lead of an entry, likewise

abbrev pub LeadSays : (file : ℕ) → List ℕ → ℕ → Lead → Type 0
LeadSays file image p (entry id) = (p + 9 ≤ length image) × (get_or image p 0 ≡ 1) × (file ≤ id) × (number 8 image (p + 1) ≡ id)
LeadSays file image p none = p + 9 ≤ length image → get_or image p 0 ≡ 1 → file ≤ number 8 image (p + 1) → ⊥

module _ (file : ℕ) (image : List ℕ) (p : ℕ) where
  pub lead-says : {l : Lead} → lead file image p ≡ l → LeadSays file image p l
  unfolding lead
  lead-says e = rw e at (go (leb (p + 9) (length image)) (eqb (get_or image p 0) 1) (leb file (number 8 image (p + 1))) refl refl refl)
    where
      go : (a b c : Bool) → leb (p + 9) (length image) ≡ a → eqb (get_or image p 0) 1 ≡ b → leb file (number 8 image (p + 1)) ≡ c
          → LeadSays file image p (cond (a && b && c) (entry (number 8 image (p + 1))) none)
      go true true true ea eb ec = (leb-true _ _ ea, eqb-true _ _ eb, leb-true _ _ ec, refl)
      go true true false ea eb ec = λ h i j. omega (arith, leb-false)
      go true false c ea eb ec = λ h i j. eqb-false _ _ eb i
      go false b c ea eb ec = λ h i j. omega (arith, leb-false)

  pub leads : (l : Lead) → LeadSays file image p l → lead file image p ≡ l
  leads l h = go (lead file image p) l refl h
    where
      go : (k l : Lead) → lead file image p ≡ k → LeadSays file image p l → lead file image p ≡ l
      go (entry i) (entry j) e h = let z = lead-says e in cc
      go none none e h = e
      go (entry i) none e h = let z = lead-says e in absurd (h (omega arith) z.1 (omega arith))
      go none (entry j) e h = absurd (lead-says e h.0 h.1 (omega arith))

-- ---- opening: one law for each answer, and what an accepted one says

module _ (image : List ℕ) where
  abbrev pub Magic : Type 0
  Magic = (get_or image 0 0 ≡ 0x6F) × (get_or image 1 0 ≡ 0x6B) × (get_or image 2 0 ≡ 0x77)

  abbrev pub OpenedSays : Opened → Type 0
  OpenedSays (opens v) = (5 + v ≤ length image) × Magic × (get_or image 3 0 ≡ 0) × (get_or image 4 0 ≡ v)
  OpenedSays (refuses n) = Unit {0}

  pub opened-says : {o : Opened} → opened image ≡ o → OpenedSays o
  unfolding opened
  opened-says e =
      rw e at
      (go (leb 5 (length image)) (eqb (get_or image 0 0) 0x6F) (eqb (get_or image 1 0) 0x6B) (eqb (get_or image 2 0) 0x77) (eqb (get_or image 3 0) 0)
      (leb (5 + get_or image 4 0) (length image)) refl refl refl refl refl)
    where
      go : (s a b c d l : Bool) → eqb (get_or image 0 0) 0x6F ≡ a → eqb (get_or image 1 0) 0x6B ≡ b → eqb (get_or image 2 0) 0x77 ≡ c
          → eqb (get_or image 3 0) 0 ≡ d → leb (5 + get_or image 4 0) (length image) ≡ l
          → OpenedSays (cond s (cond (a && b && c) (cond d (cond l (opens (get_or image 4 0)) (refuses 1)) (refuses 3)) (refuses 2)) (refuses 1))
      go true true true true true true ea eb ec ed el = (leb-true _ _ el, (eqb-true _ _ ea, eqb-true _ _ eb, eqb-true _ _ ec), eqb-true _ _ ed, refl)
      go true true true true true false ea eb ec ed el = tt
      go true true true true false l ea eb ec ed el = tt
      go true true true false d l ea eb ec ed el = tt
      go true true false c d l ea eb ec ed el = tt
      go true false b c d l ea eb ec ed el = tt
      go false a b c d l ea eb ec ed el = tt

  pub opened-short : length image < 5 → opened image ≡ refuses 1
  unfolding opened
  opened-short h = simp (lt-leb _ _ h)

  pub opened-magic : 5 ≤ length image → (Magic → ⊥) → opened image ≡ refuses 2
  unfolding opened
  opened-magic h m = simp (le-leb _ _ h) (go _ (eqb (get_or image 0 0) 0x6F) (eqb (get_or image 1 0) 0x6B) (eqb (get_or image 2 0) 0x77) refl refl refl)
    where
      go : (x : Opened) (a b c : Bool) → eqb (get_or image 0 0) 0x6F ≡ a → eqb (get_or image 1 0) 0x6B ≡ b → eqb (get_or image 2 0) 0x77 ≡ c
          → cond (a && b && c) x (refuses 2) ≡ refuses 2
      go x true true true ea eb ec = absurd (m (eqb-true _ _ ea, eqb-true _ _ eb, eqb-true _ _ ec))
      go x true true false ea eb ec = refl
      go x true false c ea eb ec = refl
      go x false b c ea eb ec = refl

  module _ (h : 5 ≤ length image) (m : Magic) where
    pub opened-version : (get_or image 3 0 ≡ 0 → ⊥) → opened image ≡ refuses 3
    unfolding opened
    opened-version v = simp (le-leb _ _ h, eq-eqb _ _ m.0, eq-eqb _ _ m.1, eq-eqb _ _ m.2, ne_eqb _ _ v)

    module _ (v : get_or image 3 0 ≡ 0) where
      pub opened-cut : length image < 5 + get_or image 4 0 → opened image ≡ refuses 1
      unfolding opened
      opened-cut l = simp (le-leb _ _ h, eq-eqb _ _ m.0, eq-eqb _ _ m.1, eq-eqb _ _ m.2, eq-eqb _ _ v, lt-leb _ _ l)

      pub opened-opens : 5 + get_or image 4 0 ≤ length image → opened image ≡ opens (get_or image 4 0)
      unfolding opened
      opened-opens l = simp (le-leb _ _ h, eq-eqb _ _ m.0, eq-eqb _ _ m.1, eq-eqb _ _ m.2, eq-eqb _ _ v, le-leb _ _ l)

-- ---- skipping

module _ (image : List ℕ) where
  pub skip-forward : (p : ℕ) → Forward (length image) p (skip_turn p (standing image p))
  unfolding skip_turn
  skip-forward p = go (standing image p) refl
    where
      go : (m : Mark) → standing image p ≡ m → Forward (length image) p (skip_turn p m)
      go (chunk n) e = let z = says image p e in omega arith
      go close e = tt
      go (cut k) e = tt
      go other e = tt

  module _ (p : ℕ) where
    pub skip-chunk : {n : ℕ} → standing image p ≡ chunk n → skip image p ≡ skip image (p + 9 + n)
    unfolding skip skip_turn
    skip-chunk e = around-on _ (at 0) (length image) skip-forward p (ap (skip_turn p) e)

    pub skip-close : standing image p ≡ close → skip image p ≡ at (p + 1)
    unfolding skip skip_turn
    skip-close e = around-stop _ (at 0) (length image) skip-forward p (ap (skip_turn p) e)

    pub skip-cut : {k : ℕ} → standing image p ≡ cut k → skip image p ≡ broken (header_cut p k)
    unfolding skip skip_turn
    skip-cut e = around-stop _ (at 0) (length image) skip-forward p (ap (skip_turn p) e)

    pub skip-other : standing image p ≡ other → skip image p ≡ at p
    unfolding skip skip_turn
    skip-other e = around-stop _ (at 0) (length image) skip-forward p (ap (skip_turn p) e)

-- ---- a whole entry

module _ (image : List ℕ) where
  -- the turn at a chunk, with its two tests as they come out
  abbrev pub chunk_turn : (p n : ℕ) → (fits' matches' : Bool) → Turn Whole
  chunk_turn p n a b = cond a (cond b (on (p + 9 + n) also) (stop (wrong_sum (p + 9 + n)))) (stop (cut_off (body_cut image p n) (p + 9 + n)))

  pub whole-forward : (p : ℕ) → Forward (length image) p (whole_turn image p (standing image p))
  unfolding whole_turn
  whole-forward p = go (standing image p) refl
    where
      in_chunk : (n : ℕ) (a b : Bool) → p + 5 ≤ length image → Forward (length image) p (chunk_turn p n a b)
      in_chunk n true true h = omega arith
      in_chunk n true false h = tt
      in_chunk n false b h = tt

      go : (m : Mark) → standing image p ≡ m → Forward (length image) p (whole_turn image p m)
      go (chunk n) e = in_chunk n (fits image p n) (matches image p n) (says image p e).1
      go close e = tt
      go (cut k) e = tt
      go other e = tt

  module _ (p : ℕ) where
    stops : {m : Mark} {r : Whole} → standing image p ≡ m → whole_turn image p m ≡ stop r → whole image p ≡ r
    unfolding whole
    stops e t = around-stop _ (aborted 0) (length image) whole-forward p (ap (whole_turn image p) e ∙ t)

    pub whole_chunk : {n : ℕ} → standing image p ≡ chunk n → p + 9 + n ≤ length image
        → number 4 image (p + 5 + n) ≡ chunk_sum n (chunk_data image p n) → whole image p ≡ also (whole image (p + 9 + n))
    unfolding whole whole_turn
    whole_chunk {n} e h c =
        let t : whole_turn image p (chunk n) ≡ on (p + 9 + n) also = simp (le-leb _ _ h, eq-eqb _ _ c) in
        around-on _ (aborted 0) (length image) whole-forward p (ap (whole_turn image p) e ∙ t)

    pub whole-wrong : {n : ℕ} → standing image p ≡ chunk n → p + 9 + n ≤ length image
        → (number 4 image (p + 5 + n) ≡ chunk_sum n (chunk_data image p n) → ⊥) → whole image p ≡ wrong_sum (p + 9 + n)
    unfolding whole_turn
    whole-wrong e h c = stops e (simp (le-leb _ _ h, ne_eqb _ _ c))

    pub whole-short : {n : ℕ} → standing image p ≡ chunk n → length image < p + 9 + n → whole image p ≡ cut_off (body_cut image p n) (p + 9 + n)
    unfolding whole_turn
    whole-short e h = stops e (simp (lt-leb _ _ h))

    pub whole-close : standing image p ≡ close → whole image p ≡ complete 0 (p + 1)
    unfolding whole_turn
    whole-close e = stops e refl

    pub whole-cut : {k : ℕ} → standing image p ≡ cut k → whole image p ≡ cut_off (header_cut p k) (length image)
    unfolding whole_turn
    whole-cut e = stops e refl

    pub whole-other : standing image p ≡ other → whole image p ≡ aborted p
    unfolding whole_turn
    whole-other e = stops e refl

-- ---- as many chunks as were counted

pub length-chunks_at : (image : List ℕ) (p count : ℕ) → length (chunks_at image p count) ≡ count
unfolding chunks_at
length-chunks_at image p zero = refl
length-chunks_at image p (suc count) = ap suc (length-chunks_at image (p + 9 + number 4 image (p + 1)) count)
