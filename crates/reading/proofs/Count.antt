-- A whole entry's verdict with more chunks counted before it: what the walk's invariant says.
use Rattle.std.proofs.Common.{◌≡◌, refl, sym, ap, ◌∙◌, ℕ, ◌+◌, Bool, true, false, cond, List, Ok, Err, arith, leb-true, leb-false, eqb-true}
use Rattle.std.proofs.lemmas.Bool.{eqb-false}
use Rattle.entry.specs.declared.ChunkCut.{ChunkCut}
use Rattle.reading.specs.ReadingLaws.{whole_chunk, whole-wrong, whole-short, whole-close, whole-cut, whole-other}
use Rattle.reading.proofs.Bounds.{chunk_inside, close_inside}
use Rattle.reading.specs.Reading.{chunk, standing, fits, matches, body_cut, checked, whole, Whole, complete, aborted, cut_off, wrong_sum, also}

abbrev pub plus : ℕ → Whole → Whole
plus k (complete n q) = complete (k + n) q
plus k (aborted q) = aborted q
plus k (cut_off c q) = cut_off c q
plus k (wrong_sum q) = wrong_sum q

pub plus-zero : (w : Whole) → w ≡ plus 0 w
plus-zero (complete n q) = ap (λ (k : ℕ). complete k q) (omega arith)
plus-zero (aborted q) = refl
plus-zero (cut_off c q) = refl
plus-zero (wrong_sum q) = refl

pub plus-also : (k : ℕ) (w : Whole) → plus k (also w) ≡ plus (k + 1) w
unfolding also
plus-also k (complete n q) = ap (λ (m : ℕ). complete m q) (omega arith)
plus-also k (aborted q) = refl
plus-also k (cut_off c q) = refl
plus-also k (wrong_sum q) = refl

-- what the check of a chunk says of the entry: its walk goes on, or it stops
module _ (image : List ℕ) (p n : ℕ) (e : chunk n ≡ standing image p) where
  right : Ok true ≡ checked image p n → whole image p ≡ also (whole image (p + 9 + n))
  unfolding checked
  right = go (fits image p n) (matches image p n) refl refl
    where
      go : (a b : Bool) → fits image p n ≡ a → matches image p n ≡ b → Ok true ≡ cond a (Ok b) (Err (body_cut image p n)) → whole image p ≡ also (whole image (p + 9 + n))
      go true true f m h = whole_chunk image p (sym e) (leb-true _ _ f) (eqb-true _ _ m)
      go true false f m h = let z : true ≡ false = cc in cc
      go false b f m h = let z : true ≡ false = cc in cc

  pub wrong : Ok false ≡ checked image p n → whole image p ≡ wrong_sum (p + 9 + n)
  unfolding checked
  wrong = go (fits image p n) (matches image p n) refl refl
    where
      go : (a b : Bool) → fits image p n ≡ a → matches image p n ≡ b → Ok false ≡ cond a (Ok b) (Err (body_cut image p n)) → whole image p ≡ wrong_sum (p + 9 + n)
      go true true f m h = let z : false ≡ true = cc in cc
      go true false f m h = whole-wrong image p (sym e) (leb-true _ _ f) (eqb-false _ _ m)
      go false b f m h = let z : true ≡ false = cc in cc

  pub short : (c : ChunkCut) → Err c ≡ checked image p n → whole image p ≡ cut_off c (p + 9 + n)
  unfolding checked
  short c = go (fits image p n) refl
    where
      go : (a : Bool) → fits image p n ≡ a → Err c ≡ cond a (Ok (matches image p n)) (Err (body_cut image p n)) → whole image p ≡ cut_off c (p + 9 + n)
      go true f h = let z : true ≡ false = cc in cc
      go false f h = let z : c ≡ body_cut image p n = cc in whole-short image p (sym e) (leb-false _ _ f) ∙ ap (λ (k : ChunkCut). cut_off k (p + 9 + n)) (sym z)

  pub goes_on : (from count : ℕ) → whole image from ≡ plus count (whole image p) → Ok true ≡ checked image p n → whole image from ≡ plus (count + 1) (whole image (p + 9 + n))
  goes_on from count w h = w ∙ ap (plus count) (right h) ∙ plus-also count (whole image (p + 9 + n))

pub ruleset reading = (chunk_inside, close_inside, wrong, short, whole-close, whole-cut, whole-other, plus-zero, goes_on)
