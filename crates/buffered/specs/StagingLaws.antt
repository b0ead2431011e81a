-- What each step of staging does to the logical segment (`Reads`), to the sizes (`Sizes`) and to the synchronized number. Nothing above opens
-- the store: these laws, and those of proofs/WrittenReads, are all that is used of it.
use Rattle.std.specs.Prelude.{ℕ, zero, suc, ◌+◌, ◌≤◌, ◌<◌, min, ◌≡◌, refl, cond, take, drop, leb, ltb}
use Rattle.std.proofs.Common.{arith, ap, ◌∙◌, length-append, length-take, length-take-le, leb-true, leb-false, ltb-false}
use mathlib.Core.List.{List, [], ◌∷◌, ◌++◌, append_assoc, append-nil}
use Rattle.std.proofs.Math.ListN.{length}
use Rattle.lists.specs.Lay.{lay}
use Rattle.lists.specs.LayLaws.{length-lay, lay_done}
use Rattle.lists.specs.TakeLaws.{take-append, take_min}
use Rattle.lists.specs.ChoiceLaws.{either}
use Rattle.buffered.specs.Staging.{Store, logical, logical_position, flushed, direct, staged, emptied, room, rounds, written, written_all, back_to, marked, synchronized}

-- ---- a sound store with an image of n bytes, whose logical segment is bs

pub record Reads (n : ℕ) (s : Store) (bs : List ℕ) : Type 0 where
  pub size : length s.image ≡ n
  pub room : s.file.position + s.file.staged ≤ n
  pub fits : s.file.staged ≤ length s.staging
  pub sound : s.file.synchronized ≤ s.file.position
  pub under : s.file.position ≤ s.file.length
  pub top : s.file.length ≤ n
  pub same : logical s ≡ bs

pub reads-itself : (n : ℕ) (s : Store) (bs : List ℕ) → Reads n s bs → Reads n s (logical s)
reads-itself n s bs r =
    record { size = r.size; room = r.room; fits = r.fits; sound = r.sound; under = r.under; top = r.top; same = refl }

-- the logical position is the logical segment's length
pub same-position : (n : ℕ) (s : Store) (bs : List ℕ) → Reads n s bs → logical_position s.file ≡ length bs
same-position n s bs r = omega (arith, simp (length-append, length-take) at (ap length r.same))

-- ---- flush and sync leave it

pub flush-reads : (n : ℕ) (s : Store) (bs : List ℕ) → Reads n s bs → Reads n (flushed s) bs
unfolding flushed
flush-reads n s bs r =
    let at = s.file.position in
    let k = s.file.staged in
    let l : length (take k s.staging) ≡ k = length-take-le k s.staging r.fits in
    let d : take (at + k) (lay s.image at (take k s.staging)) ≡ logical s = rw l at (lay_done s.image at (take k s.staging) (omega arith)) in
    record {
      size = length-lay s.image at (take k s.staging) ∙ r.size;
      room = omega arith;
      fits = omega arith;
      sound = omega arith;
      under = omega arith;
      top = omega arith;
      same = append-nil _ ∙ d ∙ r.same;
    }

pub sync-reads : (n : ℕ) (s : Store) (t : ℕ) (bs : List ℕ) → Reads n s bs → Reads n (synchronized s t) bs
unfolding synchronized
sync-reads n s t bs r =
    let u = cond (ltb s.file.position t) (flushed s) s in
    let v : Reads n u bs = either (λ u. Reads n u bs) (ltb s.file.position t) (flushed s) s (λ d. flush-reads n s bs r) (λ d. r) in
    either (λ u. Reads n u bs) (leb t s.file.synchronized) s (marked u) (λ e. r)
    (λ e. record { size = v.size; room = v.room; fits = v.fits; sound = omega arith; under = v.under; top = v.top; same = v.same })

-- ---- what a write is made of appends its bytes; the write itself is in proofs/WrittenReads

pub flush-none : (s : Store) → (flushed s).file.staged ≡ 0
unfolding flushed
flush-none s = refl

pub staged-reads : (n : ℕ) (s : Store) (xs bs : List ℕ) → s.file.staged + length xs ≤ length s.staging → Reads n s bs → length bs + length xs ≤ n
    → Reads n (staged s xs) (bs ++ xs)
unfolding staged
staged-reads n s xs bs f r h =
    let p : logical_position s.file ≡ length bs = same-position n s bs r in
    record {
      size = r.size;
      room = omega arith;
      fits = rw (length-lay s.staging s.file.staged xs) f;
      sound = r.sound;
      under = r.under;
      top = r.top;
      same = rw (lay_done s.staging s.file.staged xs f, ← append_assoc, r.same);
    }

pub emptied-reads : (n : ℕ) (s : Store) (bs : List ℕ) → Reads n s bs → Reads n (emptied s) bs
unfolding emptied
emptied-reads n s bs r = either (λ u. Reads n u bs) (leb (length s.staging) s.file.staged) (flushed s) s (λ e. flush-reads n s bs r) (λ e. r)

-- a staging of any size has room once a full one is flushed
pub emptied-room : (s : Store) → 1 ≤ length (emptied s).staging → (emptied s).file.staged < length (emptied s).staging
unfolding emptied flushed
emptied-room s =
    either (λ (u : Store). 1 ≤ length u.staging → u.file.staged < length u.staging) (leb (length s.staging) s.file.staged) (flushed s) s
    (λ e h. h) (λ e h. omega (arith, leb-false))

-- ---- going back cuts it

pub back-reads : (n : ℕ) (s : Store) (k : ℕ) (bs : List ℕ) → Reads n s bs → Reads n (back_to s k) (take k bs)
unfolding back_to
back-reads n s k bs r =
    record {
      size = r.size;
      room = omega arith;
      fits = omega arith;
      sound = omega arith;
      under = omega arith;
      top = omega arith;
      same = rw (← r.same) (let a : s.file.position ≤ length s.image = omega arith in simp (take-append, take_min, length-take-le));
    }

-- ---- the buffers keep their lengths, and the file length never shrinks

pub record Sizes (s t : Store) : Type 0 where
  pub image : length t.image ≡ length s.image
  pub staging : length t.staging ≡ length s.staging
  pub file : s.file.length ≤ t.file.length

-- a write, or a flush, leaves the synchronized number too
pub record Wrote (s t : Store) : Type 0 where
  pub sizes : Sizes s t
  pub synchronized : t.file.synchronized ≡ s.file.synchronized

pub sizes-none : (s : Store) → Sizes s s
sizes-none s = record { image = refl; staging = refl; file = omega arith }

pub sizes-both : (s t u : Store) → Sizes s t → Sizes t u → Sizes s u
sizes-both s t u a b = record { image = b.image ∙ a.image; staging = b.staging ∙ a.staging; file = omega arith }

wrote_none : (s : Store) → Wrote s s
wrote_none s = record { sizes = sizes-none s; synchronized = refl }

wrote-both : (s t u : Store) → Wrote s t → Wrote t u → Wrote s u
wrote-both s t u a b = record { sizes = sizes-both s t u a.sizes b.sizes; synchronized = b.synchronized ∙ a.synchronized }

pub flush-wrote : (s : Store) → Wrote s (flushed s)
unfolding flushed
flush-wrote s =
    record {
      sizes = record { image = length-lay s.image _ (take s.file.staged s.staging); staging = refl; file = omega arith };
      synchronized = refl;
    }

direct-wrote : (s : Store) (xs : List ℕ) → Wrote s (direct s xs)
unfolding direct
direct-wrote s xs =
    record { sizes = record { image = length-lay s.image _ xs; staging = refl; file = omega arith }; synchronized = refl }

staged-wrote : (s : Store) (xs : List ℕ) → Wrote s (staged s xs)
unfolding staged
staged-wrote s xs =
    record { sizes = record { image = refl; staging = length-lay s.staging _ xs; file = omega arith }; synchronized = refl }

emptied-wrote : (s : Store) → Wrote s (emptied s)
unfolding emptied
emptied-wrote s =
    either (λ u. Wrote s u) (leb (length s.staging) s.file.staged) (flushed s) s (λ e. flush-wrote s) (λ e. wrote_none s)

rounds-wrote : (fuel : ℕ) (s : Store) (xs : List ℕ) → Wrote s (rounds fuel s xs)
unfolding rounds
rounds-wrote zero s xs = wrote_none s
rounds-wrote (suc fuel) s [] = wrote_none s
rounds-wrote (suc fuel) s (x ∷ xs) =
    let t = emptied s in
    let ys = x ∷ xs in
    let a = take (room t) ys in
    let b = drop (room t) ys in
    wrote-both s t _ (emptied-wrote s)
    (either (λ u. Wrote t u) (ltb (length t.staging) (length ys)) (direct (flushed t) ys) (rounds fuel (staged t a) b)
    (λ e. wrote-both t (flushed t) _ (flush-wrote t) (direct-wrote (flushed t) ys))
    (λ e. wrote-both t (staged t a) _ (staged-wrote t a) (rounds-wrote fuel (staged t a) b)))

pub written-wrote : (s : Store) (xs : List ℕ) → Wrote s (written s xs)
unfolding written
written-wrote s xs = rounds-wrote (length xs) s xs

pub written_all-wrote : (s : Store) (writes : List (List ℕ)) → Wrote s (written_all s writes)
unfolding written_all
written_all-wrote s [] = wrote_none s
written_all-wrote s (xs ∷ writes) = wrote-both s (written s xs) _ (written-wrote s xs) (written_all-wrote (written s xs) writes)

pub back-sizes : (s : Store) (k : ℕ) → Sizes s (back_to s k)
unfolding back_to
back-sizes s k = record { image = refl; staging = refl; file = omega arith }

pub sync-sizes : (s : Store) (t : ℕ) → Sizes s (synchronized s t)
unfolding synchronized
sync-sizes s t =
    let v : Sizes s (cond (ltb s.file.position t) (flushed s) s) =
    either (λ u. Sizes s u) (ltb s.file.position t) (flushed s) s (λ e. (flush-wrote s).sizes) (λ e. sizes-none s) in
    either (λ u. Sizes s u) (leb t s.file.synchronized) s _ (λ e. sizes-none s)
    (λ e. record { image = v.image; staging = v.staging; file = v.file })

-- ---- the synchronized number: going back lowers it to at most k; a sync raises it, to t at least where the logical segment reaches t

pub back-synchronized : (s : Store) (k : ℕ) → (back_to s k).file.synchronized ≡ min s.file.synchronized k
unfolding back_to
back-synchronized s k = refl

module _ (n : ℕ) (s : Store) (t : ℕ) (bs : List ℕ) (r : Reads n s bs) where
  pub sync-rises : s.file.synchronized ≤ (synchronized s t).file.synchronized
  unfolding synchronized flushed
  sync-rises =
      either (λ (u : Store). s.file.synchronized ≤ u.file.synchronized) (leb t s.file.synchronized) s _ (λ e. omega arith)
      (λ e. either (λ (u : Store). s.file.synchronized ≤ u.file.position) (ltb s.file.position t) (flushed s) s (λ d. omega arith) (λ d. omega arith))

  pub sync-reaches : t ≤ length bs → t ≤ (synchronized s t).file.synchronized
  unfolding synchronized flushed
  sync-reaches h =
      let p : logical_position s.file ≡ length bs = same-position n s bs r in
      either (λ (u : Store). t ≤ u.file.synchronized) (leb t s.file.synchronized) s _ (λ e. omega (arith, leb-true))
      (λ e. either (λ (u : Store). t ≤ u.file.position) (ltb s.file.position t) (flushed s) s (λ d. omega arith) (λ d. omega (arith, ltb-false)))
