-- The reports of a shown writer are the history's, and so are its answers. These laws stand here and not in specs/, since a must-fail edit changes
-- `reports`: `finish-tells` then falls, and `same-tells` and `same_answer` wait for it.
use Rattle.std.specs.Prelude.{ℕ, suc, ◌-◌, true, pos, negsuc, ◌+ℤ◌}
use Rattle.std.proofs.Common.{arith, ap, ltb-false, le-ltb}
use Rattle.std.proofs.Math.Path.{◌≡◌, refl}
use mathlib.Core.List.{List, [], ◌∷◌, ◌++◌, append-nil}
use Rattle.std.proofs.Math.ListN.{length, take, length-append, length-take}
use Rattle.lists.specs.Answers.{first}
use Rattle.lists.specs.AnswersLaws.{clear}
use Rattle.lists.specs.ChoiceLaws.{same-reply}
use Rattle.entry.specs.Format.{chunk_sum}
use Rattle.std.specs.declared.io.SeekFrom.{SeekFrom}
use Rattle.std.specs.declared.io.SeekFrom.TheVariants.{Start, End, Current}
use Rattle.buffered.specs.Seek.{place_of}
use Rattle.log_file.specs.declared.LogFileWriter.{LogFileWriter}
use Rattle.log_file.specs.State.{Machine}
use Rattle.log_file.specs.Calls.{Call, begin_entry, begin_chunk, write, finish, commit, rollback, flush, recycle, synchronize, landing, reports, called}
use Rattle.log_file.specs.History.{Open, nothing, an_entry, a_chunk, History, begun, base, bytes, with_open, causes, tells, told, tellable}
use Rattle.log_file.specs.HistoryLaws.{segment-snoc, entry-begun, length-chunk}
use Rattle.log_file.specs.Shows.{Shows}
use Rattle.log_file.specs.ShowsAnswers.{Matches}
use Rattle.log_file.specs.ShowsLaws.{shown-refusal, shown-matches}

module _ (n : ℕ) (w : LogFileWriter) (h : History) where
  -- ---- the reports

  piece-tells : (offered : List ℕ) (o : Open) → Matches n w (with_open h o) → first (causes n (with_open h o) (write offered)) ≡ 0
      → reports w (write offered) ≡ tells (with_open h o) (write offered)
  unfolding causes reports tells
  piece-tells offered nothing x e = absurd (omega arith)
  piece-tells offered (an_entry i cs) x e = absurd (omega arith)
  piece-tells offered (a_chunk i cs k d) x e =
      let q = take (k - length d) offered in
      rw x.moment
      (ap (λ (v : ℕ). v ∷ []) (omega (arith, length-chunk h i cs k d, length-chunk h i cs k (d ++ q), length-append d q, length-take (k - length d) offered)))

  finish-tells : (o : Open) → Matches n w (with_open h o) → first (causes n (with_open h o) finish) ≡ 0 → reports w finish ≡ tells (with_open h o) finish
  unfolding causes reports tells
  finish-tells nothing x e = absurd (omega arith)
  finish-tells (an_entry i cs) x e = absurd (omega arith)
  finish-tells (a_chunk i cs k d) x e =
      let z = clear (causes n (with_open h (a_chunk i cs k d)) finish) e in
      let q : k ≡ length d = omega (arith, ltb-false) in
      let l : length (bytes (with_open h (a_chunk i cs k d))) - k - 5 ≡ length (base h ++ begun i cs) =
      omega (arith, length-append (base h) (begun i cs), length-chunk h i cs k d) in
      rw (x.moment, x.id, x.place) (λ j. h.id ∷ l j ∷ chunk_sum k d ∷ q j ∷ [])

  commit-tells : (o : Open) → Matches n w (with_open h o) → first (causes n (with_open h o) commit) ≡ 0 → reports w commit ≡ tells (with_open h o) commit
  unfolding causes reports tells
  commit-tells nothing x e = absurd (omega arith)
  commit-tells (an_entry i cs) x e =
      rw (x.moment, x.place) (ap (λ v. i ∷ v ∷ []) (simp (segment-snoc, entry-begun, append-nil, length-append) (omega arith)))
  commit-tells (a_chunk i cs k d) x e = absurd (omega arith)

  back-tells : (p k : ℕ) → first (causes n h (landing (Current (negsuc k)))) ≡ 0 → p ≡ length (bytes h) → place_of (pos p +ℤ negsuc k) ≡ p - suc k
  unfolding causes
  back-tells p k e l =
      let z = clear (causes n h (landing (Current (negsuc k)))) e in
      rw (le-ltb p (suc k) (omega (arith, ltb-false)))

  landing-tells : (from : SeekFrom) → Matches n w h → tellable (landing from) ≡ true → first (causes n h (landing from)) ≡ 0
      → reports w (landing from) ≡ tells h (landing from)
  unfolding reports tells
  landing-tells (Start place) x t e = refl
  landing-tells (End offset) x t e = let z : ◌≡◌ {A = ℕ} 0 1 = cc in absurd (omega arith)
  landing-tells (Current (pos k)) x t e = rw x.place
  landing-tells (Current (negsuc k)) x t e = rw x.place (ap (λ (v : ℕ). v ∷ []) (back-tells (length (bytes h)) k e refl))

  pub same-tells : (c : Call) → Matches n w h → tellable c ≡ true → first (causes n h c) ≡ 0 → reports w c ≡ tells h c
  unfolding reports tells
  same-tells (begin_entry id) x t e = refl
  same-tells (begin_chunk m) x t e = refl
  same-tells (write offered) x t e = piece-tells offered h.pending x e
  same-tells finish x t e = finish-tells h.pending x e
  same-tells commit x t e = commit-tells h.pending x e
  same-tells rollback x t e = refl
  same-tells (recycle id) x t e = refl
  same-tells flush x t e = refl
  same-tells (synchronize s) x t e = refl
  same-tells (landing from) x t e = landing-tells from x t e

pub same_answer : (n : ℕ) (m : Machine) (h : History) (c : Call) → Shows n m h → tellable c ≡ true → (called m c).answer ≡ told n h c
unfolding called
same_answer n m h c x t =
    rw (shown-refusal n m h c x t)
    (same-reply (first (causes n h c)) (reports m.writer c) (tells h c) (same-tells n m.writer h c (shown-matches n m h x) t))
