-- The refusals that `Calls` works out from a writer's numbers are those that `History` gives in its own terms. That the reports are too is in
-- proofs/ShowsTells.
use Rattle.std.specs.Prelude.{ℕ, suc, ◌+◌, ◌-◌, ◌≤◌, ◌<◌, Bool, true, false, cond, pos, negsuc, ◌+ℤ◌, ltb}
use Rattle.std.proofs.Common.{arith, sym, ltb-true, ltb-false, lt-ltb, le-ltb}
use Rattle.std.proofs.Math.Path.{◌≡◌, refl}
use mathlib.Core.List.{[], ◌∷◌}
use Rattle.std.proofs.Math.ListN.{length}
use Rattle.lists.specs.Answers.{◌⇒◌, first}
use Rattle.std.specs.declared.io.SeekFrom.{SeekFrom}
use Rattle.std.specs.declared.io.SeekFrom.TheVariants.{Start, End, Current}
use Rattle.buffered.specs.Seek.{misses}
use Rattle.log_file.specs.declared.LogFileWriter.{LogFileWriter}
use Rattle.log_file.specs.State.{position}
use Rattle.log_file.specs.Calls.{Call, begin_entry, begin_chunk, write, finish, commit, rollback, flush, recycle, synchronize, landing, is_idle, in_entry, in_chunk, info_of, checks}
use Rattle.log_file.specs.History.{Open, nothing, an_entry, a_chunk, History, bytes, moment_at, moment_of, with_open, is_nothing, is_entry, is_chunk, holds, is_to_hold, causes, tellable}
use Rattle.log_file.specs.HistoryLaws.{length-begun-none, length-idle, length-entry, length-chunk}

-- what a shown history says of the writer's numbers
pub record Matches (n : ℕ) (w : LogFileWriter) (h : History) : Type 0 where
  pub size : w.size ≡ n
  pub place : position w ≡ length (bytes h)
  pub id : w.id ≡ h.id
  pub last : w.last ≡ h.last
  pub info : info_of w ≡ h.info
  pub moment : w.moment ≡ moment_of h
  pub holding : holds h.pending ≤ is_to_hold h.pending

idle-same : (s : ℕ) (o : Open) → is_idle (moment_at s o) ≡ is_nothing o
idle-same s nothing = refl
idle-same s (an_entry i cs) = refl
idle-same s (a_chunk i cs k d) = refl

entry-same : (s : ℕ) (o : Open) → in_entry (moment_at s o) ≡ is_entry o
entry-same s nothing = refl
entry-same s (an_entry i cs) = refl
entry-same s (a_chunk i cs k d) = refl

chunk-same : (s : ℕ) (o : Open) → in_chunk (moment_at s o) ≡ is_chunk o
chunk-same s nothing = refl
chunk-same s (an_entry i cs) = refl
chunk-same s (a_chunk i cs k d) = refl

-- a test that says the same of other numbers
same_bool : (x y : Bool) → (x ≡ true → y ≡ true) → (x ≡ false → y ≡ false) → x ≡ y
same_bool true y f g = sym (f refl)
same_bool false y f g = sym (g refl)

same_test : (a b c d : ℕ) → (a < b → c < d) → (b ≤ a → d ≤ c) → ltb a b ≡ ltb c d
same_test a b c d f g = same_bool (ltb a b) (ltb c d) (λ e. lt-ltb c d (f (ltb-true a b e))) (λ e. le-ltb c d (g (ltb-false a b e)))

-- ---- the refusals

module _ (n : ℕ) (w : LogFileWriter) (h : History) where
  begin-causes : (id : ℕ) (o : Open) → Matches n w (with_open h o) → first (checks w (begin_entry id)) ≡ first (causes n (with_open h o) (begin_entry id))
  unfolding checks causes
  begin-causes id nothing x =
      let e : length (bytes (with_open h nothing)) + 10 ≡ length (bytes (with_open h (an_entry id []))) + 1 =
      omega (arith, length-idle h, length-entry h id [], length-begun-none id) in
      rw (x.moment, x.id, x.size, x.place, e)
  begin-causes id (an_entry i cs) x = rw x.moment
  begin-causes id (a_chunk i cs k d) x = rw x.moment

  chunk-causes : (m : ℕ) (o : Open) → Matches n w (with_open h o) → first (checks w (begin_chunk m)) ≡ first (causes n (with_open h o) (begin_chunk m))
  unfolding checks causes
  chunk-causes m nothing x = rw x.moment
  chunk-causes m (an_entry i cs) x =
      let e : length (bytes (with_open h (an_entry i cs))) + (m + 10) ≡ length (bytes (with_open h (a_chunk i cs m []))) + (m - 0 + 5) =
      omega (arith, length-entry h i cs, length-chunk h i cs m []) in
      rw (x.moment, x.size, x.place, e)
  chunk-causes m (a_chunk i cs k d) x = rw x.moment

  finish-causes : (o : Open) → Matches n w (with_open h o) → first (checks w finish) ≡ first (causes n (with_open h o) finish)
  unfolding checks causes
  finish-causes nothing x = rw x.moment
  finish-causes (an_entry i cs) x = rw x.moment
  finish-causes (a_chunk i cs k d) x = rw (x.moment, same_test 0 (k - length d) (length d) k (λ y. omega arith) (λ y. omega arith))

  back-causes : (p k : ℕ)
      → first ((misses n (pos p +ℤ negsuc k) ⇒ 11) ∷ []) ≡ first ((ltb p (suc k) ⇒ 11) ∷ (ltb n (p - suc k) ⇒ 11) ∷ [])
  back-causes p k = go (ltb p (suc k))
    where
      go : (b : Bool)
          → first ((misses n (cond b (negsuc (suc k - suc p)) (pos (p - suc k))) ⇒ 11) ∷ []) ≡ first ((b ⇒ 11) ∷ (ltb n (p - suc k) ⇒ 11) ∷ [])
      go true = refl
      go false = refl

  landing-causes : (from : SeekFrom) → Matches n w h → tellable (landing from) ≡ true → first (checks w (landing from)) ≡ first (causes n h (landing from))
  unfolding checks causes
  landing-causes (Start place) x t = rw x.size
  landing-causes (End offset) x t = let z : ◌≡◌ {A = ℕ} 0 1 = cc in absurd (omega arith)
  landing-causes (Current (pos k)) x t = rw (x.size, x.place)
  landing-causes (Current (negsuc k)) x t = rw (x.size, x.place) (back-causes (length (bytes h)) k)

  pub same-causes : (c : Call) → Matches n w h → tellable c ≡ true → first (checks w c) ≡ first (causes n h c)
  unfolding checks causes
  same-causes (begin_entry id) x t = begin-causes id h.pending x
  same-causes (begin_chunk m) x t = chunk-causes m h.pending x
  same-causes (write offered) x t = rw (x.moment, chunk-same)
  same-causes finish x t = finish-causes h.pending x
  same-causes commit x t = rw (x.moment, entry-same)
  same-causes rollback x t = rw (x.moment, idle-same)
  same-causes (recycle id) x t = rw (x.moment, idle-same)
  same-causes flush x t = refl
  same-causes (synchronize s) x t = refl
  same-causes (landing from) x t = landing-causes from x t
