-- What a call answers, and which numbers it leaves, hangs on the numbers and on the sizes of the buffers alone: their bytes do not matter.
use Rattle.std.specs.Prelude.{ℕ, zero, suc, ◌+◌, max, ◌-◌, ◌≡◌, Bool, true, false, cond, not, List, [], ◌∷◌, length, take, drop, leb, ltb}
use Rattle.std.proofs.Common.{ap, sym, ◌∙◌}
use Rattle.std.proofs.Math.Path.{subst}
use Rattle.lists.specs.Lay.{lay}
use Rattle.lists.specs.LayLaws.{length-lay}
use Rattle.lists.specs.Answers.{◌⇒◌, first, reply, obey}
use Rattle.lists.specs.ChoiceLaws.{obeyed-both}
use Rattle.buffered.specs.declared.Buffered.{Buffered}
use Rattle.buffered.specs.Staging.{Store, flushed, direct, staged, emptied, room, rounds, written, written_all, numbers_back, back_to, marked, synchronized}
use Rattle.log_file.specs.State.{Machine, store_of, valid_with, valid}
use Rattle.log_file.specs.Calls.{Call, begin_entry, begin_chunk, write, finish, commit, rollback, recycle, flush, synchronize, landing, entry_start, checks, refusal, reports, writes, worked, moment_after, last_after, id_after, rewritten, acted, called}
use Rattle.log_file.specs.declared.LogFileWriter.{LogFileWriter}

-- ---- stores with the same numbers and sizes

pub record Twins (s t : Store) : Type 0 where
  pub file : s.file ≡ t.file
  pub image : length s.image ≡ length t.image
  pub staging : length s.staging ≡ length t.staging

laid : (xs ys : List ℕ) (i j : ℕ) (a b : List ℕ) → length xs ≡ length ys → length (lay xs i a) ≡ length (lay ys j b)
laid xs ys i j a b e = length-lay xs i a ∙ e ∙ sym (length-lay ys j b)

flushed-twins : (s t : Store) → Twins s t → Twins (flushed s) (flushed t)
unfolding flushed
flushed-twins s t e =
    record {
      file =
          ap (λ (f : Buffered). record {
            length = max f.length (f.position + f.staged);
            position = f.position + f.staged;
            staged = 0;
            synchronized = f.synchronized;
          }) e.file;
      image = laid s.image t.image _ _ _ _ e.image;
      staging = e.staging;
    }

direct-twins : (s t : Store) (xs : List ℕ) → Twins s t → Twins (direct s xs) (direct t xs)
unfolding direct
direct-twins s t xs e =
    record {
      file =
          ap (λ (f : Buffered). record {
            length = max f.length (f.position + length xs);
            position = f.position + length xs;
            staged = f.staged;
            synchronized = f.synchronized;
          }) e.file;
      image = laid s.image t.image _ _ _ _ e.image;
      staging = e.staging;
    }

staged-twins : (s t : Store) (xs : List ℕ) → Twins s t → Twins (staged s xs) (staged t xs)
unfolding staged
staged-twins s t xs e =
    record {
      file =
          ap (λ (f : Buffered). record { length = f.length; position = f.position; staged = f.staged + length xs; synchronized = f.synchronized })
          e.file;
      image = e.image;
      staging = laid s.staging t.staging _ _ _ _ e.staging;
    }

-- a choice by two tests that are equal
chosen : (b b' : Bool) (x y x' y' : Store) → b ≡ b' → Twins x y → Twins x' y' → Twins (cond b x x') (cond b' y y')
chosen b b' x y x' y' e p q = subst (λ c. Twins (cond b x x') (cond c y y')) e (go b)
  where
    go : (c : Bool) → Twins (cond c x x') (cond c y y')
    go true = p
    go false = q

emptied-twins : (s t : Store) → Twins s t → Twins (emptied s) (emptied t)
unfolding emptied
emptied-twins s t e = chosen _ _ _ _ _ _ (λ i. leb (e.staging i) (e.file i).staged) (flushed-twins s t e) e

rounds-twins : (fuel : ℕ) (s t : Store) (xs : List ℕ) → Twins s t → Twins (rounds fuel s xs) (rounds fuel t xs)
unfolding rounds
rounds-twins zero s t xs e = e
rounds-twins (suc fuel) s t [] e = e
rounds-twins (suc fuel) s t (x ∷ xs) e =
    let f = emptied-twins s t e in
    let u = emptied s in
    let v = emptied t in
    let l : List ℕ = x ∷ xs in
    let r : room u ≡ room v = λ i. f.staging i - (f.file i).staged in
    chosen _ _ _ _ _ _ (λ i. ltb (f.staging i) (length l))
    (direct-twins (flushed u) (flushed v) l (flushed-twins u v f))
    (subst (λ k. Twins (rounds fuel (staged u (take (room u) l)) (drop (room u) l)) (rounds fuel (staged v (take k l)) (drop k l))) r
    (rounds-twins fuel (staged u (take (room u) l)) (staged v (take (room u) l)) (drop (room u) l) (staged-twins u v (take (room u) l) f)))

written_all-twins : (s t : Store) (ws : List (List ℕ)) → Twins s t → Twins (written_all s ws) (written_all t ws)
unfolding written_all written
written_all-twins s t [] e = e
written_all-twins s t (xs ∷ ws) e = written_all-twins (written s xs) (written t xs) ws (rounds-twins (length xs) s t xs e)

back-twins : (s t : Store) (n : ℕ) → Twins s t → Twins (back_to s n) (back_to t n)
unfolding back_to
back-twins s t n e = record { file = ap (λ (f : Buffered). numbers_back f n) e.file; image = e.image; staging = e.staging }

marked-twins : (s t : Store) → Twins s t → Twins (marked s) (marked t)
marked-twins s t e =
    record {
      file =
          ap (λ (f : Buffered). record { length = f.length; position = f.position; staged = f.staged; synchronized = f.position }) e.file;
      image = e.image;
      staging = e.staging;
    }

sync-twins : (s t : Store) (n : ℕ) → Twins s t → Twins (synchronized s n) (synchronized t n)
unfolding synchronized
sync-twins s t n e =
    let inner = chosen _ _ _ _ _ _ (λ i. ltb (e.file i).position n) (flushed-twins s t e) e in
    chosen _ _ _ _ _ _ (λ i. leb n (e.file i).synchronized) e (marked-twins _ _ inner)

worked-twins : (w : LogFileWriter) (c : Call) (s t : Store) → Twins s t → Twins (worked w c s) (worked w c t)
unfolding worked
worked-twins w (begin_entry id) s t e = written_all-twins s t (writes w (begin_entry id)) e
worked-twins w (begin_chunk n) s t e = written_all-twins s t (writes w (begin_chunk n)) e
worked-twins w (write offered) s t e = written_all-twins s t (writes w (write offered)) e
worked-twins w finish s t e = written_all-twins s t (writes w finish) e
worked-twins w commit s t e = written_all-twins s t (writes w commit) e
worked-twins w rollback s t e = back-twins s t (entry_start w.moment) e
worked-twins w (recycle id) s t e = written_all-twins (back_to s 0) (back_to t 0) (writes w (recycle id)) (back-twins s t 0 e)
worked-twins w flush s t e = flushed-twins s t e
worked-twins w (synchronize k) s t e = sync-twins s t k e
worked-twins w (landing from) s t e = e

-- ---- writers with the same state, and buffers of the same sizes

pub record SameNumbers (m m' : Machine) : Type 0 where
  pub writer : m.writer ≡ m'.writer
  pub image : length m.image ≡ length m'.image
  pub staging : length m.staging ≡ length m'.staging

module _ (m m' : Machine) (c : Call) (e : SameNumbers m m') where
  same-refusal : refusal m c ≡ refusal m' c
  unfolding refusal valid
  same-refusal = λ i. first ((not (valid_with (e.writer i) (e.image i) (e.staging i)) ⇒ 12) ∷ checks (e.writer i) c)

  pub same-numbers-answer : (called m c).answer ≡ (called m' c).answer
  unfolding called
  same-numbers-answer = λ i. reply (same-refusal i) (reports (e.writer i) c)

  same_file : (worked m.writer c (store_of m)).file ≡ (worked m'.writer c (store_of m')).file
  same_file =
      (worked-twins m.writer c (store_of m) (store_of m')
      (record { file = ap (λ (w : LogFileWriter). w.file) e.writer; image = e.image; staging = e.staging })).file
      ∙ ap (λ (w : LogFileWriter). (worked w c (store_of m')).file) e.writer

  pub same-numbers-writer : (called m c).machine'.writer ≡ (called m' c).machine'.writer
  unfolding called acted
  same-numbers-writer =
      subst (λ k. (obey (refusal m c) m (acted m c)).writer ≡ (obey k m' (acted m' c)).writer) same-refusal
      (obeyed-both (λ (u v : Machine). u.writer ≡ v.writer) (refusal m c) m (acted m c) m' (acted m' c) e.writer
      (λ z i. rewritten (e.writer i) (id_after (e.writer i) c) (same_file i) (last_after (e.writer i) c) (moment_after (e.writer i) c)))
