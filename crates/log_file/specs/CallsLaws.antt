-- The laws of a writer's calls, for any state and any buffers: a refusal changes nothing, a valid state stays valid, and what an accepted call cuts
-- from the logical segment and appends to it.
use Prim.Native.Nat.{ℕ, ◌+◌, ◌≤◌, min}
use Rattle.std.proofs.Common.{add-zero, arith, ◌∙◌, subst, length-append}
use Rattle.std.specs.Prelude.{◌≡◌, Bool, true, false, not, take}
use Rattle.std.proofs.Math.Path.{refl, sym}
use mathlib.Core.List.{List, [], ◌∷◌, ◌++◌, append-nil, flatten}
use Rattle.std.proofs.Math.ListN.{length, length-take}
use borrow.Author.Tests.{leb-true, le-leb, ltb-false, not-false}
use Rattle.lists.specs.Answers.{number_of, Check, ◌⇒◌, first}
use Rattle.lists.specs.AnswersLaws.{Clear, clear, Every}
use Rattle.lists.specs.ChoiceLaws.{obeyed, refusal-keeps, number-reply}
use Rattle.lists.specs.NumbersLaws.{length-le}
use Rattle.buffered.specs.Staging.{Store, logical, logical_position, back_to}
use Rattle.buffered.specs.StagingLaws.{Reads, Sizes, same-position, flush-reads, sync-reads, back-reads, flush-wrote, written_all-wrote, back-sizes, sync-sizes, sizes-none, sizes-both}
use Rattle.buffered.proofs.WrittenReads.{written_all-reads}
use Rattle.log_file.specs.declared.Moment.{Moment}
use Rattle.log_file.specs.declared.Moment.TheVariants.{Idle, InEntry, InChunk}
use Rattle.log_file.specs.declared.LogFileWriter.{LogFileWriter}
use Rattle.log_file.specs.State.{Machine, store_of, position, moment_rules, valid}
use Rattle.log_file.specs.StateLaws.{Ruled, Valid, facts-of, valid-by}
use Rattle.log_file.specs.Calls.{Call, begin_entry, begin_chunk, write, finish, commit, rollback, flush, recycle, synchronize, landing, entry_start, checks, refusal, reports, writes, worked, moment_after, acted, called}

-- ---- demand 1: a writer call whose number is not 0 leaves writer, image and staging as given

pub refused-keeps : (m : Machine) (c : Call) → (number_of (called m c).answer ≡ 0 → ⊥) → (called m c).machine' ≡ m
unfolding called
refused-keeps m c f = refusal-keeps (refusal m c) m (acted m c) (reports m.writer c) f

-- ---- what an accepted call's number tells: the state is valid, and each check is false

pub number-called : (m : Machine) (c : Call) → number_of (called m c).answer ≡ refusal m c
unfolding called
number-called m c = number-reply (refusal m c) (reports m.writer c)

pub record Accepted (m : Machine) (c : Call) : Type 0 where
  pub state : Valid m
  pub passed : first (checks m.writer c) ≡ 0
  pub checked : Clear (checks m.writer c)

passed-rest : (bad : Bool) (row : List Check) → first ((bad ⇒ 12) ∷ row) ≡ 0 → first row ≡ 0
passed-rest true row e = absurd (omega arith)
passed-rest false row e = e

pub accepted-clear : (m : Machine) (c : Call) → number_of (called m c).answer ≡ 0 → Accepted m c
unfolding refusal
accepted-clear m c z =
    let e : refusal m c ≡ 0 = sym (number-called m c) ∙ z in
    let row = checks m.writer c in
    let k = clear ((not (valid m) ⇒ 12) ∷ row) e in
    record { state = facts-of m (not-false (valid m) k.0); passed = passed-rest (not (valid m)) row e; checked = k.1 }

-- ---- the logical segment: what a call leaves of it, and what it then appends

abbrev pub leaves : LogFileWriter → Call → List ℕ → List ℕ
leaves w (begin_entry id) bs = bs
leaves w (begin_chunk n) bs = bs
leaves w (write offered) bs = bs
leaves w finish bs = bs
leaves w commit bs = bs
leaves w rollback bs = take (entry_start w.moment) bs
leaves w (recycle id) bs = []
leaves w flush bs = bs
leaves w (synchronize t) bs = bs
leaves w (landing from) bs = bs

abbrev pub appends : LogFileWriter → Call → List ℕ
appends w c = flatten (writes w c)

pub worked-reads : (n : ℕ) (w : LogFileWriter) (c : Call) (s : Store) (bs : List ℕ) → Reads n s bs → length (leaves w c bs) + length (appends w c) ≤ n
    → Reads n (worked w c s) (leaves w c bs ++ appends w c)
unfolding worked writes flatten
worked-reads n w (begin_entry id) s bs r h = written_all-reads n s (writes w (begin_entry id)) bs r h
worked-reads n w (begin_chunk k) s bs r h = written_all-reads n s (writes w (begin_chunk k)) bs r h
worked-reads n w (write offered) s bs r h = written_all-reads n s (writes w (write offered)) bs r h
worked-reads n w finish s bs r h = written_all-reads n s (writes w finish) bs r h
worked-reads n w commit s bs r h = written_all-reads n s (writes w commit) bs r h
worked-reads n w rollback s bs r h = rw append-nil (back-reads n s (entry_start w.moment) bs r)
worked-reads n w (recycle id) s bs r h = written_all-reads n (back_to s 0) (writes w (recycle id)) [] (back-reads n s 0 bs r) h
worked-reads n w flush s bs r h = rw append-nil (flush-reads n s bs r)
worked-reads n w (synchronize t) s bs r h = rw append-nil (sync-reads n s t bs r)
worked-reads n w (landing from) s bs r h = rw append-nil r

pub worked-sizes : (w : LogFileWriter) (c : Call) (s : Store) → Sizes s (worked w c s)
unfolding worked
worked-sizes w (begin_entry id) s = (written_all-wrote s (writes w (begin_entry id))).sizes
worked-sizes w (begin_chunk n) s = (written_all-wrote s (writes w (begin_chunk n))).sizes
worked-sizes w (write offered) s = (written_all-wrote s (writes w (write offered))).sizes
worked-sizes w finish s = (written_all-wrote s (writes w finish)).sizes
worked-sizes w commit s = (written_all-wrote s (writes w commit)).sizes
worked-sizes w rollback s = back-sizes s (entry_start w.moment)
worked-sizes w (recycle id) s =
    sizes-both s (back_to s 0) _ (back-sizes s 0) (written_all-wrote (back_to s 0) (writes w (recycle id))).sizes
worked-sizes w flush s = (flush-wrote s).sizes
worked-sizes w (synchronize t) s = sync-sizes s t
worked-sizes w (landing from) s = sizes-none s

-- ---- valid in, valid out: from any valid state, garbage included

-- a valid state's store is sound
pub valid-reads : (m : Machine) → Valid m → Reads m.writer.size (store_of m) (logical (store_of m))
valid-reads m v =
    let k = v.rules.numbers in
    let r = v.rules.moment.0 in
    record {
      size = v.image;
      room = omega (arith, leb-true);
      fits = omega (arith, leb-true);
      sound = omega (arith, leb-true);
      under = omega (arith, leb-true);
      top = omega (arith, leb-true);
      same = refl;
    }

-- w at another moment
abbrev moved : LogFileWriter → Moment → LogFileWriter
moved w now =
    record { id = w.id; info = w.info; info_length = w.info_length; size = w.size; capacity = w.capacity; file = w.file; last = w.last; moment = now }

-- after the accepted call, the moment's rules hold at the length of the segment that it makes of bs
module _ (w : LogFileWriter) (bs : List ℕ) (p : position w ≡ length bs) where
  Stays : Call → Moment → Type 0
  Stays c now =
      Ruled (moved w now)
      → first (checks (moved w now) c) ≡ 0
      → Every (moment_rules (moment_after (moved w now) c) (length (leaves (moved w now) c bs) + length (appends (moved w now) c)) w.size)

  begin-stays : (id : ℕ) (now : Moment) → Stays (begin_entry id) now
  unfolding Stays checks moment_after writes flatten
  begin-stays id now r e =
      let k = clear (checks (moved w now) (begin_entry id)) e in
      simp (append-nil, length-le) (omega (arith, leb-true, le-leb, ltb-false))

  chunk-stays : (n : ℕ) (now : Moment) → Stays (begin_chunk n) now
  unfolding Stays checks moment_after writes flatten
  chunk-stays n Idle r e = absurd (omega arith)
  chunk-stays n (InEntry id start) r e =
      let k = clear (checks (moved w (InEntry id start)) (begin_chunk n)) e in
      simp (append-nil, length-le) (omega (arith, leb-true, le-leb, ltb-false))
  chunk-stays n (InChunk id start m owed crc) r e = absurd (omega arith)

  piece-stays : (offered : List ℕ) (now : Moment) → Stays (write offered) now
  unfolding Stays checks moment_after writes flatten
  piece-stays offered Idle r e = absurd (omega arith)
  piece-stays offered (InEntry id start) r e = absurd (omega arith)
  piece-stays offered (InChunk id start n owed crc) r e =
      let l : length (take owed offered ++ []) ≡ min owed (length offered) = simp append-nil (length-take owed offered) in
      let m = length-take owed offered in
      omega (arith, leb-true, le-leb)

  finish-stays : (now : Moment) → Stays finish now
  unfolding Stays checks moment_after writes flatten
  finish-stays Idle r e = absurd (omega arith)
  finish-stays (InEntry id start) r e = absurd (omega arith)
  finish-stays (InChunk id start n owed crc) r e =
      let k = clear (checks (moved w (InChunk id start n owed crc)) finish) e in
      simp (append-nil, length-le) (omega (arith, leb-true, le-leb, ltb-false))

  commit-stays : (now : Moment) → Stays commit now
  unfolding Stays checks moment_after writes flatten
  commit-stays Idle r e = absurd (omega arith)
  commit-stays (InEntry id start) r e = omega (arith, leb-true, le-leb)
  commit-stays (InChunk id start n owed crc) r e = absurd (omega arith)

  rollback-stays : (now : Moment) → Stays rollback now
  unfolding Stays checks moment_after writes flatten
  rollback-stays now r e = simp length-take (omega (arith, leb-true, le-leb))

  recycle-stays : (id : ℕ) (now : Moment) → Stays (recycle id) now
  unfolding Stays checks moment_after writes flatten
  recycle-stays id now r e = simp (append-nil, length-take) (omega (arith, leb-true, le-leb))

  same-stays : (c : Call) (now : Moment) → moment_after (moved w now) c ≡ now → leaves (moved w now) c bs ≡ bs → writes (moved w now) c ≡ [] → Stays c now
  unfolding Stays flatten
  same-stays c now e l z r k = rw (e, l, z) (subst (λ (q : ℕ). Every (moment_rules now q w.size)) (p ∙ sym (add-zero (length bs))) r.moment)

  moment-stays : (c : Call) (now : Moment) → Stays c now
  unfolding moment_after writes
  moment-stays (begin_entry id) now = begin-stays id now
  moment-stays (begin_chunk n) now = chunk-stays n now
  moment-stays (write offered) now = piece-stays offered now
  moment-stays finish now = finish-stays now
  moment-stays commit now = commit-stays now
  moment-stays rollback now = rollback-stays now
  moment-stays (recycle id) now = recycle-stays id now
  moment-stays flush now = same-stays flush now refl refl refl
  moment-stays (synchronize t) now = same-stays (synchronize t) now refl refl refl
  moment-stays (landing from) now = same-stays (landing from) now refl refl refl

-- an accepted call: the store that it leaves reads as what it left of the segment and what it appended, and its state is valid

pub acted-reads : (m : Machine) (c : Call) (bs : List ℕ) → Accepted m c → Reads m.writer.size (store_of m) bs
    → Reads m.writer.size (worked m.writer c (store_of m)) (leaves m.writer c bs ++ appends m.writer c)
unfolding Stays
acted-reads m c bs a r =
    let w = m.writer in
    let k = moment-stays w bs (same-position w.size (store_of m) bs r) c w.moment a.state.rules a.passed in
    worked-reads w.size w c (store_of m) bs r (omega (arith, leb-true))

pub acted-valid : (m : Machine) (c : Call) → Accepted m c → Valid (acted m c)
unfolding acted Stays
acted-valid m c a =
    let w = m.writer in
    let s = store_of m in
    let t = worked w c s in
    let bs = logical s in
    let r = valid-reads m a.state in
    let q = acted-reads m c bs a r in
    let k = moment-stays w bs (same-position w.size s bs r) c w.moment a.state.rules a.passed in
    let z = worked-sizes w c s in
    let l : logical_position t.file ≡ length (leaves w c bs) + length (appends w c) =
    same-position w.size t _ q ∙ length-append (leaves w c bs) (appends w c) in
    let f : t.file.staged ≤ w.capacity = omega arith in
    record {
      rules = record { numbers = omega (arith, leb-true, le-leb); moment = rw l k };
      image = q.size;
      staging = z.staging ∙ a.state.staging;
    }

pub valid-stays : (m : Machine) (c : Call) → valid m ≡ true → valid (called m c).machine' ≡ true
unfolding called
valid-stays m c v =
    obeyed (λ u. valid u ≡ true) (refusal m c) m (acted m c) v (λ e. valid-by (acted m c) (acted-valid m c (accepted-clear m c (number-called m c ∙ e))))

-- the logical segment after an accepted call
pub called-segment : (m : Machine) (c : Call) → number_of (called m c).answer ≡ 0
    → logical (store_of (called m c).machine') ≡ leaves m.writer c (logical (store_of m)) ++ appends m.writer c
unfolding called acted
called-segment m c e =
    let a = accepted-clear m c e in
    rw (sym (number-called m c) ∙ e) (acted-reads m c (logical (store_of m)) a (valid-reads m a.state)).same

-- ---- what no call changes, refused or not: version info, sizes, the buffers' lengths; and the file length never shrinks

pub record Kept (m m' : Machine) : Type 0 where
  pub info : m'.writer.info ≡ m.writer.info
  pub info_length : m'.writer.info_length ≡ m.writer.info_length
  pub size : m'.writer.size ≡ m.writer.size
  pub capacity : m'.writer.capacity ≡ m.writer.capacity
  pub buffers : Sizes (store_of m) (store_of m')

pub called-kept : (m : Machine) (c : Call) → Kept m (called m c).machine'
unfolding called acted
called-kept m c =
    obeyed (λ u. Kept m u) (refusal m c) m (acted m c)
    (record { info = refl; info_length = refl; size = refl; capacity = refl; buffers = sizes-none (store_of m) })
    (λ e. record { info = refl; info_length = refl; size = refl; capacity = refl; buffers = worked-sizes m.writer c (store_of m) })

-- ---- a rollback changes no byte of image or staging

pub rollback-bytes : (m : Machine) → ((called m rollback).machine'.image ≡ m.image) × ((called m rollback).machine'.staging ≡ m.staging)
unfolding called acted worked back_to
rollback-bytes m =
    obeyed (λ (u : Machine). (u.image ≡ m.image) × (u.staging ≡ m.staging)) (refusal m rollback) m (acted m rollback) (refl, refl) (λ e. (refl, refl))
