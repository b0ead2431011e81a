-- A writer that shows a history tells, whatever its calls, the tale of that history (`follows`, in proofs/CutsDoNotShowHolds); and a fresh opening is
-- refused for the history's causes (`opening-as-told`).
use Rattle.std.specs.Prelude.{ℕ, ◌+◌, ◌-◌, ◌/◌, ◌≤◌, min, ◌≡◌, refl, Bool, true, false, cond, List, [], ◌∷◌, ◌++◌, length, take, ltb}
use Rattle.std.proofs.Math.Nat.{div-eq_of_lt}
use Rattle.std.proofs.Common.{add-zero, one-mul, arith, ap, sym, ◌∙◌, subst, append-nil, length-append, length-take, ltb-false, le-ltb}
use Rattle.lists.specs.Answers.{accepted}
use Rattle.entry.specs.FormatLaws.{length-header}
use Rattle.std.specs.declared.io.SeekFrom.TheVariants.{Start, End, Current}
use Rattle.buffered.specs.Staging.{logical}
use Rattle.buffered.specs.StagingLaws.{same-position}
use Rattle.log_file.specs.State.{Machine, store_of}
use Rattle.log_file.specs.StateLaws.{facts-of}
use Rattle.log_file.specs.Calls.{Call, begin_entry, begin_chunk, write, finish, commit, rollback, recycle, flush, synchronize, landing, called}
use Rattle.log_file.specs.CallsLaws.{valid-reads}
use Rattle.log_file.specs.Opening.{Terms, padded, open_refusal, opened}
use Rattle.log_file.specs.History.{a_chunk, History, fresh, with_open, causes, bytes, tells as tellings, told, next, tellable}
use Rattle.log_file.specs.HistoryLaws.{length-chunk, write-joined, write-none, segment-none}
use Rattle.log_file.specs.Shows.{Shows}
use Rattle.log_file.specs.ShowsLaws.{still-shows}
use Rattle.log_file.proofs.ShowsTells.{same_answer}
use Rattle.journal.specs.Stories.{Heard, calls, Part, left_out, piece, matching, part, Canon, canon_at, seen, given, Story, tells, story_at, tale, EachTold}
use Rattle.journal.specs.CutsDoNotShow.{Given, InRange, Program, heard, ours, opening_told}

-- ---- what a part says of its call

abbrev pub Effect : Part → (n : ℕ) → History → Call → Type 0
Effect left_out n h c = next n h c ≡ h
Effect (piece offered) n h c = c ≡ write offered
Effect matching n h c = tellable c ≡ true

pub effect : (n : ℕ) (h : History) (c : Call) → Effect (part c) n h c
unfolding causes
effect n h (begin_entry id) = refl
effect n h (begin_chunk k) = refl
effect n h (write offered) = refl
effect n h finish = refl
effect n h commit = refl
effect n h rollback = refl
effect n h (recycle id) = refl
effect n h flush = refl
effect n h (synchronize t) = refl
effect n h (landing (Start place)) = refl
effect n h (landing (End offset)) = refl
effect n h (landing (Current offset)) = refl

-- ---- one run of ours

-- what is seen of a writer that shows a history is what the format gives for it
pub shown-seen : (n : ℕ) (m : Machine) (h : History) → Shows n m h → seen m ≡ given h
shown-seen n m h x =
    let p = same-position m.writer.size (store_of m) (logical (store_of m)) (valid-reads m (facts-of m x.rules)) in
    let q = p ∙ ap length x.segment in
    λ i. record { segment = x.segment i; position' = q i; id = x.id i; last = x.last i; moment = x.moment i }

abbrev pub one : Program → Machine → Call → Heard
one p m c = record { call = c; answer = (p.steps m c).answer; machine' = (p.steps m c).machine' }

-- one call more: g is the history with the data offered so far
pub told-call : (n : ℕ) (m : Machine) (h : History) (c : Call) (sofar : List ℕ) (rest : Story) (later : List ℕ → Canon) (k : Part)
    → Shows n m (next n h (write sofar))
    → Effect k n (next n h (write sofar)) c
    → ((h' : History) (more : List ℕ) → Shows n (called m c).machine' (next n h' (write more)) → rest ≡ tale n h' (later more))
    → story_at k (one ours m c) rest ≡ tale n h (canon_at k c sofar later)
unfolding tale
told-call n m h c sofar rest later left_out x e f =
    f h sofar (subst (λ u. Shows n (called m c).machine' u) e (still-shows n m (next n h (write sofar)) c x))
told-call n m h c sofar rest later (piece offered) x e f =
    let g = next n h (write sofar) in
    f h _ (subst (λ u. Shows n (called m c).machine' u) (ap (λ d. next n g d) e ∙ write-joined n h sofar offered) (still-shows n m g c x))
told-call n m h c sofar rest later matching x e f =
    let g = next n h (write sofar) in
    let y = still-shows n m g c x in
    let a = same_answer n m g c x e in
    let s = shown-seen n (called m c).machine' (next n g c) y in
    let r = f (next n g c) [] (subst (λ u. Shows n (called m c).machine' u) (sym (write-none n (next n g c))) y) in
    λ i. tells (a i) (s i) (r i)

pub each_from : (n : ℕ) (m : Machine) (h : History) (cs : List Call) → Shows n m h → EachTold n h (heard ours m cs)
unfolding heard
each_from n m h [] x = tt
each_from n m h (c ∷ cs) x =
    (λ t. same_answer n m h c x t, each_from n (called m c).machine' (next n h c) cs (still-shows n m h c x))

pub calls-heard : (p : Program) (m : Machine) (cs : List Call) → calls (heard p m cs) ≡ cs
unfolding heard
calls-heard p m [] = refl
calls-heard p m (c ∷ cs) = ap (λ ds. c ∷ ds) (calls-heard p (p.steps m c).machine' cs)

-- ---- a single piece: what is told of it is min(offered, owed)

pub piece-count : (n : ℕ) (h : History) (id : ℕ) (cs : List (List ℕ)) (k : ℕ) (got offered : List ℕ)
    → told n (with_open h (a_chunk id cs k got)) (write offered) ≡ accepted (min (length offered) (k - length got) ∷ [])
unfolding causes tellings
piece-count n h id cs k got offered =
    let more = got ++ take (k - length got) offered in
    let l : length more ≡ length got + min (k - length got) (length offered) = simp (length-append, length-take) in
    let a = length-chunk h id cs k more in
    let b = length-chunk h id cs k got in
    ap (λ (c : ℕ). accepted (c ∷ [])) (omega arith)

-- ---- a fresh opening

padded-fresh : (p : ℕ) → 1 ≤ p → padded 0 p ≡ p
unfolding padded
padded-fresh p h =
    let z : (0 + p - 1) / p ≡ 0 = div-eq_of_lt (omega arith) in
    rw z (one-mul p)

-- the test of the preallocation comes before that of its room
preallocated : (p n long rest : ℕ) (b : Bool) → ltb p 1 ≡ b
    → cond b 12 (cond (ltb 4294967295 p) 12 (cond (ltb 255 long) 4 (cond (ltb n (padded 0 p)) 5 rest)))
    ≡ cond b 12 (cond (ltb 4294967295 p) 12 (cond (ltb 255 long) 4 (cond (ltb n p) 5 rest)))
preallocated p n long rest true e = refl
preallocated p n long rest false e = rw (padded-fresh p (ltb-false p 1 e))

pub opening-as-told : (o : Terms) (a : Given) → InRange a → (ours.opens o a).answer ≡ opening_told (length a.image) o
unfolding opened open_refusal
opening-as-told o a r =
    let l : length (bytes (fresh o.info o.id o.last)) + 0 ≡ 5 + length o.info =
    rw (append-nil, segment-none) (add-zero _ ∙ length-header o.info) in
    rw (
      le-ltb 65536 (length a.staging) r.staging,
      le-ltb a.file_length 0 (omega arith),
      le-ltb (length a.image) a.file_length r.file,
      preallocated o.preallocate (length a.image) (length o.info) (cond (ltb (length a.image) (5 + length o.info)) 5 0) _ refl,
      l,
    )
