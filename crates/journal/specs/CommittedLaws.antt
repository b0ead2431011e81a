-- A writer opened fresh, after any calls, idle and flushed: its image, cut off at the logical position, is the format's segment of the entries committed
-- since opening or recycling (`committed-segment`).
use Rattle.std.specs.Prelude.{ℕ, ◌≡◌, refl, List, [], ◌∷◌, length, Ok}
use Rattle.std.proofs.Common.{arith, ap, sym, ◌∙◌, subst, append-nil, leb-true}
use Rattle.lists.specs.Answers.{number_of, first}
use Rattle.lists.specs.ChoiceLaws.{obeyed}
use Rattle.buffered.specs.Staging.{flushed}
use Rattle.entry.specs.Refusal.{answer_of}
use Rattle.log_file.specs.State.{Machine}
use Rattle.log_file.specs.StateLaws.{facts-of}
use Rattle.log_file.specs.Calls.{Call, Called, begin_entry, begin_chunk, write, finish, commit, rollback, recycle, flush, synchronize, landing, checks, refusal, worked, acted, called}
use Rattle.log_file.specs.Promises.{no_values}
use Rattle.log_file.specs.Opening.{Terms}
use Rattle.log_file.specs.History.{Open, nothing, an_entry, a_chunk, History, fresh, base, bytes, with_entry, grow, causes, next}
use Rattle.log_file.specs.HistoryLaws.{idle-nothing}
use Rattle.log_file.specs.HistoryRanges.{Argued, AllRanged, fresh-ranged, next-ranged}
use Rattle.lists.specs.All.{All}
use Rattle.log_file.specs.Shows.{Shows}
use Rattle.log_file.specs.ShowsLaws.{still-shows, flushed-image}
use Rattle.log_file.specs.Step.{call_of}
use Rattle.journal.specs.Stories.{calls, Seen}
use Rattle.journal.specs.CutsDoNotShow.{Given}
use Rattle.journal.specs.StoriesLaws.{shown-seen}
use Rattle.journal.specs.CodeRuns.{Opening, OpensFresh, opened_as, Stepping, left_as, Run, hears}
use Rattle.journal.specs.TwoRuns.{opened-shows}
use Rattle.journal.specs.Committed.{history_after, writer_after, Typed, AtRest, HoldsSegment}

-- ---- the version info of a history never changes

committed-info : (h : History) (o : Open) → (with_entry h o).info ≡ h.info
committed-info h nothing = refl
committed-info h (an_entry id chunks) = refl
committed-info h (a_chunk id chunks n got) = refl

grow-info : (h : History) (c : Call) → (grow h c).info ≡ h.info
grow-info h (begin_entry id) = refl
grow-info h (begin_chunk n) = refl
grow-info h (write offered) = refl
grow-info h finish = refl
grow-info h commit = committed-info h h.pending
grow-info h rollback = refl
grow-info h (recycle id) = refl
grow-info h flush = refl
grow-info h (synchronize t) = refl
grow-info h (landing from) = refl

after-info : (n : ℕ) (h : History) (cs : List Call) → (history_after n h cs).info ≡ h.info
after-info n h [] = refl
after-info n h (c ∷ cs) =
    after-info n (next n h c) cs ∙ obeyed (λ (g : History). g.info ≡ h.info) (first (causes n h c)) h (grow h c) refl (λ e. grow-info h c)

-- ---- what a run leaves

pub after-ranged : (n : ℕ) (h : History) (cs : List Call) → All Argued cs → AllRanged h → AllRanged (history_after n h cs)
after-ranged n h [] t r = r
after-ranged n h (c ∷ cs) t r = after-ranged n (next n h c) cs t.1 (next-ranged n h c t.0 r)

pub after-shows : (n : ℕ) (m : Machine) (h : History) (xs : List Stepping) → Shows n m h → Run m xs
    → Shows n (writer_after m xs) (history_after n h (calls (hears xs)))
after-shows n m h [] x r = x
after-shows n m h (y ∷ ys) x r =
    let c = call_of y.call in
    after-shows n (left_as y) (next n h c) ys
    (subst (λ u. Shows n u (next n h c)) (ap (λ (u : Called). u.machine') (sym r.0.0)) (still-shows n m h c x)) r.1

-- a flush is what brings nothing staged
pub flush-rests : (n : ℕ) (m : Machine) (h : History) → Shows n m h → (called m flush).machine'.writer.file.staged ≡ 0
unfolding called refusal checks acted worked flushed
flush-rests n m h x = rw x.rules

-- ---- idle and flushed

shown-segment : (n : ℕ) (m : Machine) (h : History) → Shows n m h → AllRanged h → AtRest m → HoldsSegment m h.info h.committed
shown-segment n m h x r z =
    let e = idle-nothing (length (base h)) h.pending (sym x.moment ∙ z.idle) in
    let b : bytes h ≡ base h = rw e (append-nil (base h)) in
    record {
      image = flushed-image n m h x z.idle z.none_staged;
      ends = ap (λ (s : Seen). s.position') (shown-seen n m h x) ∙ ap length b;
      small = let f = facts-of m x.rules in omega (arith, leb-true);
      readable = rw x.id r.committed;
    }

-- over runs of the code: an opening that `OpenAllows` allows, steps that `StepAllows` allows
pub committed-segment : (o : Terms) (g : Given) (x : Opening) → OpensFresh o g x → x.result ≡ Ok tt
    → (xs : List Stepping) → Run (opened_as x) xs → Typed xs → AtRest (writer_after (opened_as x) xs)
    → HoldsSegment (writer_after (opened_as x) xs) o.info
    (history_after (length g.image) (fresh o.info o.id o.last) (calls (hears xs))).committed
committed-segment o g x p e xs r t z =
    let n = length g.image in
    let h = fresh o.info o.id o.last in
    let s = after-shows n (opened_as x) h xs (opened-shows o g x p (ap (λ k. number_of (answer_of no_values k)) e)) r in
    let k = after-ranged n h (calls (hears xs)) t (fresh-ranged o.info o.id o.last) in
    rw (after-info n h (calls (hears xs))) at (shown-segment n (writer_after (opened_as x) xs) (history_after n h (calls (hears xs))) s k z)
