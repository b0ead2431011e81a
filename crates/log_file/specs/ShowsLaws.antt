-- A writer that shows a history is refused what the history refuses (that it answers what the history tells is in proofs/ShowsTells), and after any call
-- shows the next one; an accepted fresh opening shows the fresh history, and answers alike whatever the staging, the file length and the old bytes. All of
-- this is about `called` and `opened`, which the code's promises cite.
use Rattle.std.specs.Prelude.{ℕ, ◌≤◌, ◌≡◌, refl, true, List, length, take, ℤ}
use Rattle.std.proofs.Common.{add-zero, arith, sym, ◌∙◌, append-nil, le-ltb}
use Rattle.lists.specs.Answers.{number_of, first}
use Rattle.lists.specs.ChoiceLaws.{obeyed, obeyed-both}
use Rattle.entry.specs.Format.{segment}
use Rattle.std.specs.declared.io.SeekFrom.TheVariants.{Start, End, Current}
use Rattle.buffered.specs.StagingLaws.{Reads, same-position}
use Rattle.log_file.specs.declared.Moment.TheVariants.{Idle}
use Rattle.log_file.specs.State.{Machine, store_of, position}
use Rattle.log_file.specs.StateLaws.{facts-of, valid-by}
use Rattle.log_file.specs.Calls.{Call, begin_entry, begin_chunk, write, finish, commit, rollback, flush, recycle, synchronize, landing, refusal, acted, called}
use Rattle.log_file.specs.CallsLaws.{number-called, accepted-clear, valid-reads, acted-reads, acted-valid}
use Rattle.log_file.specs.Opening.{Terms, open_refusal, opened_machine, opened}
use Rattle.log_file.specs.OpeningLaws.{opening-clear, headed-reads, kept-info, opened-machine, opened-valid}
use Rattle.log_file.specs.History.{History, fresh, base, bytes, grow, causes, next, tellable}
use Rattle.log_file.specs.HistoryLaws.{segment-none, idle-nothing}
use Rattle.log_file.specs.Shows.{Shows}
use Rattle.log_file.specs.ShowsAnswers.{Matches, same-causes}
use Rattle.log_file.specs.ShowsNext.{grows}

-- ---- what is shown of the store, and of the numbers

shown-reads : (n : ℕ) (m : Machine) (h : History) → Shows n m h → Reads m.writer.size (store_of m) (bytes h)
shown-reads n m h x = rw (← x.segment) (valid-reads m (facts-of m x.rules))

pub shown-matches : (n : ℕ) (m : Machine) (h : History) → Shows n m h → Matches n m.writer h
shown-matches n m h x =
    record {
      size = x.size;
      place = same-position m.writer.size (store_of m) (bytes h) (shown-reads n m h x);
      id = x.id;
      last = x.last;
      info = x.info;
      moment = x.moment;
      holding = x.holding;
    }

-- ---- the refusal

-- a shown state is never refused with 12, and its other refusals are the history's
pub shown-refusal : (n : ℕ) (m : Machine) (h : History) (c : Call) → Shows n m h → tellable c ≡ true → refusal m c ≡ first (causes n h c)
unfolding refusal
shown-refusal n m h c x t = rw x.rules (same-causes n m.writer h c (shown-matches n m h x) t)

-- ---- the writer afterwards

acted-shows : (n : ℕ) (m : Machine) (h : History) (c : Call) → Shows n m h → refusal m c ≡ 0 → first (causes n h c) ≡ 0 → Shows n (acted m c) (grow h c)
unfolding acted
acted-shows n m h c x e k =
    let a = accepted-clear m c (number-called m c ∙ e) in
    let b = grows n m.writer h c (shown-matches n m h x) k in
    record {
      rules = valid-by (acted m c) (acted-valid m c a);
      size = x.size;
      segment = (acted-reads m c (bytes h) a (shown-reads n m h x)).same ∙ b.segment;
      id = b.id;
      last = b.last;
      info = b.info;
      moment = b.moment;
      holding = b.holding;
    }

told-shows : (n : ℕ) (m : Machine) (h : History) (c : Call) → tellable c ≡ true → Shows n m h → Shows n (called m c).machine' (next n h c)
unfolding called
told-shows n m h c t x =
    let e = shown-refusal n m h c x t in
    rw e (obeyed-both (λ u g. Shows n u g) (first (causes n h c)) m (acted m c) h (grow h c) x (λ z. acted-shows n m h c x (e ∙ z) z))

-- a landing from the file length: answered or refused, nothing moves
untold-shows : (n : ℕ) (m : Machine) (h : History) (offset : ℤ) → Shows n m h → Shows n (called m (landing (End offset))).machine' h
unfolding called causes
untold-shows n m h offset x =
    let c = landing (End offset) in
    obeyed (λ u. Shows n u h) (refusal m c) m (acted m c) x (λ e. acted-shows n m h c x e refl)

pub still-shows : (n : ℕ) (m : Machine) (h : History) (c : Call) → Shows n m h → Shows n (called m c).machine' (next n h c)
unfolding causes
still-shows n m h (begin_entry id) = told-shows n m h (begin_entry id) refl
still-shows n m h (begin_chunk k) = told-shows n m h (begin_chunk k) refl
still-shows n m h (write offered) = told-shows n m h (write offered) refl
still-shows n m h finish = told-shows n m h finish refl
still-shows n m h commit = told-shows n m h commit refl
still-shows n m h rollback = told-shows n m h rollback refl
still-shows n m h (recycle id) = told-shows n m h (recycle id) refl
still-shows n m h flush = told-shows n m h flush refl
still-shows n m h (synchronize t) = told-shows n m h (synchronize t) refl
still-shows n m h (landing (Start place)) = told-shows n m h (landing (Start place)) refl
still-shows n m h (landing (End offset)) = untold-shows n m h offset
still-shows n m h (landing (Current offset)) = told-shows n m h (landing (Current offset)) refl

-- ---- idle and flushed, the image below the file position is the format's segment of the committed entries

pub flushed-image : (n : ℕ) (m : Machine) (h : History) → Shows n m h → m.writer.moment ≡ Idle → m.writer.file.staged ≡ 0
    → take (position m.writer) m.image ≡ segment h.info h.committed
flushed-image n m h x i z =
    let e = idle-nothing (length (base h)) h.pending (sym x.moment ∙ i) in
    rw (z, add-zero) (sym (append-nil _) ∙ (rw (z, e) at x.segment) ∙ append-nil _)

-- ---- fresh openings

-- with L = 0; any file length in range, any old bytes, any staging
pub fresh-shows : (o : Terms) (f : ℕ) (image staging : List ℕ) → number_of (opened o 0 f image staging).answer ≡ 0
    → Shows (length image) (opened o 0 f image staging).machine' (fresh o.info o.id o.last)
unfolding opened_machine
fresh-shows o f image staging e =
    let k = opening-clear o 0 f image staging e in
    let v = opened-valid o f image staging 0 e in
    rw (opened-machine o f image staging 0 e)
    (record {
      rules = rw (opened-machine o f image staging 0 e) at v;
      size = refl;
      segment = (headed-reads o f image staging k).same ∙ sym (segment-none o.info) ∙ sym (append-nil _);
      id = refl;
      last = refl;
      info = kept-info o.info k.brief;
      moment = refl;
      holding = omega arith;
    })

-- ranges (12) are the caller's: within them, staging and file length show in no answer
pub openings-agree : (o : Terms) (f₁ f₂ : ℕ) (image₁ image₂ staging₁ staging₂ : List ℕ) → length image₁ ≡ length image₂ → length staging₁ ≤ 65536
    → length staging₂ ≤ 65536 → f₁ ≤ length image₁ → f₂ ≤ length image₂
    → (opened o 0 f₁ image₁ staging₁).answer ≡ (opened o 0 f₂ image₂ staging₂).answer
unfolding opened open_refusal
openings-agree o f₁ f₂ image₁ image₂ staging₁ staging₂ e s₁ s₂ g₁ g₂ =
    rw (
      le-ltb 65536 (length staging₁) s₁,
      le-ltb 65536 (length staging₂) s₂,
      le-ltb f₁ 0 (omega arith),
      le-ltb f₂ 0 (omega arith),
      le-ltb (length image₁) f₁ g₁,
      le-ltb (length image₂) f₂ g₂,
      e,
    )
