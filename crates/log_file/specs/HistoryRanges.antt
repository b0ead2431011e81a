-- What a reader asks of entries to find them again: ids from the segment's up and of 64 bits, chunk lengths of 32 bits. A history has only such
-- entries where the calls' arguments are of these widths, as the code's types say.
use Rattle.std.specs.Prelude.{ℕ, ◌^◌, ◌≤◌, ◌<◌, ◌≡◌}
use Rattle.std.proofs.Common.{arith, length-append, length-take, ltb-false}
use mathlib.Core.List.{List, [], ◌∷◌, ◌++◌}
use Rattle.std.proofs.Math.ListN.{length}
use Rattle.lists.specs.Answers.{first}
use Rattle.lists.specs.AnswersLaws.{clear}
use Rattle.lists.specs.ChoiceLaws.{obeyed}
use Rattle.lists.specs.All.{All}
use Rattle.entry.specs.Writable.{Writable}
use Rattle.std.specs.Prelude.{Option}
use Rattle.log_file.specs.Calls.{Call, begin_entry, begin_chunk, write, finish, commit, rollback, flush, recycle, synchronize, landing}
use Rattle.log_file.specs.History.{Open, nothing, an_entry, a_chunk, History, fresh, with_open, grow, causes, next}

all_snoc : {A : Type 0} (P : A → Type 0) (xs : List A) (x : A) → All P xs → P x → All P (xs ++ (x ∷ []))
all_snoc P [] x h p = (p, tt)
all_snoc P (y ∷ xs) x h p = (h.0, all_snoc P xs x h.1 p)

-- ---- what is open in a segment of the id `from`

abbrev pub OpenRanged : (from : ℕ) → Open → Type 0
OpenRanged from nothing = Unit {0}
OpenRanged from (an_entry id chunks) = Writable from (record { id = id; chunks = chunks })
OpenRanged from (a_chunk id chunks n got) = Writable from (record { id = id; chunks = chunks }) × (n < 2 ^ 32) × (length got ≤ n)

pub record AllRanged (h : History) : Type 0 where
  pub committed : All (Writable h.id) h.committed
  pub pending : OpenRanged h.id h.pending

-- ---- a call with arguments of their widths

abbrev pub Argued : Call → Type 0
Argued (begin_entry id) = id < 2 ^ 64
Argued (begin_chunk n) = n < 2 ^ 32
Argued (write offered) = Unit {0}
Argued finish = Unit {0}
Argued commit = Unit {0}
Argued rollback = Unit {0}
Argued (recycle id) = Unit {0}
Argued flush = Unit {0}
Argued (synchronize t) = Unit {0}
Argued (landing from) = Unit {0}

module _ (n : ℕ) (h : History) (es : All (Writable h.id) h.committed) where
  Grows : Call → Open → Type 0
  Grows c o = Argued c → OpenRanged h.id o → first (causes n (with_open h o) c) ≡ 0 → AllRanged (grow (with_open h o) c)

  begin-ranged : (id : ℕ) (o : Open) → Grows (begin_entry id) o
  unfolding Grows causes
  begin-ranged id o a r e =
      let k = clear (causes n (with_open h o) (begin_entry id)) e in
      record { committed = es; pending = record { not_below = omega (arith, ltb-false); id_fits = a; chunks_fit = tt } }

  chunk-ranged : (k : ℕ) (o : Open) → Grows (begin_chunk k) o
  unfolding Grows causes
  chunk-ranged k nothing a r e = absurd (omega arith)
  chunk-ranged k (an_entry i cs) a r e = record { committed = es; pending = (r, a, omega arith) }
  chunk-ranged k (a_chunk i cs m d) a r e = absurd (omega arith)

  piece-ranged : (offered : List ℕ) (o : Open) → Grows (write offered) o
  unfolding Grows causes
  piece-ranged offered nothing a r e = absurd (omega arith)
  piece-ranged offered (an_entry i cs) a r e = absurd (omega arith)
  piece-ranged offered (a_chunk i cs m d) a r e =
      record { committed = es; pending = (r.0, r.1, simp (length-append, length-take) (omega arith)) }

  finish-ranged : (o : Open) → Grows finish o
  unfolding Grows causes
  finish-ranged nothing a r e = absurd (omega arith)
  finish-ranged (an_entry i cs) a r e = absurd (omega arith)
  finish-ranged (a_chunk i cs m d) a r e =
      record {
        committed = es;
        pending = record {
          not_below = r.0.not_below;
          id_fits = r.0.id_fits;
          chunks_fit = all_snoc (λ (d : List ℕ). length d < 2 ^ 32) cs d r.0.chunks_fit (omega arith);
        };
      }

  commit-ranged : (o : Open) → Grows commit o
  unfolding Grows causes
  commit-ranged nothing a r e = absurd (omega arith)
  commit-ranged (an_entry i cs) a r e =
      record { committed = all_snoc (Writable h.id) h.committed (record { id = i; chunks = cs }) es r; pending = tt }
  commit-ranged (a_chunk i cs m d) a r e = absurd (omega arith)

  grow-ranged : (c : Call) → Grows c h.pending
  unfolding Grows
  grow-ranged (begin_entry id) = begin-ranged id h.pending
  grow-ranged (begin_chunk k) = chunk-ranged k h.pending
  grow-ranged (write offered) = piece-ranged offered h.pending
  grow-ranged finish = finish-ranged h.pending
  grow-ranged commit = commit-ranged h.pending
  grow-ranged rollback = λ a r e. record { committed = es; pending = tt }
  grow-ranged (recycle id) = λ a r e. record { committed = tt; pending = tt }
  grow-ranged flush = λ a r e. record { committed = es; pending = r }
  grow-ranged (synchronize t) = λ a r e. record { committed = es; pending = r }
  grow-ranged (landing from) = λ a r e. record { committed = es; pending = r }

pub fresh-ranged : (info : List ℕ) (id : ℕ) (last : Option ℕ) → AllRanged (fresh info id last)
fresh-ranged info id last = record { committed = tt; pending = tt }

pub next-ranged : (n : ℕ) (h : History) (c : Call) → Argued c → AllRanged h → AllRanged (next n h c)
unfolding Grows
next-ranged n h c a r =
    obeyed (λ g. AllRanged g) (first (causes n h c)) h (grow h c) r (grow-ranged n h r.committed c a r.pending)
