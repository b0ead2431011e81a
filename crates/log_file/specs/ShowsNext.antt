-- What an accepted call makes of a writer's segment and numbers is what it makes of the history: call by call, over what is open.
use Rattle.std.specs.Prelude.{ℕ, ◌-◌, ◌≤◌, ◌≡◌}
use Rattle.std.proofs.Math.Nat.{sub-zero, sub-add-eq}
use native.Mathlib.Omega.{arith}
use Rattle.std.proofs.Math.Path.{refl, sym}
use Rattle.std.proofs.Common.{ap, ◌∙◌, ltb-false}
use mathlib.Core.List.{List, [], ◌++◌, append_assoc, append-nil, flatten}
use Rattle.std.proofs.Math.ListN.{length, take, length-append, length-take}
use Rattle.std.proofs.Math.Seq.{take-append_seam}
use Rattle.lists.specs.Answers.{first}
use Rattle.lists.specs.AnswersLaws.{clear}
use Rattle.log_file.specs.declared.LogFileWriter.{LogFileWriter}
use Rattle.log_file.specs.Calls.{Call, begin_entry, begin_chunk, write, finish, commit, rollback, flush, recycle, synchronize, landing, info_of, writes, moment_after, last_after, id_after}
use Rattle.log_file.specs.CallsLaws.{leaves, appends}
use Rattle.log_file.specs.OpeningLaws.{heading-header}
use Rattle.log_file.specs.History.{Open, nothing, an_entry, a_chunk, History, begun, opening, base, bytes, moment_of, with_open, grow, holds, is_to_hold, causes}
use Rattle.log_file.specs.HistoryLaws.{chunk-opening, entry-begun, segment-none, segment-snoc, begun-none, begun-snoc, opening-none, opening-more, chunk_sum-more}
use Rattle.log_file.specs.ShowsAnswers.{Matches}

-- the writer w after the call c, beside the history h'
pub record Becomes (w : LogFileWriter) (c : Call) (bs : List ℕ) (h' : History) : Type 0 where
  pub segment : leaves w c bs ++ appends w c ≡ bytes h'
  pub moment : moment_after w c ≡ moment_of h'
  pub id : id_after w c ≡ h'.id
  pub last : last_after w c ≡ h'.last
  pub info : info_of w ≡ h'.info
  pub holding : holds h'.pending ≤ is_to_hold h'.pending

module _ (n : ℕ) (w : LogFileWriter) (h : History) where
  Grows : Call → Open → Type 0
  Grows c o = Matches n w (with_open h o) → first (causes n (with_open h o) c) ≡ 0 → Becomes w c (bytes (with_open h o)) (grow (with_open h o) c)

  begin-grows : (id : ℕ) (o : Open) → Grows (begin_entry id) o
  unfolding Grows causes moment_after id_after last_after writes flatten
  begin-grows id nothing x e =
      record {
        segment = simp (append-nil, begun-none);
        moment = rw x.place (simp append-nil);
        id = x.id;
        last = x.last;
        info = x.info;
        holding = omega arith;
      }
  begin-grows id (an_entry i cs) x e = absurd (omega arith)
  begin-grows id (a_chunk i cs k d) x e = absurd (omega arith)

  chunk-grows : (m : ℕ) (o : Open) → Grows (begin_chunk m) o
  unfolding Grows causes moment_after id_after last_after writes flatten
  chunk-grows m nothing x e = absurd (omega arith)
  chunk-grows m (an_entry i cs) x e =
      record {
        segment = simp (append_assoc, opening-none);
        moment = rw x.moment (simp sub-zero);
        id = x.id;
        last = x.last;
        info = x.info;
        holding = omega arith;
      }
  chunk-grows m (a_chunk i cs k d) x e = absurd (omega arith)

  piece-grows : (offered : List ℕ) (o : Open) → Grows (write offered) o
  unfolding Grows causes moment_after id_after last_after writes flatten
  piece-grows offered nothing x e = absurd (omega arith)
  piece-grows offered (an_entry i cs) x e = absurd (omega arith)
  piece-grows offered (a_chunk i cs k d) x e =
      let q = take (k - length d) offered in
      let l : length q ≤ k - length d = simp length-take (omega arith) in
      record {
        segment = rw x.moment (simp (append_assoc, append-nil, opening-more));
        moment = rw x.moment (simp (chunk_sum-more, length-append, sub-add-eq));
        id = x.id;
        last = x.last;
        info = x.info;
        holding = omega (arith, length-append d q, x.holding);
      }

  finish-grows : (o : Open) → Grows finish o
  unfolding Grows causes moment_after id_after last_after writes flatten
  finish-grows nothing x e = absurd (omega arith)
  finish-grows (an_entry i cs) x e = absurd (omega arith)
  finish-grows (a_chunk i cs k d) x e =
      let z = clear (causes n (with_open h (a_chunk i cs k d)) finish) e in
      let q : k ≡ length d = omega (arith, ltb-false) in
      record {
        segment = rw x.moment (simp (q, append_assoc, append-nil, begun-snoc, chunk-opening));
        moment = rw x.moment;
        id = x.id;
        last = x.last;
        info = x.info;
        holding = omega arith;
      }

  commit-grows : (o : Open) → Grows commit o
  unfolding Grows causes moment_after id_after last_after writes flatten
  commit-grows nothing x e = absurd (omega arith)
  commit-grows (an_entry i cs) x e =
      record { segment = simp (segment-snoc, entry-begun, append_assoc, append-nil); moment = refl; id = x.id; last = rw x.moment; info = x.info; holding = omega arith }
  commit-grows (a_chunk i cs k d) x e = absurd (omega arith)

  rollback-grows : (o : Open) → Grows rollback o
  unfolding Grows causes moment_after id_after last_after writes flatten
  rollback-grows nothing x e = absurd (omega arith)
  rollback-grows (an_entry i cs) x e =
      record {
        segment = rw x.moment (ap (λ (l : List ℕ). l ++ []) (take-append_seam (base h) (begun i cs)));
        moment = refl;
        id = x.id;
        last = x.last;
        info = x.info;
        holding = omega arith;
      }
  rollback-grows (a_chunk i cs k d) x e =
      record {
        segment = rw x.moment (ap (λ (l : List ℕ). l ++ []) (take-append_seam (base h) (begun i cs ++ opening k d)));
        moment = refl;
        id = x.id;
        last = x.last;
        info = x.info;
        holding = omega arith;
      }

  recycle-grows : (id : ℕ) (o : Open) → Grows (recycle id) o
  unfolding Grows causes moment_after id_after last_after writes
  recycle-grows id o x e =
      record {
        segment = rw x.info (heading-header h.info ∙ sym (segment-none h.info) ∙ sym (append-nil _));
        moment = refl;
        id = refl;
        last = refl;
        info = x.info;
        holding = omega arith;
      }

  -- what is asked of the store alone
  same_grows : (c : Call) → moment_after w c ≡ w.moment → id_after w c ≡ w.id → last_after w c ≡ w.last → leaves w c (bytes h) ≡ bytes h
      → writes w c ≡ [] → Matches n w h → Becomes w c (bytes h) h
  unfolding flatten
  same_grows c m i l b z x =
      record {
        segment = rw (b, z) (append-nil (bytes h));
        moment = m ∙ x.moment;
        id = i ∙ x.id;
        last = l ∙ x.last;
        info = x.info;
        holding = x.holding;
      }

  pub grows : (c : Call) → Matches n w h → first (causes n h c) ≡ 0 → Becomes w c (bytes h) (grow h c)
  unfolding Grows moment_after id_after last_after writes
  grows (begin_entry id) = begin-grows id h.pending
  grows (begin_chunk m) = chunk-grows m h.pending
  grows (write offered) = piece-grows offered h.pending
  grows finish = finish-grows h.pending
  grows commit = commit-grows h.pending
  grows rollback = rollback-grows h.pending
  grows (recycle id) = recycle-grows id h.pending
  grows flush = λ x e. same_grows flush refl refl refl refl refl x
  grows (synchronize t) = λ x e. same_grows (synchronize t) refl refl refl refl refl x
  grows (landing from) = λ x e. same_grows (landing from) refl refl refl refl refl x
