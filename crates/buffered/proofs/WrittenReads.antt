-- A write appends its bytes to what the store reads as. These laws stand here and not in specs/, since a must-fail edit changes `direct`: `direct-reads`
-- then falls, and the others wait for it.
use Rattle.std.specs.Prelude.{ℕ, zero, suc, ◌+◌, ◌≤◌, ◌<◌, ◌≡◌, take, drop, ltb}
use Rattle.std.proofs.Common.{arith, ap, sym, ◌∙◌, subst, length-append, length-take, length-drop, take-append-drop, ltb-false}
use mathlib.Core.List.{List, [], ◌∷◌, ◌++◌, append_assoc, append-nil, flatten}
use Rattle.std.proofs.Math.ListN.{length}
use Rattle.lists.specs.LayLaws.{length-lay, lay_done}
use Rattle.lists.specs.ChoiceLaws.{either}
use Rattle.buffered.specs.Staging.{Store, logical_position, flushed, direct, staged, emptied, room, rounds, written, written_all}
use Rattle.buffered.specs.StagingLaws.{Reads, same-position, flush-reads, flush-none, staged-reads, emptied-reads, emptied-room}

direct-reads : (n : ℕ) (s : Store) (xs bs : List ℕ) → s.file.staged ≡ 0 → Reads n s bs → length bs + length xs ≤ n → Reads n (direct s xs) (bs ++ xs)
unfolding direct
direct-reads n s xs bs z r h =
    let at = s.file.position in
    let p : logical_position s.file ≡ length bs = same-position n s bs r in
    let e : take at s.image ≡ bs = sym (append-nil _) ∙ (rw z at r.same) in
    record {
      size = length-lay s.image at xs ∙ r.size;
      room = omega arith;
      fits = omega arith;
      sound = omega arith;
      under = omega arith;
      top = omega arith;
      same = rw z (append-nil _ ∙ lay_done s.image at xs (omega arith) ∙ rw e);
    }

rounds-reads : (fuel n : ℕ) (s : Store) (xs bs : List ℕ) → length xs ≤ fuel → Reads n s bs → length bs + length xs ≤ n
    → Reads n (rounds fuel s xs) (bs ++ xs)
unfolding rounds
rounds-reads zero n s [] bs f r h = rw append-nil r
rounds-reads zero n s (x ∷ xs) bs f r h = absurd (omega arith)
rounds-reads (suc fuel) n s [] bs f r h = rw append-nil r
rounds-reads (suc fuel) n s (x ∷ xs) bs f r h =
    let t = emptied s in
    let ys = x ∷ xs in
    let a = take (room t) ys in
    let b = drop (room t) ys in
    let q : Reads n t bs = emptied-reads n s bs r in
    either (λ u. Reads n u (bs ++ ys)) (ltb (length t.staging) (length ys)) (direct (flushed t) ys) (rounds fuel (staged t a) b)
    (λ e. direct-reads n (flushed t) ys bs (flush-none t) (flush-reads n t bs q) h)
    (λ e. let k : t.file.staged < length t.staging = emptied-room s (omega (arith, ltb-false)) in
    let v : Reads n (staged t a) (bs ++ a) = staged-reads n t a bs (simp length-take (omega arith)) q (simp length-take (omega arith)) in
    subst (λ l. Reads n (rounds fuel (staged t a) b) l) (append_assoc bs a b ∙ ap (λ l. bs ++ l) (take-append-drop (room t) ys))
    (rounds-reads fuel n (staged t a) b (bs ++ a) (simp length-drop (omega arith)) v (simp (length-append, length-take, length-drop) (omega arith))))

pub written-reads : (n : ℕ) (s : Store) (xs bs : List ℕ) → Reads n s bs → length bs + length xs ≤ n → Reads n (written s xs) (bs ++ xs)
unfolding written
written-reads n s xs bs r h = rounds-reads (length xs) n s xs bs (omega arith) r h

pub written_all-reads : (n : ℕ) (s : Store) (writes : List (List ℕ)) (bs : List ℕ) → Reads n s bs → length bs + length (flatten writes) ≤ n
    → Reads n (written_all s writes) (bs ++ flatten writes)
unfolding written_all flatten
written_all-reads n s [] bs r h = rw append-nil r
written_all-reads n s (xs ∷ writes) bs r h =
    let l : length (xs ++ flatten writes) ≡ length xs + length (flatten writes) = length-append xs (flatten writes) in
    rw (← append_assoc)
    (written_all-reads n (written s xs) writes (bs ++ xs) (written-reads n s xs bs r (omega arith)) (simp length-append (omega arith)))
