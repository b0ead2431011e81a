-- An accepted opening is valid; a refused one keeps the buffers and hands back a state that every call refuses with 12.
use Prim.Native.Nat.{ℕ, zero, suc, ◌+◌, ◌-◌, ◌≤◌}
use Rattle.std.proofs.Common.{zero-add, arith, ap, sym, ◌∙◌, le-leb, ltb-false}
use Rattle.std.specs.Prelude.{◌≡◌, true, take, replicate}
use Rattle.std.proofs.Math.Path.{refl}
use mathlib.Core.List.{List, [], append-nil, flatten}
use Rattle.std.proofs.Math.ListN.{length}
use Rattle.std.proofs.lemmas.List.{length-replicate}
use Rattle.lists.specs.Lay.{lay}
use Rattle.lists.specs.LayLaws.{length-lay, lay_done}
use Rattle.lists.specs.Answers.{number_of, refused}
use Rattle.lists.specs.AnswersLaws.{clear}
use Rattle.lists.specs.ChoiceLaws.{refusal-keeps, number-reply}
use Rattle.entry.specs.Format.{header, largest_image}
use Rattle.entry.specs.FormatLaws.{length-header}
use Rattle.buffered.specs.Staging.{logical, written_all}
use Rattle.buffered.specs.StagingLaws.{Reads, reads-itself, flush-reads, sizes-both, flush-wrote, written_all-wrote}
use Rattle.buffered.proofs.WrittenReads.{written_all-reads}
use Rattle.log_file.specs.State.{machine, ruled, valid}
use Rattle.log_file.specs.StateLaws.{Valid, valid-by}
use Rattle.log_file.specs.Calls.{Call, after, refusal, heading, called}
use Rattle.log_file.specs.Opening.{Terms, padded, open_checks, open_refusal, prepared, unheaded, headed, kept, opened_machine, blank, opened}

-- ---- refused

pub refused-opening : (o : Terms) (l f : ℕ) (image staging : List ℕ) → (number_of (opened o l f image staging).answer ≡ 0 → ⊥)
    → (opened o l f image staging).machine' ≡ machine blank image staging
unfolding opened
refused-opening o l f image staging h =
    refusal-keeps (open_refusal o l f (length image) (length staging)) (machine blank image staging) (opened_machine o l f image staging) [] h

pub blank-refused : (image staging : List ℕ) (c : Call) → called (machine blank image staging) c ≡ after (refused 12) (machine blank image staging)
unfolding called refusal valid ruled
blank-refused image staging c = refl

-- ---- accepted

pub number-opened : (o : Terms) (l f : ℕ) (image staging : List ℕ)
    → number_of (opened o l f image staging).answer ≡ open_refusal o l f (length image) (length staging)
unfolding opened
number-opened o l f image staging = number-reply (open_refusal o l f (length image) (length staging)) []

-- the writes of a header are the header
pub heading-header : (info : List ℕ) → flatten (heading info) ≡ header info
unfolding flatten header
heading-header info = simp append-nil

-- the version info, out of the array that keeps it
pub kept-info : (info : List ℕ) → length info ≤ 255 → take (length info) (kept info) ≡ info
kept-info info h =
    let l : length (replicate {A = ℕ} 255 0) ≡ 255 = length-replicate {A = ℕ} 255 0 in
    ap (λ (k : ℕ). take k (kept info)) (sym (zero-add (length info))) ∙ lay_done (replicate 255 0) 0 info (omega arith)

length-prepared : (image : List ℕ) (p l f : ℕ) → length (prepared image p l f) ≡ length image
unfolding prepared
length-prepared image p l f = length-lay (lay image f (replicate (p - f) 0)) l (replicate (p - f) 0) ∙ length-lay image f (replicate (p - f) 0)

-- what an accepted opening's row tells
pub record Opens (o : Terms) (l f image staging : ℕ) : Type 0 where
  pub size : image ≤ largest_image
  pub capacity : staging ≤ 65536
  pub preallocated : 1 ≤ o.preallocate
  pub preallocatable : o.preallocate ≤ 4294967295
  pub validated : l ≤ f
  pub file : f ≤ image
  pub brief : length o.info ≤ 255
  pub padding : padded l o.preallocate ≤ image
  pub head : 5 + length o.info ≤ image

pub opening-clear : (o : Terms) (l f : ℕ) (image staging : List ℕ) → number_of (opened o l f image staging).answer ≡ 0
    → Opens o l f (length image) (length staging)
unfolding open_refusal
opening-clear o l f image staging z =
    let e : open_refusal o l f (length image) (length staging) ≡ 0 = sym (number-opened o l f image staging) ∙ z in
    let k = clear (open_checks o.preallocate (length o.info) l f (length image) (length staging)) e in
    omega (arith, ltb-false)

module _ (o : Terms) (f : ℕ) (image staging : List ℕ) where
  -- before the header: what the image holds below the validated length
  unheaded-reads : (l : ℕ) → Opens o l f (length image) (length staging)
      → Reads (length image) (unheaded o l f image staging) (take l (prepared image (padded l o.preallocate) l f))
  unfolding unheaded
  unheaded-reads l k =
      record {
        size = length-prepared image (padded l o.preallocate) l f;
        room = omega arith;
        fits = omega arith;
        sound = omega arith;
        under = omega arith;
        top = omega arith;
        same = append-nil _;
      }

  -- a fresh opening reads as the header
  pub headed-reads : Opens o 0 f (length image) (length staging)
      → Reads (length image) (headed o.info 0 (unheaded o 0 f image staging)) (header o.info)
  unfolding headed
  headed-reads k =
      let n = length image in
      let s = unheaded o 0 f image staging in
      let h = length-header o.info in
      flush-reads n (written_all s (heading o.info)) (header o.info)
      (rw (← heading-header) (written_all-reads n s (heading o.info) [] (unheaded-reads 0 k) (rw heading-header (omega arith))))

  opened-reads : (l : ℕ) → Opens o l f (length image) (length staging) → Reads (length image) (headed o.info l (unheaded o l f image staging)) (logical (headed o.info l (unheaded o l f image staging)))
  unfolding headed
  opened-reads zero k = reads-itself _ _ _ (headed-reads k)
  opened-reads (suc l) k = reads-itself _ _ _ (unheaded-reads (suc l) k)

  opened-sizes : (l : ℕ) → length (headed o.info l (unheaded o l f image staging)).staging ≡ length staging
  unfolding headed unheaded
  opened-sizes zero =
      let s = unheaded o 0 f image staging in
      let t = written_all s (heading o.info) in
      (sizes-both s t _ (written_all-wrote s (heading o.info)).sizes (flush-wrote t).sizes).staging
  opened-sizes (suc l) = refl

  machine-valid : (l : ℕ) → Opens o l f (length image) (length staging) → Valid (opened_machine o l f image staging)
  unfolding opened_machine
  machine-valid l k =
      let r = opened-reads l k in
      let z = opened-sizes l in
      record {
        rules = record { numbers = omega (arith, le-leb); moment = omega (arith, le-leb) };
        image = r.size;
        staging = z;
      }

  pub opened-machine : (l : ℕ) → number_of (opened o l f image staging).answer ≡ 0
      → (opened o l f image staging).machine' ≡ opened_machine o l f image staging
  unfolding opened
  opened-machine l e = rw (sym (number-opened o l f image staging) ∙ e)

  pub opened-valid : (l : ℕ) → number_of (opened o l f image staging).answer ≡ 0 → valid (opened o l f image staging).machine' ≡ true
  opened-valid l e =
      rw (opened-machine l e) (valid-by (opened_machine o l f image staging) (machine-valid l (opening-clear o l f image staging e)))
