-- Any two results that `step`'s promise allows are equal, with the writers and buffers that they leave.
use Rattle.std.specs.Prelude.{ℕ, ◌≡◌, refl, List, [], ◌∷◌, Result, Ok, Err, IfOk}
use Rattle.std.proofs.Common.{ap, sym, ◌∙◌}
use Rattle.entry.specs.declared.Refusal.{Refusal}
use Rattle.entry.specs.RefusalLaws.{one_result_of}
use Rattle.log_file.specs.declared.LogFileWriter.{LogFileWriter}
use Rattle.log_file.specs.declared.calls.Call.{Call}
use Rattle.log_file.specs.declared.calls.Reply.{Reply}
use Rattle.log_file.specs.declared.calls.Reply.TheVariants.{Done, Taken, Chunk, Entry, Place}
use Rattle.log_file.specs.State.{machine}
use Rattle.log_file.specs.Calls as calls
use Rattle.log_file.specs.Calls.{Called, called}
use Rattle.log_file.specs.PromisesLaws.{Same, same_by, call_no_nine}
use Rattle.log_file.specs.Step.{call_of, Kind, nothing, a_count, a_chunk, an_entry, a_place, given, asked, reply_values, StepAllows}

-- ---- what a reply says and its kind, back to the reply

back_from : Kind → List ℕ → Reply
back_from nothing vs = Done
back_from a_count (n ∷ []) = Taken n
back_from a_chunk (f ∷ o ∷ c ∷ l ∷ []) = Chunk (record { position = record { file_id = f; offset = o }; crc = c; length = l })
back_from an_entry (i ∷ p ∷ []) = Entry (record { id = i; position = p })
back_from a_place (p ∷ []) = Place p
back_from k vs = Done

back : (a : Reply) → back_from (given a) (reply_values a) ≡ a
unfolding back_from
back Done = refl
back (Taken count) = refl
back (Chunk c) = refl
back (Entry e) = refl
back (Place p) = refl

-- replies that say the same, and are of one kind, are the same
pub reply_one : (a b : Reply) → given a ≡ given b → reply_values a ≡ reply_values b → a ≡ b
reply_one a b k e = sym (back a) ∙ (λ i. back_from (k i) (e i)) ∙ back b

-- a reply told with its kind
abbrev pub replied_as : Reply → Kind × List ℕ
replied_as a = (given a, reply_values a)

pub replied-one : (a b : Reply) → replied_as a ≡ replied_as b → a ≡ b
replied-one a b e = reply_one a b (ap (λ (p : Kind × List ℕ). p.0) e) (ap (λ (p : Kind × List ℕ). p.1) e)

-- replies to one call that say the same are the same
pub replied_to_one : (c : calls.Call) (a b : Reply) → given a ≡ asked c → given b ≡ asked c → reply_values a ≡ reply_values b → a ≡ b
replied_to_one c a b g h e = reply_one a b (g ∙ sym h) e

-- ---- one answer

kind_of : {k : Kind} (r : Result Reply Refusal) (x : Reply) → r ≡ Ok x → IfOk r (λ reply. given reply ≡ k) → given x ≡ k
kind_of (Ok y) x e h = let z : y ≡ x = cc in ap given (sym z) ∙ h
kind_of (Err b) x e h = cc

pub step-one-answer : (w : LogFileWriter) (image staging : List ℕ) (call : Call) (r r' : Result Reply Refusal) (v v' : LogFileWriter) (i i' s s' : List ℕ)
    → StepAllows w image staging call r v i s → StepAllows w image staging call r' v' i' s' → Same r r' v v' i i' s s'
unfolding called
step-one-answer w image staging call r r' v v' i i' s s' x y =
    let e =
    one_result_of reply_values r r' (λ a b p q z. replied_to_one (call_of call) a b (kind_of r a p x.1) (kind_of r' b q y.1) z) _ _
    (call_no_nine (machine w image staging) (call_of call)) (ap (λ (c : Called). c.answer) x.0) (ap (λ (c : Called). c.answer) y.0) in
    same_by (x.0 ∙ sym y.0) r r' e
