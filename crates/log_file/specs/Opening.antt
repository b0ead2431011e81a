-- Opening a writer (document 01, "The writer", opening; "Numbers of refusal": 12, 4, 5).
use Rattle.std.specs.Prelude.{ℕ, zero, suc, ◌+◌, ◌-◌, ◌*◌, ◌/◌, max, ◌≡◌, List, [], ◌∷◌, ◌++◌, length, replicate, ltb, Result}
use Rattle.lists.specs.Lay.{lay}
use Rattle.lists.specs.Answers.{Check, ◌⇒◌, first, reply, obey}
use Rattle.entry.specs.Format.{largest_image}
use Rattle.buffered.specs.Staging.{Store, store, flushed, written_all}
use Rattle.std.specs.Prelude.{Option, None}
use Rattle.log_file.specs.declared.Moment.TheVariants.{Idle}
use Rattle.log_file.specs.declared.LogFileWriter.{LogFileWriter}
use Rattle.entry.specs.declared.Refusal.{Refusal}
use Rattle.entry.specs.Refusal.{answer_of}
use Rattle.log_file.specs.State.{Machine, machine}
use Rattle.log_file.specs.Calls.{Called, after, heading}
use Rattle.log_file.specs.Promises.{no_values}

-- the terms of an opening: id, last id, version info, preallocation. Demand 3 speaks of two fresh openings on equal terms
pub record Terms : Type 0 where
  pub id : ℕ
  pub last : Option ℕ
  pub info : List ℕ
  pub preallocate : ℕ

-- padded = max(ceil(L/p), 1) × p
unfoldable pub padded : (validated preallocate : ℕ) → ℕ
padded l p = max ((l + p - 1) / p) 1 * p

-- ---- the refusals: 12 for a range, 4 for too long an info, 5 for no room

abbrev pub range_checks : (preallocate validated file_length image staging : ℕ) → List Check
range_checks p l f image staging =
    (ltb largest_image image ⇒ 12) ∷ (ltb 65536 staging ⇒ 12) ∷ (ltb p 1 ⇒ 12) ∷ (ltb 4294967295 p ⇒ 12) ∷ (ltb f l ⇒ 12) ∷ (ltb image f ⇒ 12) ∷ []

abbrev pub room_checks : (preallocate info validated image : ℕ) → List Check
room_checks p v l image = (ltb 255 v ⇒ 4) ∷ (ltb image (padded l p) ⇒ 5) ∷ (ltb image (5 + v) ⇒ 5) ∷ []

abbrev pub open_checks : (preallocate info validated file_length image staging : ℕ) → List Check
open_checks p v l f image staging = range_checks p l f image staging ++ room_checks p v l image

unfoldable pub open_refusal : Terms → (validated file_length image staging : ℕ) → ℕ
open_refusal o l f image staging = first (open_checks o.preallocate (length o.info) l f image staging)

-- ---- what an accepted opening does

-- if padded ≥ F, bytes F to padded become 0, and then padded - F bytes from L on (where padded < F, padded - F is 0, and nothing is stored)
unfoldable pub prepared : List ℕ → (padded' validated file_length : ℕ) → List ℕ
prepared image p l f = lay (lay image f (replicate (p - f) 0)) l (replicate (p - f) 0)

-- the file length becomes padded, unless it is longer; file position and synchronized number are L
unfoldable pub unheaded : Terms → (validated file_length : ℕ) → (image staging : List ℕ) → Store
unheaded o l f image staging =
    let p = padded l o.preallocate in
    store (prepared image p l f) staging (record { length = max f p; position = l; staged = 0; synchronized = l })

-- if L = 0 the header is written and flushed
unfoldable pub headed : (info : List ℕ) (validated : ℕ) → Store → Store
headed info zero s = flushed (written_all s (heading info))
headed info (suc l) s = s

-- the version info, and zeros behind it
abbrev pub kept : (info : List ℕ) → List ℕ
kept info = lay (replicate 255 0) 0 info

unfoldable pub opened_machine : Terms → (validated file_length : ℕ) → (image staging : List ℕ) → Machine
opened_machine o l f image staging =
    let s = headed o.info l (unheaded o l f image staging) in
    machine
    (record {
      id = o.id;
      info = kept o.info;
      info_length = length o.info;
      size = length image;
      capacity = length staging;
      file = s.file;
      last = o.last;
      moment = Idle;
    }) s.image s.staging

-- ---- a refused opening: a state of zeros, idle; the buffers stay

abbrev pub blank : LogFileWriter
blank =
    record {
      id = 0;
      info = replicate 255 0;
      info_length = 0;
      size = 0;
      capacity = 0;
      file = record { length = 0; position = 0; staged = 0; synchronized = 0 };
      last = None;
      moment = Idle;
    }

unfoldable pub opened : Terms → (validated file_length : ℕ) → (image staging : List ℕ) → Called
opened o l f image staging =
    let no' = open_refusal o l f (length image) (length staging) in
    after (reply no' []) (obey no' (machine blank image staging) (opened_machine o l f image staging))

-- ---- what `open` may answer and leave

abbrev pub terms : (id : ℕ) → Option ℕ → (info : List ℕ) → (preallocate : ℕ) → Terms
terms id last info p = record { id = id; last = last; info = info; preallocate = p }

abbrev pub OpenAllows : Terms → (validated file_length : ℕ) → (image staging : List ℕ) → Result (Unit {0}) Refusal → LogFileWriter → (image' staging' : List ℕ) → Type 0
OpenAllows o l f image staging r w' image' staging' =
    after (answer_of no_values r) (machine w' image' staging') ≡ opened o l f image staging

-- and what a refused one leaves, by itself
abbrev pub IsBlank : LogFileWriter → Type 0
IsBlank w = w ≡ blank
