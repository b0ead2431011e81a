-- What holds of the calls for any state and any image: 12 and 6 keep the whole state; a read's part and its numbers agree.
use Rattle.std.specs.Prelude.{List, [], ◌∷◌, ◌≡◌, ℕ, ◌+◌, ◌-◌, ◌≤◌, length, drop}
use Rattle.std.proofs.Math.Path.{refl}
use Rattle.std.proofs.Common.{sym, ap, arith, length-drop, length-take-le}
use Rattle.lists.specs.Answers.{number_of}
use Rattle.lists.specs.Stream.{part}
use Rattle.reading.specs.Reading.{Mark, chunk, cut, close, other, Skipped, at, broken, Whole, complete, aborted, cut_off, wrong_sum, Lead, entry, none}
use Rattle.segment_reader.specs.State.{start_of, open_of, Start, Unfit, Over, Idle, Current, Open, Refused, Chunk}
use Rattle.segment_reader.specs.Calls.{Reply, told, cut_short, refusal, cut_number, answer_of, Step, step, entry_met, entry_past, entry_from, read_entry, chunk_met, chunk_from, read_chunk, handed, read_in, read, bytes_in, read_bytes, check_crc, skip_in, skip_remaining, whole_reply, whole_at, whole_from, read_all_chunks, Call, next_entry, next_chunk, crc_check, skip_rest, whole_entry, data_read, read_by}
use Rattle.segment_reader.specs.declared.SegmentReader.{SegmentReader}
use Rattle.entry.specs.declared.CutPart.{CutPart}
use Rattle.entry.specs.declared.CutPart.TheVariants.{Header, Data, Crc}
use Rattle.entry.specs.declared.ChunkCut.{ChunkCut}

-- ---- 12 and 6 keep the whole state

-- the number that a call answers
abbrev pub number_by : Step → ℕ
number_by s = number_of (answer_of s.reply)

abbrev pub Kept : SegmentReader → Step → Type 0
Kept r s = (number_by s ≡ 12 → s.reader ≡ r) × (number_by s ≡ 6 → s.reader ≡ r)

module _ (r : SegmentReader) where
  -- nothing moves
  stays : (a : Reply) → Kept r (step r a)
  stays a = (λ e. refl, λ e. refl)

  -- another number
  tells : (q : SegmentReader) (vs : List ℕ) → Kept r (step q (told vs))
  unfolding answer_of
  tells q vs = (λ e. absurd (omega arith), λ e. absurd (omega arith))

  is-ten : (q : SegmentReader) → Kept r (step q (refusal 10))
  unfolding answer_of
  is-ten q = (λ e. absurd (omega arith), λ e. absurd (omega arith))

  cuts : (q : SegmentReader) (c : ChunkCut) → Kept r (step q (cut_short c))
  unfolding answer_of cut_number
  cuts q c = go c.part refl
    where
      go : (p : CutPart) → c.part ≡ p → Kept r (step q (cut_short c))
      go Header e = rw e (λ e. absurd (omega arith), λ e. absurd (omega arith))
      go Data e = rw e (λ e. absurd (omega arith), λ e. absurd (omega arith))
      go Crc e = rw e (λ e. absurd (omega arith), λ e. absurd (omega arith))

  module _ (image : List ℕ) where
    entry-keeps : (p : ℕ) (l : Lead) → Kept r (entry_met r p l)
    unfolding entry_met
    entry-keeps p (entry id) = tells _ _
    entry-keeps p none = tells _ _

    past-keeps : (id : ℕ) (s : Skipped) → Kept r (entry_past r image id s)
    unfolding entry_past
    past-keeps id (at p) = entry-keeps p _
    past-keeps id (broken c) = cuts _ c

    entries-keep : (s : Start) → Kept r (entry_from r image s)
    unfolding entry_from
    entries-keep Unfit = stays _
    entries-keep Over = stays _
    entries-keep Idle = entry-keeps _ _
    entries-keep (Current id p) = past-keeps id _

    met-keeps : (id p : ℕ) (m : Mark) → Kept r (chunk_met r image id p m)
    unfolding chunk_met
    met-keeps id p (chunk n) = tells _ _
    met-keeps id p close = tells _ _
    met-keeps id p other = tells _ _
    met-keeps id p (cut k) = cuts _ _

    chunks-keep : (s : Start) → Kept r (chunk_from r image s)
    unfolding chunk_from
    chunks-keep Unfit = stays _
    chunks-keep Over = stays _
    chunks-keep Idle = stays _
    chunks-keep (Current id p) = met-keeps id p _

    at-keeps : (id p : ℕ) (w : Whole) → Kept r (whole_at r id p w)
    unfolding whole_reply
    at-keeps id p (complete k q) = tells _ _
    at-keeps id p (aborted q) = tells _ _
    at-keeps id p (cut_off c q) = cuts _ c
    at-keeps id p (wrong_sum q) = is-ten _

    whole-keeps : (s : Start) → Kept r (whole_from r image s)
    unfolding whole_from
    whole-keeps Unfit = stays _
    whole-keeps Over = stays _
    whole-keeps Idle = stays _
    whole-keeps (Current id p) = at-keeps id p _

    read_keeps : (asked : ℕ) (o : Open) → Kept r (read_in r image asked o)
    unfolding read_in
    read_keeps asked (Refused n) = stays _
    read_keeps asked (Chunk id mark n owed) = tells _ _

    skip-keeps : (o : Open) → Kept r (skip_in r o)
    unfolding skip_in
    skip-keeps (Refused n) = stays _
    skip-keeps (Chunk id mark n owed) = tells _ _

pub twelve-and-six-keep : (c : Call) (r : SegmentReader) (image : List ℕ) → Kept r (read_by c r image)
unfolding read_by read_entry read_chunk read_all_chunks read skip_remaining
twelve-and-six-keep next_entry r image = entries-keep r image (start_of r (length image))
twelve-and-six-keep next_chunk r image = chunks-keep r image (start_of r (length image))
twelve-and-six-keep crc_check r image = stays r (check_crc r image)
twelve-and-six-keep skip_rest r image = skip-keeps r image (open_of r (length image))
twelve-and-six-keep whole_entry r image = whole-keeps r image (start_of r (length image))
twelve-and-six-keep (data_read asked) r image = read_keeps r image asked (open_of r (length image))

-- ---- the part that a read hands out, and its numbers

pub record ReadAgrees (r : SegmentReader) (image : List ℕ) (asked : ℕ) : Type 0 where
  -- the part's length is the place after minus the place before
  pub moves : (read r image asked).reader.place ≡ r.place + length (read_bytes r image asked)
  -- both refuse alike
  pub refused : (n : ℕ) → (read r image asked).reply ≡ refusal n → (read_bytes r image asked ≡ []) × ((read r image asked).reader ≡ r)
  pub reported : (p k : ℕ) → (read r image asked).reply ≡ told (p ∷ k ∷ []) → (p ≡ r.place) × (k ≡ length (read_bytes r image asked))

pub length-present : (image : List ℕ) (p k : ℕ) → k ≤ length image - p → length (part image p k) ≡ k
length-present image p k h = length-take-le k (drop p image) (rw (length-drop p image) h)

pub reads-agree : (r : SegmentReader) (image : List ℕ) (asked : ℕ) → ReadAgrees r image asked
unfolding read read_in read_bytes bytes_in
reads-agree r image asked = go (open_of r (length image)) refl
  where
    go : (o : Open) → open_of r (length image) ≡ o → ReadAgrees r image asked
    go (Refused m) e =
        record {
          moves = rw (e, read_in, bytes_in) (omega arith);
          refused = λ n q. (rw (e, bytes_in), rw (e, read_in));
          reported = λ p k q. let z : refusal m ≡ told (p ∷ k ∷ []) = rw (e, read_in) at q in (cc, cc);
        }
    go (Chunk id mark n owed) e =
        let l = length-present image r.place (handed r.place owed asked image) (omega arith) in
        record {
          moves = rw (e, read_in, bytes_in) (ap (λ (k : ℕ). r.place + k) (sym l));
          refused = λ m q. let z : told (r.place ∷ handed r.place owed asked image ∷ []) ≡ refusal m = rw (e, read_in) at q in (cc, cc);
          reported = λ p k q. let z : told (r.place ∷ handed r.place owed asked image ∷ []) ≡ told (p ∷ k ∷ []) = rw (e, read_in) at q in (cc, rw (e, bytes_in) (cc));
        }
