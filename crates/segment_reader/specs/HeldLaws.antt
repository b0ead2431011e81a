-- Each promise of the thin reader allows one answer: the answer and its numbers, the state, and for the reader the very reference. Then what the calls in
-- a row promise together.
use Rattle.std.specs.Prelude.{List, ◌≡◌, ℕ, Bool, Option, Result}
use Rattle.std.proofs.Common.{sym, ap, ◌∙◌}
use Rattle.std.specs.Borrow.{Bor}
use Rattle.entry.specs.declared.Refusal.{Refusal}
use Rattle.segment_reader.specs.Calls.{Reply, Step, step, new, read_entry, read_chunk, read, check_crc, read_all_chunks}
use Rattle.segment_reader.specs.Promises.{reply_of, numbers_in, bytes_of, entry_values, whole_values, NewAllows, ReadEntryAllows, ReadChunkAllows, AfterReadAllows, CheckCrcAllows}
use Rattle.segment_reader.specs.PromisesLaws.{opened-one, entered-one, seen, new-one-answer, read-entry-one-answer, read-chunk-one-answer, read-one-answer, after-read-one-answer, read-gives, part-one-answer, check-crc-one-answer, read-all-chunks-one-answer}
use Rattle.segment_reader.specs.declared.SegmentReader.{SegmentReader}
use Rattle.segment_reader.specs.declared.ReadChunkResult.{ReadChunkResult}
use Rattle.segment_reader.specs.declared.Part.{Part}
use Rattle.segment_reader.specs.declared.WholeEntry.{WholeEntry}
use Rattle.segment_reader.specs.Held.{HeldOpenAllows, HeldNewAllows, HeldWithStateAllows, HeldBytesAllows, HeldAfterBytesAllows, HeldPartAllows, HeldCheckCrcAllows, HeldEntryAllows, HeldChunkAllows, HeldWholeAllows, chunks_in, FirstWholeAllows, FirstChunksAllows, at_first_chunk, FirstBytesAllows, FirstCrcAllows}
use Rattle.segment_reader.specs.declared.held.Reader.{Reader}
use Rattle.segment_reader.specs.declared.held.FirstWhole.{FirstWhole}

-- one image and one state make one reader
same : (r p q : Reader) → p.image ≡ r.image → q.image ≡ r.image → p.state ≡ q.state → p ≡ q
same r p q x y e = let m : p.image ≡ q.image = x ∙ sym y in λ i. record { image = m i; state = e i }

pub held-new-one-answer : (image : Bor (List ℕ)) (state : SegmentReader) (s t : Reader) → HeldNewAllows image state s → HeldNewAllows image state t → s ≡ t
held-new-one-answer image state s t x y = x ∙ sym y

pub held-with-state-one-answer : (r : Reader) (state : SegmentReader) (s t : Reader) → HeldWithStateAllows r state s → HeldWithStateAllows r state t → s ≡ t
held-with-state-one-answer r state s t x y = x ∙ sym y

module _ (r : Reader) where
  pub held-open-one-answer : (file : ℕ) (s t : Result (Unit {0}) Refusal) (p q : Reader) → HeldOpenAllows file r s p → HeldOpenAllows file r t q → (s ≡ t) × (p ≡ q)
  held-open-one-answer file s t p q x y =
      let z = new-one-answer file r.image.now s t p.state q.state x.1 y.1 in (z.0, same r p q x.0 y.0 z.1)

  pub held-bytes-one-answer : (asked : ℕ) (s t : Result Part Refusal) (p q : Reader) → HeldBytesAllows r asked s p → HeldBytesAllows r asked t q
      → (seen s ≡ seen t) × (p ≡ q)
  held-bytes-one-answer asked s t p q x y =
      let z = read-one-answer r.state r.image.now asked s t p.state q.state x.1 y.1 in (z.0, same r p q x.0 y.0 z.1)

  pub held-after-bytes-one-answer : (asked : ℕ) (s t : Result (ℕ × ℕ) Refusal) (p q : SegmentReader) → HeldAfterBytesAllows r asked s p → HeldAfterBytesAllows r asked t q
      → (s ≡ t) × (p ≡ q)
  held-after-bytes-one-answer = after-read-one-answer r.state r.image.now

  -- one call for bytes gives both, and keeps the image
  pub held-bytes-give : (asked : ℕ) (s : Result Part Refusal) (q : Reader) → HeldBytesAllows r asked s q
      → HeldAfterBytesAllows r asked (numbers_in s) q.state × HeldPartAllows r asked (bytes_of s)
  held-bytes-give asked s q x = read-gives r.state r.image.now asked s q.state x.1

  pub held-part-one-answer : (asked : ℕ) (s t : List ℕ) → HeldPartAllows r asked s → HeldPartAllows r asked t → s ≡ t
  held-part-one-answer = part-one-answer r.state r.image.now

  pub held-check-crc-one-answer : (s t : Result Bool Refusal) → HeldCheckCrcAllows r s → HeldCheckCrcAllows r t → s ≡ t
  held-check-crc-one-answer = check-crc-one-answer r.state r.image.now

  pub held-entry-one-answer : (s t : Result (Option ℕ) Refusal) (p q : Reader) → HeldEntryAllows r s p → HeldEntryAllows r t q → (s ≡ t) × (p ≡ q)
  held-entry-one-answer s t p q x y =
      let z = read-entry-one-answer r.state r.image.now s t p.state q.state x.1 y.1 in (z.0, same r p q x.0 y.0 z.1)

  pub held-chunk-one-answer : (s t : Result ReadChunkResult Refusal) (p q : Reader) → HeldChunkAllows r s p → HeldChunkAllows r t q → (s ≡ t) × (p ≡ q)
  held-chunk-one-answer s t p q x y =
      let z = read-chunk-one-answer r.state r.image.now s t p.state q.state x.1 y.1 in (z.0, same r p q x.0 y.0 z.1)

  pub held-whole-one-answer : (s t : Result WholeEntry Refusal) (p q : Reader) → HeldWholeAllows r s p → HeldWholeAllows r t q → (s ≡ t) × (p ≡ q)
  held-whole-one-answer s t p q x y =
      let z = read-all-chunks-one-answer r.state r.image.now s t p.state q.state x.1 y.1 in (z.0, same r p q x.0 y.0 z.1)

pub first-whole-one-answer : (file : ℕ) (image : List ℕ) (s t : FirstWhole) → FirstWholeAllows file image s → FirstWholeAllows file image t → s ≡ t
first-whole-one-answer file image s t x y =
    let o : s.opening ≡ t.opening = opened-one s.opening t.opening (x.0 ∙ sym y.0) in
    let e : s.entry ≡ t.entry = entered-one s.entry t.entry (x.1 ∙ sym y.1) in
    let w = read-all-chunks-one-answer (read_entry (new file image).reader image).reader image s.whole t.whole s.state t.state x.2 y.2 in
    λ i. record { opening = o i; entry = e i; whole = w.0 i; state = w.1 i }

pub first-chunks-one-answer : (file : ℕ) (image : List ℕ) (s t : ℕ) → FirstChunksAllows file image s → FirstChunksAllows file image t → s ≡ t
first-chunks-one-answer file image s t x y = x ∙ sym y

pub first-bytes-one-answer : (file : ℕ) (image : List ℕ) (asked : ℕ) (s t : List ℕ) → FirstBytesAllows file image asked s → FirstBytesAllows file image asked t
    → s ≡ t
first-bytes-one-answer file image asked s t x y = x ∙ sym y

pub first-crc-one-answer : (file : ℕ) (image : List ℕ) (s t : Result Bool Refusal) → FirstCrcAllows file image s → FirstCrcAllows file image t → s ≡ t
first-crc-one-answer file image = check-crc-one-answer (read (at_first_chunk file image) image 0xFFFFFFFF).reader image

-- an answer beside the state that the definition leaves
replied : {a : Reply} (s : Step) → a ≡ s.reply → step s.reader a ≡ s
replied s e = λ i. record { reader = s.reader; reply = e i }

-- ---- the calls in a row: what `first_whole`, `first_chunk` and `first_crc` do

pub first-whole-is : (file : ℕ) (r o e w : Reader) (a : Result (Unit {0}) Refusal) (b : Result (Option ℕ) Refusal) (c : Result WholeEntry Refusal)
    → HeldOpenAllows file r a o → HeldEntryAllows o b e → HeldWholeAllows e c w
    → FirstWholeAllows file r.image.now (record { opening = a; entry = b; whole = c; state = w.state })
first-whole-is file r o e w a b c x y z =
    let m : o.image.now ≡ r.image.now = ap (λ (k : Bor (List ℕ)). k.now) x.0 in
    let s : o.state ≡ (new file r.image.now).reader = ap (λ (k : Step). k.reader) x.1 in
    let y' : step e.state (reply_of entry_values b) ≡ read_entry (new file r.image.now).reader r.image.now =
    y.1 ∙ (ap (read_entry o.state) m ∙ ap (λ (k : SegmentReader). read_entry k r.image.now) s)
    in
    let m' : e.image.now ≡ r.image.now = ap (λ (k : Bor (List ℕ)). k.now) y.0 ∙ m in
    let s' : e.state ≡ (read_entry (new file r.image.now).reader r.image.now).reader = ap (λ (k : Step). k.reader) y' in (
      ap (λ (k : Step). k.reply) x.1,
      ap (λ (k : Step). k.reply) y',
      z.1 ∙ (ap (read_all_chunks e.state) m' ∙ ap (λ (k : SegmentReader). read_all_chunks k r.image.now) s'),
    )

-- the number in the answer that a first entry is given with
pub first-chunks-are : (file : ℕ) (image : List ℕ) (s : FirstWhole) (a : Result WholeEntry Refusal) → FirstWholeAllows file image s → s.whole ≡ a
    → FirstChunksAllows file image (chunks_in (reply_of whole_values a))
first-chunks-are file image s a x e =
    ap (λ (k : Result WholeEntry Refusal). chunks_in (reply_of whole_values k)) (sym e) ∙ ap (λ (k : Step). chunks_in k.reply) x.2

pub first-chunk-is : (file : ℕ) (image : List ℕ) (o e c : SegmentReader) (x : Result (Unit {0}) Refusal) (y : Result (Option ℕ) Refusal)
    (z : Result ReadChunkResult Refusal) → NewAllows file image x o → ReadEntryAllows o image y e → ReadChunkAllows e image z c → c ≡ at_first_chunk file image
first-chunk-is file image o e c x y z h i j =
    let s = ap (λ (k : Step). k.reader) h in
    let s' = ap (λ (k : Step). k.reader) i ∙ ap (λ (k : SegmentReader). (read_entry k image).reader) s in
    ap (λ (k : Step). k.reader) j ∙ ap (λ (k : SegmentReader). (read_chunk k image).reader) s'

pub first-crc-is : (file : ℕ) (image : List ℕ) (r q : SegmentReader) (s : Result (ℕ × ℕ) Refusal) (a : Result Bool Refusal) → r ≡ at_first_chunk file image
    → AfterReadAllows r image 0xFFFFFFFF s q → CheckCrcAllows q image a → FirstCrcAllows file image a
first-crc-is file image r q s a x y z =
    z
    ∙ ap (λ (k : SegmentReader). check_crc k image)
    (ap (λ (k : Step). k.reader) y ∙ ap (λ (k : SegmentReader). (read k image 0xFFFFFFFF).reader) x)
