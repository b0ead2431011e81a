-- Readers that an opening leads to stay valid under every call, with a bound on their place; and once ended they answer ended for ever.
-- The idea: a chunk is open only where its header stands, so its end lies at most 4 + 2^32 - 1 bytes past the image.
use Rattle.std.specs.Prelude.{Bool, cond, ◌&&◌, List, [], ◌∷◌, ◌≡◌, ℕ, ◌+◌, ◌-◌, ◌^◌, ◌≤◌, ◌<◌, length, get_or, leb, eqb}
use Rattle.std.proofs.Math.Bool.{true, false}
use Rattle.std.proofs.Math.Path.{refl}
use native.Mathlib.Omega.{arith}
use Rattle.std.proofs.Math.ListN.{get_or-eq_default}
use Rattle.std.proofs.Common.{le-leb, eq-eqb, leb-true, leb-false}
use Rattle.lists.specs.Walk.{Keeps, around-ind}
use Rattle.lists.specs.Numbers.{number}
use Rattle.lists.specs.NumbersLaws.{Bytes}
use Rattle.lists.proofs.NumbersRead.{number-four}
use Rattle.entry.specs.Format.{largest_image}
use Rattle.reading.specs.Reading.{Mark, chunk, cut, close, other, standing, header_cut, fits, matches, Skipped, at, broken, skip_turn, skip, Whole, complete, aborted, cut_off, wrong_sum, also, whole_turn, whole, after_cut, left, Lead, entry, none, lead, Opened, opens, refuses, opened}
use Rattle.reading.specs.ReadingLaws.{says, close-inside, lead-says, skip-forward, chunk_turn, whole-forward}
use Rattle.segment_reader.specs.State.{stands_at, in_place, fit, leaving, start_of, open_of, Start, Unfit, Over, Idle, Current, Open, Refused, Chunk}
use Rattle.segment_reader.specs.StateLaws.{open-says}
use Rattle.segment_reader.specs.Calls.{told, refusal, step, zeros, placed, resting, opened_with, new, entry_met, entry_past, entry_from, read_entry, chunk_met, chunk_from, read_chunk, handed, read_in, read, skip_in, skip_remaining, whole_from, read_all_chunks, Call, next_entry, next_chunk, crc_check, skip_rest, whole_entry, data_read, read_by, after}
use Rattle.segment_reader.specs.declared.Moment.{Moment}
use Rattle.segment_reader.specs.declared.Moment.TheVariants.{Between, InEntry, InChunk, Ended}
use Rattle.segment_reader.specs.declared.SegmentReader.{SegmentReader}
use Rattle.entry.specs.declared.CutPart.{CutPart}
use Rattle.entry.specs.declared.CutPart.TheVariants.{Header, Data, Crc}
use Rattle.reading.specs.declared.walks.Next.{Next}
use Rattle.reading.specs.declared.walks.Next.TheVariants.{Seek, Pass}

-- the farthest place: a chunk's header ends with the image, and its length is 2^32 - 1
abbrev pub farthest : ℕ
farthest = 2 ^ 20 + 2 ^ 32 + 3

-- ---- what holds of a reader that an opening over the image led to

-- in a chunk: its header stands in the image, its length has 32 bits, and its numbers fit the place; ended: the place is `valid_until`
abbrev pub Kind : List ℕ → (place valid : ℕ) → Moment → Type 0
Kind image p v Between = Unit {0}
Kind image p v (InEntry id) = Unit {0}
Kind image p v (InChunk id mark n owed) = (mark + 5 ≤ length image) × (n < 2 ^ 32) × (owed ≤ n) × (mark + 5 + (n - owed) ≡ p)
Kind image p v Ended = p ≡ v

pub record Led (image : List ℕ) (r : SegmentReader) : Type 0 where
  pub small : length image ≤ 2 ^ 20
  pub same : r.size ≡ length image
  pub near : r.place ≤ farthest
  pub kind : Kind image r.place r.valid_until r.moment

-- ---- such a state is not refused

in_place_lem : (image : List ℕ) (p v : ℕ) (m : Moment) → Kind image p v m → in_place m p ≡ true
unfolding in_place stands_at
in_place_lem image p v Between h = refl
in_place_lem image p v (InEntry id) h = refl
in_place_lem image p v (InChunk id mark n owed) h = rw (le-leb owed n h.2, eq-eqb (mark + 5 + (n - owed)) p h.3)
in_place_lem image p v Ended h = refl

pub led-fits : (image : List ℕ) (r : SegmentReader) → Led image r → fit r (length image) ≡ true
unfolding fit
led-fits image r l =
    rw (
      le-leb (length image) largest_image (omega arith),
      eq-eqb r.size (length image) l.same,
      le-leb r.place (2 ^ 33) (omega arith),
      in_place_lem image r.place r.valid_until r.moment l.kind,
    )

-- ---- what is read stays near

byte-lt : (image : List ℕ) → Bytes image → (i : ℕ) → get_or image i 0 < 256
byte-lt image bytes i = go (leb (length image) i) refl
  where
    go : (b : Bool) → leb (length image) i ≡ b → get_or image i 0 < 256
    go true e = let z = get_or-eq_default image 0 (leb-true (length image) i e) in omega arith
    go false e = bytes i (leb-false (length image) i e)

abbrev SkipNear : Skipped → Type 0
SkipNear (at q) = q ≤ farthest
SkipNear (broken c) = Unit {0}

abbrev WholeNear : Whole → Type 0
WholeNear (complete k q) = q ≤ farthest
WholeNear (aborted q) = q ≤ farthest
WholeNear (cut_off c q) = q ≤ farthest
WholeNear (wrong_sum q) = q ≤ farthest

abbrev NextNear : Next → Type 0
NextNear (Seek q) = q ≤ farthest
NextNear (Pass q) = q ≤ farthest

cut-near : (x : CutPart) (q : ℕ) → q ≤ farthest → NextNear (after_cut x q)
unfolding after_cut
cut-near Header q h = h
cut-near Data q h = h
cut-near Crc q h = h

left_near : (w : Whole) → WholeNear w → NextNear (left w)
unfolding left
left_near (complete k q) h = h
left_near (aborted q) h = h
left_near (cut_off c q) h = cut-near c.part q h
left_near (wrong_sum q) h = h

also-near : (w : Whole) → WholeNear w → WholeNear (also w)
unfolding also
also-near (complete k q) h = h
also-near (aborted q) h = h
also-near (cut_off c q) h = h
also-near (wrong_sum q) h = h

module _ (image : List ℕ) (bytes : Bytes image) (small : length image ≤ 2 ^ 20) where
  -- a chunk's length has 32 bits, so its end is near
  chunk-near : (p n : ℕ) → standing image p ≡ chunk n → (n < 2 ^ 32) × (p + 9 + n ≤ farthest)
  chunk-near p n e =
      let s = says image p e in
      let b = byte-lt image bytes in
      let k : number 4 image (p + 1) < 2 ^ 32 = omega (arith, number-four image (p + 1), b (p + 1), b (p + 1 + 1), b (p + 1 + 2), b (p + 1 + 3)) in
      omega arith

  skip-near : (p : ℕ) → p ≤ farthest → SkipNear (skip image p)
  unfolding skip skip_turn
  skip-near p = around-ind _ (at 0) (length image) (skip-forward image) (λ q s. q ≤ farthest → SkipNear s) (λ q. go q (standing image q) refl) p
    where
      go : (q : ℕ) (m : Mark) → standing image q ≡ m → Keeps (λ q s. q ≤ farthest → SkipNear s) q (skip_turn q m)
      go q (chunk n) e = λ s h i. h (chunk-near q n e).1
      go q close e = λ i. let z = close-inside image q e in omega arith
      go q (cut k) e = λ i. tt
      go q other e = λ i. i

  whole-near : (p : ℕ) → p ≤ farthest → WholeNear (whole image p)
  unfolding whole whole_turn
  whole-near p = around-ind _ (aborted 0) (length image) (whole-forward image) (λ q w. q ≤ farthest → WholeNear w) (λ q. go q (standing image q) refl) p
    where
      in_chunk : (q n : ℕ) (a b : Bool) → q + 9 + n ≤ farthest → Keeps (λ q w. q ≤ farthest → WholeNear w) q (chunk_turn image q n a b)
      in_chunk q n true true h = λ w k i. also-near w (k h)
      in_chunk q n true false h = λ i. h
      in_chunk q n false b h = λ i. h

      go : (q : ℕ) (m : Mark) → standing image q ≡ m → Keeps (λ q w. q ≤ farthest → WholeNear w) q (whole_turn image q m)
      go q (chunk n) e = in_chunk q n (fits image q n) (matches image q n) (chunk-near q n e).1
      go q close e = λ i. let z = close-inside image q e in omega arith
      go q (cut k) e = λ i. omega arith
      go q other e = λ i. i

-- ---- every call

module _ (image : List ℕ) (bytes : Bytes image) (r : SegmentReader) (l : Led image r) where
  put-led : (p v : ℕ) (m : Moment) → p ≤ farthest → Kind image p v m → Led image (placed r p v m)
  put-led p v m h k = record { small = l.small; same = l.same; near = h; kind = k }

  rest-led : (id : ℕ) (x : Next) → NextNear x → Led image (resting r id x)
  unfolding resting
  rest-led id (Seek q) h = put-led q _ Between h tt
  rest-led id (Pass q) h = put-led q _ (InEntry id) h tt

  met-led : (p : ℕ) (x : Lead) → lead r.file_id image p ≡ x → p ≤ farthest → Led image (entry_met r p x).reader
  unfolding entry_met
  met-led p (entry id) e h = let s = lead-says r.file_id image p e in let z = l.small in put-led (p + 9) p (InEntry id) (omega arith) tt
  met-led p none e h = put-led p p Ended h refl

  past-led : (id : ℕ) (s : Skipped) → SkipNear s → Led image (entry_past r image id s).reader
  unfolding entry_past
  past-led id (at p) h = met-led p _ refl h
  past-led id (broken c) h = let z = l.small in rest-led id _ (left_near (cut_off c (length image)) (omega arith))

  chunk-led : (id p : ℕ) (m : Mark) → standing image p ≡ m → p ≤ farthest → Led image (chunk_met r image id p m).reader
  unfolding chunk_met
  chunk-led id p (chunk n) e h =
      let s = says image p e in
      let k = chunk-near image bytes l.small p n e in
      put-led (p + 5) _ (InChunk id p n n) (omega arith) (omega arith)
  chunk-led id p close e h = let z = close-inside image p e in let y = l.small in rest-led id _ (left_near (complete 0 (p + 1)) (omega arith))
  chunk-led id p other e h = rest-led id _ (left_near (aborted p) h)
  chunk-led id p (cut k) e h = let z = l.small in rest-led id _ (left_near (cut_off (header_cut p k) (length image)) (omega arith))

  -- where a call begins
  abbrev StartNear : Start → Type 0
  StartNear Unfit = Unit {0}
  StartNear Over = Unit {0}
  StartNear Idle = Unit {0}
  StartNear (Current id p) = p ≤ farthest

  leaving-near : (m : Moment) → Kind image r.place r.valid_until m → StartNear (leaving m r.place)
  unfolding leaving
  leaving-near Between h = tt
  leaving-near (InEntry id) h = l.near
  leaving-near (InChunk id mark n owed) h = let z = l.small in omega arith
  leaving-near Ended h = tt

  start-near : StartNear (start_of r (length image))
  unfolding start_of
  start-near = rw (led-fits image r l) (leaving-near r.moment l.kind)

  entry-led : (s : Start) → StartNear s → Led image (entry_from r image s).reader
  unfolding entry_from
  entry-led Unfit h = l
  entry-led Over h = l
  entry-led Idle h = met-led r.place _ refl l.near
  entry-led (Current id p) h = past-led id (skip image p) (skip-near image bytes l.small p h)

  chunks-led : (s : Start) → StartNear s → Led image (chunk_from r image s).reader
  unfolding chunk_from
  chunks-led Unfit h = l
  chunks-led Over h = l
  chunks-led Idle h = l
  chunks-led (Current id p) h = chunk-led id p (standing image p) refl h

  whole-led : (s : Start) → StartNear s → Led image (whole_from r image s).reader
  unfolding whole_from
  whole-led Unfit h = l
  whole-led Over h = l
  whole-led Idle h = l
  whole-led (Current id p) h = rest-led id _ (left_near (whole image p) (whole-near image bytes l.small p h))

  -- a call that needs an open chunk
  in-led : (o : Open) → open_of r (length image) ≡ o → (asked : ℕ) → Led image (read_in r image asked o).reader × Led image (skip_in r o).reader
  unfolding read_in skip_in
  in-led (Refused n) q asked = (l, l)
  in-led (Chunk id mark n owed) q asked =
      let z = open-says r (length image) id mark n owed q in
      let k : Kind image r.place r.valid_until (InChunk id mark n owed) = rw z.in_chunk at l.kind in
      let y = l.small in
      (put-led (r.place + handed r.place owed asked image) _ (InChunk id mark n (owed - handed r.place owed asked image)) (omega arith) (omega arith), put-led (mark + 9 + n) _ (InEntry id) (omega arith) tt)

  pub call-led : (c : Call) → Led image (read_by c r image).reader
  unfolding read_by read_entry read_chunk read_all_chunks read skip_remaining
  call-led next_entry = entry-led (start_of r (length image)) start-near
  call-led next_chunk = chunks-led (start_of r (length image)) start-near
  call-led crc_check = l
  call-led skip_rest = (in-led (open_of r (length image)) refl 0).1
  call-led whole_entry = whole-led (start_of r (length image)) start-near
  call-led (data_read asked) = (in-led (open_of r (length image)) refl asked).0

pub calls-led : (image : List ℕ) → Bytes image → (calls : List Call) (r : SegmentReader) → Led image r → Led image (after calls r image)
unfolding after
calls-led image bytes [] r l = l
calls-led image bytes (c ∷ cs) r l = calls-led image bytes cs (read_by c r image).reader (call-led image bytes r l c)

-- ---- an opening

clash : {n v : ℕ} → refuses n ≡ opens v → ⊥
clash q = let z : ◌≡◌ {A = ℕ} 0 1 = cc in omega arith

opened_inside : (image : List ℕ) (v : ℕ) → opened image ≡ opens v → 5 + v ≤ length image
unfolding opened
opened_inside image v e =
    go (leb 5 (length image)) (eqb (get_or image 0 0) 0x6F && eqb (get_or image 1 0) 0x6B && eqb (get_or image 2 0) 0x77) (eqb (get_or image 3 0) 0) (leb (5 + get_or image 4 0) (length image)) refl e
  where
    go : (a b c d : Bool) → leb (5 + get_or image 4 0) (length image) ≡ d
        → cond a (cond b (cond c (cond d (opens (get_or image 4 0)) (refuses 1)) (refuses 3)) (refuses 2)) (refuses 1) ≡ opens v → 5 + v ≤ length image
    go true true true true f q = let z : get_or image 4 0 ≡ v = cc in omega (arith, leb-true)
    go true true true false f q = absurd (clash q)
    go true true false d f q = absurd (clash q)
    go true false c d f q = absurd (clash q)
    go false b c d f q = absurd (clash q)

opened-with-led : (file : ℕ) (image : List ℕ) (o : Opened) → opened image ≡ o → length image ≤ 2 ^ 20 → (opened_with file image o).reply ≡ told []
    → Led image (opened_with file image o).reader
unfolding opened_with
opened-with-led file image (opens v) e h q = let z = opened_inside image v e in record { small = h; same = refl; near = omega arith; kind = tt }
opened-with-led file image (refuses n) e h q = let z : ◌≡◌ {A = ℕ} 0 1 = cc in absurd (omega arith)

pub opened-led : (file : ℕ) (image : List ℕ) → (new file image).reply ≡ told [] → Led image (new file image).reader
unfolding new
opened-led file image q = go (leb (length image) largest_image) refl q
  where
    go : (b : Bool) → leb (length image) largest_image ≡ b → (cond b (opened_with file image (opened image)) (step zeros (refusal 12))).reply ≡ told []
        → Led image (cond b (opened_with file image (opened image)) (step zeros (refusal 12))).reader
    go true e q = opened-with-led file image (opened image) refl (leb-true (length image) largest_image e) q
    go false e q = let z : ◌≡◌ {A = ℕ} 0 1 = cc in absurd (omega arith)

-- ---- the laws

-- a reader that an opening and then calls lead to
abbrev pub led_by : (file : ℕ) → List ℕ → List Call → SegmentReader
led_by file image calls = after calls (new file image).reader image

module _ (file : ℕ) (image : List ℕ) (bytes : Bytes image) (opening : (new file image).reply ≡ told []) (calls : List Call) where
  pub opened-leads : Led image (led_by file image calls)
  opened-leads = calls-led image bytes calls (new file image).reader (opened-led file image opening)

  pub opened-stays : (fit (led_by file image calls) (length image) ≡ true) × ((led_by file image calls).place ≤ farthest)
  opened-stays = (led-fits image (led_by file image calls) opened-leads, opened-leads.near)
