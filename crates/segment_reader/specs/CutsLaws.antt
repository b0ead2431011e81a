-- A chunk read to its end, however cut, gives the same bytes, the same verdict and the same next place. The idea: after any pieces the reader stands
-- behind the first k bytes to be had, and these k bytes were handed out; at the end k is all of them.
use Rattle.std.specs.Prelude.{true, ◌≡◌, length, drop}
use mathlib.Core.List.{List, [], ◌∷◌, ◌++◌}
use Rattle.std.proofs.Math.Path.{refl, ap, ap₂}
use Rattle.std.proofs.Common.{sym, ◌∙◌, add-zero, arith, take-add, drop-drop}
use Prim.Native.Nat.{ℕ, ◌+◌, ◌-◌, ◌^◌, ◌≤◌, min}
use Rattle.std.proofs.Math.Nat.{add_assoc, sub-zero}
use borrow.Author.Tests.{le-leb, eq-eqb}
use Rattle.lists.specs.Stream.{part}
use Rattle.entry.specs.Format.{largest_image}
use Rattle.segment_reader.specs.State.{stands_at, in_place, fit, holding, open_of, Open, Refused, Chunk}
use Rattle.segment_reader.specs.StateLaws.{fit-says, fit-owes, open-says}
use Rattle.segment_reader.specs.Calls.{moved, handed, read_in, read, bytes_in, read_bytes, check_crc, skip_remaining, read_by, after}
use Rattle.segment_reader.specs.Cuts.{Piece, ask, check, call_of, read_to, bytes_of, gathered, to_come, ReadOut}
use Rattle.segment_reader.specs.declared.Moment.TheVariants.{InChunk}
use Rattle.segment_reader.specs.declared.SegmentReader.{SegmentReader}

more : (o size p j k : ℕ) → j ≤ min o (size - p) → k ≤ min (o - j) (size - (p + j)) → j + k ≤ min o (size - p)
more o size p j k h g = omega arith

handed-most : (k o m : ℕ) → min k (min o m) ≤ min o m
handed-most k o m = omega arith

sub-sub : (o j k : ℕ) → o - j - k ≡ o - (j + k)
sub-sub o j k = omega arith

all : (o size p k : ℕ) → k ≤ min o (size - p) → min (o - k) (size - (p + k)) ≡ 0 → k ≡ min o (size - p)
all o size p k h e = omega arith

-- ---- a chunk is open: the states on the way are this reader with another place and other bytes owed

module _ (r : SegmentReader) (image : List ℕ) (id mark n : ℕ) where
  abbrev chunk_at : (p o : ℕ) → SegmentReader
  chunk_at p o = moved r p (InChunk id mark n o)

  opens : (p o : ℕ) → fit (chunk_at p o) (length image) ≡ true → open_of (chunk_at p o) (length image) ≡ Chunk id mark n o
  unfolding open_of holding
  opens p o f = rw f

  fits_on : (p o k : ℕ) → fit (chunk_at p o) (length image) ≡ true → k ≤ min o (length image - p) → fit (chunk_at (p + k) (o - k)) (length image) ≡ true
  unfolding fit in_place stands_at
  fits_on p o k f h =
      let s = fit-says (chunk_at p o) (length image) f in
      let w = fit-owes (chunk_at p o) (length image) id mark n o f refl in
      rw (
        le-leb (length image) largest_image (omega arith),
        eq-eqb r.size (length image) s.same,
        le-leb (p + k) (2 ^ 33) (omega arith),
        le-leb (o - k) n (omega arith),
        eq-eqb (mark + 5 + (n - (o - k))) (p + k) (omega arith),
      )

  -- after some pieces: the first `count` bytes to be had
  record Cutting (ps : List Piece) (p o : ℕ) : Type 0 where
    count : ℕ
    within : count ≤ min o (length image - p)
    fits : fit (chunk_at (p + count) (o - count)) (length image) ≡ true
    stands : read_to ps (chunk_at p o) image ≡ chunk_at (p + count) (o - count)
    bytes : gathered ps (chunk_at p o) image ≡ part image p count

  module _ (p o k : ℕ) (f : fit (chunk_at p o) (length image) ≡ true) where
    read-on : (read (chunk_at p o) image k).reader ≡ chunk_at (p + handed p o k image) (o - handed p o k image)
    unfolding read read_in
    read-on = rw (opens p o f)

    bytes_on : read_bytes (chunk_at p o) image k ≡ part image p (handed p o k image)
    unfolding read_bytes bytes_in
    bytes_on = rw (opens p o f)

  part-on : (p j k : ℕ) → part image p j ++ part image (p + j) k ≡ part image p (j + k)
  part-on p j k = rw (← drop-drop j p image) (sym (take-add j k (drop p image)))

  none_yet : (p o : ℕ) → fit (chunk_at p o) (length image) ≡ true → Cutting [] p o
  unfolding after gathered
  none_yet p o f = record { count = 0; within = omega arith; fits = rw (add-zero, sub-zero) f; stands = rw (add-zero, sub-zero); bytes = refl }

  checked : (ps : List Piece) (p o : ℕ) → Cutting ps p o → Cutting (check ∷ ps) p o
  unfolding after gathered bytes_of call_of read_by
  checked ps p o c = record { count = c.count; within = c.within; fits = c.fits; stands = c.stands; bytes = c.bytes }

  asked : (k : ℕ) (ps : List Piece) (p o j : ℕ) → j ≤ min o (length image - p) → (read (chunk_at p o) image k).reader ≡ chunk_at (p + j) (o - j)
      → read_bytes (chunk_at p o) image k ≡ part image p j → Cutting ps (p + j) (o - j) → Cutting (ask k ∷ ps) p o
  unfolding after gathered bytes_of call_of read_by
  asked k ps p o j h e b c =
      let u : p + j + c.count ≡ p + (j + c.count) = add_assoc p j c.count in
      let v : o - j - c.count ≡ o - (j + c.count) = sub-sub o j c.count in
      record {
        count = j + c.count;
        within = more o (length image) p j c.count h c.within;
        fits = rw (← u, ← v) c.fits;
        stands = ap (λ (q : SegmentReader). read_to ps q image) e ∙ c.stands ∙ ap₂ chunk_at u v;
        bytes = ap₂ ◌++◌ b (ap (λ (q : SegmentReader). gathered ps q image) e ∙ c.bytes) ∙ part-on p j c.count;
      }

  cutting : (ps : List Piece) (p o : ℕ) → fit (chunk_at p o) (length image) ≡ true → Cutting ps p o
  cutting [] p o f = none_yet p o f
  cutting (check ∷ ps) p o f = checked ps p o (cutting ps p o f)
  cutting (ask k ∷ ps) p o f =
      asked k ps p o (handed p o k image) (handed-most k o (length image - p)) (read-on p o k f) (bytes_on p o k f)
      (cutting ps (p + handed p o k image) (o - handed p o k image) (fits_on p o (handed p o k image) f (handed-most k o (length image - p))))

  -- at the end: all that was to be had
  pub record Out (ps : List Piece) (p o : ℕ) : Type 0 where
    pub stands : read_to ps (chunk_at p o) image ≡ chunk_at (p + min o (length image - p)) (o - min o (length image - p))
    pub bytes : gathered ps (chunk_at p o) image ≡ part image p (min o (length image - p))

  read_out : (ps : List Piece) (p o : ℕ) → fit (chunk_at p o) (length image) ≡ true → ReadOut (read_to ps (chunk_at p o) image) image → Out ps p o
  unfolding to_come
  read_out ps p o f h =
      let c = cutting ps p o f in
      let z : min (o - c.count) (length image - (p + c.count)) ≡ 0 = rw (c.stands, opens (p + c.count) (o - c.count) c.fits) at h in
      let e : c.count ≡ min o (length image - p) = all o (length image) p c.count c.within z in
      record { stands = rw (← e) c.stands; bytes = rw (← e) c.bytes }

-- ---- no chunk is open: every piece is refused, and nothing moves

module _ (r : SegmentReader) (image : List ℕ) (no' : ℕ) (shut : open_of r (length image) ≡ Refused no') where
  read_none : (k : ℕ) → (read r image k).reader ≡ r
  unfolding read read_in
  read_none k = rw shut

  bytes-none : (k : ℕ) → read_bytes r image k ≡ []
  unfolding read_bytes bytes_in
  bytes-none k = rw shut

  refused : (ps : List Piece) → (read_to ps r image ≡ r) × (gathered ps r image ≡ [])
  unfolding after gathered bytes_of call_of read_by
  refused [] = (refl, refl)
  refused (check ∷ ps) = refused ps
  refused (ask k ∷ ps) =
      let h = refused ps in
      (ap (λ (q : SegmentReader). read_to ps q image) (read_none k) ∙ h.0, ap₂ ◌++◌ (bytes-none k) (ap (λ (q : SegmentReader). gathered ps q image) (read_none k) ∙ h.1))

-- ---- the law

pub record Alike (r : SegmentReader) (image : List ℕ) (ps qs : List Piece) : Type 0 where
  pub bytes : gathered ps r image ≡ gathered qs r image
  pub verdict : check_crc (read_to ps r image) image ≡ check_crc (read_to qs r image) image
  pub next : skip_remaining (read_to ps r image) image ≡ skip_remaining (read_to qs r image) image
  -- and so every later call
  pub state : read_to ps r image ≡ read_to qs r image

alike : (r : SegmentReader) (image : List ℕ) (ps qs : List Piece) → gathered ps r image ≡ gathered qs r image → read_to ps r image ≡ read_to qs r image
    → Alike r image ps qs
alike r image ps qs b s =
    record {
      bytes = b;
      verdict = ap (λ (q : SegmentReader). check_crc q image) s;
      next = ap (λ (q : SegmentReader). skip_remaining q image) s;
      state = s;
    }

pub cuts-do-not-show : (r : SegmentReader) (image : List ℕ) (ps qs : List Piece) → ReadOut (read_to ps r image) image → ReadOut (read_to qs r image) image
    → Alike r image ps qs
cuts-do-not-show r image ps qs h g = go (open_of r (length image)) refl
  where
    go : (o : Open) → open_of r (length image) ≡ o → Alike r image ps qs
    go (Refused no') e =
        let a = refused r image no' e ps in
        let b = refused r image no' e qs in
        alike r image ps qs (a.1 ∙ sym b.1) (a.0 ∙ sym b.0)
    go (Chunk id mark n owed) e =
        let z = open-says r (length image) id mark n owed e in
        let m : r ≡ chunk_at r image id mark n r.place owed = ap (moved r r.place) z.in_chunk in
        let f : fit (chunk_at r image id mark n r.place owed) (length image) ≡ true = rw m at z.fits in
        let a = read_out r image id mark n ps r.place owed f (rw m at h) in
        let b = read_out r image id mark n qs r.place owed f (rw m at g) in
        alike r image ps qs (rw m (a.bytes ∙ sym b.bytes)) (rw m (a.stands ∙ sym b.stands))

-- ---- what it gives: all that was to be had; and one read that asks for so much reaches the end

pub read-to-end : (r : SegmentReader) (image : List ℕ) (ps : List Piece) → ReadOut (read_to ps r image) image
    → gathered ps r image ≡ part image r.place (to_come r image (open_of r (length image)))
unfolding to_come
read-to-end r image ps h = go (open_of r (length image)) refl
  where
    go : (o : Open) → open_of r (length image) ≡ o → gathered ps r image ≡ part image r.place (to_come r image o)
    go (Refused no') e = (refused r image no' e ps).1
    go (Chunk id mark n owed) e =
        let z = open-says r (length image) id mark n owed e in
        let m : r ≡ chunk_at r image id mark n r.place owed = ap (moved r r.place) z.in_chunk in
        rw m (read_out r image id mark n ps r.place owed (rw m at z.fits) (rw m at h)).bytes

asked-all : (o size p k j : ℕ) → min o (size - p) ≤ k → j ≡ min k (min o (size - p)) → min (o - j) (size - (p + j)) ≡ 0
asked-all o size p k j h e = let z : j ≡ min o (size - p) = omega arith in omega arith

ends_on : (r : SegmentReader) (image : List ℕ) (id mark n p o k : ℕ) → fit (chunk_at r image id mark n p o) (length image) ≡ true
    → min o (length image - p) ≤ k → ReadOut (read (chunk_at r image id mark n p o) image k).reader image
unfolding to_come
ends_on r image id mark n p o k f h =
    let j : ℕ = handed p o k image in
    let g = fits_on r image id mark n p o j f (handed-most k o (length image - p)) in
    rw (read-on r image id mark n p o k f, opens r image id mark n (p + j) (o - j) g) (asked-all o (length image) p k j h refl)

pub one-read-ends : (r : SegmentReader) (image : List ℕ) (k : ℕ) → to_come r image (open_of r (length image)) ≤ k → ReadOut (read_to (ask k ∷ []) r image) image
unfolding after call_of read_by to_come
one-read-ends r image k h = go (open_of r (length image)) refl h
  where
    go : (o : Open) → open_of r (length image) ≡ o → to_come r image o ≤ k → ReadOut (read r image k).reader image
    go (Refused no') e h = rw (read_none r image no' e k, e)
    go (Chunk id mark n owed) e h =
        let z = open-says r (length image) id mark n owed e in
        let m : r ≡ chunk_at r image id mark n r.place owed = ap (moved r r.place) z.in_chunk in
        rw m (ends_on r image id mark n r.place owed k (rw m at z.fits) h)
