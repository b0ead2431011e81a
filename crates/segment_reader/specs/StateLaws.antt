-- What a state that is not refused says of its numbers.
use Rattle.std.specs.Prelude.{Bool, true, false, ◌&&◌, cond, ◌≡◌, refl, List, ℕ, ◌+◌, ◌-◌, ◌^◌, ◌≤◌, length, leb, eqb}
use Rattle.std.proofs.Common.{ap, arith, leb-true, eqb-true}
use Rattle.entry.specs.Format.{largest_image}
use Rattle.reading.specs.Reading.{fits}
use Rattle.segment_reader.specs.State.{stands_at, in_place, fit, holding, open_of, Refused, Chunk}
use Rattle.segment_reader.specs.declared.Moment.{Moment}
use Rattle.segment_reader.specs.declared.Moment.TheVariants.{Between, InEntry, InChunk, Ended}
use Rattle.segment_reader.specs.declared.SegmentReader.{SegmentReader}

pub record Fit (r : SegmentReader) (size : ℕ) : Type 0 where
  pub small : size ≤ largest_image
  pub same : r.size ≡ size
  pub near : r.place ≤ 8589934592
  pub stands : in_place r.moment r.place ≡ true

parts : (a b d e : Bool) → (a && b && d && e) ≡ true → (a ≡ true) × (b ≡ true) × (d ≡ true) × (e ≡ true)
parts true true true e q = (refl, refl, refl, q)
parts true true false e q = (cc, cc, cc, cc)
parts true false d e q = (cc, cc, cc, cc)
parts false b d e q = (cc, cc, cc, cc)

pub fit-says : (r : SegmentReader) (size : ℕ) → fit r size ≡ true → Fit r size
unfolding fit
fit-says r size q =
    let z = parts (leb size largest_image) (eqb r.size size) (leb r.place (2 ^ 33)) (in_place r.moment r.place) q in
    record { small = leb-true _ _ z.0; same = eqb-true _ _ z.1; near = leb-true _ _ z.2; stands = z.3 }

-- an open chunk's numbers
pub record Owes (r : SegmentReader) (mark n owed : ℕ) : Type 0 where
  pub owes : owed ≤ n
  pub behind : mark + 5 + (n - owed) ≡ r.place
  pub near : r.place ≤ 8589934592

both : (a b : Bool) → (a && b) ≡ true → (a ≡ true) × (b ≡ true)
both true b q = (refl, q)
both false b q = (cc, cc)

pub fit-owes : (r : SegmentReader) (size id mark n owed : ℕ) → fit r size ≡ true → r.moment ≡ InChunk id mark n owed → Owes r mark n owed
unfolding in_place stands_at
fit-owes r size id mark n owed q e =
    let f = fit-says r size q in
    let z = both (leb owed n) (eqb (mark + 5 + (n - owed)) r.place) (rw e at f.stands) in
    record { owes = leb-true _ _ z.0; behind = eqb-true _ _ z.1; near = f.near }

-- ---- a call that finds a chunk open

pub record Opens (r : SegmentReader) (size id mark n owed : ℕ) : Type 0 where
  pub fits : fit r size ≡ true
  pub in_chunk : r.moment ≡ InChunk id mark n owed

pub open-says : (r : SegmentReader) (size id mark n owed : ℕ) → open_of r size ≡ Chunk id mark n owed → Opens r size id mark n owed
unfolding open_of holding
open-says r size id mark n owed q = go (fit r size) r.moment refl refl q
  where
    go : (b : Bool) (m : Moment) → fit r size ≡ b → r.moment ≡ m → cond b (holding m) (Refused 12) ≡ Chunk id mark n owed → Opens r size id mark n owed
    go true Between f e q = record { fits = f; in_chunk = cc }
    go true (InEntry i) f e q = record { fits = f; in_chunk = cc }
    go true (InChunk i k l o) f e q = record { fits = f; in_chunk = cc }
    go true Ended f e q = record { fits = f; in_chunk = cc }
    go false m f e q = record { fits = cc; in_chunk = cc }

pub open-owes : (r : SegmentReader) (size id mark n owed : ℕ) → open_of r size ≡ Chunk id mark n owed → Owes r mark n owed
open-owes r size id mark n owed q = let z = open-says r size id mark n owed q in fit-owes r size id mark n owed z.fits z.in_chunk

-- behind a chunk's data, its CRC is all there just where four bytes are left at the place
pub four-left : (r : SegmentReader) (image : List ℕ) (id mark n : ℕ) → open_of r (length image) ≡ Chunk id mark n 0 → fits image mark n ≡ leb (r.place + 4) (length image)
four-left r image id mark n q =
    let b = (open-owes r (length image) id mark n 0 q).behind in
    let e : mark + 9 + n ≡ r.place + 4 = omega arith in
    ap (λ (k : ℕ). leb k (length image)) e
