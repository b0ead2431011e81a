-- Bytes of the format that stand at a place of an image, as a reading meets them: a chunk (`held`), the chunks of an entry, an entry, entries one
-- after another (`entries-read`). What stands is given as the stream there, `drop p image ≡ bytes ++ rest`.
use Rattle.std.specs.Prelude.{◌≡◌}
use Rattle.std.proofs.Math.Path.{refl, ap}
use Rattle.std.proofs.Common.{sym, ◌∙◌, add_assoc}
use mathlib.Core.List.{List, [], ◌∷◌, ◌++◌, flat_map, append_assoc, append-nil}
use Prim.Native.Nat.{ℕ, suc, ◌+◌, ◌^◌, ◌≤◌, ◌<◌}
use Rattle.std.proofs.Math.Nat.{add-zero}
use native.Mathlib.Omega.{arith}
use Rattle.std.proofs.Math.ListN.{length, get_or, drop, length-append}
use Rattle.lists.specs.Stream.{first, size, here, past}
use Rattle.lists.specs.Numbers.{le, number}
use Rattle.lists.specs.NumbersLaws.{length-le}
use Rattle.entry.specs.Format.{Entry, chunk_sum, chunk as chunk_bytes, entry as entry_bytes}
use Rattle.entry.specs.FormatLaws.{chunk_sum-lt, length-chunk, length-entry}
use Rattle.reading.specs.Reading.{chunk, close, other, standing, chunk_data, Whole, complete, also, whole, chunks_at, left, entry, lead}
use Rattle.reading.specs.NumberLaws.{number-here}
use Rattle.reading.specs.ReadingLaws.{stands, leads, whole_chunk, whole-close}
use Rattle.reading.specs.WholeReading.{onward, with_entry, read_from}
use Rattle.reading.specs.WholeReadingLaws.{onward-complete, read-entry}
use Rattle.lists.specs.All.{All}
use Rattle.entry.specs.Writable.{Lengths, Writable}
use Rattle.reading.specs.Yielded.{as_complete, as_found, with_entries, behind, yields, yielded}

-- a chunk of the data d that stands at p, with `rest` after it
pub record Held (image : List ℕ) (p : ℕ) (d rest : List ℕ) : Type 0 where
  pub stood : standing image p ≡ chunk (length d)
  pub counted : number 4 image (p + 1) ≡ length d
  pub room : p + 9 + length d ≤ length image
  pub content : chunk_data image p (length d) ≡ d
  pub stored : number 4 image (p + 5 + length d) ≡ chunk_sum (length d) d
  pub next : drop (p + 9 + length d) image ≡ rest

module _ (image : List ℕ) where
  pub held : (p : ℕ) (d rest : List ℕ) → length d < 2 ^ 32 → drop p image ≡ chunk_bytes d ++ rest → Held image p d rest
  unfolding chunk_bytes
  held p d rest l e =
      let n : ℕ = length d in
      let s3 : List ℕ = le 4 (chunk_sum n d) ++ rest in
      let s2 : List ℕ = d ++ s3 in
      let s1 : List ℕ = le 4 n ++ s2 in
      let e0 : drop p image ≡ 2 ∷ s1 = e ∙ simp append_assoc in
      let e1 : drop (p + 1) image ≡ s1 = past image p (2 ∷ []) s1 (p + 1) refl e0 in
      let e2 : drop (p + 5) image ≡ s2 = past image (p + 1) (le 4 n) s2 (p + 5) (omega (arith, length-le 4 n)) e1 in
      let e3 : drop (p + 5 + n) image ≡ s3 = past image (p + 5) d s3 (p + 5 + n) refl e2 in
      let z = simp (length-append, length-le) at (size image p e0) in
      let c = number-here image (p + 1) 4 n s2 l e1 in
      record {
        stood = stands image p (chunk n) (first image p e0, omega arith, c);
        counted = c;
        room = omega arith;
        content = here image (p + 5) d s3 n refl e2;
        stored = number-here image (p + 5 + n) 4 (chunk_sum n d) rest (chunk_sum-lt n d) e3;
        next = past image (p + 5 + n) (le 4 (chunk_sum n d)) rest (p + 9 + n) (omega (arith, length-le 4 (chunk_sum n d))) e3;
      }

  -- ---- the chunks of an entry: read whole, and their data

  chunks-read : (ds : List (List ℕ)) (p : ℕ) (rest : List ℕ) → Lengths ds → drop p image ≡ flat_map chunk_bytes ds ++ (3 ∷ rest)
      → whole image p ≡ complete (length ds) (p + length (flat_map chunk_bytes ds) + 1)
  unfolding flat_map also
  chunks-read [] p rest l e = whole-close image p (stands image p close (first image p e)) ∙ ap (complete 0) (omega arith)
  chunks-read (d ∷ ds) p rest l e =
      let c = held p d (flat_map chunk_bytes ds ++ (3 ∷ rest)) l.0 (e ∙ append_assoc (chunk_bytes d) _ _) in
      whole_chunk image p c.stood c.room (c.stored ∙ ap (chunk_sum (length d)) (sym c.content))
      ∙ ap also (chunks-read ds (p + 9 + length d) rest l.1 c.next)
      ∙ ap (complete (suc (length ds))) (simp length-append (omega (arith, length-chunk d)))

  chunks-held : (ds : List (List ℕ)) (p : ℕ) (rest : List ℕ) → Lengths ds → drop p image ≡ flat_map chunk_bytes ds ++ rest
      → chunks_at image p (length ds) ≡ ds
  unfolding flat_map chunks_at
  chunks-held [] p rest l e = refl
  chunks-held (d ∷ ds) p rest l e =
      let c = held p d (flat_map chunk_bytes ds ++ rest) l.0 (e ∙ append_assoc (chunk_bytes d) _ _) in
      rw (c.counted, c.content, chunks-held ds (p + 9 + length d) rest l.1 c.next)

  -- ---- an entry, and entries one after another

  module _ (file : ℕ) where
    -- an entry that stands at p is met there, is complete, and its chunks are its own
    pub record Met (p : ℕ) (e : Entry) : Type 0 where
      pub lead_met : lead file image p ≡ entry e.id
      pub whole_met : whole image (p + 9) ≡ complete (length e.chunks) (p + length (entry_bytes e))
      pub chunks_met : chunks_at image (p + 9) (length e.chunks) ≡ e.chunks

    pub entry-met : (e : Entry) (rest : List ℕ) (p : ℕ) → Writable file e → drop p image ≡ entry_bytes e ++ rest → Met p e
    unfolding entry_bytes
    entry-met e rest p w q =
        let id : ℕ = e.id in
        let s2 : List ℕ = flat_map chunk_bytes e.chunks ++ (3 ∷ rest) in
        let s1 : List ℕ = le 8 id ++ s2 in
        let e0 : drop p image ≡ 1 ∷ s1 = q ∙ simp append_assoc in
        let e1 : drop (p + 1) image ≡ s1 = past image p (1 ∷ []) s1 (p + 1) refl e0 in
        let e2 : drop (p + 9) image ≡ s2 = past image (p + 1) (le 8 id) s2 (p + 9) (omega (arith, length-le 8 id)) e1 in
        let z = simp (length-append, length-le) at (size image p e0) in
        record {
          lead_met = leads file image p (entry id) (omega arith, first image p e0, w.not_below, number-here image (p + 1) 8 id s2 w.id_fits e1);
          whole_met = chunks-read e.chunks (p + 9) rest w.chunks_fit e2 ∙ ap (complete (length e.chunks)) (omega (arith, length-entry e));
          chunks_met = chunks-held e.chunks (p + 9) (3 ∷ rest) w.chunks_fit e2;
        }

    -- it is read, and the reading goes on behind it
    entry_read : (e : Entry) (rest : List ℕ) (p : ℕ) → Writable file e → drop p image ≡ entry_bytes e ++ rest
        → read_from file image p ≡ with_entry (as_complete p e) (read_from file image (behind image (e ∷ []) (p + length (entry_bytes e))))
    unfolding left onward
    entry_read e rest p w q =
        let m = entry-met e rest p w q in
        read-entry file image p m.lead_met
        ∙ ap (λ (c : Whole). with_entry (record { place = p; id = e.id; contents = c }) (read_from file image (onward image (left c)))) m.whole_met

    module _ (tail : List ℕ) where
      -- an entry begins with 01
      leads_one : (f : Entry) (es : List Entry) → get_or (flat_map entry_bytes (f ∷ es) ++ tail) 0 0 ≡ 1
      unfolding flat_map entry_bytes
      leads_one f es = refl

      -- the entries that stand from p on are found first, and the reading goes on behind them
      pub entries-read : (es : List Entry) (p : ℕ) → All (Writable file) es → drop p image ≡ flat_map entry_bytes es ++ tail
          → read_from file image p ≡ with_entries (as_found p es) (read_from file image (behind image es (p + length (flat_map entry_bytes es))))
      unfolding flat_map as_found with_entry
      entries-read [] p w q = rw add-zero
      entries-read (e ∷ []) p w q = rw append-nil (entry_read e tail p w.0 (q ∙ append_assoc (entry_bytes e) [] tail))
      entries-read (e ∷ f ∷ es) p w q =
          let rest : List ℕ = flat_map entry_bytes (f ∷ es) ++ tail in
          let q' : drop p image ≡ entry_bytes e ++ rest = q ∙ append_assoc (entry_bytes e) _ tail in
          let t : ℕ = p + length (entry_bytes e) in
          let q'' : drop t image ≡ rest = past image p (entry_bytes e) rest t refl q' in
          let one : get_or image t 0 ≡ 1 = first image t q'' ∙ leads_one f es in
          let there : behind image (e ∷ []) t ≡ t = onward-complete image 0 t (stands image t other (omega arith)) in
          let i = entries-read (f ∷ es) t w.1 q'' in
          rw (length-append, ← add_assoc) (entry_read e rest p w.0 q' ∙ rw there (ap (with_entry (as_complete p e)) i))

      -- and their data is their own
      pub entries-yielded : (es : List Entry) (p : ℕ) → All (Writable file) es → drop p image ≡ flat_map entry_bytes es ++ tail
          → yielded image (as_found p es) ≡ es
      unfolding flat_map as_found yielded yields
      entries-yielded [] p w q = refl
      entries-yielded (e ∷ es) p w q =
          let rest : List ℕ = flat_map entry_bytes es ++ tail in
          let q' : drop p image ≡ entry_bytes e ++ rest = q ∙ append_assoc (entry_bytes e) _ tail in
          let m = entry-met e rest p w.0 q' in
          let t : ℕ = p + length (entry_bytes e) in
          rw (m.chunks_met, entries-yielded es t w.1 (past image p (entry_bytes e) rest t refl q'))
