-- What a reading yields as complete stands in the image, byte for byte what the format writes for it (`sound`). Asked of the image: that its elements
-- are bytes, since the format's numbers are written in bytes.
use Rattle.std.proofs.Math.Path.{◌≡◌, refl, sym, ap}
use Rattle.std.proofs.Common.{◌∙◌, length-drop, take_at, leb-true, eqb-true}
use Rattle.std.specs.Prelude.{Bool, true, false}
use mathlib.Core.List.{List, ◌∷◌, ◌++◌, flat_map, append_assoc}
use Prim.Native.Nat.{ℕ, ◌+◌, ◌-◌, ◌≤◌, ◌<◌}
use native.Mathlib.Omega.{arith}
use Rattle.std.proofs.Math.ListN.{length, drop, length-append}
use Rattle.lists.specs.Stream.{part, joined, starts, length_part}
use Rattle.lists.specs.Walk.{Keeps, around-ind}
use Rattle.lists.specs.Numbers.{le, number}
use Rattle.lists.specs.NumbersLaws.{Bytes}
use Rattle.entry.specs.Format.{Entry, chunk_sum, chunk as chunk_bytes, entry as entry_bytes}
use Rattle.entry.specs.FormatLaws.{length-chunk, length-entry}
use Rattle.reading.specs.Reading.{Mark, chunk, close, cut, other, standing, chunk_data, fits, matches, Whole, complete, aborted, cut_off}
use Rattle.reading.specs.Reading.{wrong_sum, also, whole_turn, whole, chunks_at, Lead, entry, none, lead, Opened, opens, refuses, opened}
use Rattle.reading.specs.NumberLaws.{le-number, number_lt}
use Rattle.reading.specs.ReadingLaws.{says, lead-says, close-inside, chunk_turn, whole-forward}
use Rattle.reading.specs.WholeReading.{Found, Reading, ended, with_entry, read_turn, read_from, read, read_opened, read_segment}
use Rattle.reading.specs.WholeReadingLaws.{read-forward}
use Rattle.lists.specs.All.{All}
use Rattle.entry.specs.Writable.{Lengths}
use Rattle.reading.specs.Yielded.{Sound}

-- bytes that stand there lie inside
within : (image : List ℕ) (p q : ℕ) (a : List ℕ) → q ≡ p + length a → 0 < length a → drop p image ≡ a ++ drop q image → q ≤ length image
within image p q a e h z = let l = simp (length-append, length-drop) at (ap length z) in omega arith

module _ (image : List ℕ) (bytes : Bytes image) where
  -- ---- a chunk whose sum is right, and the chunks of a complete entry with their 03

  chunk-stood : (p n : ℕ) → standing image p ≡ chunk n → p + 9 + n ≤ length image → number 4 image (p + 5 + n) ≡ chunk_sum n (chunk_data image p n)
      → drop p image ≡ chunk_bytes (chunk_data image p n) ++ drop (p + 9 + n) image
  unfolding chunk_bytes
  chunk-stood p n e h c =
      let s = says image p e in
      let d : List ℕ = chunk_data image p n in
      let l : length d ≡ n = length_part image (p + 5) n (omega arith) in
      let e1 : part image (p + 1) 4 ≡ le 4 (length d) = sym (le-number image (p + 1) 4 (omega arith) bytes) ∙ ap (le 4) (s.2 ∙ sym l) in
      let e3 : part image (p + 5 + n) 4 ≡ le 4 (chunk_sum (length d) d) =
      sym (le-number image (p + 5 + n) 4 (omega arith) bytes) ∙ ap (le 4) (c ∙ ap (λ (k : ℕ). chunk_sum k d) (sym l))
      in
      starts image p 2 s.0 (omega arith)
      ∙ ap (λ (r : List ℕ). 2 ∷ r)
      (joined image (p + 1) 4 (p + 5) (omega arith) e1
      (joined image (p + 5) n (p + 5 + n) refl refl (joined image (p + 5 + n) 4 (p + 9 + n) (omega arith) e3 refl)))
      ∙ simp append_assoc

  record StoodChunks (p : ℕ) (ds : List (List ℕ)) (q : ℕ) : Type 0 where
    pub stream : drop p image ≡ flat_map chunk_bytes ds ++ (3 ∷ drop q image)
    pub end : q ≡ p + length (flat_map chunk_bytes ds) + 1
    pub lengths : Lengths ds

  abbrev Stood : ℕ → Whole → Type 0
  Stood p (complete count q) = StoodChunks p (chunks_at image p count) q
  Stood p (aborted q) = Unit {0}
  Stood p (cut_off c q) = Unit {0}
  Stood p (wrong_sum q) = Unit {0}

  whole-stood : (p : ℕ) → Stood p (whole image p)
  unfolding whole whole_turn also flat_map chunks_at
  whole-stood p = around-ind _ (aborted 0) (length image) (whole-forward image) Stood (λ q. go q (standing image q) refl) p
    where
      more : (p n : ℕ) → standing image p ≡ chunk n → p + 9 + n ≤ length image → number 4 image (p + 5 + n) ≡ chunk_sum n (chunk_data image p n)
          → (r : Whole) → Stood (p + 9 + n) r → Stood p (also r)
      more p n e h c (complete count q) i =
          let d : List ℕ = chunk_data image p n in
          let s = says image p e in
          let l : length d ≡ n = length_part image (p + 5) n (omega arith) in
          let b = number_lt image (p + 1) 4 (omega arith) bytes in
          rw s.2
          (record {
            stream = chunk-stood p n e h c ∙ ap (λ (r : List ℕ). chunk_bytes d ++ r) i.stream ∙ sym (append_assoc (chunk_bytes d) _ _);
            end = simp length-append (omega (arith, length-chunk d));
            lengths = (omega arith, i.lengths);
          })
      more p n e h c (aborted q) i = tt
      more p n e h c (cut_off c' q) i = tt
      more p n e h c (wrong_sum q) i = tt

      in_chunk : (q n : ℕ) (a b : Bool) → standing image q ≡ chunk n → fits image q n ≡ a → matches image q n ≡ b → Keeps Stood q (chunk_turn image q n a b)
      in_chunk q n true true e ea eb = more q n e (leb-true _ _ ea) (eqb-true _ _ eb)
      in_chunk q n true false e ea eb = tt
      in_chunk q n false b e ea eb = tt

      go : (q : ℕ) (m : Mark) → standing image q ≡ m → Keeps Stood q (whole_turn image q m)
      go q (chunk n) e = in_chunk q n (fits image q n) (matches image q n) e refl refl
      go q close e = record { stream = starts image q 3 (says image q e) (close-inside image q e); end = omega arith; lengths = tt }
      go q (cut k) e = tt
      go q other e = tt

  -- ---- an entry, and all that a reading finds

  module _ (file : ℕ) where
    entry-stood : (p id : ℕ) (w : Whole) → lead file image p ≡ entry id → Stood (p + 9) w → Sound file image (record { place = p; id = id; contents = w }) w
    unfolding entry_bytes
    entry-stood p id (complete count q) e i =
        let s = lead-says file image p e in
        let f : Entry = record { id = id; chunks = chunks_at image (p + 9) count } in
        let n : part image (p + 1) 8 ≡ le 8 id = sym (le-number image (p + 1) 8 (omega arith) bytes) ∙ ap (le 8) s.3 in
        let b = number_lt image (p + 1) 8 (omega arith) bytes in
        let z : drop p image ≡ entry_bytes f ++ drop q image =
        starts image p 1 s.1 (omega arith)
        ∙ ap (λ (r : List ℕ). 1 ∷ r) (joined image (p + 1) 8 (p + 9) (omega arith) n i.stream)
        ∙ simp append_assoc
        in
        let l = length-entry f in
        let en : q ≡ p + length (entry_bytes f) = omega (arith, i.end) in
        record {
          ends = en;
          inside = within image p q (entry_bytes f) en (omega arith) z;
          bytes_are = rw z (take_at (entry_bytes f) (drop q image) (q - p) (omega arith));
          writable = record { not_below = s.2; id_fits = omega arith; chunks_fit = i.lengths };
        }
    entry-stood p id (aborted q) e i = tt
    entry-stood p id (cut_off c q) e i = tt
    entry-stood p id (wrong_sum q) e i = tt

    abbrev AllSound : List Found → Type 0
    AllSound fs = All (λ f. Sound file image f f.contents) fs

    sound-from : (p : ℕ) → AllSound (read_from file image p).entries
    unfolding read_from read_turn with_entry
    sound-from p = around-ind _ (ended 0) (length image) (read-forward file image) (λ q r. AllSound r.entries) (λ q. go q (lead file image q) refl) p
      where
        go : (q : ℕ) (l : Lead) → lead file image q ≡ l → Keeps (λ q r. AllSound r.entries) q (read_turn image q l)
        go q (entry id) e = λ r i. (entry-stood q id (whole image (q + 9)) e (whole-stood (q + 9)), i)
        go q none e = tt

    pub sound : (r : Reading) → read_segment file image ≡ read r → All (λ f. Sound file image f f.contents) r.entries
    unfolding read_segment read_opened
    sound r e = go (opened image) e
      where
        go : (o : Opened) → read_opened file image o ≡ read r → AllSound r.entries
        go (opens v) e = let x : read_from file image (5 + v) ≡ r = cc in rw x at (sound-from (5 + v))
        go (refuses n) e = let x : ◌≡◌ {A = ℕ} 0 1 = cc in absurd (omega arith)
