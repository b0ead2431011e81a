-- Reading a segment's bytes gives back the entries that were written: exactly these, in order, with zeros behind too (`round_trip`); and first
-- these, whatever stands behind (`entries-come-first`).
-- Asked of each entry: that it is `Writable`, since an id below the file's ends the reading, and a number that does not fit its bytes is not there to
-- be read. Nothing is asked of the data, which are compared as lists; nor of the version info's length and of the whole's size: an image that
-- opens keeps to both by itself (a length byte is at most 255, and larger images are refused with 12).
use Rattle.std.specs.Prelude.{◌≡◌, get_or, replicate}
use Rattle.std.proofs.Math.Path.{refl}
use Rattle.std.proofs.Common.{ap, ◌∙◌, arith, drop_at}
use mathlib.Core.List.{List, [], ◌∷◌, ◌++◌, flat_map, append_assoc, append-nil}
use Prim.Native.Nat.{ℕ, zero, suc, ◌+◌}
use Rattle.std.proofs.Math.ListN.{length, drop, length-append}
use Rattle.lists.specs.Stream.{first}
use Rattle.entry.specs.Format.{header, Entry, entry, segment}
use Rattle.entry.specs.FormatLaws.{length-header, length-segment}
use Rattle.reading.specs.Reading.{other, standing, none, lead, opens, opened}
use Rattle.reading.specs.ReadingLaws.{stands, leads, opened-opens}
use Rattle.reading.specs.WholeReading.{read_from, read, read_opened, read_segment}
use Rattle.reading.specs.WholeReadingLaws.{onward-complete, read-ended}
use Rattle.lists.specs.All.{All}
use Rattle.entry.specs.Writable.{Writable}
use Rattle.reading.specs.Yielded.{behind, ReadsFirst, ReadsBack}
use Rattle.reading.specs.RoundTripLaws.{entries-read, entries-yielded}

-- ---- a segment with anything behind: it opens, and its entries stand behind its header

module _ (info : List ℕ) (es : List Entry) (tail : List ℕ) where
  header-first : segment info es ++ tail ≡ header info ++ (flat_map entry es ++ tail)
  unfolding segment
  header-first = append_assoc (header info) _ tail

  segment-opens : opened (segment info es ++ tail) ≡ opens (length info)
  unfolding header
  segment-opens = rw header-first (go (flat_map entry es ++ tail))
    where
      go : (rest : List ℕ) → opened (header info ++ rest) ≡ opens (length info)
      go rest = let z = length-append info rest in opened-opens (header info ++ rest) (omega arith) (refl, refl, refl) refl (omega arith)

  entries-stand : drop (5 + length info) (segment info es ++ tail) ≡ flat_map entry es ++ tail
  entries-stand = rw header-first (drop_at (header info) (flat_map entry es ++ tail) (5 + length info) (length-header info))

-- ---- the theorems

module _ (file : ℕ) (info : List ℕ) (es : List Entry) (w : All (Writable file) es) where
  -- what stands behind may be anything: the entries come first. What is found later is what a reading finds from behind them on; until an entry ends
  -- at its 03 (request 5/14), chunks and one 03 that stand there are passed first.
  pub entries-come-first : (tail : List ℕ)
      → ReadsFirst file (segment info es ++ tail) info es
      (read_from file (segment info es ++ tail) (behind (segment info es ++ tail) es (length (segment info es))))
  unfolding read_segment read_opened
  entries-come-first tail =
      let image : List ℕ = segment info es ++ tail in
      let p : ℕ = 5 + length info in
      let q : drop p image ≡ flat_map entry es ++ tail = entries-stand info es tail in (
        rw (segment-opens info es tail, length-segment info es) (ap read (entries-read image file tail es p w q)),
        entries-yielded image file tail es p w q,
      )

  -- nothing else is found, where no mark stands behind
  pub round-trip-before : (tail : List ℕ) → standing (segment info es ++ tail) (length (segment info es)) ≡ other
      → lead file (segment info es ++ tail) (length (segment info es)) ≡ none → ReadsBack file (segment info es ++ tail) info es
  round-trip-before tail s l =
      let image : List ℕ = segment info es ++ tail in
      let end : ℕ = length (segment info es) in
      let c = entries-come-first tail in
      (c.0 ∙ rw (there es, read-ended file image end l, append-nil), c.1)
    where
      there : (fs : List Entry) → behind (segment info es ++ tail) fs (length (segment info es)) ≡ length (segment info es)
      there [] = refl
      there (f ∷ fs) = onward-complete (segment info es ++ tail) 0 (length (segment info es)) s

  -- zeros behind
  pub round-trip-zeros : (k : ℕ) → ReadsBack file (segment info es ++ replicate k 0) info es
  round-trip-zeros k =
      let image : List ℕ = segment info es ++ replicate k 0 in
      let end : ℕ = length (segment info es) in
      let z : get_or image end 0 ≡ 0 = first image end (drop_at (segment info es) (replicate k 0) end refl) ∙ zero-first k in
      round-trip-before (replicate k 0) (stands image end other (omega arith)) (leads file image end none (λ a b c. omega arith))
    where
      zero-first : (k : ℕ) → ◌≡◌ {A = ℕ} (get_or (replicate k 0) 0 0) 0
      zero-first zero = refl
      zero-first (suc k) = refl

  pub round_trip : ReadsBack file (segment info es) info es
  round_trip = rw append-nil at (round-trip-zeros 0)
