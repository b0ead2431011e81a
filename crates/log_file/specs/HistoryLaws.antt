-- The first parts of an entry and of a chunk, how each call extends a history's bytes, and that the cutting of data into pieces does not show in it.
use Rattle.std.specs.Prelude.{ℕ, ◌+◌, ◌-◌, ◌≡◌, refl, length, take}
use Rattle.std.proofs.Common.{arith, ap, sym, ◌∙◌, length-append, length-take}
use mathlib.Core.List.{List, [], ◌∷◌, ◌++◌, append_assoc, append-nil, flat_map}
use Rattle.std.proofs.Math.Seq.{take-nil}
use Rattle.lists.specs.TakeLaws.{take-append}
use Rattle.lists.specs.Numbers.{le}
use Rattle.lists.specs.NumbersLaws.{length-le}
use Rattle.crc32c.specs.Crc.{crc_append}
use Rattle.crc32c.specs.CrcLaws.{crc_append-append}
use Rattle.entry.specs.Format.{header, covered, chunk_sum, chunk, Entry, entry, segment}
use Rattle.log_file.specs.declared.Moment.TheVariants.{Idle}
use Rattle.log_file.specs.Calls.{write}
use Rattle.log_file.specs.History.{Open, nothing, an_entry, a_chunk, History, begun, opening, base, bytes, moment_at, with_open, causes, next}

-- ---- the format's entry and chunk are these first parts, completed

pub chunk-opening : (d : List ℕ) → chunk d ≡ opening (length d) d ++ le 4 (chunk_sum (length d) d)
unfolding chunk opening
chunk-opening d = sym (append_assoc (2 ∷ le 4 (length d)) d (le 4 (chunk_sum (length d) d)))

pub entry-begun : (e : Entry) → entry e ≡ begun e.id e.chunks ++ (3 ∷ [])
unfolding entry begun
entry-begun e = sym (append_assoc (1 ∷ le 8 e.id) (flat_map chunk e.chunks) (3 ∷ []))

-- ---- one more

flat_map-snoc : {A : Type 0} (f : A → List ℕ) (xs : List A) (x : A) → flat_map f (xs ++ (x ∷ [])) ≡ flat_map f xs ++ f x
unfolding flat_map
flat_map-snoc f [] x = append-nil (f x)
flat_map-snoc f (y ∷ xs) x = ap (λ (l : List ℕ). f y ++ l) (flat_map-snoc f xs x) ∙ sym (append_assoc (f y) (flat_map f xs) (f x))

pub segment-none : (info : List ℕ) → segment info [] ≡ header info
unfolding segment flat_map
segment-none info = append-nil (header info)

pub segment-snoc : (info : List ℕ) (es : List Entry) (e : Entry) → segment info (es ++ (e ∷ [])) ≡ segment info es ++ entry e
unfolding segment
segment-snoc info es e = ap (λ (l : List ℕ). header info ++ l) (flat_map-snoc entry es e) ∙ sym (append_assoc (header info) (flat_map entry es) (entry e))

pub begun-none : (id : ℕ) → begun id [] ≡ (1 ∷ []) ++ (le 8 id ++ [])
unfolding begun flat_map
begun-none id = refl

pub begun-snoc : (id : ℕ) (cs : List (List ℕ)) (d : List ℕ) → begun id (cs ++ (d ∷ [])) ≡ begun id cs ++ chunk d
unfolding begun
begun-snoc id cs d =
    ap (λ (l : List ℕ). 1 ∷ le 8 id ++ l) (flat_map-snoc chunk cs d) ∙ sym (append_assoc (1 ∷ le 8 id) (flat_map chunk cs) (chunk d))

pub opening-none : (n : ℕ) → opening n [] ≡ (2 ∷ []) ++ (le 4 n ++ [])
unfolding opening
opening-none n = refl

pub opening-more : (n : ℕ) (a b : List ℕ) → opening n (a ++ b) ≡ opening n a ++ b
unfolding opening
opening-more n a b = sym (append_assoc (2 ∷ le 4 n) a b)

-- the sum of a chunk goes on over more bytes
pub chunk_sum-more : (n : ℕ) (a b : List ℕ) → crc_append (chunk_sum n a) b ≡ chunk_sum n (a ++ b)
unfolding chunk_sum covered
chunk_sum-more n a b = sym (crc_append-append 0 a b)

-- ---- lengths

pub length-opening : (n : ℕ) (d : List ℕ) → length (opening n d) ≡ 5 + length d
unfolding opening
length-opening n d = simp (length-append, length-le) (omega arith)

pub length-begun : (id : ℕ) (cs : List (List ℕ)) → length (begun id cs) ≡ 9 + length (flat_map chunk cs)
unfolding begun
length-begun id cs = simp (length-append, length-le) (omega arith)

pub length-begun-none : (id : ℕ) → length (begun id []) ≡ 9
unfolding flat_map
length-begun-none id = length-begun id []

-- where nothing is open, where an entry is, and where a chunk is
pub length-idle : (h : History) → length (bytes (with_open h nothing)) ≡ length (base h)
length-idle h = simp append-nil

pub length-entry : (h : History) (id : ℕ) (cs : List (List ℕ)) → length (bytes (with_open h (an_entry id cs))) ≡ length (base h) + length (begun id cs)
length-entry h id cs = length-append (base h) (begun id cs)

pub length-chunk : (h : History) (id : ℕ) (cs : List (List ℕ)) (n : ℕ) (d : List ℕ)
    → length (bytes (with_open h (a_chunk id cs n d))) ≡ length (base h) + (length (begun id cs) + (5 + length d))
length-chunk h id cs n d = simp (length-append, length-opening)

-- ---- data in pieces: given in two, it is given in one; none given, nothing changes

joined-open : (n : ℕ) (h : History) (o : Open) (a b : List ℕ)
    → next n (next n (with_open h o) (write a)) (write b) ≡ next n (with_open h o) (write (a ++ b))
unfolding causes
joined-open n h nothing a b = refl
joined-open n h (an_entry i cs) a b = refl
joined-open n h (a_chunk i cs k d) a b =
    let e : k - length (d ++ take (k - length d) a) ≡ k - length d - length a = simp (length-append, length-take) (omega arith) in
    ap (λ l. with_open h (a_chunk i cs k l)) (rw (e, append_assoc, take-append))

pub write-joined : (n : ℕ) (h : History) (a b : List ℕ) → next n (next n h (write a)) (write b) ≡ next n h (write (a ++ b))
write-joined n h a b = joined-open n h h.pending a b

none_open : (n : ℕ) (h : History) (o : Open) → next n (with_open h o) (write []) ≡ with_open h o
unfolding causes
none_open n h nothing = refl
none_open n h (an_entry i cs) = refl
none_open n h (a_chunk i cs k d) = simp (take-nil, append-nil)

pub write-none : (n : ℕ) (h : History) → next n h (write []) ≡ h
write-none n h = none_open n h h.pending

-- ---- where the moment is idle, nothing is open

pub idle-nothing : (start : ℕ) (o : Open) → moment_at start o ≡ Idle → o ≡ nothing
idle-nothing start nothing e = refl
idle-nothing start (an_entry i cs) e = let z : ◌≡◌ {A = ℕ} 0 1 = cc in absurd (omega arith)
idle-nothing start (a_chunk i cs k d) e = let z : ◌≡◌ {A = ℕ} 0 1 = cc in absurd (omega arith)
