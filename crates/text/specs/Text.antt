-- What words are read by: the same text, a word of a line, a number in decimal, bytes as pairs of hex digits. Texts are lists of bytes, in
-- ASCII. Total: each definition answers any list. The laws are in `TextLaws`.
use Rattle.std.specs.Prelude.{◌≡◌, Bool, true, false, cond, ◌&&◌, List, [], ◌∷◌, ℕ, zero, suc, ◌+◌, ◌-◌, ◌*◌, ◌^◌, min, length, take, drop, leb, ltb, eqb, Option, Some, None}
use Rattle.lists.specs.Answers.{all}
use Rattle.lists.specs.Lay.{lay}

-- ---- the same text: as long, and the same byte at each place

unfoldable pub same : List ℕ → List ℕ → Bool
same [] [] = true
same [] (y ∷ b) = false
same (x ∷ a) [] = false
same (x ∷ a) (y ∷ b) = eqb x y && same a b

-- ---- parts of a text

-- the first n bytes, or as many as there are
abbrev pub first : ℕ → List ℕ → List ℕ
first n s = take n s

-- what stands before the first stop; all of it where there is none
unfoldable pub until : (stop : ℕ) → List ℕ → List ℕ
until stop [] = []
until stop (c ∷ s) = cond (eqb c stop) [] (c ∷ until stop s)

-- what stands behind the first stop; nothing where there is none
unfoldable pub behind : (stop : ℕ) → List ℕ → List ℕ
behind stop [] = []
behind stop (c ∷ s) = cond (eqb c stop) s (behind stop s)

-- the place of the first stop from a place on; the length where there is none
unfoldable pub place : List ℕ → (from stop : ℕ) → ℕ
place s from stop = min from (length s) + length (until stop (drop from s))

-- ---- words, one space (32) apart

-- the line from its k-th word on, counted from 0
unfoldable pub words_from : ℕ → List ℕ → List ℕ
words_from zero line = line
words_from (suc k) line = words_from k (behind 32 line)

-- the k-th word; empty where there is none
unfoldable pub word_at : ℕ → List ℕ → List ℕ
word_at k line = until 32 (words_from k line)

-- ---- numbers in decimal

-- 0 to 9
abbrev pub is_digit : ℕ → Bool
is_digit c = leb 48 c && leb c 57

unfoldable pub all_digits : List ℕ → Bool
all_digits [] = true
all_digits (c ∷ s) = is_digit c && all_digits s

-- what digits stand for: each weighs ten times what the one behind it weighs
unfoldable pub value : List ℕ → ℕ
value [] = 0
value (c ∷ s) = (c - 48) * 10 ^ length s + value s

-- one digit or more and nothing else, below 2^64
unfoldable pub decimal : List ℕ → Option ℕ
decimal s = cond (all (ltb 0 (length s) ∷ all_digits s ∷ ltb (value s) (2 ^ 64) ∷ [])) (Some (value s)) None

-- the number, 0 where there is none
abbrev pub or_zero : Option ℕ → ℕ
or_zero (Some n) = n
or_zero None = 0

-- ---- bytes as pairs of hex digits

-- 0 to 9 and a to f; anything else counts as 0
unfoldable pub hex_digit : ℕ → ℕ
hex_digit c = cond (is_digit c) (c - 48) (cond (leb 97 c && leb c 102) (c - 87) 0)

-- one byte for each pair; a digit left over is passed over
unfoldable pub unhexed : List ℕ → List ℕ
unhexed [] = []
unhexed (a ∷ []) = []
unhexed (a ∷ b ∷ s) = (hex_digit a * 16 + hex_digit b) ∷ unhexed s

-- as many of these bytes as a buffer holds
abbrev pub fitting : (s buffer : List ℕ) → List ℕ
fitting s buffer = take (length buffer) (unhexed s)

-- their number is answered, and they are stored from the buffer's start on
abbrev pub UnhexAllows : (s buffer : List ℕ) → (r : ℕ) (buffer' : List ℕ) → Type 0
UnhexAllows s buffer r buffer' = (r ≡ length (fitting s buffer)) × (buffer' ≡ lay buffer 0 (fitting s buffer))
