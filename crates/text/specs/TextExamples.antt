-- Worked examples of the definitions of `Text`, on texts as they are written.
use Rattle.std.specs.Prelude.{◌≡◌, refl, true, false, List, [], ◌∷◌, ℕ, Some, None}
use Prim.Native.Char.{code}
use Prim.Native.String.{String}
use Prim.Native.String as string
use Rattle.lists.specs.Lay.{lay}
use Rattle.text.specs.Text.{same, until, behind, place, words_from, word_at, all_digits, value, decimal, hex_digit, unhexed, fitting}

-- the bytes of a text in ASCII
abbrev ascii : String → List ℕ
ascii string.[] = []
ascii (string.◌∷◌ c s) = code c ∷ ascii s

-- ---- the same text

equal : same (ascii "list") (ascii "list") ≡ true
unfolding same
equal = refl

longer : same (ascii "list") (ascii "lists") ≡ false
unfolding same
longer = refl

other-letter : same (ascii "list") (ascii "lisp") ≡ false
unfolding same
other-letter = refl

-- ---- places (a space is 32) and words

first-space : place (ascii "write 0aff 2") 0 32 ≡ 5
unfolding place until
first-space = refl

next-space : place (ascii "write 0aff 2") 6 32 ≡ 10
unfolding place until
next-space = refl

no_more : place (ascii "write 0aff 2") 11 32 ≡ 12
unfolding place until
no_more = refl

past_the_end : place (ascii "write 0aff 2") 99 32 ≡ 12
unfolding place until
past_the_end = refl

first_word : word_at 0 (ascii "write 0aff 2") ≡ ascii "write"
unfolding word_at words_from until
first_word = refl

middle-word : word_at 1 (ascii "write 0aff 2") ≡ ascii "0aff"
unfolding word_at words_from until behind
middle-word = refl

last_word : word_at 2 (ascii "write 0aff 2") ≡ ascii "2"
unfolding word_at words_from until behind
last_word = refl

no_word : word_at 3 (ascii "write 0aff 2") ≡ []
unfolding word_at words_from until behind
no_word = refl

-- two spaces have an empty word between them
empty-word : word_at 1 (ascii "get  7") ≡ []
unfolding word_at words_from until behind
empty-word = refl

-- ---- numbers in decimal

greatest : decimal (ascii "18446744073709551615") ≡ Some 18446744073709551615
unfolding decimal all_digits value
greatest = refl

one-too-many : decimal (ascii "18446744073709551616") ≡ None
unfolding decimal all_digits value
one-too-many = refl

leading_zeros : decimal (ascii "0000000000000000000000120") ≡ Some 120
unfolding decimal all_digits value
leading_zeros = refl

empty : decimal (ascii "") ≡ None
unfolding decimal all_digits value
empty = refl

no_digit : decimal (ascii "1a") ≡ None
unfolding decimal all_digits value
no_digit = refl

signed : decimal (ascii "-1") ≡ None
unfolding decimal all_digits value
signed = refl

-- std's own parse takes a plus
plus : decimal (ascii "+7") ≡ None
unfolding decimal all_digits value
plus = refl

-- ---- bytes as pairs of hex digits

two_bytes : unhexed (ascii "0aff") ≡ 0x0a ∷ 0xff ∷ []
unfolding unhexed hex_digit
two_bytes = refl

one-left-over : unhexed (ascii "0af") ≡ 0x0a ∷ []
unfolding unhexed hex_digit
one-left-over = refl

-- capitals are no digits here
counts-as-zero : unhexed (ascii "F7xy") ≡ 0x07 ∷ 0x00 ∷ []
unfolding unhexed hex_digit
counts-as-zero = refl

stored : lay (1 ∷ 2 ∷ 3 ∷ []) 0 (fitting (ascii "0aff") (1 ∷ 2 ∷ 3 ∷ [])) ≡ 0x0a ∷ 0xff ∷ 3 ∷ []
unfolding lay unhexed hex_digit
stored = refl

one-fits : lay (1 ∷ []) 0 (fitting (ascii "0aff") (1 ∷ [])) ≡ 0x0a ∷ []
unfolding lay unhexed hex_digit
one-fits = refl
