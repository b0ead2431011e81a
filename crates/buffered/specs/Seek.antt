-- Landing places (document 01, "A seek's landing place"): the target is worked out in the integers, then held against 0 and the image size.
use Rattle.std.specs.Prelude.{ℕ, ◌≡◌, Bool, true, [], ◌∷◌, ltb, ℤ, pos, negsuc, ◌+ℤ◌, Option, Some, None}
use Rattle.std.specs.declared.io.SeekFrom.{SeekFrom}
use Rattle.std.specs.declared.io.SeekFrom.TheVariants.{Start, End, Current}
use Rattle.lists.specs.Answers.{Answer, accepted, refused, ◌⇒◌, first, reply}

-- the place counted from, plus the signed offset
abbrev pub target : SeekFrom → (length position : ℕ) → ℤ
target (Start place) length position = pos place
target (End offset) length position = pos length +ℤ offset
target (Current offset) length position = pos position +ℤ offset

-- below 0 or past the size
abbrev pub misses : (size : ℕ) → ℤ → Bool
misses size (pos place) = ltb size place
misses size (negsuc n) = true

abbrev pub place_of : ℤ → ℕ
place_of (pos place) = place
place_of (negsuc n) = 0

abbrev pub land : (size : ℕ) → ℤ → Answer
land size z = reply (first ((misses size z ⇒ 11) ∷ [])) (place_of z ∷ [])

-- the number and value of a landing: none is a refusal with 11
abbrev pub landed_as : Option ℕ → Answer
landed_as (Some place) = accepted (place ∷ [])
landed_as None = refused 11

abbrev pub SeekAllows : SeekFrom → (length position size : ℕ) → Option ℕ → Type 0
SeekAllows from length position size answer = landed_as answer ≡ land size (target from length position)
