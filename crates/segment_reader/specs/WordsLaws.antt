-- What is recorded, in words: four words an entry, and each word that of what was found. The idea: an entry's four words lie at four times its number.
use Rattle.std.specs.Prelude.{List, [], ◌∷◌, ◌++◌, ◌≡◌, refl, ℕ, zero, suc, ◌+◌, ◌*◌, ◌<◌, Bool, true, false, cond, length, leb, ltb, set}
use Rattle.std.proofs.Common.{sym, ap, ap₂, ◌∙◌, arith, le-leb, ltb-true, ltb-false}
use Rattle.std.proofs.lemmas.Bool.{lt-leb}
use Rattle.lists.specs.Lay.{lay}
use Rattle.entry.specs.declared.CutPart.{CutPart}
use Rattle.entry.specs.declared.CutPart.TheVariants.{Header, Data, Crc}
use Rattle.entry.specs.declared.ChunkCut.{ChunkCut}
use Rattle.reading.specs.Reading.{Whole, complete, aborted, cut_off, wrong_sum}
use Rattle.reading.specs.WholeReading.{Found}
use Rattle.segment_reader.specs.Calls.{cut_number}
use Rattle.segment_reader.specs.Driver.{verdict_read, verdict_of, chunks_of, words, verdict_word, chunks_word, words_of, in_words, entry_read, noted, noted_words, recorded, recorded_words}
use Rattle.segment_reader.specs.declared.survey.EntryRead.{EntryRead}

-- ---- the four words of what is recorded are those of what was found

words-of-cut : (c : ChunkCut) (q : ℕ) → verdict_word (verdict_read (cut_off c q)) ≡ verdict_of (cut_off c q)
unfolding verdict_word verdict_read verdict_of cut_number
words-of-cut c q = go c.part refl
  where
    go : (x : CutPart) → c.part ≡ x → 9 ≡ cut_number c.part
    go Header e = rw e refl
    go Data e = rw e refl
    go Crc e = rw e refl

verdict-word : (w : Whole) → verdict_word (verdict_read w) ≡ verdict_of w
unfolding verdict_word verdict_read verdict_of
verdict-word (complete count q) = refl
verdict-word (aborted q) = refl
verdict-word (cut_off c q) = words-of-cut c q
verdict-word (wrong_sum q) = refl

chunks-word : (w : Whole) → chunks_word (verdict_read w) ≡ chunks_of w
unfolding chunks_word verdict_read chunks_of
chunks-word (complete count q) = refl
chunks-word (aborted q) = refl
chunks-word (cut_off c q) = refl
chunks-word (wrong_sum q) = refl

pub words-read : (f : Found) → words_of (entry_read f) ≡ words f
unfolding words_of entry_read words
words-read f = ap₂ (λ (v k : ℕ). v ∷ f.id ∷ (f.place + 9) ∷ k ∷ []) (verdict-word f.contents) (chunks-word f.contents)

-- ---- and so is a list of entries

length-in_words : (es : List EntryRead) → length (in_words es) ≡ length es * 4
unfolding in_words words_of
length-in_words [] = refl
length-in_words (e ∷ es) = let h = length-in_words es in omega arith

-- behind the first element
lay-cons : (x : ℕ) (l : List ℕ) (i : ℕ) (xs : List ℕ) → lay (x ∷ l) (suc i) xs ≡ x ∷ lay l i xs
unfolding lay
lay-cons x l i [] = refl
lay-cons x l i (y ∷ ys) = lay-cons x (set l i y) (suc i) ys

-- behind an entry's four words
lay-behind : (e : EntryRead) (l : List ℕ) (i j : ℕ) (xs : List ℕ) → i + 4 ≡ j → lay (words_of e ++ l) j xs ≡ words_of e ++ lay l i xs
unfolding words_of
lay-behind e l i j xs h =
    let z : suc (suc (suc (suc i))) ≡ j = omega arith in
    rw (← z)
    (lay-cons _ _ _ xs ∙ ap (λ (k : List ℕ). verdict_word e.verdict ∷ k) (lay-cons _ _ _ xs ∙ ap (λ (k : List ℕ). e.id ∷ k) (lay-cons _ _ _ xs ∙ ap (λ (k : List ℕ). e.place ∷ k) (lay-cons _ _ _ xs))))

set-words : (es : List EntryRead) (k : ℕ) (e : EntryRead) → k < length es → in_words (set es k e) ≡ lay (in_words es) (k * 4) (words_of e)
unfolding in_words words_of lay
set-words [] k e h = absurd (omega arith)
set-words (x ∷ es) zero e h = first
  where
    first : in_words (e ∷ es) ≡ lay (in_words (x ∷ es)) 0 (words_of e)
    first = refl
set-words (x ∷ es) (suc k) e h = ap (λ (l : List ℕ). words_of x ++ l) (set-words es k e (omega arith)) ∙ sym (lay-behind x (in_words es) (k * 4) (suc k * 4) (words_of e) (omega arith))

noted-words : (list : List EntryRead) (k : ℕ) (e : EntryRead) → in_words (noted list k e) ≡ noted_words (in_words list) k (words_of e)
unfolding noted noted_words
noted-words list k e = go (ltb k (length list)) refl
  where
    l : length (in_words list) ≡ length list * 4
    l = length-in_words list

    go : (b : Bool) → ltb k (length list) ≡ b → in_words (cond b (set list k e) list) ≡ cond (leb (k * 4 + 4) (length (in_words list))) (lay (in_words list) (k * 4) (words_of e)) (in_words list)
    go true h = let z = ltb-true _ _ h in rw (le-leb (k * 4 + 4) (length (in_words list)) (omega (arith, l))) (set-words list k e z)
    go false h = let z = ltb-false _ _ h in rw (lt-leb (k * 4 + 4) (length (in_words list)) (omega (arith, l))) refl

pub recorded-words : (list : List EntryRead) (k : ℕ) (fs : List Found) → in_words (recorded list k fs) ≡ recorded_words (in_words list) k fs
unfolding recorded recorded_words
recorded-words list k [] = refl
recorded-words list k (f ∷ fs) =
    recorded-words (noted list k (entry_read f)) (suc k) fs
    ∙ ap (λ (l : List ℕ). recorded_words l (suc k) fs) (noted-words list k (entry_read f) ∙ ap (noted_words (in_words list) k) (words-read f))
