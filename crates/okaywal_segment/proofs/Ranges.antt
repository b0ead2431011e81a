-- The first 16 words and the first 255 bytes tell what a longer state and longer bytes tell; so do a reader's first 10 words.
use Rattle.std.proofs.Common.{◌≡◌, refl, ℕ, ◌<◌, Bool, true, false, ◌&&◌, Option, Some, List, length, take, leb, sym, ap, ◌∙◌, lit<}
use Rattle.std.proofs.Math.Seq.{take-length}
use Rattle.std.specs.Bool.{then_some}
use Rattle.std.proofs.lemmas.Option.{same_Some, none-some}
use Rattle.log_file.specs.declared.Moment.{Moment}
use Rattle.std.proofs.lemmas.List.{get_or-take}
use Rattle.lists.specs.TakeLaws.{take_min}
use Rattle.okaywal_segment.specs.Words.{word}
use Rattle.okaywal_segment.specs.WriterWords.{last_from, moment_from, chunk_fits, writer_fits, writer_from}
use Rattle.okaywal_segment.specs.ReaderWords.{reader_fits, reader_from}

taken : (state : List ℕ) (i : ℕ) → i < 16 → word i (take 16 state) ≡ word i state
taken state i h = get_or-take 16 state i 0 h

pub fits_first : (state : List ℕ) → writer_fits (take 16 state) ≡ writer_fits state
unfolding writer_fits
fits_first state =
    rw (taken state 8 (lit< tt), taken state 10 (lit< tt), taken state 13 (lit< tt), taken state 14 (lit< tt), taken state 15 (lit< tt))

pub from_first : (state info : List ℕ) → writer_from (take 16 state) (take 255 info) ≡ writer_from state info
unfolding writer_from
from_first state info =
    rw (
      take_min 255 255 info,
      taken state 0 (lit< tt),
      taken state 1 (lit< tt),
      taken state 2 (lit< tt),
      taken state 3 (lit< tt),
      taken state 4 (lit< tt),
      taken state 5 (lit< tt),
      taken state 6 (lit< tt),
      taken state 7 (lit< tt),
      taken state 8 (lit< tt),
      taken state 9 (lit< tt),
      taken state 10 (lit< tt),
      taken state 11 (lit< tt),
      taken state 12 (lit< tt),
      taken state 13 (lit< tt),
      taken state 14 (lit< tt),
      taken state 15 (lit< tt),
    )

is_some : {A : Type 0} (b : Bool) (x y : A) → Some y ≡ then_some b x → (b ≡ true) × (y ≡ x)
is_some true x y e = (refl, same_Some y x e)
is_some false x y e = absurd (none-some y (sym e))

-- the state, where each of its parts is told
pub told : (words info : List ℕ) → length info ≡ 255 → (last : Option ℕ) (moment : Moment)
    → Some last ≡ then_some (leb (word 8 words) 1) (last_from (word 8 words) (word 9 words))
    → Some moment
    ≡ then_some (leb (word 10 words) 2 && chunk_fits (word 10 words) (word 13 words) (word 14 words) (word 15 words))
    (moment_from (word 10 words) (word 11 words) (word 12 words) (word 13 words) (word 14 words) (word 15 words))
    → Some (record (writer_from words info) { info = info; last = last; moment = moment }) ≡ then_some (writer_fits words) (writer_from words info)
unfolding writer_fits writer_from
told words info n last moment a b =
    let l = is_some _ _ last a in
    let m = is_some _ _ moment b in
    let t : take 255 info ≡ info = ap (λ (k : ℕ). take k info) (sym n) ∙ take-length info in
    rw (l.0, m.0, l.1, m.1, t)

-- ---- a reader's

read_of : (state : List ℕ) (i : ℕ) → i < 10 → word i (take 10 state) ≡ word i state
read_of state i h = get_or-take 10 state i 0 h

pub reader_fits_first : (state : List ℕ) → reader_fits (take 10 state) ≡ reader_fits state
unfolding reader_fits
reader_fits_first state = rw (read_of state 5 (lit< tt), read_of state 8 (lit< tt), read_of state 9 (lit< tt))

pub reader_from_first : (state : List ℕ) → reader_from (take 10 state) ≡ reader_from state
unfolding reader_from
reader_from_first state =
    rw (
      read_of state 0 (lit< tt),
      read_of state 1 (lit< tt),
      read_of state 2 (lit< tt),
      read_of state 3 (lit< tt),
      read_of state 4 (lit< tt),
      read_of state 5 (lit< tt),
      read_of state 6 (lit< tt),
      read_of state 7 (lit< tt),
      read_of state 8 (lit< tt),
      read_of state 9 (lit< tt),
    )
