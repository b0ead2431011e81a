-- The bounds of places, over plain variables, and the laws of a walk over chunks: what the search is given.
use Rattle.std.proofs.Common.{◌≡◌, ◌+◌, ◌≤◌, ◌<◌, ℕ, List, length, sym, ap, ◌∙◌, arith}
use Rattle.reading.specs.Reading.{chunk, close, standing, entry, lead, skip}
use Rattle.reading.specs.ReadingLaws.{says, close-inside, lead-says, skip-chunk, skip-close, skip-cut, skip-other}

pub lead_inside : (file : ℕ) (image : List ℕ) (p id : ℕ) → entry id ≡ lead file image p → p + 9 ≤ length image
lead_inside file image p id e = let z = lead-says file image p (sym e) in omega arith

pub chunk_inside : (image : List ℕ) (p n : ℕ) → chunk n ≡ standing image p → p + 5 ≤ length image
chunk_inside image p n e = let z = says image p (sym e) in omega arith

pub close_inside : (image : List ℕ) (p : ℕ) → close ≡ standing image p → p < length image
close_inside image p e = close-inside image p (sym e)

-- past a chunk, however the code forms the sum
pub skip_on : (image : List ℕ) (p n q : ℕ) → chunk n ≡ standing image p → p + 9 + n ≡ q → skip image p ≡ skip image q
skip_on image p n q e s = skip-chunk image p (sym e) ∙ ap (skip image) s

pub ruleset skipping = (chunk_inside, close_inside, skip_on, skip-close, skip-cut, skip-other)
