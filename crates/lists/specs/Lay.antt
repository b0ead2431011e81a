-- Bytes stored into a buffer one after another, from an offset on: the one way in which any buffer changes. It is total: a store past the end
-- changes nothing. The laws are in `LayLaws`.
use Rattle.std.specs.Prelude.{ℕ, List}
use Rattle.std.proofs.lemmas.List.Edits.{sets}

-- each of xs in turn, the first at i
unfoldable pub lay : List ℕ → ℕ → List ℕ → List ℕ
lay l i xs = sets l i xs
