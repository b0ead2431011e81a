-- What the code's enums say, in the words of `Reading`: one line a case.
use Rattle.std.specs.Prelude.{ℕ, Option, Some, None, Result, Ok, Err}
use Rattle.entry.specs.Refusal.{refusal_number}
use Rattle.entry.specs.declared.ChunkCut.{ChunkCut}
use Rattle.entry.specs.declared.Refusal.{Refusal}
use Rattle.reading.specs.Reading.{Mark, chunk, cut, close, other, Skipped, at, broken, Whole, complete, aborted, cut_off, wrong_sum, Lead, entry, none, Opened, opens, refuses}
use Rattle.reading.specs.declared.marks.Mark as mark
use Rattle.reading.specs.declared.marks.Mark.TheVariants.{Chunk, Cut, Close, Other}
use Rattle.reading.specs.declared.walks.Contents.{Contents}
use Rattle.reading.specs.declared.walks.Contents.TheVariants.{Complete, Aborted, Cut as CutOff, WrongSum}
use Rattle.reading.specs.declared.walks.Whole as whole

abbrev pub mark_as : mark.Mark → Mark
mark_as (Chunk n) = chunk n
mark_as (Cut k) = cut k
mark_as Close = close
mark_as Other = other

abbrev pub skipped_as : Result ℕ ChunkCut → Skipped
skipped_as (Ok p) = at p
skipped_as (Err c) = broken c

-- what an entry holds, and the place afterwards
abbrev pub contents_as : Contents → ℕ → Whole
contents_as (Complete k) q = complete k q
contents_as Aborted q = aborted q
contents_as (CutOff c) q = cut_off c q
contents_as WrongSum q = wrong_sum q

abbrev pub whole_as : whole.Whole → Whole
whole_as w = contents_as w.contents w.place

abbrev pub lead_as : Option ℕ → Lead
lead_as (Some id) = entry id
lead_as None = none

abbrev pub opened_as : Result ℕ Refusal → Opened
opened_as (Ok v) = opens v
opened_as (Err refusal) = refuses (refusal_number refusal)
