use Rattle.okaywal_segment.proofs.Ranges.{told}
use Rattle.okaywal_segment.specs.WriterWords.{writer_from}
use Rattle.okaywal_segment.proofs.writer_words.writer_from.Goals as goal

pub returns : goal.returns
unfolding writer_from
returns c = told _ _ c.told-info c.in_ok-last.last c.in_ok-moment.moment c.in_ok-last.ensures c.in_ok-moment.ensures
