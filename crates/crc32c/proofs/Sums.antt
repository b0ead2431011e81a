-- The laws of the sum that `laws` promises, for the search.
use Rattle.crc32c.specs.CrcLaws.{crc_append-append, crc32c-nil}

pub ruleset sums = (crc_append-append, crc32c-nil)
