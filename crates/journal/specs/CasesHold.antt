-- The cases hold, all of them: computed from `opened` and `called` of the writer, `serialized`, `new` and `read_by` of the reader.
use Rattle.std.specs.Prelude.{refl}
use Rattle.lists.specs.Lay.{lay}
use Rattle.lists.specs.Walk.{walk, around}
use Rattle.lists.specs.Numbers.{le, from_le, number}
use Rattle.crc32c.specs.Crc.{update, crc_append}
use Rattle.entry.specs.Format.{covered, chunk_sum}
use Rattle.entry.specs.Position.{position_bytes, serialized}
use Rattle.buffered.specs.Staging.{flushed, direct, staged, emptied, rounds, written, written_all, back_to, synchronized}
use Rattle.log_file.specs.State.{ruled, valid}
use Rattle.log_file.specs.Calls.{checks, refusal, reports, writes, worked, moment_after, last_after, id_after, acted, called}
use Rattle.log_file.specs.Opening.{padded, open_refusal, prepared, unheaded, headed, opened_machine, opened}
use Rattle.reading.specs.Reading as Reading
use Rattle.reading.specs.Reading.{standing, skip_turn, skip, lead}
use Rattle.segment_reader.specs.State.{stands_at, in_place, fit, leaving, start_of, holding, open_of}
use Rattle.segment_reader.specs.Calls.{answer_of, opened_with, new, entry_met, entry_past, entry_from, read_entry, chunk_met, chunk_from, read_chunk, skip_in, skip_remaining, read_by}
use Rattle.journal.specs.Cases.{AllHold, cases, found, readings}

pub cases-hold : AllHold cases
unfolding found opened open_refusal padded opened_machine headed unheaded prepared lay written_all written rounds emptied staged direct flushed back_to synchronized called refusal ruled valid checks reports writes worked moment_after last_after id_after acted le chunk_sum covered crc_append update position_bytes serialized readings answer_of new Reading.opened opened_with read_by read_entry entry_from entry_past entry_met start_of fit in_place leaving skip skip_turn around walk standing lead number from_le read_chunk chunk_from chunk_met skip_remaining skip_in open_of holding stands_at
cases-hold = (refl, (refl, (refl, (refl, (refl, (refl, ((refl, refl), ((refl, refl), (refl, (refl, (refl, ((refl, refl), ((refl, refl), tt)))))))))))))
