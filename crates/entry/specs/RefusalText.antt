-- What a refusal is called in words.
use Rattle.std.specs.Prelude.{ℕ, List, codes}
use Rattle.entry.specs.declared.Refusal.{Refusal}
use Rattle.entry.specs.declared.Refusal.TheVariants.{Short, Magic, Version, InfoTooLong, NoRoom, NotNow, LowId, BytesOwed, Cut, WrongSum, OutsideImage, OutOfRange}

abbrev pub refusal_text : Refusal → List ℕ
refusal_text Short = codes "fewer than 5 header bytes, or fewer than the version info's length after them"
refusal_text Magic = codes "the first three header bytes differ"
refusal_text Version = codes "the fourth header byte is not 0"
refusal_text InfoTooLong = codes "version info longer than 255"
refusal_text NoRoom = codes "no room"
refusal_text NotNow = codes "the call does not belong to the present moment"
refusal_text LowId = codes "entry id below the segment id"
refusal_text BytesOwed = codes "a chunk is finished with bytes still owed"
refusal_text (Cut cut) = codes "a chunk's header, data or CRC is cut by the image's end"
refusal_text WrongSum = codes "stored CRC differs, in reading a whole entry"
refusal_text OutsideImage = codes "a seek lands below 0 or past the image size"
refusal_text OutOfRange = codes "an argument outside its range"
