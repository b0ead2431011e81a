-- The format, then the laws of its lengths; refusals, then the laws of their numbers; positions, then theirs; last, which entries may be written.
pub mod Format
pub mod FormatLaws
pub mod Refusal
pub mod RefusalText
pub mod RefusalLaws
pub mod Position
pub mod PositionLaws
pub mod Writable
