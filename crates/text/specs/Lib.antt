-- The definitions, the laws about them, worked examples; last what only the code of `decimal` needs.
pub mod Text
pub mod TextLaws
pub mod TextExamples
pub mod Digits
