-- What every other crate stands on: bytes stored, numbers as bytes, answers and refusals; then laws of choices and of first parts; then reading from a place on.
pub mod Lay
pub mod LayLaws
pub mod Numbers
pub mod NumbersLaws
pub mod Answers
pub mod AnswersLaws
pub mod ChoiceLaws
pub mod TakeLaws
pub mod Stream
pub mod Walk
pub mod All
