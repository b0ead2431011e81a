-- In order: answers as words; a writer's words and calls, its opening, positions; a reader's words and calls; what openings leave; the laws that `laws`
-- promises; wrong answers.
pub mod Words
pub mod WriterWords
pub mod WriterWordsLaws
pub mod Steps
pub mod Crossing
pub mod WriterSteps
pub mod CrossingLaws
pub mod CarryLaws
pub mod WriterPromises
pub mod OpeningCrossing
pub mod Positions
pub mod WriterPromisesLaws
pub mod ReaderWords
pub mod ReaderWordsLaws
pub mod ReaderCrossing
pub mod ReaderSteps
pub mod ReaderCarryLaws
pub mod ReaderPromises
pub mod ReaderCrossingLaws
pub mod ReaderPromisesLaws
pub mod OpeningLaws
pub mod Laws
pub mod WrongAnswers
pub mod WriterWrongAnswers
pub mod ReaderWrongAnswers
