-- In order: that cuts and staging do not show, of any program and of the code; wrong programs; cases; entries committed, and back from bytes; last, what
-- `laws` promises. That in ours they do not show, and what rests on that, is in proofs/CutsDoNotShowHolds.
pub mod Stories
pub mod CutsDoNotShow
pub mod StoriesLaws
pub mod CodeRuns
pub mod TwoRuns
pub mod WrongPrograms
pub mod WrongProgramsFall
pub mod NumbersOnly
pub mod WrongProgramsAgree
pub mod Cases
pub mod CasesHold
pub mod Committed
pub mod CommittedLaws
pub mod PlainReads
pub mod BackFromBytes
pub mod Laws
