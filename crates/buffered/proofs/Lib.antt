-- That a write appends its bytes; then signed numbers, their distance from 0 and from -1.
pub mod WrittenReads
pub mod Signed
pub mod Zeros
