-- What the proofs of functions cite.
pub mod Sames
pub mod Places
pub mod Numbers
pub mod Pairs
pub mod Ranges
