-- The sum: first what is to be believed of it, then its laws, then those that `laws` promises.
pub mod Crc
pub mod CrcLaws
pub mod Laws
