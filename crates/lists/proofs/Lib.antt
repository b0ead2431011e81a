-- What a copy into a part of a buffer leaves; a number read at a place; then numbers as std has them.
pub mod Laid
pub mod Turns
pub mod NumbersRead
pub mod Numbers
