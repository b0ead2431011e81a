-- Two halves stored, as one; then bytes that document 01 prints, computed.
pub mod Returns
pub mod Examples
