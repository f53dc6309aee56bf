pub mod FirstWord
pub mod Numbers
pub mod Pieces
pub mod ReadsBack
