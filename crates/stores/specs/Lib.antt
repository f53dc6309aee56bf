pub mod Store
pub mod Kinds
pub mod Table
pub mod Few
pub mod TableLemmas
pub mod Counts
pub mod Setting
