pub mod Clip
pub mod Box
pub mod BoxLemmas
pub mod ClipLemmas
