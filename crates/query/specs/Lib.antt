pub mod Cast
pub mod FirstHit
