pub mod Pool
pub mod Cache
pub mod Stored
pub mod CacheLaws
pub mod PoolLaws
pub mod WalkLaws
pub mod PushLaws
