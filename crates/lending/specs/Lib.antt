pub mod Lending
pub mod FirstTests
