pub mod Made
pub mod CCalls
pub mod HostClaim
pub mod Seen
pub mod Host
pub mod LastCall
