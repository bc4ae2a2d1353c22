pub mod Requests
pub mod Missing
pub mod Splitting
pub mod Laws
