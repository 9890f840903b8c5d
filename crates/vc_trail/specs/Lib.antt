pub mod Trail
pub mod Laws
