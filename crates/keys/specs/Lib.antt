pub mod Keys
pub mod Order
