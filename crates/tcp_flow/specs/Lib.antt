pub mod Flow
pub mod Laws
pub mod Order
pub mod State
