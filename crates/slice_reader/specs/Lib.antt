pub mod Left
pub mod Given
