pub mod Header
pub mod Object
pub mod Form
