pub mod Wake
