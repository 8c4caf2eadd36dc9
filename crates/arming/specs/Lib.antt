pub mod Signed
pub mod Arm
