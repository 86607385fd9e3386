pub mod Boxes
pub mod AllMail
