pub mod Base128
pub mod Bits
pub mod ByteString
pub mod Laws
