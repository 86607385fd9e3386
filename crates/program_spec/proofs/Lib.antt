pub mod OnePath
