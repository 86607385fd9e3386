pub mod Copied
pub mod CountLaws
pub mod PieceLaws
pub mod RealLaws
pub mod ToldLaws
pub mod TryLaws
