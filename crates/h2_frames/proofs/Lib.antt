pub mod Settings
pub mod Numbers
pub mod FramesBack
pub mod ReadBack
pub mod ReadFits
pub mod Sequences
