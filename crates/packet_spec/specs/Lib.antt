pub mod Choosing
pub mod Laws
pub mod Meaning
pub mod Programs
pub mod Walking
pub mod Worked
