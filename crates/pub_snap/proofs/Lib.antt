pub mod Listings
pub mod Seeing
