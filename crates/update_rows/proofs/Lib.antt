pub mod ValidNothing
