mod Asking
mod Callers
mod Giving
mod Lasts
mod Standing
