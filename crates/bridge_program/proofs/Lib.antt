pub mod BridgeLemmas
pub mod SpelledBridge
