pub mod NewPasses
