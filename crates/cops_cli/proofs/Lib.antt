mod CommandLineFacts
mod Endings
mod PlainWords
pub mod HostInputFacts
pub mod ServingFacts
pub mod LivingFacts
