pub mod HostLineLemmas
pub mod KnownLemmas
pub mod LineEndLemmas
pub mod LineLemmas
pub mod LineRunLemmas
pub mod RunLaws
pub mod ToldActs
mod Words
mod Rows
mod LineExamples
mod ScriptWords
mod WorkedHeads
mod WorkedTransactions
mod WorkedReplication
mod WorkedCollection
mod WorkedAlone
mod WorkedLives
pub mod ActLemmas
pub mod CutLemmas
pub mod ActReading
pub mod Sequence
pub mod AnswersTo
pub mod Fronts
pub mod SoloLines
pub mod GoodFronts
mod MachineLemmas
pub mod ApartTenants
pub mod NamedSlots
pub mod HeadRuns
pub mod BodyRuns
pub mod SoloMachine
pub mod SoloLemmas
pub mod WholeHeads
pub mod ScriptLemmas
pub mod TenantConfigs
pub mod BegunSetups
pub mod MainLemmas
pub mod LoneHeads
pub mod SilentMachine
pub mod SilentRuns
pub mod OpenSets
pub mod Numbered
pub mod LifeRuns
pub mod SaidLines
pub mod LifeLines
pub mod LifeAnswers
pub mod ScriptHeadLemmas
pub mod Meanings
pub mod SparedAnswers
pub mod Turning
pub mod WorkedTurns
