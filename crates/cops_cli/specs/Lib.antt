pub mod Causes
pub mod CommandLine
pub mod Commands
pub mod Faults
pub mod HostInput
pub mod Program
pub mod Statuses
