pub mod CommitCases
