-- Open, Step, runs and the account of a run, and two runs side by side; their laws and the theorems are in proofs/.
pub mod Open
pub mod Step
pub mod Former
pub mod Run
pub mod Account
pub mod BookRun
pub mod Region
pub mod Example
