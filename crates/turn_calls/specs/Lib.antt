-- The calls from C for turns of a family, and histories of all calls on a family.
pub mod TurnCalls
pub mod CallRuns
