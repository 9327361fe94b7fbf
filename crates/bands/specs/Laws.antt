-- What the trait's laws rest on: an engine card's bands are a lawful graph, and every drive follows it.
pub mod Squares
pub mod Rules
pub mod Ends
pub mod Costs
pub mod Leaving
pub mod Lawful
pub mod Ready
pub mod TurnsArith
pub mod TurnsSpeeds
pub mod Turns
pub mod Drives
