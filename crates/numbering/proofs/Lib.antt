pub mod TurnByTurn
pub mod AllLines
