pub mod Command
pub mod RunAnswers
pub mod RunFinished
pub mod RunReady
