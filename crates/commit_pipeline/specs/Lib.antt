pub mod Later
pub mod MadeDaemon
pub mod Told
pub mod Turning
pub use Rattle.end_lines.specs.EndLines
pub use Rattle.end_lines.specs.Telling
pub use Rattle.daemon_turn.specs.StopWord
