-- Calls of the system that are made again.
use Rattle.std.specs.Prelude.{◌≢◌}
use Rattle.std.specs.IoError.{error_kind}
use Rattle.std.specs.declared.io.Error.{Error}
use Rattle.std.specs.declared.io.ErrorKind.TheVariants.{Interrupted}

-- the error isn't that of a call that a signal interrupted
abbrev pub WasNotInterrupted : Error → Type 0
WasNotInterrupted error = error_kind error ≢ Interrupted
