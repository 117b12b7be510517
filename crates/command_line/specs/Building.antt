-- What the builders of the program's command say of what they build.
use Rattle.std.specs.Prelude.{◌≡◌, Result, IfOk, false}
use Rattle.clap.specs.Words.{App, app_of}
use Rattle.clap.specs.declared.builder.command.Command.{Command}
use Rattle.clap.specs.declared.builder.command.Command.TheViews.{out-Command}

-- where there was memory, this command was built, and none of its arguments stands in its subcommands too
abbrev pub Builds : {E : Type 0} → Result Command E → App → Type 0
Builds result app = IfOk result (λ r. (app_of r ≡ app) × ((out-Command r).has_globals ≡ false))
