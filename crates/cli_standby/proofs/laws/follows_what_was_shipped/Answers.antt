use Rattle.cli_standby.proofs.ShippedLemmas.{follows-shipped}
use Rattle.cli_standby.proofs.laws.follows_what_was_shipped.Goals as goal

pub returns : goal.returns
returns c = follows-shipped
