use Rattle.standby.proofs.NeverAhead.{followed-front}
use Rattle.standby.proofs.laws.never_ahead.Goals as goal

pub returns : goal.returns
returns c = λ list before later log fed more bytes held whole shipped holds.
    followed-front list before later log fed more held whole shipped bytes holds
