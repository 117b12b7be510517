-- What a run stands for.
use Rattle.ring_core.specs.State.{RingState, state}
use Rattle.ring_core.specs.declared.run.RingRun.TheInside.{Inside}

-- the machine's state
abbrev pub state_of : Inside → RingState
state_of run = state run.log run.hands.items
