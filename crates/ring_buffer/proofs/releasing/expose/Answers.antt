use Rattle.ring_buffer.proofs.Exposing.{Exposes-looked}
use Rattle.ring_buffer.proofs.releasing.expose.Goals as goal

pub raises-init : goal.raises-init
raises-init c =
    Exposes-looked c.args.seat.now c.load_exposed-at.new.seat c.load_exposed-at.result c.load_exposed-at.ensures.view c.requires.marked c.load_exposed-at.ensures.grows
