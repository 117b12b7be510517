use Rattle.lock_core.proofs.SoundLemmas.{lawful_after-sound_after}
use Rattle.lock_core.proofs.laws.sound_after.Goals as goal

pub returns : goal.returns
returns c = lawful_after-sound_after
