use Rattle.std.proofs.Common.{rules, ◌≡◌, ◌∷◌, []}
use Rattle.memory_disk.specs.History.Event.{Synced}
use Rattle.memory_disk.specs.MemoryDisks.{recorded}
use Rattle.memory_disk.proofs.Recorded.{IsRecord-sync, recorded-sync, state-push_event}
use Rattle.memory_disk.proofs.memory_disk.MemoryDisk.keep_sync.Goals as goal

pub invariant_of-self : goal.invariant_of-self
invariant_of-self c =
    let was = c.self.invariant in
    (IsRecord-sync _ _ _ _ _ _ _ was.0 c.push_reserved.ensures.items (search rules), search rules, search rules, search rules, search rules, search rules)

pub returns : goal.returns
returns c =
    let history : recorded c.push_reserved.new.self.items c.self.inside.log.items [] ≡ Synced ∷ recorded c.self.inside.steps.items c.self.inside.log.items []
    = rw c.push_reserved.ensures.items (recorded-sync c.self.inside.steps.items c.self.inside.log.items []) in
    state-push_event _ _ _ _ 16 _ c.self.view_is history
