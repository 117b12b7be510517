use Rattle.std.proofs.Common.{rules, ◌≡◌, if◌then◌else◌, ◌∷◌, [], ◌++◌, length, ◌+◌}
use Rattle.memory_disk.specs.History.Event.{Wrote}
use Rattle.memory_disk.specs.MemoryDisks.{recorded}
use Rattle.memory_disk.proofs.Recorded.{IsRecord-write, recorded-write, state-push_event}
use Rattle.memory_disk.proofs.memory_disk.MemoryDisk.keep_write.Goals as goal

pub invariant_of-self : goal.invariant_of-self
invariant_of-self c =
    let was = c.self.invariant in
    let log_is : c.extend_from_slice.new.self.items ≡ c.self.inside.log.items ++ c.args.bytes.now = search rules in (
      IsRecord-write _ _ _ _ _ _ _ was.0 c.args.at c.args.bytes.now _ _ _ c.push_reserved.ensures.items log_is c.place.ensures.put (search rules)
          (search rules),
      search rules,
      search rules,
      search rules,
      search rules,
      search rules,
    )

pub returns : goal.returns
returns c =
    let log_is : c.extend_from_slice.new.self.items ≡ c.self.inside.log.items ++ c.args.bytes.now = search rules in
    let history : recorded c.push_reserved.new.self.items c.extend_from_slice.new.self.items [] ≡ Wrote c.args.at c.args.bytes.now ∷ recorded c.self.inside.steps.items c.self.inside.log.items []
    = rw (c.push_reserved.ensures.items, log_is) (recorded-write c.self.inside.steps.items c.self.inside.log.items c.args.bytes.now c.args.at [] c.self.invariant.0.whole) in
    let counted : c.from.result ≡ (if c.args.succeeds then 1 else 0) = search rules in
    rw counted (state-push_event _ _ _ _ (16 + length c.args.bytes.now) _ c.self.view_is history)
