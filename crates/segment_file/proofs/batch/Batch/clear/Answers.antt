use Rattle.std.proofs.Common.{[], vec_capacity, arith}
use Rattle.segment_file.proofs.PackingLemmas.{state-changed_units, packed-clear, packed-units_in, units_in-packed}
use Rattle.segment_file.proofs.batch.Batch.clear.Goals as goal

pub invariant_of-self : goal.invariant_of-self
invariant_of-self c =
    packed-units_in _ _ _ _ (packed-clear _ _ _ _ c.self.invariant (vec_capacity c.truncate.new.self) c.truncate.new.self.items (omega (arith, c.truncate.ensures.capacity)) c.truncate.ensures.items)

pub returns : goal.returns
returns c =
    let cleared = packed-clear _ _ _ _ c.self.invariant (vec_capacity c.truncate.new.self) c.truncate.new.self.items
    (omega (arith, c.truncate.ensures.capacity)) c.truncate.ensures.items in
    state-changed_units (λ units. []) _ _ _ _ c.self.view_is (units_in-packed _ _ _ _ cleared)
