use Rattle.std.proofs.Common.{[], ◌∷◌, ◌++◌, vec_capacity, arith}
use Rattle.segment_file.proofs.PackingLemmas.{state-changed_units, length-packed, state-units_below_room, packed-push, packed-units_in, units_in-packed}
use Rattle.segment_file.proofs.batch.Batch.push.Goals as goal

pub put_unit-requires : goal.put_unit-requires
put_unit-requires c =
    omega (arith, length-packed _ _ _ _ c.self.invariant, state-units_below_room _ _ _ c.self.view_is c.requires, c.self.invariant.fits)

pub invariant_of-self : goal.invariant_of-self
invariant_of-self c =
    packed-units_in _ _ _ _ (packed-push _ _ _ _ c.self.invariant c.args.unit (vec_capacity c.put_unit.new.bytes) c.put_unit.new.bytes.items (omega arith)
    (state-units_below_room _ _ _ c.self.view_is c.requires) c.put_unit.ensures.capacity c.put_unit.ensures.bytes)

pub returns : goal.returns
returns c =
    let pushed = packed-push _ _ _ _ c.self.invariant c.args.unit (vec_capacity c.put_unit.new.bytes) c.put_unit.new.bytes.items
    (omega arith) (state-units_below_room _ _ _ c.self.view_is c.requires) c.put_unit.ensures.capacity c.put_unit.ensures.bytes in
    state-changed_units (λ units. units ++ c.args.unit ∷ []) _ _ _ _ c.self.view_is (units_in-packed _ _ _ _ pushed)
