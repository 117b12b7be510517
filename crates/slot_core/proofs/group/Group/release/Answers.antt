use Rattle.std.proofs.Common.{◌≡◌, sym, ap, ◌∙◌}
use Rattle.std.specs.List.{position}
use Rattle.ring_core.proofs.LookupLemmas.{position-none}
use Rattle.slot_core.specs.State.{Group, group}
use Rattle.slot_core.specs.Members.{is_of}
use Rattle.slot_core.specs.declared.group.Group.TheInside.{Inside}
use Rattle.slot_core.proofs.RowLemmas.{without-at, without-absent}
use Rattle.slot_core.proofs.group.Group.release.Goals as goal
use Rattle.slot_core.proofs.group.Group.release.Goals.{in-Some, in_default}

pub returns : goal.returns
returns c =
    let members : position (is_of c.args.actor) c.self.inside.members.items ≡ c.index_of.result = ap (position (is_of c.args.actor)) (sym c.deref.ensures.value) ∙ sym c.index_of.ensures in
    let now = ap (λ (g : Group). group (Rattle.slot_core.specs.State.without c.args.actor g.members) c.args.phase) c.self.view_is in
    elim c.match-index_of.branch [
      | in-Some w ↦ ap (λ ms. group ms c.args.phase) (ap (λ (g : Inside). g.members.items) w.self-inside-is ∙ w.remove.ensures.items
          ∙ sym (without-at c.args.actor c.self.inside.members.items w.in-Some.at w.remove.result (members ∙ w.in-Some.is))) ∙ now
      | in_default w ↦ ap (λ ms. group ms c.args.phase) (ap (λ (g : Inside). g.members.items) w.self-inside-is
          ∙ sym (without-absent c.args.actor c.self.inside.members.items (position-none _ _ (members ∙ w.in_default.is)))) ∙ now
    ]
