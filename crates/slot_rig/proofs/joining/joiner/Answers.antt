use Rattle.std.proofs.Common.{rules, ap}
use Rattle.log_rule.specs.declared.view.View.{View}
use Rattle.slot_rig.proofs.joining.joiner.Goals as goal

pub returns-clause-joiner : goal.returns-clause-joiner
returns-clause-joiner c = record {
  inserts = search rules;
  numbered = ap (λ (v : View). v.standing.worker) c.hire.ensures.view;
  no_entry = ap (λ (v : View). v.entries) c.hire.ensures.view;
}
