use Rattle.std.proofs.Common.{arith, ap, ◌∙◌, ◌<◌}
use Rattle.log_rule.specs.declared.group_view.After.TheVariants.{Nothing}
use Rattle.log_rule.specs.MarkViews.{call_with_mark}
use Rattle.ring_buffer.proofs.Exposing.{next_raise-above}
use Rattle.table_tests.proofs.releasing_tests.raise_late.Goals as goal

pub load_mark-mark-requires-clause-next : goal.load_mark-mark-requires-clause-next
load_mark-mark-requires-clause-next c = record { after = Nothing; holding = c.requires.hand }

pub exchange_exposed-requires-clause-next : goal.exchange_exposed-requires-clause-next
exchange_exposed-requires-clause-next c = let above : c.args.at < c.load_mark-mark.result = grind arith steps 400000 in
    record {
      after = Nothing;
      raising = ap (λ me. me.0.call) c.load_mark-mark.ensures.view.me
          ∙ (ap (call_with_mark c.load_mark-mark.result) c.requires.hand ∙ next_raise-above c.args.at c.load_mark-mark.result Nothing above);
    }
