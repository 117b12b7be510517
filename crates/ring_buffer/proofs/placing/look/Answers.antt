use Rattle.std.proofs.Common.{rules, ap, ◌∙◌}
use Rattle.log_rule.specs.Views.{saw_durable}
use Rattle.ring_buffer.proofs.placing.look.Goals as goal

pub returns-clause-becomes : goal.returns-clause-becomes
returns-clause-becomes c =
    let tail = c.load_tail-tail.ensures.view in
    let durable = c.load_durable-durable.ensures.view in record {
      table_is = durable.table_is ∙ tail.table_is;
      number = durable.number ∙ tail.number;
      me = durable.me ∙ ap (λ me. (saw_durable c.load_durable-durable.result me.0, me.1)) tail.me;
      worker = durable.worker ∙ tail.worker;
    }

pub returns-clause-last : goal.returns-clause-last
returns-clause-last c = search rules steps 400000
