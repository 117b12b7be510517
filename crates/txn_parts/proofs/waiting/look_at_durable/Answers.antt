use Rattle.std.proofs.Common.{◌<◌, ap, subst, sym}
use Rattle.txn_parts.proofs.waiting.look_at_durable.Goals as goal

pub returns-then-is_seen-clause-seen : goal.returns-then-is_seen-clause-seen
returns-then-is_seen-clause-seen c = record {
  durable = sym (ap (λ m. m.0.seen.durable) c.load_durable-seen.ensures.view.me);
  waited = c.is_seen.ensures.seen c.if-is_seen.true;
}

pub returns-clause-waits : goal.returns-clause-waits
returns-clause-waits c = let waits = c.is_seen.ensures.waits c.if-is_seen.false in
    (waits.0, subst (λ durable. durable < c.args.end) (sym (ap (λ m. m.0.seen.durable) c.load_durable-seen.ensures.view.me)) waits.1)
