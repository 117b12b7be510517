use Rattle.slot_rig.proofs.Leads.{tells_granted-may_publish, published_granted-waits}
use Rattle.slot_rig.proofs.leading.tell.Goals as goal

pub publish-requires-clause-next : goal.publish-requires-clause-next
publish-requires-clause-next c =
    tells_granted-may_publish c.args.table.now c.args.share.now c.args.range.now.total c.args.range.now.base c.args.seat.now c.args.seat.now c.published-told.result
    c.published-told.ensures.phase c.published-told.ensures.total c.published-told.ensures.remaining c.requires.stored

pub returns : goal.returns
returns c = record {
  told =
      published_granted-waits c.args.table.now c.args.share.now c.args.range.now.total c.args.range.now.base c.args.seat.now c.publish.new.seat c.requires.stored
      c.publish.ensures.view;
}
