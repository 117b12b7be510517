use Rattle.std.proofs.Common.{◌<◌, length, sym, subst, arith}
use Rattle.txn_parts.specs.Leg.{CanBear, IsAfter}
use Rattle.txn_parts.proofs.Moving.{get_or-unchanged, AllZip-set_next, drop-behind_set}
use Rattle.txn_parts.proofs.leg.move_amount.Goals as goal

pub bear-requires : goal.bear-requires
bear-requires c =
    let within : c.holdings.holding-index < length c.holdings.holdings = omega arith in
    subst (CanBear c.args.leg) (sym (get_or-unchanged (IsAfter c.args.leg) _ _ _ within c.holdings.invariant.behind c.holding-item.result))
    (c.requires _ _ c.holdings-test.true)

pub holdings-preserved : goal.holdings-preserved
holdings-preserved c =
    let within : c.holdings.holding-index < length c.holdings.holdings = omega arith in
    let i = c.holdings.invariant in record {
      before = AllZip-set_next (IsAfter c.args.leg) _ _ _ within i.behind _ _ c.bear.ensures i.before;
      behind = drop-behind_set (IsAfter c.args.leg) _ _ _ within i.behind _;
    }
