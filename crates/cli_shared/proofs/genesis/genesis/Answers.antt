use Rattle.std.proofs.Common.{◌∙◌, ◌*◌, ap, sym, length, arith, ◌++◌}
use Rattle.log_record.specs.Spelling.{spelling}
use Rattle.log_record.specs.declared.rec.Rec.TheVariants.{Genesis}
use Rattle.cli_shared.proofs.GenesisLemmas.{units_of-row_more, end_of-rows_below}
use Rattle.cli_shared.proofs.genesis.genesis.Goals as goal

pub push_genesis-requires-clause-room : goal.push_genesis-requires-clause-room
push_genesis-requires-clause-room c =
    let counted = ap length c.accounts.invariant.spelled ∙ end_of-rows_below c.accounts.account c.args.balances.now.rows (omega arith) in
    omega (arith, counted, c.accounts.invariant.room)

pub accounts-preserved : goal.accounts-preserved
accounts-preserved c =
    let row = c.at-balance.result in
    let pushed = ap (λ b. b.units) c.push_genesis.ensures in
    let before = ap (λ units. units ++ spelling (Genesis c.accounts.account row.0)) c.accounts.invariant.spelled in
    record {
      spelled = pushed ∙ before ∙ sym (units_of-row_more c.args.balances.now.rows c.accounts.account row c.at-balance.ensures);
      room = ap (λ b. b.room) c.push_genesis.ensures ∙ c.accounts.invariant.room;
    }

pub accounts-init : goal.accounts-init
accounts-init c = record {
  spelled = c.in_ok-batch.ensures.0;
  room = c.in_ok-batch.ensures.1 ∙ ap (λ count. 2 * count) c.count.ensures;
}
