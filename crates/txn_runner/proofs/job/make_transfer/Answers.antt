use Rattle.std.proofs.Common.{All}
use Rattle.txn_parts.specs.Desk.{books_at}
use Rattle.txn_parts.proofs.DeskLemmas.{WorksOn-accounts, WorksOn-trans}
use Rattle.txn_making.specs.Holdings.{IsKnown}
use Rattle.txn_runner.specs.Stages.{MayEndTransfer}
use Rattle.txn_runner.proofs.Composing.{IsKnown-paid, StopsFor-with_held}
use Rattle.txn_runner.proofs.StageLemmas.{Adds-holds_all, EndsTransfer-may_end, ReturnsAll-gives_all, GivesAll-lets_go, IsCutOff-has_cut_taken, IsRowOf-has_run_taken, HasCutTaken-waiting}
use Rattle.txn_runner.proofs.job.make_transfer.Goals as goal

pub insert_transfer-requires-clause-may : goal.insert_transfer-requires-clause-may
insert_transfer-requires-clause-may g c =
    let may = c.requires.may in record { holds = may.holds; unchanged = may.unchanged; begins = may.none; runs = c.requires.runs }

pub end_transfer-requires-clause-may : goal.end_transfer-requires-clause-may
end_transfer-requires-clause-may g c = WorksOn-accounts g.Q.Relief _ _ c.in-Ok.ensures.work
    (λ accounts. MayEndTransfer accounts c.in-Ok.ended c.insert_transfer.new.holdings.items (books_at c.insert_transfer.new.desk))
    (EndsTransfer-may_end _ _ _ _ _ _ _ c.requires.may c.in-Ok.ensures.taken _ c.in-Ok.ensures.ended)

pub give_unchanged-requires-clause-holds : goal.give_unchanged-requires-clause-holds
give_unchanged-requires-clause-holds g c = record {
  holds = Adds-holds_all _ _ _ _ _ _ _ c.requires.may c.in-Err.ensures.taken _ c.in-Err.ensures.added.1;
  known = WorksOn-accounts g.Q.Relief _ _ c.in-Err.ensures.work (λ accounts. All (IsKnown accounts) c.insert_transfer.new.holdings.items)
      (IsKnown-paid _ _ _ _ _ _ c.requires.may c.in-Err.ensures.taken);
}

pub give_unchanged-requires-clause-uncommitted : goal.give_unchanged-requires-clause-uncommitted
give_unchanged-requires-clause-uncommitted g c = c.in-Err.ensures.cut.uncommitted

pub returns-in-Ok-clause-made : goal.returns-in-Ok-clause-made
returns-in-Ok-clause-made g c =
    let ok = c.in-Ok.ensures in
    let end = c.end_transfer.ensures in record {
      let_go = GivesAll-lets_go _ _ _ c.args.wait _ _ _ _ _ c.requires.may ok.taken end.gives _ ok.ended.adds;
      run = IsRowOf-has_run_taken _ _ _ _ _ _ _ _ _ c.requires.may ok.taken end.gives _ ok.ended _ end.row;
      cut = HasCutTaken-waiting _ _ _ _ _ _ _ _ _ c.requires.may ok.taken end.gives _ ok.ended _ end.waits end.stopped;
    }

pub returns-in-Err-clause-made : goal.returns-in-Err-clause-made
returns-in-Err-clause-made g c =
    let err = c.in-Err.ensures in
    let gives = ReturnsAll-gives_all _ _ _ err.work.at_work.ready c.give_unchanged.ensures in record {
      let_go = GivesAll-lets_go _ _ _ c.args.wait _ _ _ _ _ c.requires.may err.taken gives _ err.added.1;
      run = tt;
      cut = IsCutOff-has_cut_taken _ _ _ _ _ _ _ _ _ c.requires.may err.taken gives _ _ err.added.1 err.cut
          (StopsFor-with_held _ _ _ _ _ _ c.give_unchanged.ensures err.cut.stops);
    }

pub returns-in-Ok-clause-work : goal.returns-in-Ok-clause-work
returns-in-Ok-clause-work g c =
    WorksOn-trans g.Q.Relief g.met.Q.Relief.later_trans _ _ _ c.in-Ok.ensures.work c.end_transfer.ensures.work
