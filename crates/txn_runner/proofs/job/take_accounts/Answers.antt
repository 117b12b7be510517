use Rattle.std.proofs.Common.{rules, ◌<◌, [], All, OnOk, sym, subst, ◌∙◌}
use Rattle.std.specs.List.Sorted.{IsStrictlyIncreasing}
use Rattle.std.proofs.lemmas.Result.{on_ok_weaker, err_from_is_err_and}
use Rattle.txn_parts.specs.Desk.{view_at, accounts_at}
use Rattle.txn_parts.proofs.DeskLemmas.{WorksOn-accounts, WorksOn-trans}
use Rattle.txn_making.specs.Inserts.{StopsFor}
use Rattle.txn_runner.specs.Stages.{TakesAccounts}
use Rattle.txn_runner.proofs.Composing.{IsAccountOf-below}
use Rattle.txn_runner.proofs.StageLemmas.{begins-nothing, StopsFor-has_cut_taken, KeepsBooks-lets_go, KeepsBooks-cut_early, takes-accounts}
use Rattle.txn_runner.proofs.job.take_accounts.Goals as goal

pub take_all-requires-clause-may : goal.take_all-requires-clause-may
take_all-requires-clause-may g c = record {
  begins = begins-nothing _ _ _ c.args.desk.now.seat.now c.requires.begun.next;
  runs = c.requires.begun.stop_is ∙ c.in_ok-unless_stopped.ensures.runs;
  none_held = c.requires.begun.next.none_held;
}

pub take_all-requires-clause-accounts : goal.take_all-requires-clause-accounts
take_all-requires-clause-accounts g c =
    let list = c.list_accounts.ensures in
    let same = c.as_slice.ensures.value in record {
      rising = subst IsStrictlyIncreasing (sym same) list.rising;
      known = subst (All (λ account. account < accounts_at c.args.desk.now)) (sym same)
          (IsAccountOf-below _ _ _ c.requires.begun.next.allowed.job.legs.each list.only);
      few = search rules;
    }

pub returns-in_err-unless_stopped-clause-cut : goal.returns-in_err-unless_stopped-clause-cut
returns-in_err-unless_stopped-clause-cut g c =
    let failed = err_from_is_err_and c.from_residual.result c.from_residual.ensures.1 in
    let stopped = c.in_err-unless_stopped.ensures.stopped in
    rw (failed.1, failed.2) (StopsFor-has_cut_taken _ _ _ c.args.desk.now.seat.now c.requires.begun.next _
    (subst (λ cause. StopsFor cause [] (view_at c.args.desk.now)) (sym stopped.0) (stopped.1, c.requires.begun.stop_is)))

pub returns-clause-taken : goal.returns-clause-taken
returns-clause-taken g c =
    WorksOn-accounts g.Q.Relief _ _ c.take_all.ensures.work
    (λ accounts. OnOk c.take_all.result (TakesAccounts accounts c.args.numbered.now.number c.args.numbered.now.job
    c.take_all.new.holdings.items c.args.desk.now.seat.now c.take_all.new.desk.seat.now))
    (on_ok_weaker c.take_all.result (λ takes. takes-accounts _ _ _ c.args.desk.now.seat.now c.requires.begun.next _ _ _ _
    c.as_slice.ensures.value c.list_accounts.ensures.rising c.list_accounts.ensures.only c.list_accounts.ensures.all takes)
    c.take_all.ensures.taken)

pub returns-clause-let_go : goal.returns-clause-let_go
returns-clause-let_go g c = KeepsBooks-lets_go _ _ _ c.args.desk.now.seat.now c.requires.begun.next c.take_all.new.desk.seat.now
    c.take_all.result c.take_all.ensures.kept c.take_all.ensures.given

pub returns-clause-cut : goal.returns-clause-cut
returns-clause-cut g c = KeepsBooks-cut_early _ _ _ c.args.desk.now.seat.now c.requires.begun.next c.take_all.new.desk.seat.now
    c.take_all.result c.take_all.ensures.kept c.take_all.ensures.stopped

pub returns-clause-work : goal.returns-clause-work
returns-clause-work g c = WorksOn-trans g.Q.Relief g.met.Q.Relief.later_trans _ _ _ (search rules) c.take_all.ensures.work
