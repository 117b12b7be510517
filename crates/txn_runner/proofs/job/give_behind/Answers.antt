use Rattle.std.proofs.Common.{◌≡◌, ◌≤◌, true, All, arith, subst, sym}
use Rattle.std.proofs.lemmas.Grind.{common_steps}
use Rattle.lock_core.specs.History.{end_from}
use Rattle.lock_core.specs.Transactions.{recs_of, has_end}
use Rattle.log_rule.specs.declared.view.Books.{Books}
use Rattle.log_table.specs.Seats.{view_of}
use Rattle.txn_parts.proofs.DeskLemmas.{WorksOn-accounts}
use Rattle.txn_making.specs.Holdings.{HoldsAll, GoesBack, IsKnown}
use Rattle.txn_runner.proofs.StageLemmas.{ReturnsAll-gives_all, GivesAll-after_unchanged, HasSeen-given_back, StopsFor-given_back}
use Rattle.txn_runner.proofs.job.give_behind.Goals as goal

pub give_all-requires-clause-holds : goal.give_all-requires-clause-holds
give_all-requires-clause-holds g c =
    let seen = c.see_durable-seen.ensures in record {
      holds = subst (HoldsAll c.args.holdings.now.items) (sym seen.kept.books_are) c.requires.may.all;
      known = WorksOn-accounts g.Q.Relief _ _ seen.work (λ accounts. All (IsKnown accounts) c.args.holdings.now.items) c.requires.may.known;
    }

pub give_all-requires-clause-values : goal.give_all-requires-clause-values
give_all-requires-clause-values g c =
    let paid = c.args.holdings.now.items in
    subst (λ (books : Books). All (GoesBack c.release.result books) paid) (sym c.see_durable-seen.ensures.kept.books_are)
    (subst (λ release. All (GoesBack release (view_of c.args.desk.now.seat.now).books) paid) (sym c.release.ensures) c.requires.may.values)

pub give_all-requires-clause-durable : goal.give_all-requires-clause-durable
give_all-requires-clause-durable g c = λ on.
    let kept = c.see_durable-seen.ensures.kept in
    record {
      ended = subst (λ (books : Books). has_end (recs_of books.placed) ≡ true) (sym kept.books_are) c.requires.may.has_ended;
      durable = subst (λ (books : Books). end_from 0 books.placed ≤ (view_of c.see_durable-seen.new.desk.seat.now).seen.durable) (sym kept.books_are)
          (subst (λ end. end ≤ (view_of c.see_durable-seen.new.desk.seat.now).seen.durable) (sym c.requires.may.is_last)
          (grind (arith, common_steps)));
    }

pub returns-clause-gives : goal.returns-clause-gives
returns-clause-gives g c =
    let seen = c.see_durable-seen.ensures in
    GivesAll-after_unchanged c.args.holdings.now.items c.args.desk.now.seat.now c.see_durable-seen.new.desk.seat.now c.give_all.new.seat seen.kept
    (ReturnsAll-gives_all c.args.holdings.now.items c.see_durable-seen.new.desk.seat.now c.give_all.new.seat seen.work.at_work.ready c.give_all.ensures)

pub returns-clause-seen : goal.returns-clause-seen
returns-clause-seen g c = HasSeen-given_back c.args.wait c.args.ended.now.end c.args.holdings.now.items c.see_durable-seen.new.desk.seat.now
    c.give_all.new.seat c.give_all.ensures c.see_durable-seen.result c.see_durable-seen.ensures.seen

pub returns-clause-stopped : goal.returns-clause-stopped
returns-clause-stopped g c = StopsFor-given_back c.args.wait c.args.ended.now.end c.args.holdings.now.items c.see_durable-seen.new.desk.seat.now
    c.give_all.new.seat c.give_all.ensures c.see_durable-seen.result c.see_durable-seen.ensures.stopped
