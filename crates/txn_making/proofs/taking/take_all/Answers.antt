use Rattle.std.proofs.Common.{◌<◌, ◌∷◌, ◌++◌, [], get_or, take, All, ap, sym, refl, ◌∙◌}
use Rattle.lock_core.specs.Transactions.{recs_of, has_commit}
use Rattle.log_rule.specs.declared.view.Books.{Books}
use Rattle.log_rule.proofs.AccountSteps.{only_note-uncommitted}
use Rattle.std.proofs.lemmas.List.{take_more}
use Rattle.std.proofs.lemmas.List.Elements.{All-take}
use Rattle.txn_parts.specs.Desk.{accounts_at}
use Rattle.txn_parts.proofs.DeskLemmas.{WorksOn-accounts, WorksOn-trans}
use Rattle.txn_making.specs.Holdings.{IsKnown}
use Rattle.txn_making.proofs.Gaining.{IsKnown-all, next-ascends, TakesAll-holds_all, TakesAll-push}
use Rattle.txn_making.proofs.Held.{KeepsGiven-with_held}
use Rattle.txn_jobs.proofs.Listing.{rising-take}
use Rattle.txn_making.proofs.GivenLemmas.{KeepsGiven-same, KeepsGiven-trans}
use Rattle.txn_making.proofs.taking.take_all.Goals as goal

pub take_one-requires-clause-ascends : goal.take_one-requires-clause-ascends
take_one-requires-clause-ascends g c =
    next-ascends _ _ _ _ _ c.accounts.invariant.1 c.requires.accounts.rising c.accounts-test.true

pub take_one-requires-clause-known : goal.take_one-requires-clause-known
take_one-requires-clause-known g c = WorksOn-accounts g.Q.Relief _ _ c.accounts.invariant.0
    (λ accounts. get_or c.args.accounts.now c.accounts.account-index 0 < accounts)
    (c.requires.accounts.known c.accounts.account-index 0 c.accounts-test.true)

pub give_unchanged-requires-clause-holds : goal.give_unchanged-requires-clause-holds
give_unchanged-requires-clause-holds g c = record {
  holds = TakesAll-holds_all _ _ _ _ _ c.accounts.invariant.1 (rising-take _ _ c.requires.accounts.rising) c.in-Err.ensures.kept;
  known = WorksOn-accounts g.Q.Relief _ _
      (WorksOn-trans g.Q.Relief g.met.Q.Relief.later_trans _ _ _ c.accounts.invariant.0 c.take_one.ensures.work)
      (λ accounts. All (IsKnown accounts) c.accounts.holdings.items)
      (IsKnown-all _ _ _ c.accounts.invariant.1.accounts_are
      (All-take (λ account. account < accounts_at c.args.desk.now) _ _ c.requires.accounts.known));
}

pub give_unchanged-requires-clause-uncommitted : goal.give_unchanged-requires-clause-uncommitted
give_unchanged-requires-clause-uncommitted g c =
    ap (λ (books : Books). has_commit (recs_of books.placed)) (c.in-Err.ensures.kept.books_are ∙ c.accounts.invariant.1.entries.books_are)
    ∙ only_note-uncommitted _ c.requires.may.begins.only_note

pub returns-in-Err-clause-given : goal.returns-in-Err-clause-given
returns-in-Err-clause-given g c = KeepsGiven-trans _ _ _
    (KeepsGiven-same _ _ (ap (λ (books : Books). books.given) (c.in-Err.ensures.kept.books_are ∙ c.accounts.invariant.1.entries.books_are)))
    (KeepsGiven-with_held _ _ _ _ c.give_unchanged.ensures)

pub accounts-preserved : goal.accounts-preserved
accounts-preserved g c = (
  WorksOn-trans g.Q.Relief g.met.Q.Relief.later_trans _ _ _ c.accounts.invariant.0 c.take_one.ensures.work,
  TakesAll-push _ _ _ _ _ c.accounts.invariant.1 c.requires.work.ready.rests.whole _ _ _ c.push.ensures.items
      (take_more c.args.accounts.now c.accounts.account-index 0 c.accounts-test.true
      ∙ (λ i. take c.accounts.account-index c.args.accounts.now ++ sym c.in-Ok.ensures.taken.account_is i ∷ []))
      refl c.in-Ok.ensures.taken.entries c.in-Ok.ensures.runs,
)
