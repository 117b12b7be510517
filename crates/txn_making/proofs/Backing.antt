-- The values with which accounts go back.
use Rattle.std.proofs.Common.{◌≡◌, ◌&&◌, ◌+◌, cond, false, List, get_or, All, sym, ◌∙◌}
use Rattle.lock_core.specs.declared.update.Change.{Change}
use Rattle.lock_core.specs.History.{end_from}
use Rattle.lock_core.specs.Records.{gain, loss}
use Rattle.lock_core.specs.Sums.{moved}
use Rattle.lock_core.specs.Transactions.{recs_of, changes_in, has_commit, touches}
use Rattle.log_rule.specs.declared.view.Books.{Books}
use Rattle.txn_parts.specs.declared.release.Release.TheVariants.{Unchanged}
use Rattle.txn_parts.specs.declared.taken_account.TakenAccount.{TakenAccount}
use Rattle.txn_making.specs.Holdings.{GoesBack}

-- where there is no Commit, accounts go back as they were taken
back-unchanged : (books : Books) → has_commit (recs_of books.placed) ≡ false → (holding : TakenAccount) → GoesBack Unchanged books holding
back-unchanged books none holding = record {
  balance_is = λ i. holding.taken.balance + both i;
  last_commit_is = λ i. cond (sym none i && touches holding.taken.account changes) (end_from 0 books.placed) holding.taken.mark;
}
  where
    changes : List Change
    changes = changes_in (recs_of books.placed)

    both : cond (has_commit (recs_of books.placed)) (moved loss holding.taken.account changes) 0
        ≡ cond (has_commit (recs_of books.placed)) (moved gain holding.taken.account changes) 0
    both = (λ i. cond (none i) (moved loss holding.taken.account changes) 0)
        ∙ (λ i. cond (sym none i) (moved gain holding.taken.account changes) 0)

pub GoesBack-unchanged : (books : Books) → has_commit (recs_of books.placed) ≡ false → (holdings : List TakenAccount)
    → All (GoesBack Unchanged books) holdings
GoesBack-unchanged books none holdings k d within = back-unchanged books none (get_or holdings k d)
