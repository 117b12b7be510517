use Rattle.std.proofs.Common.{◌≡◌, ◌∷◌, ◌+◌, ℕ, Bool, take, reverse, ap, arith}
use Rattle.lock_core.proofs.OwnLemmas.{reverse-take_more}
use Rattle.lock_core.specs.Records.{gain, loss}
use Rattle.lock_core.specs.Transactions.{is_committed}
use Rattle.lock_core.specs.Sums.{moved_by}
use Rattle.ledger_view.proofs.plain.totals.Goals as goal

pub loop-entry-preserved : goal.loop-entry-preserved
loop-entry-preserved c =
    let entries = c.args.entries.now in let entry = c.entry-item.result in let account = c.args.account in
    let counts : ℕ → Bool = λ txn. is_committed txn (reverse entries) in
    let grown : reverse (take (c.loop-entry.entry-index + 1) entries) ≡ entry ∷ reverse (take c.loop-entry.entry-index entries)
    = reverse-take_more entries c.loop-entry.entry-index entry c.loop-entry-test.true c.entry-item.is in
    let gained = ap (moved_by counts gain account) grown in let lost = ap (moved_by counts loss account) grown in
    let more = c.committed_move-more.ensures.gain in let less = c.committed_move-more.ensures.loss in let most = c.committed_move-more.ensures.most in
    let was = c.loop-entry.invariant in
    record {
      gain = omega (arith, was.gain, more, gained);
      loss = omega (arith, was.loss, less, lost);
      most_added = omega (arith, was.most_added, most.0);
      most_taken = omega (arith, was.most_taken, most.1);
    }
