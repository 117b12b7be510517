use Rattle.std.proofs.Common.{◌≡◌, ◌∷◌, ◌+◌, ◌∙◌, ◌||◌, List, take, reverse, ap, sym}
use Rattle.log_record.specs.declared.rec.Placed.{Placed}
use Rattle.lock_core.proofs.OwnLemmas.{reverse-take_more}
use Rattle.lock_core.specs.Transactions.{is_committed}
use Rattle.ledger_view.proofs.PlainLemmas.{committed-more}
use Rattle.ledger_view.proofs.plain.is_committed.Goals as goal
use Rattle.ledger_view.proofs.plain.is_committed.Goals.{then-is_commit_of, else-is_commit_of}

pub loop-entry-preserved : goal.loop-entry-preserved
loop-entry-preserved c =
    let entries = c.args.entries.now in let entry = c.entry-item.result in let txn = c.args.txn in
    let h : List Placed = reverse (take c.loop-entry.entry-index entries) in
    let grown : reverse (take (c.loop-entry.entry-index + 1) entries) ≡ entry ∷ h
    = reverse-take_more entries c.loop-entry.entry-index entry c.loop-entry-test.true c.entry-item.is in
    let more = ap (λ (l : List Placed). is_committed txn l) grown ∙ committed-more txn entry h in
    elim c.if-is_commit_of.branch [
      | then-is_commit_of w ↦ w.is_there-is ∙ w.if-is_commit_of.true ∙ sym (more ∙ ap (λ b. b || is_committed txn h) (sym c.is_commit_of.ensures ∙ w.if-is_commit_of.true))
      | else-is_commit_of w ↦ w.is_there-is ∙ c.loop-entry.invariant
          ∙ sym (more ∙ ap (λ b. b || is_committed txn h) (sym c.is_commit_of.ensures ∙ w.if-is_commit_of.false))
    ]
