use Rattle.std.proofs.Common.{◌≡◌, ◌∷◌, ◌+◌, ◌∙◌, List, take, reverse, ap, arith}
use Rattle.log_record.specs.declared.rec.Placed.{Placed}
use Rattle.lock_core.proofs.OwnLemmas.{reverse-take_more}
use Rattle.lock_core.specs.Lawful.{base_with}
use Rattle.lock_core.specs.AccountRows.{opening_of}
use Rattle.ledger_view.proofs.plain.account_count.Goals as goal

pub loop-entry-preserved : goal.loop-entry-preserved
loop-entry-preserved c =
    let entries = c.args.entries.now in let entry = c.entry-item.result in let opening = opening_of c.args.opening.now in
    let h : List Placed = reverse (take c.loop-entry.entry-index entries) in
    let grown : reverse (take (c.loop-entry.entry-index + 1) entries) ≡ entry ∷ h
    = reverse-take_more entries c.loop-entry.entry-index entry c.loop-entry-test.true c.entry-item.is in
    let counted = ap (λ (l : List Placed). (base_with opening l).accounts) grown ∙ c.opened_accounts-count.ensures.count (base_with opening h) in
    let most = c.opened_accounts-count.ensures.most in let was = c.loop-entry.invariant.counted in let before = c.loop-entry.invariant.most in
    record { counted = omega arith; most = omega arith }
