use Rattle.std.proofs.Common.{◌≡◌, ◌∷◌, ◌+◌, ◌∙◌, ◌||◌, List, take, reverse, ap, sym, arith}
use Rattle.std.proofs.lemmas.Int.{ints}
use Rattle.log_record.specs.declared.rec.Placed.{Placed}
use Rattle.lock_core.specs.Transactions.{updates_of, touches}
use Rattle.lock_core.proofs.OwnLemmas.{reverse-take_more}
use Rattle.ledger_view.specs.Entries.{net_of}
use Rattle.ledger_view.proofs.PlainLemmas.{net-more, touches-entry}
use Rattle.ledger_view.proofs.plain.plain_net.Goals as goal
use Rattle.ledger_view.proofs.plain.plain_net.Goals.{then-is_own, else-is_own}

pub loop-entry-preserved : goal.loop-entry-preserved
loop-entry-preserved c =
    let entries = c.args.entries.now in let entry = c.entry-item.result in let txn = c.args.txn in let account = c.args.account in
    let h : List Placed = reverse (take c.loop-entry.entry-index entries) in
    let grown : reverse (take (c.loop-entry.entry-index + 1) entries) ≡ entry ∷ h
    = reverse-take_more entries c.loop-entry.entry-index entry c.loop-entry-test.true c.entry-item.is in
    let more = ap (λ (l : List Placed). net_of account (updates_of txn l)) grown ∙ net-more txn account entry h in
    let touched = ap (λ (l : List Placed). touches account (updates_of txn l)) grown ∙ touches-entry txn account entry h in
    let value = c.own_delta-net.ensures.value in let least = c.own_delta-net.ensures.least in let most = c.own_delta-net.ensures.most in
    let inside = c.loop-entry-test.true in let few = c.requires in
    let was = c.loop-entry.invariant.net in let low = c.loop-entry.invariant.least in let high = c.loop-entry.invariant.most in
    record {
      net = omega (arith, ints);
      there = elim c.if-is_own.branch [
        | then-is_own w ↦ w.is_there-is ∙ w.if-is_own.true ∙ sym (touched ∙ ap (λ b. b || touches account (updates_of txn h)) (sym c.is_own.ensures ∙ w.if-is_own.true))
        | else-is_own w ↦ w.is_there-is ∙ c.loop-entry.invariant.there
            ∙ sym (touched ∙ ap (λ b. b || touches account (updates_of txn h)) (sym c.is_own.ensures ∙ w.if-is_own.false))
      ];
      least = omega (arith, ints);
      most = omega (arith, ints);
    }
