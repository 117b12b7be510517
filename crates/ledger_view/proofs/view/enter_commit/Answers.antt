use Rattle.std.proofs.Common.{◌≡◌, ◌<◌, ◌+◌, ◌∷◌, [], ◌++◌, ◌∙◌, List, take, length, length-set, refl, ap, sym, subst, arith}
use Rattle.std.proofs.lemmas.Grind.{common_steps}
use Rattle.std.proofs.lemmas.List.{take_more}
use Rattle.lock_core.specs.declared.update.Change.{Change}
use Rattle.lock_core.proofs.ListLemmas.{all-at}
use Rattle.ledger_view.specs.declared.entries.Entry.{Entry}
use Rattle.ledger_view.specs.declared.accounts.Account.{Account}
use Rattle.ledger_view.specs.Entries.{net_of, balance_after}
use Rattle.ledger_view.specs.ViewedAccounts.{account_at}
use Rattle.ledger_view.specs.Entering.{with_entry, LeadsOn, Enters}
use Rattle.ledger_view.proofs.EnteringLemmas.{enters-none, enters-push_touched, enters-push_untouched}
use Rattle.ledger_view.proofs.view.enter_commit.Goals as goal
use Rattle.ledger_view.proofs.view.enter_commit.Goals.{then-not-touches+in_ok-enter, else-not-touches}

pub loop-i-init : goal.loop-i-init
loop-i-init c = record {
  count = refl;
  enters = λ opening h judged. enters-none opening h c.args.txn c.args.end c.args.changes.now c.args.accounts.now;
}

pub enter-requires-clause-known : goal.enter-requires-clause-known
enter-requires-clause-known c =
    let known = all-at (λ (change : Change). change.account < length c.args.accounts.now)
    c.args.changes.now c.loop-i.i c.index-changes-i.result c.requires.known c.loop-i-test.true c.index-changes-i.is in
    let count = c.loop-i.invariant.count in omega arith

-- no change before this one is on its account, of which is kept what was
pub enter-requires-clause-leads : goal.enter-requires-clause-leads
enter-requires-clause-leads c =
    let lead = c.requires.lead in let opening = lead.0 in let h = lead.1 in let judged = lead.2 in
    let changes = c.args.changes.now in let account = c.index-changes-i.result.account in
    let own = all-at (λ (change : Change). LeadsOn (account_at c.args.accounts.now change.account).entries (net_of change.account changes) (balance_after opening h change.account))
    changes c.loop-i.i c.index-changes-i.result lead.3 c.loop-i-test.true c.index-changes-i.is in
    let same = (c.loop-i.invariant.enters opening h judged).left account (sym c.touches.ensures ∙ c.if-not-touches.true) in
    subst (λ (kept : Account). LeadsOn kept.entries (net_of account changes) c.balance-balance.result) (sym same)
    (subst (LeadsOn (account_at c.args.accounts.now account).entries (net_of account changes)) (sym (c.balance-balance.ensures opening h judged)) own)

pub loop-i-preserved : goal.loop-i-preserved
loop-i-preserved c =
    let changes = c.args.changes.now in let change = c.index-changes-i.result in let old = c.args.accounts.now in let some = take c.loop-i.i changes in
    let grown : take (c.loop-i.i + 1) changes ≡ some ++ change ∷ [] =
    take_more changes c.loop-i.i change c.loop-i-test.true ∙ ap (λ (last : Change). some ++ last ∷ []) (sym c.index-changes-i.is) in
    let inside = all-at (λ (each : Change). each.account < length old) changes c.loop-i.i change c.requires.known c.loop-i-test.true c.index-changes-i.is in
    elim c.if-not-touches.branch [
      | then-not-touches+in_ok-enter w ↦
          let entry : Entry = record { end = c.args.end; txn = c.args.txn; net = net_of change.account changes; balance = w.balance-balance.result } in
          record {
            count = ap length (w.accounts-is ∙ w.in_ok-enter.ensures)
                ∙ length-set c.loop-i.accounts change.account (with_entry (account_at c.loop-i.accounts change.account) entry) ∙ c.loop-i.invariant.count;
            enters = λ opening h judged. subst (λ (a : List Account). Enters opening h c.args.txn c.args.end changes (take (c.loop-i.i + 1) changes) old a) (sym w.accounts-is)
                (subst (λ (l : List Change). Enters opening h c.args.txn c.args.end changes l old w.enter.new.self) (sym grown)
                (enters-push_untouched opening h c.args.txn c.args.end changes some change old c.loop-i.accounts (c.loop-i.invariant.enters opening h judged)
                w.enter.new.self entry (sym c.touches.ensures ∙ w.if-not-touches.true) inside w.in_ok-enter.ensures
                (λ i. record { end = c.args.end; txn = c.args.txn; net = net_of change.account changes; balance = w.balance-balance.ensures opening h judged i })));
          }
      | else-not-touches w ↦ record {
        count = ap length w.accounts-is ∙ c.loop-i.invariant.count;
        enters = λ opening h judged. subst (λ (a : List Account). Enters opening h c.args.txn c.args.end changes (take (c.loop-i.i + 1) changes) old a) (sym w.accounts-is)
            (subst (λ (l : List Change). Enters opening h c.args.txn c.args.end changes l old c.loop-i.accounts) (sym grown)
            (enters-push_touched opening h c.args.txn c.args.end changes some change old c.loop-i.accounts
            (c.loop-i.invariant.enters opening h judged) (sym c.touches.ensures ∙ w.if-not-touches.false)));
      }
    ]

pub returns : goal.returns
returns c = λ opening h judged.
    let whole : take c.loop-i.i c.args.changes.now ≡ c.args.changes.now = grind (arith, common_steps) in
    subst (λ (some : List Change). Enters opening h c.args.txn c.args.end c.args.changes.now some c.args.accounts.now c.loop-i.accounts) whole (c.loop-i.invariant.enters opening h judged)
