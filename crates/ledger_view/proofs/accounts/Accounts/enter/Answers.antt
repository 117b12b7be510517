use Rattle.std.proofs.Common.{◌∷◌, [], ◌++◌, ◌∙◌, ap, subst, sym}
use Rattle.std.proofs.lemmas.Result.{on_ok_weaker}
use Rattle.ledger_view.specs.declared.accounts.Account.{Account}
use Rattle.ledger_view.specs.Entering.{LeadsOn}
use Rattle.ledger_view.specs.Entries.{net_of}
use Rattle.ledger_view.specs.Rows.{entry_of_net}
use Rattle.ledger_view.proofs.EnteringLemmas.{kept_at-account_at, set-with_entry}
use Rattle.ledger_view.proofs.accounts.Accounts.enter.Goals as goal

pub enter-requires-clause-leads : goal.enter-requires-clause-leads
enter-requires-clause-leads c =
    let same = kept_at-account_at c.self.inside.rows.items c.args.self.now c.args.account c.index_mut.result.now c.self.view_is c.requires.known
    c.index_mut.ensures.value in
    subst (λ (kept : Account). LeadsOn kept.entries (net_of c.args.account c.args.changes.now) c.args.row.balance) (sym same) c.requires.leads

pub returns : goal.returns
returns c = on_ok_weaker c.enter.result
    (λ entered.
    set-with_entry c.self.inside.rows.items c.args.self.now c.args.account c.index_mut.result.now _ _ c.self.view_is c.requires.known c.index_mut.ensures.value
    (λ same. entered ∙ ap (λ (kept : Account). kept.entries ++ entry_of_net c.args.row (net_of c.args.account c.args.changes.now) ∷ []) same))
    c.enter.ensures
