use Rattle.std.proofs.Common.{rules, ◌≤◌, ◌∙◌, ◌*◌, ◌+◌, List, ℕ, replicate, length, subst, sym, ap}
use Rattle.lsn_space.specs.declared.lsn.TheConstants.{LAST}
use Rattle.table_layout.specs.declared.layout.TheConstants.{STRIDE, RING}
use Rattle.table_layout.specs.AccountWords.{PutsAccounts}
use Rattle.log_rule.proofs.Starting.{start-allowed, shared_words}
use Rattle.log_table.proofs.table.LogTable.make.Goals as goal

pub of_words-requires : goal.of_words-requires
of_words-requires c =
    let fits : c.units-lsn.result ≤ LAST = search rules in
    let is = c.units-lsn.ensures in
    let size = c.account_place.ensures ∙ ap (λ n. RING + c.args.start.ring + c.args.start.ring + STRIDE * (c.args.start.slots + c.args.start.slots + n)) c.count-accounts.ensures in
    start-allowed c.args.start c.as_slice.result.now c.in-Ok.words.items c.requires.ring.0 c.requires.ring.1 (subst (λ n. n ≤ LAST) is fits)
    c.requires.accounts (c.in-Ok.ensures.items_if_clones_equal (λ y e. e) ∙ ap (λ n. replicate n 0) size)
    (subst (λ (p : ℕ × List ℕ). PutsAccounts c.args.start.ring c.args.start.slots c.args.start.accounts.rows (length c.args.start.accounts.rows) (shared_words c.in-Ok.words.items p.0) p.1)
    (λ i. (is i, sym c.as_slice.ensures.value i)) c.put_accounts.ensures)
