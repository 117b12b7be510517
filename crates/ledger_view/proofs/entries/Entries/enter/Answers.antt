use Rattle.std.proofs.Common.{◌≡◌, ◌∙◌, ◌<◌, ◌+ℤ◌, pos, length, refl, ap, sym, arith, rules, w64, SFits}
use Rattle.std.proofs.lemmas.Int.{to_z-of_z}
use Rattle.std.proofs.lemmas.Result.{on_ok_weaker}
use Rattle.ledger_view.specs.Entries.{net_of}
use Rattle.ledger_view.proofs.EnteringLemmas.{next_entry_of_row-net, first_entry_of_row-net}
use Rattle.ledger_view.proofs.entries.Entries.enter.Goals as goal

pub returns-then-count-gt0 : goal.returns-then-count-gt0
returns-then-count-gt0 c = on_ok_weaker c.push.result
    (λ pushed.
    let kept = c.args.self.now in
    let some : 0 < length kept = omega (arith, c.if-count-gt0.true, c.count.ensures) in
    pushed 0 ∙ next_entry_of_row-net kept kept (net_of c.args.account c.args.changes.now) c.args.row c.requires.leads some refl)
    c.push.ensures

pub returns-else-count-gt0 : goal.returns-else-count-gt0
returns-else-count-gt0 c = on_ok_weaker c.push_first.result
    (λ pushed.
    let kept = c.args.self.now in
    let none : length kept ≡ 0 = omega (arith, c.if-count-gt0.false, c.count.ensures) in
    let fits : SFits w64 c.net_of.result = search rules in
    let net = to_z-of_z w64 c.net_of.result fits ∙ c.net_of.ensures in
    let first = c.balance_before-first.ensures c.requires.leads.before (c.requires.leads.sum ∙ ap (λ n. pos c.requires.leads.before +ℤ n) (sym net)) in
    pushed ∙ first_entry_of_row-net kept _ (net_of c.args.account c.args.changes.now) c.args.row c.requires.leads none first)
    c.push_first.ensures
