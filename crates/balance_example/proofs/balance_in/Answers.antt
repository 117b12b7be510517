use Rattle.std.proofs.Common.{◌∙◌, ◌<◌, ℕ, ap, sym, arith}
use Rattle.std.proofs.lemmas.Option.{same_Some}
use Rattle.log_recovery.specs.Opened.{base_in}
use Rattle.balance_example.proofs.balance_in.Goals as goal

pub returns-then-account-count-clause-found : goal.returns-then-account-count-clause-found
returns-then-account-count-clause-found c =
    let r = c.in_ok-recovered.ensures.found in
    let few : c.args.account < (base_in r.list).accounts = omega (arith, c.if-account-count, c.count.ensures, r.accounts.count) in
    let is = same_Some _ _ (sym c.at.ensures ∙ r.accounts.each c.args.account few) in
    record { list = r.list; held = r.held; is = (few, ap (λ (x : ℕ × ℕ). x.0) is) }

pub returns-clause-found : goal.returns-clause-found
returns-clause-found c =
    let r = c.in_ok-recovered.ensures.found in
    record { list = r.list; held = r.held; is = omega (arith, c.if-account-count, c.count.ensures, r.accounts.count) }
