use Rattle.std.proofs.Common.{◌++◌, append_assoc, ap, ◌∙◌, sym, subst, true≢false, arith}
use Rattle.txn_script.specs.Script.{spaced, IsAllowedLeg}
use Rattle.txn_script.proofs.NumberLemmas.{space-no_digit}
use Rattle.txn_script.proofs.LegLemmas.{read_payer-same, read_payee-same, read_amount-same}
use Rattle.txn_script.proofs.pay.take_leg.Goals as goal

pub returns-in_err-payee-clause-none : goal.returns-in_err-payee-clause-none
returns-in_err-payee-clause-none c = rw (c.from_residual-in_err-payee.ensures) (λ leg rest allowed end same.
    let from = c.in_ok-payer.ensures in
    let payer = read_payer-same c.args.accounts c.ranges.accounts.fits leg rest allowed end _ _ _ from.fits from.whole from.text same in
    c.in_err-payee.ensures.none leg.1 (spaced leg.2 ++ rest) (omega (arith, allowed.payee, c.ranges.accounts.fits)) space-no_digit payer.1)

pub returns-in_err-amount-clause-none : goal.returns-in_err-amount-clause-none
returns-in_err-amount-clause-none c = rw (c.from_residual-in_err-amount.ensures) (λ leg rest allowed end same.
    let from = c.in_ok-payer.ensures in
    let to = c.in_ok-payee.ensures in
    let payer = read_payer-same c.args.accounts c.ranges.accounts.fits leg rest allowed end _ _ _ from.fits from.whole from.text same in
    let payee = read_payee-same c.args.accounts c.ranges.accounts.fits leg rest allowed end _ _ _ to.fits to.whole to.text payer.1 in
    c.in_err-amount.ensures.none leg.2 rest (omega (arith, allowed.most)) end payee.1)

pub returns-else-is_allowed-clause-none : goal.returns-else-is_allowed-clause-none
returns-else-is_allowed-clause-none c = λ leg rest allowed end same.
    let from = c.in_ok-payer.ensures in
    let to = c.in_ok-payee.ensures in
    let amount = c.in_ok-amount.ensures in
    let payer = read_payer-same c.args.accounts c.ranges.accounts.fits leg rest allowed end _ _ _ from.fits from.whole from.text same in
    let payee = read_payee-same c.args.accounts c.ranges.accounts.fits leg rest allowed end _ _ _ to.fits to.whole to.text payer.1 in
    let moved = read_amount-same c.args.accounts c.ranges.accounts.fits leg rest allowed end _ _ _ amount.fits amount.whole amount.text payee.1 in
    let read = c.from.ensures ∙ (λ i. (payer.0 i, payee.0 i, moved.0 i)) in
    true≢false (sym (c.if-is_allowed.ensures.1 (subst (IsAllowedLeg c.args.accounts) (sym read) allowed)))

pub returns-then-is_allowed-clause-text : goal.returns-then-is_allowed-clause-text
returns-then-is_allowed-clause-text c =
    let amount = ap (λ rest. spaced c.in_ok-payee.payee ++ rest) c.in_ok-amount.ensures.text in
    let payee = ap (λ rest. spaced c.in_ok-payer.payer ++ rest) (c.in_ok-payee.ensures.text ∙ amount) in
    simp append_assoc (c.in_ok-payer.ensures.text ∙ payee)
