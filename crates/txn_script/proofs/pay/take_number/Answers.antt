use Rattle.std.proofs.Common.{◌∙◌, ap, drop, length-drop, arith}
use Rattle.std.proofs.lemmas.List.{take_all}
use Rattle.txn_script.proofs.NumberLemmas.{read_digits-number_text}
use Rattle.txn_script.proofs.pay.take_number.Goals as goal

pub returns-in_err-n-clause-none : goal.returns-in_err-n-clause-none
returns-in_err-n-clause-none c = rw (c.from_residual.ensures) (λ n rest small end same.
    let digits = read_digits-number_text _ _ c.digits_len.ensures.within c.digits_len.ensures.digits c.digits_len.ensures.end n rest small end
    (take_all _ (drop 1 c.args.bytes.now) (omega (arith, length-drop 1 c.args.bytes.now)) ∙ ap (drop 1) same) in
    c.in_err-n.ensures.none n (omega arith) (omega arith) (c.split_at.ensures.front ∙ digits))
