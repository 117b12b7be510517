use Rattle.std.proofs.Common.{rules, ◌≡◌, inl, inr, ap, subst, arith}
use Rattle.std.proofs.lemmas.Result.{err_from_is_err_and}
use Rattle.cli_shared.specs.declared.report.Detail.TheVariants.{TxnEnd}
use Rattle.cli_shared.specs.Scripts.{HasNoScript, IsWholeScript}
use Rattle.cli_shared.proofs.script_input.read_transfers.Goals.{in_default-via-in-Some+else-end, in_default-via-in_default}
use Rattle.cli_shared.proofs.script_input.read_transfers.Goals as goal

pub returns-in-Some-clause-ok : goal.returns-in-Some-clause-ok
returns-in-Some-clause-ok g c =
    subst (λ n. IsWholeScript n (g.S.Source.left c.args.script.now) (g.S.Source.left c.read_script.new.script) c.in_ok-transfers.transfers)
    c.count.ensures c.in_ok-transfers.ensures.ok

pub returns-in-Some-clause-fit : goal.returns-in-Some-clause-fit
returns-in-Some-clause-fit g c = omega (arith, c.in-Some.ensures, c.count-count.ensures, c.if-end.true)

pub returns-in_err-transfers-clause-err : goal.returns-in_err-transfers-clause-err
returns-in_err-transfers-clause-err g c =
    let failed = err_from_is_err_and c.from_residual.result c.from_residual.ensures.1 in
    let same : failed.0 ≡ c.in_err-transfers.field-0.0 = search rules in
    rw (failed.1, same) (inl (subst
    (λ n. HasNoScript n (g.S.Source.left c.args.script.now) (g.S.Source.left c.read_script.new.script) c.in_err-transfers.field-0.0)
    c.count.ensures c.in_err-transfers.ensures.err))

pub returns-in_default-clause-err : goal.returns-in_default-clause-err
returns-in_default-clause-err g c = inr (record {
  jobs = c.in_ok-transfers.transfers;
  script = subst
      (λ n. IsWholeScript n (g.S.Source.left c.args.script.now) (g.S.Source.left c.read_script.new.script) c.in_ok-transfers.transfers)
      c.count.ensures c.in_ok-transfers.ensures.ok;
  detail_is = ap (TxnEnd c.args.opened.now.next_txn) c.count-count.ensures;
  past = elim c.in_default.branch [
    | in_default-via-in-Some+else-end w ↦ omega (arith, c.count-count.ensures, w.in-Some.ensures, w.if-end.false)
    | in_default-via-in_default w ↦ omega (arith, c.count-count.ensures, w.in_default.ensures)
  ];
})
