use Rattle.std.proofs.Common.{rules, ◌≡◌}
use Rattle.std.proofs.lemmas.Result.{err_from_is_err_and}
use Rattle.cli_shared.proofs.AttachedLemmas.{leaves-attached}
use Rattle.cli_shared.proofs.OpeningLemmas.{only-looks}
use Rattle.cli_run.proofs.ReadyLemmas.{opening_fault-answers_run, no_transfers-answers_run}
use Rattle.cli_run.proofs.run_command.open_and_read.Goals as goal

pub returns-in_err-opened-clause-none : goal.returns-in_err-opened-clause-none
returns-in_err-opened-clause-none g c = λ honest.
    let said = c.in_err-opened.ensures in
    let failed = err_from_is_err_and c.from_residual.result c.from_residual.ensures.1 in
    let same : failed.0 ≡ c.in_err-opened.field-0.0 = search rules in
    rw (failed.1, same) (λ options text. opening_fault-answers_run g.D.LogDisk c.args.disk.now c.open_log.new.disk
    (only-looks _ _ _ said.looks honest) _ _ text options c.in_err-opened.field-0.0
    said.fault honest)

pub returns-in_err-transfers-clause-none : goal.returns-in_err-transfers-clause-none
returns-in_err-transfers-clause-none g c = λ honest.
    let said = c.in_ok-opened.ensures in
    let failed = err_from_is_err_and c.from_residual-in_err-transfers.result c.from_residual-in_err-transfers.ensures.1 in
    let same : failed.0 ≡ c.in_err-transfers.field-0.0 = search rules in
    rw (failed.1, same) (λ options text. no_transfers-answers_run g.D.LogDisk c.args.disk.now c.open_log.new.disk _ said.opened
    (only-looks _ _ _ said.looks honest) honest options _ _ text
    c.in_err-transfers.field-0.0 c.in_err-transfers.ensures.err)

pub returns-in_err-transfers-clause-attached : goal.returns-in_err-transfers-clause-attached
returns-in_err-transfers-clause-attached g c = λ honest.
    let failed = err_from_is_err_and c.from_residual-in_err-transfers.result c.from_residual-in_err-transfers.ensures.1 in
    rw failed.1 (leaves-attached _ _ _ failed.0 (c.in_ok-opened.ensures.attached honest))

pub returns-clause-opened : goal.returns-clause-opened
returns-clause-opened g c =
    let said = c.in_ok-opened.ensures in
    record {
      opens = said.opened;
      looks = only-looks _ _ _ said.looks;
      whole = c.in_ok-transfers.ensures.ok;
      numbered = c.in_ok-transfers.ensures.fit;
    }

pub returns-clause-honest : goal.returns-clause-honest
returns-clause-honest g c = c.in_ok-opened.ensures.looks.honest

pub returns-in_err-transfers-clause-honest : goal.returns-in_err-transfers-clause-honest
returns-in_err-transfers-clause-honest g c = c.in_ok-opened.ensures.looks.honest

pub returns-in_err-opened-clause-honest : goal.returns-in_err-opened-clause-honest
returns-in_err-opened-clause-honest g c = c.in_err-opened.ensures.looks.honest
