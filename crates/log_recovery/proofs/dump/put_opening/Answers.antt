use Rattle.std.proofs.Common.{arith}
use Rattle.std.proofs.lemmas.Result.{err_from_is_err_and}
use Rattle.log_recovery.proofs.PuttingLemmas.{puts-none, puts-append, puts-append_first_failed}
use Rattle.log_recovery.proofs.SnapshotLemmas.{opening_lines-none, opening_lines-some}
use Rattle.log_recovery.proofs.dump.put_opening.Goals as goal

pub returns-then-count-eq0 : goal.returns-then-count-eq0
returns-then-count-eq0 g c = rw (opening_lines-none c.opening.view_is (omega (arith, c.count-count.ensures))) (puts-none g.K.Sink _ _ _)

pub returns-in_err-put_snapshot : goal.returns-in_err-put_snapshot
returns-in_err-put_snapshot g c =
    let failed = err_from_is_err_and c.from_residual.result c.from_residual.ensures.1 in
    rw (failed.1, opening_lines-some c.opening.view_is (λ none. omega (arith, none, c.count-count.ensures)))
    (puts-append_first_failed g.K.Sink _ _ _ _ _ _ _ c.in_err-put_snapshot.ensures.prefix c.in_err-put_snapshot.ensures.cause)

pub returns : goal.returns
returns g c = rw (opening_lines-some c.opening.view_is (λ none. omega (arith, none, c.count-count.ensures)))
    (puts-append g.K.Sink _ _ _ _ _ _ _ _ _ c.in_ok-put_snapshot.ensures.all c.in_ok-put_snapshot.ensures.cause.fine c.put_rows.ensures)
