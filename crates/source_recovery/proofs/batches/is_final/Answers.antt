use Rattle.std.proofs.Common.{◌≡◌, ◌≤◌, ◌⊎◌, ⊎_elim, sym, subst, true, rules, arith, length}
use Rattle.source_recovery.specs.declared.window.TheConstants.{FULL}
use Rattle.source_recovery.proofs.FaultLemmas.{IsOfFront, no_bad_batch-IsOfFront, ended_window-fault, full_window-fault}
use Rattle.source_recovery.proofs.batches.is_final.Goals as goal
use Rattle.source_recovery.proofs.batches.is_final.Goals.{in_default-via-in-BadBatch+else-offset-gt0, in_default-via-in_default}

pub returns-in_default-clause-stays : goal.returns-in_default-clause-stays
returns-in_default-clause-stays c = λ is rest none fault.
    let of : IsOfFront c.args.fault = elim c.in_default.branch [
      | in_default-via-in-BadBatch+else-offset-gt0 w ↦ subst IsOfFront (sym w.in-BadBatch.is) (omega arith)
      | in_default-via-in_default w ↦ no_bad_batch-IsOfFront c.args.fault w.in_default.not-BadBatch
    ] in
    let full : (c.args.window.now.ended ≡ true) ⊎ (FULL ≤ length c.args.window.now.ahead) = search rules in
    ⊎_elim (λ ended. ended_window-fault c.args.window.now.ahead rest c.args.fault (none ended) fault)
    (λ long. full_window-fault c.args.window.now.ahead rest c.args.fault long of fault) full
