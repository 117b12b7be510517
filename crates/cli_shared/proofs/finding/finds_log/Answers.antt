use Rattle.std.proofs.Common.{◌∙◌, rules}
use Rattle.log_disk.proofs.Uses.{HasCause-same_before}
use Rattle.cli_shared.proofs.AttachedLemmas.{attached-whatever_result}
use Rattle.cli_shared.proofs.finding.finds_log.Goals as goal

pub returns-in_err-attach-clause-looks : goal.returns-in_err-attach-clause-looks
returns-in_err-attach-clause-looks g c =
    record { reads = search rules; images = search rules; moments = search rules; count = search rules; honest = search rules }

pub returns-in_err-sync-clause-looks : goal.returns-in_err-sync-clause-looks
returns-in_err-sync-clause-looks g c =
    record { reads = search rules; images = search rules; moments = search rules; count = search rules; honest = search rules }

pub returns-clause-looks : goal.returns-clause-looks
returns-clause-looks g c =
    record { reads = search rules; images = search rules; moments = search rules; count = search rules; honest = search rules }

pub returns-clause-settled : goal.returns-clause-settled
returns-clause-settled g c = search rules steps 1000000

pub returns-in_err-sync-clause-attached : goal.returns-in_err-sync-clause-attached
returns-in_err-sync-clause-attached g c = λ honest.
    attached-whatever_result _ _ _ _ _ (c.in_ok-attach.ensures.attached honest) c.sync.ensures.attached

pub returns-clause-attached : goal.returns-clause-attached
returns-clause-attached g c = λ honest. attached-whatever_result _ _ _ _ c.has_open_gate.result (c.in_ok-attach.ensures.attached honest)
    (c.has_open_gate.ensures.attached ∙ c.sync.ensures.attached)

pub returns-clause-cause : goal.returns-clause-cause
returns-clause-cause g c = HasCause-same_before _ _ _ _ (search rules steps 300000) c.has_open_gate.ensures.cause
