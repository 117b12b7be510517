-- Where nothing stands in its way, `follow` succeeds.
use Rattle.std.proofs.Common.{◌≡◌, subst, ℕ, List, Option, Some, None}
use Rattle.log_disk.specs.declared.disk.LogDisk.{Ghosts}
use Rattle.log_recovery.specs.Recovery.{HoldsLawful}
use Rattle.cli_shared.specs.declared.report.Detail.{Detail}
use Rattle.cli_shared.specs.declared.report.Detail.TheVariants.{Read, Write, Disk}
use Rattle.cli_shared.specs.Outside.{outside}
use Rattle.cli_standby.specs.Following.{AnswersFollow, IsFollowDone, IsLawfulStream}
use Rattle.cli_standby.proofs.Completeness as standby
use Rattle.cli_top.specs.Commands.{IsFaultless, ShowsList}

pub follow-complete : {D : Type 0} (g : Ghosts D) (disk disk_new : D) (left left_new text text_new : Option (List ℕ)) (detail : Detail)
    → AnswersFollow g (outside disk left text) (outside disk_new left_new text_new) detail
    → ShowsList left (λ bytes list. HoldsLawful (g.reads disk) list × IsLawfulStream bytes list) → IsFaultless detail → IsFollowDone detail
follow-complete g disk disk_new None left_new text text_new detail answers found faultless = absurd found
follow-complete g disk disk_new (Some bytes) left_new text text_new detail answers found faultless =
    let other : (fault : Detail) → (IsFaultless fault → ⊥) → detail ≡ fault → ⊥ =
    λ fault is_fault is. is_fault (subst IsFaultless is faultless) in
    standby.follow-complete g disk disk_new (Some bytes) left_new text text_new (detail ≡ Read) (detail ≡ Write) (detail ≡ Disk) detail
    answers (λ is. is) (λ is. is) (λ is. is) found.0 found.1.0 found.1.1 (other Read (λ none. none)) (other Write (λ none. none))
    (other Disk (λ none. none))
