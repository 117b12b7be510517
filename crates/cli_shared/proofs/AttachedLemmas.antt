-- Which file is attached once a command has ended.
use Rattle.std.proofs.Common.{◌≡◌, ◌∙◌, inr, Option, Some, Result, Ok, Err, MatchResult}
use Rattle.log_disk.specs.Attachment.{Attached, MayAttach}
use Rattle.cli_shared.specs.declared.report.Detail.{Detail}
use Rattle.cli_shared.specs.declared.report.Detail.TheVariants.{NoMemory, Disk}
use Rattle.cli_shared.specs.Attached.{LeavesAttached}

-- where this file is attached, it is so whatever is answered
pub leaves-attached : (file : Attached) (before now : Option Attached) (detail : Detail) → now ≡ Some file
    → LeavesAttached file before now detail
leaves-attached file before now NoMemory is = inr is
leaves-attached file before now Disk is = inr is
leaves-attached file before now detail is = is

-- what came behind the call that attached it attached no other, whether it succeeded or failed
pub attached-whatever_result : {T E : Type 0} (file : Attached) (before mid now : Option Attached) (result : Result T E) → mid ≡ Some file → now ≡ mid
    → MatchResult result (λ _. now ≡ Some file) (λ _. MayAttach file before now)
attached-whatever_result file before mid now (Ok value) is same = same ∙ is
attached-whatever_result file before mid now (Err fault) is same = inr (same ∙ is)
