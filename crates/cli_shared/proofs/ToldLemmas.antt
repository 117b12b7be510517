-- What a command tells where it wrote nothing, and which details tell of a failed read, write, or call of the disk.
use Rattle.std.proofs.Common.{ℕ, List, Option, Some, None, IfSome, refl}
use Rattle.std.specs.Io.KnownBytes.{Keeps}
use Rattle.cli_shared.specs.declared.report.Detail.{Detail}
use Rattle.cli_shared.specs.declared.report.Detail.TheVariants.{Read, Write, Disk}

-- what may be known of a text stays as it was
pub Keeps-refl : (text : Option (List ℕ)) → Keeps text text
Keeps-refl None = tt
Keeps-refl (Some bytes) = refl

-- of a detail that says nothing of an input nothing is said, whatever the input holds
pub IfSome-nothing_said : (left : Option (List ℕ)) → IfSome left (λ bytes. Unit {0})
IfSome-nothing_said None = tt
IfSome-nothing_said (Some bytes) = tt

abbrev pub TellsRead : Detail → Type 0
TellsRead Read = Unit {0}
TellsRead detail = ⊥

abbrev pub TellsWrite : Detail → Type 0
TellsWrite Write = Unit {0}
TellsWrite detail = ⊥

abbrev pub TellsDisk : Detail → Type 0
TellsDisk Disk = Unit {0}
TellsDisk detail = ⊥
