-- What is known of a disk whose log was opened.
use Rattle.std.proofs.Common.{◌≡◌, ◌≤◌, ◌^◌, sym, ◌∙◌, subst, ℕ, List, length, arith}
use Rattle.log_disk.specs.declared.disk.LogDisk.{Ghosts}
use Rattle.log_disk.specs.Disk.{IsOnlyImage}
use Rattle.log_recovery.specs.declared.recovery.Recovered.{Recovered}
use Rattle.log_recovery.specs.Opened.{log_of}
use Rattle.log_recovery.specs.Recovery.{Recovers}
use Rattle.cli_shared.specs.Looking.{Looks}
use Rattle.cli_shared.specs.Opening.{OnlyLooks, Opens, MayHold, most_calls}
use Rattle.segment_file.proofs.Scanned.{stands-within, stands-stable, only_image-LogStands}

-- an honest disk that was only looked at shows it
pub only-looks : {D : Type 0} (g : Ghosts D) (old new : D) → Looks g (most_calls g old) old new → g.honest old → OnlyLooks g old new
only-looks g old new looks honest = record { images = looks.moments; reads = looks.reads honest; count = looks.count honest }

-- a disk whose bytes were read, and from then on stand alone
pub Recovers-opens : {D : Type 0} (g : Ghosts D) (opened : Recovered) (old new : D) (bytes : List ℕ) → length bytes ≤ 2 ^ 63 → MayHold g old bytes
    → Recovers opened bytes → (g.honest old → g.reads new ≡ g.reads old) → (g.honest old → IsOnlyImage (g.reads new) (g.images new))
    → Opens g opened old new
Recovers-opens g opened old new bytes short read recovers reads settled =
    let within = stands-within opened.tail (log_of recovers.list) bytes recovers.stands in
    let same = λ (honest : g.honest old). read honest ∙ sym (reads honest) in
    let alone = λ (honest : g.honest old). subst (λ file. IsOnlyImage file (g.images new)) (sym (same honest)) (settled honest) in
    record {
      bytes = bytes;
      read = read;
      recovers = recovers;
      place = omega (arith, within, short);
      settled = settled;
      within = λ honest. subst (λ file. opened.tail.at ≤ length file) (same honest) within;
      stand = λ honest. only_image-LogStands opened.tail (log_of recovers.list) bytes recovers.stands (g.images new) (alone honest);
      gate = λ honest. stands-stable opened.tail (log_of recovers.list) bytes recovers.stands (g.images new) (alone honest);
    }
