-- What `cut` leaves on a disk, from what it read, found, and created.
use Rattle.std.proofs.Common.{◌≡◌, inl, inr, ℕ, ◌+◌, ◌*◌, List, length, Option, Some, None, subst}
use Rattle.log_disk.specs.Disk.{Leaves}
use Rattle.log_disk.specs.Lengths.{GrowsAtMostTo}
use Rattle.log_disk.specs.declared.disk.LogDisk.{Ghosts}
use Rattle.log_disk.proofs.Lengths.{GrowsAtMostTo-same, GrowsAtMostTo-trans}
use Rattle.log_disk.proofs.Moments.{Leaves-trans, Leaves-weaken}
use Rattle.lsn_space.specs.Opening.{Opening}
use Rattle.log_recovery.specs.Recovery.{HoldsLawful}
use Rattle.segment_file.specs.Log.{cut_log}
use Rattle.segment_file.specs.StandingLog.{HoldsNoneOrLog, LogStands}
use Rattle.segment_file.specs.declared.scan_result.Tail.{Tail}
use Rattle.cli_cut.specs.Cutting.{AllHoldCut, GrowsByCut, IsSource, MayBeCut, ReadsCut}

source-read : (left left_new : Option (List ℕ)) (opening : Opening) (reads : ReadsCut left left_new opening) → IsSource left reads.1
source-read None left_new opening reads = tt
source-read (Some all) left_new opening reads = subst (λ bytes. HoldsLawful bytes reads.1) reads.2.0 reads.3

-- a file that reads as before, and then grows
pub GrowsAtMostTo-behind_same : {D : Type 0} (g : Ghosts D) (place : ℕ) (old mid new : D) → g.reads mid ≡ g.reads old
    → GrowsAtMostTo g place mid new → GrowsAtMostTo g place old new
GrowsAtMostTo-behind_same g place old mid new same grows =
    GrowsAtMostTo-trans g place old mid new (GrowsAtMostTo-same g place old mid same) grows

module _ (left left_new : Option (List ℕ)) (opening : Opening) (reads : ReadsCut left left_new opening) where
  cut-left : (images : List ℕ → Type 0) (c : List ℕ) → HoldsNoneOrLog (cut_log opening) c → MayBeCut left images c
  cut-left images c (inl none) = inr (inl none)
  cut-left images c (inr held) = inr (inr (reads.1, opening, source-read left left_new opening reads, reads.4, held))

  pub LogStands-all_hold_cut : (tail : Tail) (images : List ℕ → Type 0) → LogStands tail (cut_log opening) images → AllHoldCut left images
  LogStands-all_hold_cut tail images stand = (reads.1, opening, source-read left left_new opening reads, reads.4, λ c image. (stand c image).held)

  pub leaves-cut : {D : Type 0} (moment : D → ℕ) (images_since : D → ℕ → List ℕ → Type 0) (images : List ℕ → Type 0) (old mid new : D)
      → Leaves moment images_since images old mid → Leaves moment images_since (HoldsNoneOrLog (cut_log opening)) mid new
      → Leaves moment images_since (MayBeCut left images) old new
  leaves-cut moment images_since images old mid new found created = Leaves-trans moment images_since (MayBeCut left images) old mid new
      (Leaves-weaken moment images_since images (MayBeCut left images) old mid (λ c image. inl image) found)
      (Leaves-weaken moment images_since (HoldsNoneOrLog (cut_log opening)) (MayBeCut left images) mid new (cut-left images) created)

  -- and the file, which a search for a log left as it was
  pub grows-cut : {D : Type 0} (g : Ghosts D) (old mid new : D) → g.reads mid ≡ g.reads old → GrowsAtMostTo g (21 + 12 * length opening.accounts) mid new
      → GrowsByCut g left old new
  grows-cut g old mid new same grows =
      let behind = GrowsAtMostTo-behind_same g (21 + 12 * length opening.accounts) old mid new same grows in
      inr (reads.1, opening, source-read left left_new opening reads, reads.4, behind)
