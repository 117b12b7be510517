-- What `upgrade` leaves on a disk, from what it read, found, and wrote; and what it answers.
use Rattle.std.proofs.Common.{◌≡◌, inl, inr, ℕ, ◌+◌, ◌*◌, List, length, drop, Option, Some, None, IfSome, Result, OnOk, ap, ◌∙◌, subst, sym, arith}
use Rattle.std.proofs.lemmas.Result.{on_ok_weaker}
use Rattle.std.specs.Io.KnownBytes.{Appends}
use Rattle.log_disk.specs.Costs.{Costs}
use Rattle.log_disk.specs.Disk.{Leaves}
use Rattle.log_disk.specs.Lengths.{GrowsAtMostTo}
use Rattle.log_disk.specs.Streams.{AppendsPart}
use Rattle.log_disk.specs.declared.disk.LogDisk.{Ghosts}
use Rattle.log_disk.proofs.Counting.{Costs-trans}
use Rattle.log_disk.proofs.Lengths.{GrowsAtMostTo-weaken}
use Rattle.log_disk.proofs.Moments.{Leaves-trans, Leaves-weaken}
use Rattle.lsn_space.specs.Opening.{Opening}
use Rattle.log_record.specs.LogList.{AreUnitsOf, end_of}
use Rattle.log_recovery.specs.Opened.{log_of}
use Rattle.log_recovery.specs.Recovery.{HoldsLawful}
use Rattle.log_recovery.specs.Text.{rows_text}
use Rattle.log_recovery.specs.declared.recovery.Recovered.{Recovered}
use Rattle.log_recovery.proofs.TextLemmas.{rows_text-shown}
use Rattle.segment_cut.specs.Underway.{HoldsBatches, HoldsNoneOrBatches}
use Rattle.cli_shared.specs.declared.report.Detail.TheVariants.{Fine, Write}
use Rattle.cli_cut.specs.Answers.{AnswersCut}
use Rattle.cli_cut.specs.Cutting.{IsSource}
use Rattle.cli_cut.specs.Parts.{ArePartsOf, ReadsLog}
use Rattle.cli_cut.specs.Upgrading.{AllHoldUpgrade, CostsUpgrade, GrowsByUpgrade, IsUpgradeOfSource, MayBeUpgraded}
use Rattle.cli_cut.specs.Batches.{batches_of}
use Rattle.cli_cut.specs.Writing.{WritesLog}
use Rattle.cli_cut.specs.declared.reading.Parts.{Parts}
use Rattle.cli_cut.proofs.CuttingLemmas.{GrowsAtMostTo-behind_same}

-- ---- the answer

pub reads_log-answers_fine : (left left_new old new : Option (List ℕ)) (recovered : Recovered) → ReadsLog left left_new recovered
    → Appends old new (rows_text recovered.lsn recovered.accounts.rows) → IfSome left (λ bytes. AnswersCut bytes left_new old new Fine)
reads_log-answers_fine None left_new old new recovered reads written = tt
reads_log-answers_fine (Some bytes) left_new old new recovered reads written = (
  reads.1.1,
  reads.2.list,
  subst (λ b. HoldsLawful b reads.2.list) reads.1.0 reads.2.held,
  rw (rows_text-shown recovered.lsn recovered.accounts.rows reads.2.list reads.2.lsn reads.2.accounts) at written,
)

pub reads_log-answers_write : (left left_new old new : Option (List ℕ)) (recovered : Recovered) → ReadsLog left left_new recovered
    → AppendsPart old new (rows_text recovered.lsn recovered.accounts.rows) → IfSome left (λ bytes. AnswersCut bytes left_new old new Write)
reads_log-answers_write None left_new old new recovered reads written = tt
reads_log-answers_write (Some bytes) left_new old new recovered reads written = (
  reads.1.1,
  reads.2.list,
  subst (λ b. HoldsLawful b reads.2.list) reads.1.0 reads.2.held,
  rw (rows_text-shown recovered.lsn recovered.accounts.rows reads.2.list reads.2.lsn reads.2.accounts) at written,
)

-- ---- the disk

source-read : (left left_new : Option (List ℕ)) (parts : Parts) (are : ArePartsOf left left_new parts) → IsSource left are.recovers.list
source-read None left_new parts are = tt
source-read (Some all) left_new parts are = subst (λ bytes. HoldsLawful bytes are.recovers.list) are.read.0 are.recovers.held

module _ (left left_new : Option (List ℕ)) (parts : Parts) (are : ArePartsOf left left_new parts) where
  of-source : IsUpgradeOfSource left are.made
  of-source = record { list = are.recovers.list; source = source-read left left_new parts are; upgrade = are.upgrade }

  -- the units that are written are those of the new list
  pub rest-units_of_made : (rest : List ℕ) → rest ≡ drop parts.front parts.listed.units → AreUnitsOf rest are.made.records
  rest-units_of_made rest is = record { spellable = are.spellable; units_are = is ∙ are.units }

  upgrade-left : (images : List ℕ → Type 0) (c : List ℕ) → HoldsNoneOrBatches (log_of are.made) (batches_of are.made.records) c → MayBeUpgraded left images c
  upgrade-left images c (inl none) = inr (inl none)
  upgrade-left images c (inr held) = inr (inr (are.made, of-source, held))

  all-upgraded : (images : List ℕ → Type 0) → ((c : List ℕ) → images c → HoldsBatches (log_of are.made) (batches_of are.made.records) c) → AllHoldUpgrade left images
  all-upgraded images held = (are.made, of-source, held)

  leaves-upgraded : {D : Type 0} (moment : D → ℕ) (images_since : D → ℕ → List ℕ → Type 0) (images : List ℕ → Type 0) (old mid new : D)
      → Leaves moment images_since images old mid → Leaves moment images_since (HoldsNoneOrBatches (log_of are.made) (batches_of are.made.records)) mid new
      → Leaves moment images_since (MayBeUpgraded left images) old new
  leaves-upgraded moment images_since images old mid new found written = Leaves-trans moment images_since (MayBeUpgraded left images) old mid new
      (Leaves-weaken moment images_since images (MayBeUpgraded left images) old mid (λ c image. inl image) found)
      (Leaves-weaken moment images_since (HoldsNoneOrBatches (log_of are.made) (batches_of are.made.records)) (MayBeUpgraded left images) mid new (upgrade-left images) written)

  costs-upgraded : {D : Type 0} (g : Ghosts D) (old mid new : D) → Costs g 1 4 old mid
      → Costs g (6 + length (batches_of are.made.records)) (7 + length (batches_of are.made.records)) mid new → CostsUpgrade g left old new
  costs-upgraded g old mid new found written =
      let n : ℕ = length (batches_of are.made.records) in
      let both = Costs-trans g 1 (6 + n) 4 (7 + n) old mid new found written in
      inr (are.made, of-source, record { successes = omega (arith, both.successes); calls = omega (arith, both.calls) })

  grows-upgraded : {D : Type 0} (g : Ghosts D) (old mid new : D) (rest : List ℕ) → rest ≡ drop parts.front parts.listed.units
      → g.reads mid ≡ g.reads old → GrowsAtMostTo g (21 + 12 * length parts.head.accounts + 5 * length (batches_of are.made.records) + 8 * length rest) mid new
      → GrowsByUpgrade g left old new
  grows-upgraded g old mid new rest is same grows =
      let place : ℕ = 21 + 12 * length are.made.opening.accounts + 5 * length (batches_of are.made.records) + 8 * end_of are.made.records in
      let grown = GrowsAtMostTo-weaken g _ place mid new
      (omega (arith, ap (λ (opening : Opening). length opening.accounts) are.head, ap length (is ∙ are.units))) grows in
      inr (are.made, of-source, GrowsAtMostTo-behind_same g place old mid new same grown)

  -- the log is written to a disk on which none was found
  module _ {D T E : Type 0} (g : Ghosts D) (old mid new : D) (rest : List ℕ) (is : rest ≡ drop parts.front parts.listed.units) (result : Result T E)
      (stays : g.honest old → g.honest mid) (writes : WritesLog g parts.head rest mid new result) where
    pub writes_log-leaves_upgraded : Leaves g.moment g.images_since (g.images old) old mid → g.honest old
        → Leaves g.moment g.images_since (MayBeUpgraded left (g.images old)) old new
    writes_log-leaves_upgraded found honest = leaves-upgraded g.moment g.images_since (g.images old) old mid new found
        (writes.moments (stays honest) are.made (sym are.head) (rest-units_of_made rest is))

    pub writes_log-all_hold_upgrade : g.honest old → OnOk result (AllHoldUpgrade left (g.images new))
    writes_log-all_hold_upgrade honest = on_ok_weaker result (λ held. all-upgraded (g.images new) (held are.made (sym are.head) (rest-units_of_made rest is))) (writes.made (stays honest))

    pub writes_log-costs_upgrade : (g.honest old → Costs g 1 4 old mid) → g.honest old → CostsUpgrade g left old new
    writes_log-costs_upgrade found honest = costs-upgraded g old mid new (found honest) (writes.count (stays honest) are.made.records (rest-units_of_made rest is))

    pub writes_log-grows_by_upgrade : (g.honest old → g.reads mid ≡ g.reads old) → g.honest old → GrowsByUpgrade g left old new
    writes_log-grows_by_upgrade found honest = grows-upgraded g old mid new rest is (found honest) (writes.grows (stays honest) are.made.records (rest-units_of_made rest is))
