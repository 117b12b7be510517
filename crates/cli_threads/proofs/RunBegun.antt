-- A run that was begun over the opened list: at first an image holds that list alone.
use Rattle.std.proofs.Common.{◌≡◌, ◌⊎◌, ⊎_elim, inl, inr, refl, sym, subst, arith, ℕ, ◌+◌, List, [], ◌∷◌}
use Rattle.std.proofs.lemmas.List.{append-nil}
use Rattle.std.specs.List.{AllByRecursion}
use Rattle.log_disk.specs.Disk.{Leaves}
use Rattle.log_disk.specs.declared.disk.LogDisk.{Ghosts}
use Rattle.log_disk.proofs.Moments.{Leaves-trans, Leaves-weaken}
use Rattle.log_record.specs.declared.rec.Rec.{Rec}
use Rattle.log_record.specs.Spelling.{IsSpellable}
use Rattle.log_recovery.specs.Opened.{OpenedList, placed, with_records, with_front}
use Rattle.log_recovery.specs.Recovery.{HoldsLawful}
use Rattle.log_rule.specs.declared.start.Start.{Start}
use Rattle.lock_core.specs.Alone.{PlainTransfer, with_note, leg_updates}
use Rattle.lock_core.specs.Serial.{numbered, IsRunWhole, IsCutShort}
use Rattle.lock_core.specs.Sums.{BaseState}
use Rattle.lock_core.specs.Transactions.{own_records_of}
use Rattle.segment_file.specs.declared.scan_result.Tail.{Tail}
use Rattle.cli_threads.specs.Run.{HoldsRun, GoesOn, transfers_of}
use Rattle.cli_threads.specs.Sharing.{Sharing}
use Rattle.cli_threads.specs.Transferred.{IsOpened}
use Rattle.txn_runner.specs.Places.{NumberedJobs, number_at}
use Rattle.cli_threads.proofs.RunHistory.{own_records_of-later}
use Rattle.cli_threads.proofs.RunLedger.{with_records-goes_on}

-- of no records, each transfer is cut short before its first
partly-none : (base : BaseState) (first : ℕ) (jobs : List PlainTransfer)
    → AllByRecursion (λ task. IsRunWhole base [] task ⊎ IsCutShort [] task) (numbered first jobs)
partly-none base first [] = tt
partly-none base first (job ∷ jobs) =
    (inr (record { rest = with_note first job.note (leg_updates first job.legs); front = refl }), partly-none base (first + 1) jobs)

module _ {D : Type 0} (g : Ghosts D) (disk : D) (tail : Tail) (opened : OpenedList) (jobs : NumberedJobs) (sharing : Sharing) (key : Start)
    (is : IsOpened g disk tail opened jobs.first key) (records : List Rec) where
  nothing-there : (place : ℕ) → own_records_of (number_at jobs place) (placed (with_records opened [])) ≡ []
  nothing-there place = own_records_of-later opened [] (number_at jobs place) (omega (arith, is.below))

  nothing-goes_on : GoesOn opened jobs sharing (with_records opened [])
  nothing-goes_on = with_records-goes_on opened [] jobs is.lawful is.range is.some_accounts is.below
      (subst (AllByRecursion IsSpellable) (sym (append-nil opened.records)) is.spellable) tt
      (record { each = partly-none _ jobs.first (transfers_of jobs); others = λ txn apart. refl })
      sharing (λ places i j one first second less recorded. absurd (recorded (nothing-there j))) (λ place behind. nothing-there place)

  holds-nothing : (bytes : List ℕ) → HoldsLawful bytes opened → HoldsRun opened jobs sharing records bytes
  holds-nothing bytes held = record {
    front = [];
    rest = records;
    whole = refl;
    holds = subst (λ records. HoldsLawful bytes (with_front opened records)) (sym (append-nil opened.records)) held;
    goes_on = nothing-goes_on;
  }

  -- the images of all moments, those before the run and those of it
  pub Leaves-before_or_run : (Before : List ℕ → Type 0) (entry new : D)
      → Leaves g.moment g.images_since (λ bytes. Before bytes ⊎ HoldsLawful bytes opened) entry disk
      → Leaves g.moment g.images_since (HoldsRun opened jobs sharing records) disk new
      → Leaves g.moment g.images_since (λ bytes. Before bytes ⊎ HoldsRun opened jobs sharing records bytes) entry new
  Leaves-before_or_run Before entry new first then =
      Leaves-trans g.moment g.images_since (λ bytes. Before bytes ⊎ HoldsRun opened jobs sharing records bytes) entry disk new
      (Leaves-weaken g.moment g.images_since (λ bytes. Before bytes ⊎ HoldsLawful bytes opened)
      (λ bytes. Before bytes ⊎ HoldsRun opened jobs sharing records bytes) entry disk
      (λ bytes. ⊎_elim (λ before. inl before) (λ held. inr (holds-nothing bytes held))) first)
      (Leaves-weaken g.moment g.images_since (HoldsRun opened jobs sharing records)
      (λ bytes. Before bytes ⊎ HoldsRun opened jobs sharing records bytes) disk new (λ bytes held. inr held) then)
