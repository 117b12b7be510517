-- What `ship` says of the log that was read.
use Rattle.std.proofs.Common.{◌≡◌, refl, subst, sym, ℕ, List, Option, IfSome}
use Rattle.std.specs.Io.KnownBytes.{Appends}
use Rattle.std.specs.List.{AllByRecursion}
use Rattle.log_disk.specs.Streams.{AppendsPart}
use Rattle.log_record.specs.LogList.{AreUnitsOf}
use Rattle.log_record.specs.Spelling.{IsSpellable}
use Rattle.log_record.specs.declared.rec.Rec.{Rec}
use Rattle.lock_core.specs.Taking.{HasJudged}
use Rattle.lock_core.specs.declared.judge.Judge.{Judge}
use Rattle.lock_core.proofs.ListLemmas.{all-split}
use Rattle.log_recovery.specs.Boundaries.{GoesOnAt}
use Rattle.log_recovery.specs.Opened.{OpenedList, IsListBoundary}
use Rattle.log_recovery.specs.Recovery.{list_of}
use Rattle.log_recovery.specs.declared.list_result.Listed.{Listed}
use Rattle.ship_stream.specs.Frames.{stream_of}
use Rattle.cli_shared.specs.LogInput.{ReadsTaken}
use Rattle.cli_shared.specs.declared.report.Detail.TheVariants.{Fine, Write, NoSuchLsn}
use Rattle.cli_reports.specs.Reports.{AnswersReport, OfList, RefusesLsn}
use Rattle.cli_reports.proofs.ReportLemmas.{ReadsAll-of_list}
use Rattle.cli_standby.specs.Shipping.{SaysStream}

module _ (left left_new : Option (List ℕ)) (judge : Judge) (listed : Listed) (read : ReadsTaken HasJudged left left_new judge listed)
    (from : ℕ)
    (units : List ℕ) (same : units ≡ listed.units) where
  abbrev list_read : OpenedList
  list_read = list_of listed read.2.records

  pub read_units-are_units_of : AreUnitsOf units read.2.records
  read_units-are_units_of = subst (λ us. AreUnitsOf us read.2.records) (sym same) read.2.has.list

  said : (Said : OpenedList → Type 0) → Said list_read → IfSome left (λ all. OfList all left_new Said)
  said Said is = ReadsAll-of_list left left_new read.0 list_read Said read.1 read.2.held is

  -- from an LSN that is no boundary nothing is shipped
  pub ship-refused : (old new : Option (List ℕ)) → ((records : List Rec) → AreUnitsOf units records
      → IsListBoundary (record { opening = listed.opening; records = records }) from → ⊥)
      → IfSome left (λ all. AnswersReport (SaysStream from) (RefusesLsn from) all left_new old new (NoSuchLsn from))
  ship-refused old new none = said (λ list. RefusesLsn from list (NoSuchLsn from)) (refl, none read.2.records read_units-are_units_of)

  module _ (rest : List ℕ) (goes_on : (records : List Rec) → AreUnitsOf units records → GoesOnAt listed.opening.lsn records from rest) where
    abbrev pub goes : GoesOnAt listed.opening.lsn read.2.records from rest
    goes = goes_on read.2.records read_units-are_units_of

    pub rest-units : AreUnitsOf rest goes.later
    rest-units = record {
      spellable = (all-split IsSpellable goes.front goes.later (subst (AllByRecursion IsSpellable) goes.whole read_units-are_units_of.spellable)).1;
      units_are = goes.units;
    }

    pub ship-fine : (old new : Option (List ℕ)) → Appends old new (stream_of from goes.later)
        → IfSome left (λ all. AnswersReport (SaysStream from) (RefusesLsn from) all left_new old new Fine)
    ship-fine old new written = said (λ list. (text : List ℕ) × SaysStream from list text × Appends old new text)
        (stream_of from goes.later, (rest, goes, refl), written)

    pub ship-cut : (old new : Option (List ℕ)) → AppendsPart old new (stream_of from goes.later)
        → IfSome left (λ all. AnswersReport (SaysStream from) (RefusesLsn from) all left_new old new Write)
    ship-cut old new written = said (λ list. (text : List ℕ) × SaysStream from list text × AppendsPart old new text)
        (stream_of from goes.later, (rest, goes, refl), written)
