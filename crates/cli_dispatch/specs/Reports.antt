-- The commands that read a log and write a report of it. They leave the disk alone.
use Rattle.std.specs.Prelude.{◌≡◌, ℕ, List, Option}
use Rattle.log_disk.specs.declared.source.Source.{Ghosts as SourceGhosts}
use Rattle.log_disk.specs.declared.sink.Sink.{Ghosts as SinkGhosts}
use Rattle.cli_shared.specs.declared.report.Detail.{Detail}
use Rattle.cli_shared.specs.World.{World}
use Rattle.cli_reports.specs.Answers.{AnswersRecover, AnswersDump, IsAnswerToDump, IsAnswerToRecover}
use Rattle.cli_reports.specs.Command.{HasReported}
use Rattle.cli_reports.specs.Reports.{AnswersReport, IsAnswerOnAccount, IsAnswerAtLsn, RefusesLsn}
use Rattle.cli_standby.specs.Shipping.{SaysStream}
use Rattle.cli_view.specs.Reports.{RefusesAccount, SaysAccounts, SaysStatement}

-- a report, with what it answers for the bytes of the input, and which answers there are
pub record DoesReport {D S K : Type 0} (h : SourceGhosts S) (i : SinkGhosts K)
    (Answers : List ℕ → Option (List ℕ) → Option (List ℕ) → Option (List ℕ) → Detail → Type 0) (IsAnswer : Detail → Type 0)
    (old new : World D S K) (detail : Detail) : Type 0 where
  pub report : HasReported h i Answers IsAnswer old.input new.input old.out new.out detail
  pub untouched : new.disk ≡ old.disk

abbrev pub DoesRecover : {D S K : Type 0} → SourceGhosts S → SinkGhosts K → World D S K → World D S K → Detail → Type 0
DoesRecover h i old new detail = DoesReport h i AnswersRecover IsAnswerToRecover old new detail

abbrev pub DoesDump : {D S K : Type 0} → SourceGhosts S → SinkGhosts K → World D S K → World D S K → Detail → Type 0
DoesDump h i old new detail = DoesReport h i AnswersDump IsAnswerToDump old new detail

abbrev pub DoesShip : {D S K : Type 0} → SourceGhosts S → SinkGhosts K → ℕ → World D S K → World D S K → Detail → Type 0
DoesShip h i from old new detail = DoesReport h i (AnswersReport (SaysStream from) (RefusesLsn from)) IsAnswerAtLsn old new detail

abbrev pub DoesAsOf : {D S K : Type 0} → SourceGhosts S → SinkGhosts K → ℕ → World D S K → World D S K → Detail → Type 0
DoesAsOf h i lsn old new detail = DoesReport h i (AnswersReport (SaysAccounts lsn) (RefusesLsn lsn)) IsAnswerAtLsn old new detail

abbrev pub DoesStatement : {D S K : Type 0} → SourceGhosts S → SinkGhosts K → ℕ → World D S K → World D S K → Detail → Type 0
DoesStatement h i account old new detail =
    DoesReport h i (AnswersReport (SaysStatement account) (RefusesAccount account)) IsAnswerOnAccount old new detail
