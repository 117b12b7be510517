-- The script that `run` reads, for a log of so many accounts. `left` is what the input holds at first, where it tells that.
use Rattle.std.specs.Prelude.{◌≡◌, ◌<◌, ◌⊎◌, ℕ, ◌+◌, List, length, Option}
use Rattle.log_record.specs.declared.limits.TheConstants.{LAST_TXN}
use Rattle.lock_core.specs.declared.job.Job.{Job}
use Rattle.txn_script.specs.Script.{IsScriptText, IsFirstBadLine}
use Rattle.cli_shared.specs.declared.report.Detail.{Detail}
use Rattle.cli_shared.specs.declared.report.Detail.TheVariants.{NoMemory, Script, Read, TxnEnd}
use Rattle.log_disk.specs.Streams.{ReadsAll}

-- the transfers are those of the whole input
abbrev pub IsWholeScript : ℕ → Option (List ℕ) → Option (List ℕ) → List Job → Type 0
IsWholeScript accounts left left_new jobs = (text : List ℕ) × ReadsAll left left_new text × IsScriptText accounts text jobs

-- why the input gives no transfers
abbrev pub HasNoScript : ℕ → Option (List ℕ) → Option (List ℕ) → Detail → Type 0
HasNoScript accounts left left_new (Script line) = (text : List ℕ) × ReadsAll left left_new text × IsFirstBadLine accounts text line
HasNoScript accounts left left_new Read = Unit {0}
HasNoScript accounts left left_new NoMemory = Unit {0}
HasNoScript accounts left left_new detail = ⊥

-- the whole input is a script, but the number that would follow those of its transfers, from the first on, is above the last one
pub record NumbersEnd (accounts first : ℕ) (left left_new : Option (List ℕ)) (detail : Detail) : Type 0 where
  pub jobs : List Job
  pub script : IsWholeScript accounts left left_new jobs
  pub detail_is : detail ≡ TxnEnd first (length jobs)
  pub past : LAST_TXN < first + length jobs

-- why the input gives no transfers that have numbers from the first on
abbrev pub HasNoTransfers : ℕ → ℕ → Option (List ℕ) → Option (List ℕ) → Detail → Type 0
HasNoTransfers accounts first left left_new detail =
    HasNoScript accounts left left_new detail ⊎ NumbersEnd accounts first left left_new detail
