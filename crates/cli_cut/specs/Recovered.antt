-- What `recover` answers of a log that was made of another, beside what it answers of that one.
use Rattle.std.specs.Prelude.{◌≡◌, ℕ, List}
use Rattle.lsn_space.specs.Opening.{Opening}
use Rattle.segment_file.specs.Log.{cut_log, HoldsLog}
use Rattle.log_recovery.specs.Opened.{OpenedList, log_of}
use Rattle.log_recovery.specs.Recovery.{HoldsLawful, Recovers}
use Rattle.log_recovery.specs.declared.recovery.Recovered.{Recovered}
use Rattle.cli_cut.specs.Cutting.{IsCutOf}
use Rattle.cli_cut.specs.Upgrading.{IsUpgradeOf}

-- the second log is what `cut` makes of the first
pub record IsCutLog (bytes made : List ℕ) : Type 0 where
  pub list : OpenedList
  pub opening : Opening
  pub lawful : HoldsLawful bytes list
  pub cut : IsCutOf list opening
  pub held : HoldsLog made (cut_log opening)

-- the second log is what `upgrade` makes of the first
pub record IsUpgradedLog (bytes written : List ℕ) : Type 0 where
  pub list : OpenedList
  pub made : OpenedList
  pub lawful : HoldsLawful bytes list
  pub upgrade : IsUpgradeOf list made
  pub held : HoldsLog written (log_of made)

-- the two answers have the same end, the same balances and last commits, and the same next transaction number
pub record AnswersAlike (a b : Recovered) : Type 0 where
  pub lsn : a.lsn ≡ b.lsn
  pub accounts : a.accounts.rows ≡ b.accounts.rows
  pub next : a.next_txn ≡ b.next_txn

-- so do any answers for the two logs
abbrev pub RecoverAlike : List ℕ → List ℕ → Type 0
RecoverAlike bytes made = (a b : Recovered) → Recovers a bytes → Recovers b made → AnswersAlike a b
