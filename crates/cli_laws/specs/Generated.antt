-- A run of generated transfers, in whatever order they ran.
use Rattle.std.specs.Prelude.{◌≡◌, ◌≤◌, ◌+◌, ◌*◌, ℕ, List, []}
use Rattle.log_record.specs.declared.rec.Rec.{Rec}
use Rattle.log_record.specs.LogList.{end_of}
use Rattle.commit_pipeline.specs.EndLines.{done_in, refused_in}
use Rattle.lock_core.specs.AccountRows.{KeepsRows}
use Rattle.lock_core.specs.History.{history_from}
use Rattle.lock_core.specs.Serial.{numbered, IsSerialAfter}
use Rattle.lock_core.specs.Sums.{BaseState}
use Rattle.lsn_space.specs.declared.numerals.TheConstants.{MOST_GENERATED}
use Rattle.run_plan.specs.declared.summary.Counts.{Counts}
use Rattle.txn_script.specs.declared.generator.TheConstants.{GENERATED_ACCOUNTS}
use Rattle.txn_script.specs.Generator.{generated_transfers, OpensGenerated}

-- over a base with their accounts alone the records are a serial run of the transfers of this seed, with numbers from the first on, and
-- the rows have the balances behind it
pub record HasRunGenerated (n seed first : ℕ) (base : BaseState) (records : List Rec) (rows : List (ℕ × ℕ)) : Type 0 where
  pub few : n ≤ MOST_GENERATED
  pub opens : OpensGenerated base
  pub start : base.end ≡ 2 * GENERATED_ACCOUNTS
  pub serial : IsSerialAfter base (numbered first (generated_transfers n seed)) (history_from base.end [] records)
  pub kept : KeepsRows rows base (history_from base.end [] records)

-- what is counted of so many transfers that these records are of
abbrev pub counts_of : ℕ → BaseState → List Rec → Counts
counts_of n base records =
    record { transfers = n; done = done_in records; refused = refused_in records; lsn = base.end + end_of records }
