-- The `done` line of one transfer is told, and the file holds what was told.
use Rattle.std.proofs.Common.{◌≢◌, ◌∙◌, inl, refl, sym, ap, [], ◌++◌, append-nil, arith}
use Rattle.std.specs.List.{AllByRecursion}
use Rattle.log_record.specs.LogList.{units_of}
use Rattle.log_record.specs.Spelling.{IsSpellable}
use Rattle.lock_core.specs.Serial.{IsPartlySerialAfter}
use Rattle.lock_core.specs.Transactions.{recs_of}
use Rattle.lock_core.specs.Witness.{genesis_log, transfer_records, transfer_history}
use Rattle.lock_core.proofs.SerialFronts.{serial-partly}
use Rattle.lock_core.proofs.Witnessing.{transfer-lawful, transfer-serial}
use Rattle.log_recovery.specs.Opened.{list_end, placed, with_records, base_left}
use Rattle.log_recovery.specs.Text.{accounts_text}
use Rattle.segment_file.proofs.FirstFormat.{HoldsUnits-HoldsLog}
use Rattle.segment_file.proofs.StandingLemmas.{StandsAt-HoldsUnits}
use Rattle.commit_pipeline.specs.EndLines.{done_line}
use Rattle.txn_jobs.specs.Places.{number_at}
use Rattle.cli_threads.specs.Run.{ComeInTurn, HasNoneBehind, HoldsRun}
use Rattle.cli_threads.specs.Shares.{sharing_of}
use Rattle.cli_threads.specs.Sharing.{Sharing}
use Rattle.lsn_space.proofs.TilingLemmas.{all-append}
use Rattle.cli_laws.specs.RunWitness.{file_at}
use Rattle.cli_laws.specs.Told.{HasToldPayment}
use Rattle.cli_threads.proofs.RunHistory.{own_records_of-later, of_transaction-pushed_others}
use Rattle.cli_threads.proofs.RunLedger.{with_records-lawful, with_records-goes_on}
use Rattle.cli_threads.proofs.RunPlaces.{tasks_of}
use Rattle.cli_laws.proofs.RunWitness.{first_list, jobs, shares, tail_new, stands-new, genesis-spellable, transfer-spellable, genesis-lawful, genesis-begins_in_range}

spellable : AllByRecursion IsSpellable (genesis_log ++ transfer_records)
spellable = all-append IsSpellable genesis_log transfer_records genesis-spellable transfer-spellable

serial : IsPartlySerialAfter (base_left first_list) (tasks_of jobs) transfer_history
serial = serial-partly (base_left first_list) (tasks_of jobs) transfer_history transfer-serial

abbrev sharing : Sharing
sharing = sharing_of 1 shares

-- no transfer but the first has a record
none_behind : HasNoneBehind jobs sharing (placed (with_records first_list transfer_records))
none_behind place behind = own_records_of-later first_list transfer_records (number_at jobs place) (omega (arith, behind))
    ∙ ap recs_of (of_transaction-pushed_others (number_at jobs place) (list_end first_list) [] transfer_records (other, (other, (other, tt))) refl)
  where
    other : 1 ≢ number_at jobs place
    other same = absurd (omega (arith, same, behind))

in_turn : ComeInTurn jobs sharing (placed (with_records first_list transfer_records))
in_turn places i j is-list has has' less recorded = absurd (recorded (none_behind j (omega (arith, less))))

run : HoldsRun first_list jobs sharing transfer_records (file_at 1)
run = record {
  front = transfer_records;
  rest = [];
  whole = refl;
  holds = record {
    list = record {
      each = spellable;
      holds = HoldsUnits-HoldsLog (file_at 1) (units_of genesis_log ++ units_of transfer_records)
          (StandsAt-HoldsUnits tail_new (units_of genesis_log ++ units_of transfer_records) (file_at 1) stands-new);
    };
    lawful = with_records-lawful first_list transfer_records jobs genesis-lawful genesis-begins_in_range (omega arith) (omega arith) spellable transfer-lawful serial;
  };
  goes_on = with_records-goes_on first_list transfer_records jobs genesis-lawful genesis-begins_in_range (omega arith) (omega arith) spellable transfer-lawful serial sharing in_turn
      none_behind;
}

pub payment-told : HasToldPayment
unfolding run
payment-told = record {
  jobs = jobs;
  sharing = sharing;
  held = record {
    run = run;
    told = (
      done_line 1 9,
      accounts_text (with_records first_list transfer_records),
      ap (λ text. text ++ accounts_text (with_records first_list transfer_records)) (append-nil (done_line 1 9)),
      refl,
    );
    count = omega arith;
  };
  line = record { before = []; after = []; whole = sym (append-nil (done_line 1 9)); begins = inl refl };
}
