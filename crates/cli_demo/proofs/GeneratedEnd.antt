-- Generated transfers end far below the last LSN, also where some were cut short.
use Rattle.std.proofs.Common.{◌≡◌, ◌≤◌, ◌<◌, ℕ, zero, suc, ◌+◌, ◌*◌, ◌⊎◌, inl, inr, List, [], ◌∷◌, length, take, get_or, None, ◌-◌, refl, ap, ◌∙◌, arith, length-append}
use Rattle.std.specs.List.{AllByRecursion}
use Rattle.log_record.specs.declared.rec.Rec.{Rec}
use Rattle.log_record.specs.declared.rec.Rec.TheVariants.{Short, Over}
use Rattle.log_record.specs.declared.rec.Placed.{Placed}
use Rattle.log_record.specs.LogList.{size_of, units_of, end_of, IsBoundary}
use Rattle.log_record.proofs.LogListLemmas.{boundary_is_front, units_of-append}
use Rattle.log_recovery.specs.Opened.{OpenedList, list_end, placed, with_records, IsListBoundary}
use Rattle.log_recovery.proofs.OpenedLemmas.{list_end-more}
use Rattle.lock_core.specs.Alone.{Done, ShortAt, OverAt, Outcome, leg_updates, outcome_alone, outcome_records}
use Rattle.lock_core.specs.AnyOrder.{IsDoneIn, weight_of}
use Rattle.lock_core.specs.History.{history_from}
use Rattle.lock_core.specs.Serial.{NumberedTransfer, numbered, IsCutShort, IsPartlySerialAfter}
use Rattle.lock_core.specs.Sums.{BaseState}
use Rattle.lock_core.specs.Transactions.{own_records_of, all_without_prev, in_order}
use Rattle.lock_core.proofs.Doing.{end_of-weight, partly_serial-done_or_cut_short, distinct-numbered}
use Rattle.lock_core.proofs.NextRecords.{size-without_prev}
use Rattle.lock_core.proofs.Weighing.{each_task, weight_of-append, weight_of-history, weight_of-in_order, weight_of-tasks, weight_of-without_prev}
use Rattle.lock_core.specs.declared.job.Job.{Job}
use Rattle.txn_script.specs.Generator.{number_after, leg_from, job_from, generated_jobs, generated_transfers, OpensGenerated}
use Rattle.lock_core.specs.Transfers.{transfer_of}
use Rattle.txn_script.proofs.OrderLemmas.{room-generated}
use Rattle.txn_jobs.specs.Places.{NumberedJobs, number_at, job_at}
use Rattle.cli_threads.specs.RunStops.{HasNextOf, IsTotalAmong, StopsAtLogEnd}
use Rattle.cli_threads.specs.Sharing.{IsSharedOut, Sharing}

-- ---- one transfer has 5 units at most, whatever its outcome

updates-most : (txn k : ℕ) (leg : ℕ × ℕ × ℕ) → weight_of size_of (leg_updates txn (take k (leg ∷ []))) ≤ 4
updates-most txn zero leg = omega arith
updates-most txn (suc zero) leg = omega arith
updates-most txn (suc (suc k)) leg = omega arith

outcome-most : (txn x : ℕ) (outcome : Outcome) → weight_of size_of (outcome_records txn (transfer_of (job_from x)) outcome) ≤ 5
outcome-most txn x Done = omega arith
outcome-most txn x (ShortAt leg) = omega (
  arith,
  updates-most txn (leg - 1) (leg_from x),
  weight_of-append size_of (leg_updates txn (take (leg - 1) (leg_from x ∷ []))) (Short txn leg ∷ []),
)
outcome-most txn x (OverAt leg) = omega (
  arith,
  updates-most txn (leg - 1) (leg_from x),
  weight_of-append size_of (leg_updates txn (take (leg - 1) (leg_from x ∷ []))) (Over txn leg ∷ []),
)

-- the records of a transaction that go on to these ones weigh what these do, or less
records-most : (h : List Placed) (n : ℕ) (rest planned : List Rec) → in_order (all_without_prev (own_records_of n h)) rest ≡ planned
    → weight_of size_of (own_records_of n h) + weight_of size_of rest ≡ weight_of size_of planned
records-most h n rest planned same =
    let parts = weight_of-in_order size_of (all_without_prev (own_records_of n h)) rest in
    let plain = weight_of-without_prev size_of (own_records_of n h) size-without_prev in
    let whole = ap (weight_of size_of) same in
    omega arith

task-most : (h : List Placed) (n x : ℕ) → let task : NumberedTransfer = record { number = n; job = transfer_of (job_from x) } in
    IsDoneIn h task ⊎ IsCutShort h task → weight_of size_of (own_records_of n h) ≤ 5
task-most h n x (inl done) = omega (arith, records-most h n [] _ done, outcome-most n x Done)
task-most h n x (inr cut) = let same = records-most h n cut.rest _ cut.front in omega arith

-- ---- all of them

tasks-most : (h : List Placed) (first n seed : ℕ)
    → AllByRecursion (λ (task : NumberedTransfer). IsDoneIn h task ⊎ IsCutShort h task) (numbered first (generated_transfers n seed))
    → each_task (λ task. weight_of size_of (own_records_of task.number h)) (numbered first (generated_transfers n seed)) ≤ 5 * n
tasks-most h first zero seed each = omega arith
tasks-most h first (suc n) seed each =
    let here = task-most h first (number_after seed) each.0 in
    let more = tasks-most h (first + 1) n (number_after seed) each.1 in
    omega arith

module _ (n seed first : ℕ) (base : BaseState) (few : n ≤ 100000) (opens : OpensGenerated base) where
  pub end_of-partly_serial_le : (records : List Rec)
      → IsPartlySerialAfter base (numbered first (generated_transfers n seed)) (history_from base.end [] records) → end_of records ≤ 5 * n
  end_of-partly_serial_le records serial =
      let tasks = numbered first (generated_transfers n seed) in
      let h = history_from base.end [] records in
      let each = partly_serial-done_or_cut_short base first (generated_transfers n seed) (room-generated n seed base few opens) h serial in
      let sum = weight_of-tasks size_of tasks h (distinct-numbered first (generated_transfers n seed)) serial.others in
      omega (arith, end_of-weight records, weight_of-history size_of base.end [] records, sum, tasks-most h first n seed each)

-- ---- so none of them can come to the end of the log

generated-at : (n seed place : ℕ) (other : Job) → place < length (generated_jobs n seed)
    → (x : ℕ) × (get_or (generated_jobs n seed) place other ≡ job_from x)
generated-at zero seed place other inside = absurd (omega arith)
generated-at (suc n) seed zero other inside = (number_after seed, refl)
generated-at (suc n) seed (suc place) other inside = generated-at n (number_after seed) place other (omega arith)

records-boundary_most : (records : List Rec) (lsn : ℕ) → IsBoundary records lsn → lsn ≤ end_of records
records-boundary_most records lsn is =
    let found = boundary_is_front records lsn is in
    let longer = ap end_of found.2 ∙ ap length (units_of-append found.0 found.1) ∙ length-append (units_of found.0) (units_of found.1) in
    omega (arith, longer, found.3)

boundary-most : (list : OpenedList) (lsn : ℕ) → IsListBoundary list lsn → lsn ≤ list_end list
boundary-most list lsn is = omega (arith, is.1, records-boundary_most list.records is.0 is.2)

module _ (n seed : ℕ) (few : n ≤ 100000) (jobs : NumberedJobs) (script : jobs.script ≡ generated_jobs n seed) where
  next-most : (list : OpenedList) (place tail units : ℕ) → place < length jobs.script → HasNextOf list jobs place tail units → units ≤ 5
  next-most list place tail units inside next =
      let found = generated-at n seed place (record { legs = []; note = None }) (omega (arith, inside, ap length script)) in
      let job : job_at jobs place ≡ job_from found.0 =
      ap (λ s. get_or s place (record { legs = []; note = None })) script ∙ found.1 in
      let plan = next.plan ∙ ap (λ j. outcome_records (number_at jobs place) (transfer_of j)
      (outcome_alone (transfer_of j) next.balances)) job in
      let weighed = records-most (placed list) (number_at jobs place) (next.next ∷ next.rest) _ plan in
      omega (
        arith,
        weighed,
        outcome-most (number_at jobs place) found.0
            (outcome_alone (transfer_of (job_from found.0)) next.balances),
        next.size,
      )

  -- a group of 16 workers asks for few units too
  asked-most : (ring slots workers units total : ℕ) → workers ≤ 16 → units ≤ 5 → IsTotalAmong ring slots workers units total → total ≤ 421
  asked-most ring slots workers units total crew small (inl own) = omega (arith, own, small)
  asked-most ring slots workers units total crew small (inr group) =
      let most : total + 26 ≤ units + 26 * workers = group.known.1 in omega (arith, most, crew, small)

  pub never-log_end : (workers : ℕ) (sharing : Sharing) → IsSharedOut workers jobs sharing → (opened : OpenedList) (list : List Rec) (ring slots tail total : ℕ)
      → workers ≤ 16 → list_end opened ≤ 128 → end_of list ≤ 5 * n → StopsAtLogEnd opened jobs sharing list ring slots tail total → ⊥
  never-log_end workers sharing shared opened list ring slots tail total crew first most stops =
      let room = stops.no_room in
      let inside : stops.cut < length jobs.script = omega (arith, stops.all_cut.0.inside, shared.within) in
      let small = next-most (with_records opened list) stops.cut tail room.units inside room.next in
      let asked = asked-most ring slots (length sharing.taken) room.units total (omega (arith, shared.count, crew)) small room.asked in
      let within = boundary-most (with_records opened list) tail stops.no_room.boundary in
      let longer = list_end-more opened list in
      let past = stops.no_room.too_long in
      omega arith
