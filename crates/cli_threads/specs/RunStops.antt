-- How far a run came that stopped at the end of the log. `h` is the history of the whole list.
use Rattle.std.specs.Prelude.{◌≡◌, ℕ, ◌+◌, ◌<◌, ◌≤◌, Bool, true, false, List, ◌∷◌, ◌++◌, length}
use Rattle.lsn_space.specs.declared.lsn.TheConstants.{LAST}
use Rattle.std.specs.List.{AllByRecursion}
use Rattle.log_record.specs.declared.rec.Rec.{Rec}
use Rattle.log_record.specs.declared.rec.Placed.{Placed}
use Rattle.log_record.specs.LogList.{size_of}
use Rattle.lock_core.specs.Alone.{outcome_alone, outcome_records}
use Rattle.lock_core.specs.Sums.{IsBalanceOf}
use Rattle.log_recovery.specs.Opened.{OpenedList, list_end, placed, with_records, with_front, base_in, IsListBoundary}
use Rattle.lock_core.specs.Transactions.{own_records_of, has_end, all_without_prev, in_order}
use Rattle.lock_core.specs.Transfers.{transfer_of}
use Rattle.log_rule.specs.Members.{IsTotalOf}
use Rattle.job_queue.specs.Takings.{times}
use Rattle.txn_jobs.specs.Places.{NumberedJobs, number_at, job_at}
use Rattle.txn_runner.specs.Running.{IsTotalFor}
use Rattle.cli_threads.specs.Sharing.{Sharing}

-- whether the transfer at this place has an end record
abbrev pub EndsAs : NumberedJobs → ℕ → List Placed → Bool → Type 0
EndsAs jobs place h is = has_end (own_records_of (number_at jobs place) h) ≡ is

-- in a prefix of the list which ends at or above this tail the account has this balance
pub record HadBalance (list : OpenedList) (tail account balance : ℕ) : Type 0 where
  pub front : List Rec
  pub rest : List Rec
  pub whole : list.records ≡ front ++ rest
  pub above : tail ≤ list_end (with_front list front)
  pub balance_is : IsBalanceOf (base_in (with_front list front)) (placed (with_front list front)) account balance

-- and so each account of the leg has its own of these balances, each in a prefix of its own
abbrev pub HadBalances : OpenedList → ℕ → (ℕ → ℕ) → ℕ × ℕ × ℕ → Type 0
HadBalances list tail balances leg = HadBalance list tail leg.0 (balances leg.0) × HadBalance list tail leg.1 (balances leg.1)

-- Each account of the transfer at this place has its balance in a prefix of the list ending at or above this tail. By the outcome of that
-- transfer run alone on these balances its next record, behind those that the list has of it, has so many units.
pub record HasNextOf (list : OpenedList) (jobs : NumberedJobs) (place tail units : ℕ) : Type 0 where
  pub balances : ℕ → ℕ
  pub each : AllByRecursion (HadBalances list tail balances) (job_at jobs place).legs
  pub next : Rec
  pub rest : List Rec
  pub plan : in_order (all_without_prev (own_records_of (number_at jobs place) (placed list))) (next ∷ rest)
      ≡ outcome_records (number_at jobs place) (transfer_of (job_at jobs place)) (outcome_alone (transfer_of (job_at jobs place)) balances)
  pub size : units ≡ size_of next

-- so many workers, two at least, can have a group of this total with a record of this size: each other one adds at most 26 units
abbrev pub IsOfWorkers : ℕ → ℕ → ℕ → Type 0
IsOfWorkers workers size total = (1 < workers) × IsTotalOf workers size total

-- The total is the record's own size, or that of a group that it was one of. Without slots, and with one worker, there is no group;
-- else a group has at most a quarter of the ring, and at most 26 units for each further worker besides the record.
abbrev pub IsTotalAmong : ℕ → ℕ → ℕ → ℕ → ℕ → Type 0
IsTotalAmong ring slots workers size total = IsTotalFor ring slots (IsOfWorkers workers) size total

-- For the next record of the transfer at this place so many units were asked for, and they did not fit between this tail, a boundary
-- of the list, and the last LSN. With one worker that tail is the end of the list. The table had such a ring and so many slots.
pub record FoundNoRoom (list : OpenedList) (jobs : NumberedJobs) (workers ring slots place tail total : ℕ) : Type 0 where
  pub too_long : LAST < tail + total
  pub boundary : IsListBoundary list tail
  pub alone : workers ≡ 1 → tail ≡ list_end list
  pub units : ℕ
  pub next : HasNextOf list jobs place tail units
  pub asked : IsTotalAmong ring slots workers units total

-- the transfer at this place, one of those taken, has no end record, since it found no room
pub record WasCutForRoom (list : OpenedList) (jobs : NumberedJobs) (front workers ring slots place : ℕ) : Type 0 where
  pub inside : place < front
  pub unended : EndsAs jobs place (placed list) false
  pub tail : ℕ
  pub total : ℕ
  pub no_room : FoundNoRoom list jobs workers ring slots place tail total

-- The transfers at these places, `cut` and others, were cut off, and all others that were taken ended. Each found no room, and `cut`
-- none for so many units behind this tail. They are at most as many as the workers, and just as many where transfers of the
-- script are left.
pub record StopsAtLogEnd (opened : OpenedList) (jobs : NumberedJobs) (sharing : Sharing) (list : List Rec) (ring slots tail total : ℕ)
    : Type 0 where
  pub cut : ℕ
  pub others : List ℕ
  pub once : (place : ℕ) → times place (cut ∷ others) ≤ 1
  pub no_room : FoundNoRoom (with_records opened list) jobs (length sharing.taken) ring slots cut tail total
  pub all_cut : AllByRecursion (WasCutForRoom (with_records opened list) jobs sharing.front (length sharing.taken) ring slots) (cut ∷ others)
  pub ended : (place : ℕ) → place < sharing.front → times place (cut ∷ others) ≡ 0 → EndsAs jobs place (placed (with_records opened list)) true
  pub most : length (cut ∷ others) ≤ length sharing.taken
  pub just : sharing.front < length jobs.script → length (cut ∷ others) ≡ length sharing.taken
