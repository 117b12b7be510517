-- Why a worker gives up.
use Rattle.std.specs.Prelude.{◌≡◌, ◌≢◌, ℕ, ◌+◌, ◌<◌, ◌≤◌, Bool, true, List, [], ◌∷◌, Contains, ⊤}
use Rattle.lsn_space.specs.declared.lsn.TheConstants.{LAST}
use Rattle.log_record.specs.declared.rec.Rec.{Rec}
use Rattle.log_record.specs.LogList.{size_of}
use Rattle.log_rule.specs.declared.view.View.{View}
use Rattle.log_table.specs.Seats.{view_of}
use Rattle.ring_buffer.specs.declared.refused.Refused.{Refused}
use Rattle.ring_buffer.specs.declared.refused.Refused.TheVariants as refusal
use Rattle.ring_buffer.specs.Totals.{IsTotalOfSeat}
use Rattle.txn_jobs.specs.declared.cause.Cause.{Cause}
use Rattle.txn_jobs.specs.declared.cause.Cause.TheVariants.{Stop, LogEnd}
use Rattle.txn_parts.specs.declared.desk.Desk.{Desk}

-- the refusal says that the log is at its end, and so does the cause, with the same numbers
abbrev pub IsLogEnd : Refused → Cause → Type 0
IsLogEnd refused (Stop word) = ⊥
IsLogEnd refused (LogEnd tail total) = refused ≡ refusal.LogEnd tail total

-- the refusal is for want of room in the ring, not in the log
abbrev pub IsRingFull : Refused → Type 0
IsRingFull (refusal.RingFull tail durable total) = ⊤
IsRingFull (refusal.LogEnd tail total) = ⊥

-- The log stopped; or the next of the records that are left, alone or in a group, doesn't fit in the log behind the tail that the seat saw
-- last.
abbrev pub StopsFor : Cause → List Rec → View → Type 0
StopsFor (Stop word) rest view = (word ≢ 0) × (view.seen.stop ≡ word)
StopsFor (LogEnd tail total) [] view = ⊥
StopsFor (LogEnd tail total) (next ∷ rest) view =
    IsTotalOfSeat view (size_of next) total × (LAST < tail + total) × (tail ≡ view.seen.tail) × Contains view.seen.lsns tail

-- the cause is that the log stopped
abbrev pub HasStopped : {R Q G : Type 0} → Desk R Q G → Cause → Type 0
HasStopped desk cause = StopsFor cause [] (view_of desk.seat.now)

-- what the worker saw of durable is what its seat saw last; it is at or above the end where the worker was to wait for that
pub record HasSeen (end : ℕ) (wait : Bool) (view : View) (seen : ℕ) : Type 0 where
  pub durable : seen ≡ view.seen.durable
  pub waited : wait ≡ true → end ≤ seen
