-- What a seat is that has joined a group, and what it was since.
use Rattle.std.proofs.Common.{arith, ◌≡◌, ◌∙◌, ℕ, ◌<◌, ◌≤◌, false, List, [], ◌∷◌, length, ap, refl, sym, subst}
use Rattle.std.specs.List.{AllByRecursion}
use Rattle.log_record.specs.Spelling.{IsTxn, spelling}
use Rattle.lock_core.specs.declared.job.Job.{Job}
use Rattle.log_rule.specs.declared.group_view.MemberStep.{MemberStep}
use Rattle.log_table.specs.declared.table.LogTable.{LogTable}
use Rattle.log_table.specs.declared.table.Seat.{Seat}
use Rattle.log_rule.specs.declared.view.Call.TheVariants.{Idle}
use Rattle.log_rule.specs.declared.view.Constants.{Constants}
use Rattle.log_rule.specs.declared.view.Standing.{Standing}
use Rattle.log_rule.specs.declared.view.TakenJob.{TakenJob}
use Rattle.log_rule.specs.declared.view.View.{View}
use Rattle.log_rule.specs.AccountViews.{took_job}
use Rattle.log_rule.specs.Books.{next_of}
use Rattle.log_table.specs.Seats.{Becomes, IsOf, view_of}
use Rattle.log_rule.specs.SlotViews.{piece_joining, step_joining}
use Rattle.ring_buffer.specs.Calls.{IsSameWorker}
use Rattle.ring_buffer.proofs.TwoCalls.{IsSameWorker-trans}
use Rattle.ring_buffer.proofs.SameWorkers.{IsSameWorker-refl}
use Rattle.consol_array.specs.declared.call.Joined.{Joined}
use Rattle.consol_array.specs.Joining.{HasJoined}
use Rattle.consol_array.specs.Members.{IsAtStep}
use Rattle.test_rig.specs.NotedJobs.{MayInsert}
use Rattle.table_tests.specs.Shares.{GoesOn, HasShare, IsShare}

IsShare-joined : (table : LogTable) (old new : Seat) (n : ℕ) (units : List ℕ) (joined : Joined) → HasJoined table old new n joined → n ≡ length units
    → units ≡ spelling (next_of (view_of old).books) → IsShare table joined units (piece_joining joined.offset (view_of old)) new
IsShare-joined table old new n units joined has n-is units-are = record {
  slot_below = has.slot_below;
  offset_is = refl;
  size_is = has.size_is ∙ (n-is ∙ ap length units-are);
  whole = refl;
  units_are = units-are;
  tail_seen = omega (arith, ap (λ me. me.0.seen.tail) has.becomes.me);
  durable_seen = omega (arith, ap (λ me. me.0.seen.durable) has.becomes.me);
}

pub HasShare-joined : (table : LogTable) (old new : Seat) (n : ℕ) (units : List ℕ) (joined : Joined) → HasJoined table old new n joined → n ≡ length units
    → units ≡ spelling (next_of (view_of old).books) → HasShare table joined units (step_joining joined.offset) new
HasShare-joined table old new n units joined has n-is units-are = record {
  piece = piece_joining joined.offset (view_of old);
  first = new;
  share = IsShare-joined table old new n units joined has n-is units-are;
  call = ap (λ me. me.0.call) has.becomes.me;
  same = IsSameWorker-refl new;
}

-- at another step the share is the same
pub HasShare-since : (table : LogTable) (joined : Joined) (units : List ℕ) (before step : MemberStep) (old new : Seat)
    → (has : HasShare table joined units before old) → IsSameWorker old new → IsAtStep joined.slot has.piece step (view_of new)
    → HasShare table joined units step new
HasShare-since table joined units before step old new has same call = record {
  piece = has.piece;
  first = has.first;
  share = has.share;
  call = call;
  same = IsSameWorker-trans has.first old new has.same same;
}

-- both are the same worker's as the first
pub IsOf-both_same_worker : (table : LogTable) (first old new : Seat) → IsOf table old → IsSameWorker first old → IsSameWorker first new → IsOf table new
IsOf-both_same_worker table first old new of was is = record {
  table_is = is.table_is ∙ (sym was.table_is ∙ of.table_is);
  no_slots = is.slots ∙ (sym was.slots ∙ of.no_slots);
  ring = ap (λ (constants : Constants). constants.ring) (is.constants ∙ sym was.constants) ∙ of.ring;
  slots = ap (λ (constants : Constants). constants.slots) (is.constants ∙ sym was.constants) ∙ of.slots;
}

-- who took no job of m or above took none of n or above
pub all_below-weaken : (m n : ℕ) → m ≤ n → (jobs : List TakenJob) → AllByRecursion (λ (taken : TakenJob). taken.number < m) jobs
    → AllByRecursion (λ (taken : TakenJob). taken.number < n) jobs
all_below-weaken m n later [] all = tt
all_below-weaken m n later (taken ∷ jobs) all = (omega (arith, later, all.0), all_below-weaken m n later jobs all.1)

-- the worker stands as before, and took and holds what it did
pub GoesOn-kept : (number : ℕ) (old new : View) → new.standing ≡ old.standing → new.contended ≡ false → new.books.held ≡ old.books.held
    → new.books.half ≡ old.books.half → new.books.jobs ≡ old.books.jobs → GoesOn number old → GoesOn number new
GoesOn-kept number old new standing alone held half jobs may = record {
  active = ap (λ (standing : Standing). standing.role) standing ∙ may.active;
  alone = alone;
  none_held = held ∙ may.none_held;
  whole = half ∙ may.whole;
  above = subst (λ (jobs : List TakenJob). AllByRecursion (λ (taken : TakenJob). taken.number < number) jobs) (sym jobs) may.above;
}

-- who has taken a job may take one of any greater number
pub GoesOn-taken : (table : LogTable) (number : ℕ) (job : Job) (seat after : Seat) (word : ℕ) → MayInsert table number seat
    → Becomes seat after (took_job number job word (view_of seat)) → (next : ℕ) → number < next → GoesOn next (view_of after)
GoesOn-taken table number job seat after word worker takes next later =
    let taken : view_of after ≡ took_job number job word (view_of seat) = ap (λ me. me.0) takes.me in record {
      active = ap (λ (v : View). v.standing.role) taken ∙ worker.ready.rests.active;
      alone = ap (λ (v : View). v.contended) taken ∙ worker.ready.alone;
      none_held = ap (λ (v : View). v.books.held) taken ∙ worker.free.none_held;
      whole = ap (λ (v : View). v.books.half) taken ∙ worker.ready.rests.whole;
      above = subst (λ (jobs : List TakenJob). AllByRecursion (λ (taken : TakenJob). taken.number < next) jobs)
          (sym (ap (λ (v : View). v.books.jobs) taken))
          (later, all_below-weaken number next (omega (arith, later)) (view_of seat).books.jobs worker.free.above);
    }

-- with nothing under way it may do so now
pub MayInsert-idle : (table : LogTable) (number : ℕ) (seat : Seat) → IsTxn number → IsOf table seat → (view_of seat).call ≡ Idle
    → GoesOn number (view_of seat) → MayInsert table number seat
MayInsert-idle table number seat txn own idle may = record {
  own = own;
  ready = record { rests = record { active = may.active; idle = idle; whole = may.whole }; alone = may.alone };
  free = record { txn = txn; none_held = may.none_held; above = may.above };
}
