-- A worker works on, call after call.
use Rattle.std.proofs.Common.{◌≡◌, ℕ, ◌∙◌, refl, sym, ap, subst}
use Rattle.log_rule.specs.declared.view.Call.TheVariants.{Idle}
use Rattle.log_table.specs.declared.table.Seat.{Seat}
use Rattle.log_table.specs.Seats.{view_of}
use Rattle.ring_buffer.specs.Calls.{IsReady, IsSameWorker}
use Rattle.ring_buffer.proofs.TwoCalls.{IsSameWorker-trans}
use Rattle.ring_buffer.proofs.SameWorkers.{IsSameWorker-refl}
use Rattle.txn_parts.specs.Desk.{IsAtWork, WorksOn, accounts_at}
use Rattle.txn_parts.specs.declared.desk.Desk.{Desk}
use Rattle.txn_parts.specs.declared.relief.Relief.{Ghosts}

pub IsReady-same : (first second : Seat) → IsReady (view_of first) → IsSameWorker first second → (view_of second).call ≡ Idle
    → (view_of second).contended ≡ (view_of first).contended → (view_of second).books.half ≡ (view_of first).books.half
    → IsReady (view_of second)
IsReady-same first second ready same idle contended half = record {
  rests = record {
    active = ap (λ standing. standing.role) same.standing ∙ ready.rests.active;
    idle = idle;
    whole = half ∙ ready.rests.whole;
  };
  alone = contended ∙ ready.alone;
}

module _ {R Q G : Type 0} (g : Ghosts Q) where
  pub WorksOn-none : (same : (q : Q) → g.later q q) (desk : Desk R Q G) → IsAtWork g desk → WorksOn g desk desk
  WorksOn-none same desk at = record {
    table = refl;
    seat = refl;
    relief = refl;
    at_work = at;
    same = IsSameWorker-refl desk.seat.now;
    later = same desk.relief.now;
  }

  pub WorksOn-trans : (trans : (p q r : Q) → g.later p q → g.later q r → g.later p r) (first second third : Desk R Q G)
      → WorksOn g first second → WorksOn g second third → WorksOn g first third
  WorksOn-trans trans first second third before after = record {
    table = after.table ∙ before.table;
    seat = after.seat ∙ before.seat;
    relief = after.relief ∙ before.relief;
    at_work = after.at_work;
    same = IsSameWorker-trans first.seat.now second.seat.now third.seat.now before.same after.same;
    later = trans first.relief.now second.relief.now third.relief.now before.later after.later;
  }

  -- what is said of the number of accounts is said of it still
  pub WorksOn-accounts : (old new : Desk R Q G) → WorksOn g old new → (P : ℕ → Type 0) → P (accounts_at old) → P (accounts_at new)
  WorksOn-accounts old new works P = subst P (ap (λ table. table.now.accounts) (sym works.table))
