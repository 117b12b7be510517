-- What a seat is after one step, or after some that change its view alone.
use Rattle.std.proofs.Common.{◌≡◌, ◌∙◌, ◌≤◌, ap, sym, subst}
use Rattle.log_table.specs.declared.table.Seat.{Seat}
use Rattle.log_rule.specs.declared.view.View.{View}
use Rattle.log_table.specs.Seats.{Becomes, view_of}
use Rattle.ring_buffer.specs.Calls.{IsSameWorker}

-- the view is the same worker's, and it has seen no less
pub record KeepsWorker (old new : View) : Type 0 where
  pub constants : new.constants ≡ old.constants
  pub standing : new.standing ≡ old.standing
  pub tail : old.seen.tail ≤ new.seen.tail
  pub exposed : old.seen.exposed ≤ new.seen.exposed
  pub durable : old.seen.durable ≤ new.seen.durable
  pub steps : old.seen.steps ≤ new.seen.steps

pub IsSameWorker-becomes : (old new : Seat) (view : View) → Becomes old new view → KeepsWorker (view_of old) view → IsSameWorker old new
IsSameWorker-becomes old new view becomes keeps =
    let is : view_of new ≡ view = ap (λ me. me.0) becomes.me in record {
      table_is = becomes.table_is;
      number = becomes.number;
      slots = ap (λ me. me.1) becomes.me;
      worker = becomes.worker;
      constants = ap (λ (v : View). v.constants) is ∙ keeps.constants;
      standing = ap (λ (v : View). v.standing) is ∙ keeps.standing;
      grows = subst (λ (v : View). (view_of old).seen.tail ≤ v.seen.tail) (sym is) keeps.tail;
      exposed = subst (λ (v : View). (view_of old).seen.exposed ≤ v.seen.exposed) (sym is) keeps.exposed;
      durable = subst (λ (v : View). (view_of old).seen.durable ≤ v.seen.durable) (sym is) keeps.durable;
      steps = subst (λ (v : View). (view_of old).seen.steps ≤ v.seen.steps) (sym is) keeps.steps;
    }
