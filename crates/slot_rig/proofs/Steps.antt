-- A worker stays the one that it is, and a member of its group, by a step that changes its view alone.
use Rattle.std.proofs.Common.{◌≡◌, ◌∙◌, ℕ, ap}
use Rattle.log_rule.specs.declared.group_view.MemberStep.{MemberStep}
use Rattle.log_table.specs.declared.table.LogTable.{LogTable}
use Rattle.log_table.specs.declared.table.Seat.{Seat}
use Rattle.log_rule.specs.declared.view.Call.{Call}
use Rattle.log_rule.specs.declared.view.Call.TheVariants.{Joined}
use Rattle.log_rule.specs.declared.view.Constants.{Constants}
use Rattle.log_rule.specs.declared.view.Standing.{Standing}
use Rattle.log_rule.specs.declared.view.View.{View}
use Rattle.log_table.specs.Seats.{Becomes, view_of}
use Rattle.slot_rig.specs.Shares.{IsWorker, IsMember, HasReleased}
use Rattle.slot_rig.specs.declared.share.Share.{Share}

-- constants, standing and the accounts held, by half too, are as before
pub record KeepsWorker (old new : View) : Type 0 where
  pub constants : new.constants ≡ old.constants
  pub standing : new.standing ≡ old.standing
  pub held : new.books.held ≡ old.books.held
  pub half : new.books.half ≡ old.books.half

module _ (table : LogTable) (old new : Seat) (view : View) (becomes : Becomes old new view) (keeps : KeepsWorker (view_of old) view) where
  is : view_of new ≡ view
  is = ap (λ me. me.0) becomes.me

  pub worker-step : (number : ℕ) → IsWorker table number old → IsWorker table number new
  worker-step number worker = record {
    own = record {
      table_is = becomes.table_is ∙ worker.own.table_is;
      no_slots = ap (λ me. me.1) becomes.me ∙ worker.own.no_slots;
      ring = ap (λ (v : View). v.constants.ring) is ∙ (ap (λ (c : Constants). c.ring) keeps.constants ∙ worker.own.ring);
      slots = ap (λ (v : View). v.constants.slots) is ∙ (ap (λ (c : Constants). c.slots) keeps.constants ∙ worker.own.slots);
    };
    active = ap (λ (v : View). v.standing.role) is ∙ (ap (λ (s : Standing). s.role) keeps.standing ∙ worker.active);
    numbered = ap (λ (v : View). v.standing.worker) is ∙ (ap (λ (s : Standing). s.worker) keeps.standing ∙ worker.numbered);
    none_held = ap (λ (v : View). v.books.held) is ∙ (keeps.held ∙ worker.none_held);
    whole = ap (λ (v : View). v.books.half) is ∙ (keeps.half ∙ worker.whole);
  }

  pub member-step : (share : Share) (step step' : MemberStep) → view.entries ≡ (view_of old).entries → (member : IsMember table share step old)
      → view.call ≡ Joined share.slot member.piece step' → IsMember table share step' new
  member-step share step step' entries member call = record {
    worker = worker-step share.worker member.worker;
    slot = member.slot;
    piece = member.piece;
    own_piece = member.own_piece;
    call = ap (λ (v : View). v.call) is ∙ call;
    no_entry = ap (λ (v : View). v.entries) is ∙ (entries ∙ member.no_entry);
  }

  pub released-step : (share : Share) (base : ℕ) (call call' : Call) → view.entries ≡ (view_of old).entries
      → (released : HasReleased table share base call old) → view.call ≡ call' → HasReleased table share base call' new
  released-step share base call call' entries released is_call = record {
    worker = worker-step share.worker released.worker;
    slot = released.slot;
    piece = released.piece;
    own_piece = released.own_piece;
    call_is = ap (λ (v : View). v.call) is ∙ is_call;
    entry = ap (λ (v : View). v.entries) is ∙ (entries ∙ released.entry);
  }
