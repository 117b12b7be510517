-- What a seat has in hand while it raises exposed.
use Rattle.std.proofs.Common.{arith, ◌≡◌, ◌∙◌, ℕ, ◌<◌, ◌≤◌, cond, ap, sym, refl, le_refl, lt-ltb}
use Rattle.log_table.specs.declared.table.Seat.{Seat}
use Rattle.log_rule.specs.declared.group_view.After.{After}
use Rattle.log_rule.specs.declared.view.Call.TheVariants.{Marked, Holding, Raising}
use Rattle.log_rule.specs.declared.view.View.{View}
use Rattle.log_rule.specs.GroupViews.{call_after, follow_up}
use Rattle.log_rule.specs.MarkViews.{saw_mark, next_raise, call_with_mark}
use Rattle.log_rule.specs.May.{MayRaise}
use Rattle.log_table.specs.Seats.{Becomes, view_of}
use Rattle.log_rule.specs.Views.{saw_exposed, after_look}
use Rattle.ring_buffer.specs.Calls.{HasMarked, HasInHand, HasOnlySeen}
use Rattle.ring_buffer.proofs.OneStep.{KeepsWorker, IsSameWorker-becomes}

-- the seat exposes since `first`: it has this LSN in hand, and had seen none above it
pub record Exposes (first seat : Seat) (at : ℕ) : Type 0 where
  pub stays : HasOnlySeen first seat
  pub hand : HasInHand at (view_of seat)
  pub after : follow_up (view_of seat).call ≡ follow_up (view_of first).call
  pub grows : (view_of first).seen.exposed ≤ at

-- a call that is a mark's
pub HasMarked-marked_call : (view : View) (after : After) → view.call ≡ Marked after → HasMarked view
HasMarked-marked_call view after is = is ∙ sym (ap (λ call. Marked (follow_up call)) is)

-- after the look at exposed
module _ (first seat : Seat) (at : ℕ) (becomes : Becomes first seat (saw_exposed at (view_of first))) where
  is : view_of seat ≡ saw_exposed at (view_of first)
  is = ap (λ me. me.0) becomes.me

  KeepsWorker-looked : (view_of first).seen.exposed ≤ at → KeepsWorker (view_of first) (saw_exposed at (view_of first))
  KeepsWorker-looked grows = record {
    constants = refl;
    standing = refl;
    tail = le_refl (view_of first).seen.tail;
    exposed = grows;
    durable = le_refl (view_of first).seen.durable;
    steps = omega arith;
  }

  HasOnlySeen-looked : (view_of first).seen.exposed ≤ at → HasOnlySeen first seat
  HasOnlySeen-looked grows = record {
    same = IsSameWorker-becomes first seat (saw_exposed at (view_of first)) becomes (KeepsWorker-looked grows);
    entries = ap (λ (v : View). v.entries) is;
    books = ap (λ (v : View). v.books) is;
    stop = ap (λ (v : View). v.seen.stop) is;
    contended = ap (λ (v : View). v.contended) is;
  }

  call-looked : HasMarked (view_of first) → (view_of seat).call ≡ Holding at (follow_up (view_of first).call)
  call-looked marked = ap (λ (v : View). v.call) is ∙ ap (after_look at) marked

  pub Exposes-looked : HasMarked (view_of first) → (view_of first).seen.exposed ≤ at → Exposes first seat at
  Exposes-looked marked grows = record {
    stays = HasOnlySeen-looked grows;
    hand = record {
      call = call-looked marked ∙ sym (ap (λ call. Holding at (follow_up call)) (call-looked marked));
      exposed = ap (λ (v : View). v.seen.exposed) is;
      step = ap (λ (v : View). v.seen.exposed_step) is ∙ sym (ap (λ (v : View). v.seen.steps) is);
    };
    after = ap follow_up (call-looked marked);
    grows = grows;
  }

pub next_raise-above : (at mark : ℕ) (after : After) → at < mark → next_raise at mark after ≡ Raising at mark after
next_raise-above at mark after above = ap (λ b. cond b (Raising at mark after) (call_after after)) (lt-ltb at mark above)

-- the seat looked for a mark at the LSN in hand, and found this one
module _ (seat after : Seat) (at mark : ℕ) (hand : HasInHand at (view_of seat)) (becomes : Becomes seat after (saw_mark mark (view_of seat))) where
  looked-is : view_of after ≡ saw_mark mark (view_of seat)
  looked-is = ap (λ me. me.0) becomes.me

  abbrev rest : After
  rest = follow_up (view_of seat).call

  call-marked : (view_of after).call ≡ next_raise at mark rest
  call-marked = ap (λ (v : View). v.call) looked-is ∙ ap (call_with_mark mark) hand.call

  -- one above it: exposed is to be raised
  raises-above : at < mark → (view_of after).call ≡ Raising at mark rest
  raises-above above = call-marked ∙ next_raise-above at mark rest above

  pub mark_above-MayRaise : at < mark → MayRaise at mark (view_of after)
  mark_above-MayRaise above = record { after = rest; raising = raises-above above }
