-- A member hears what became of its group.
use Rattle.std.proofs.Common.{arith, false, ◌≡◌, ◌∙◌, ℕ, ◌+◌, ap}
use Rattle.log_rule.specs.declared.group_view.Piece.{Piece}
use Rattle.log_table.specs.declared.table.Seat.{Seat}
use Rattle.log_rule.specs.Books.{placing}
use Rattle.log_table.specs.Seats.{Becomes, view_of}
use Rattle.log_rule.specs.SlotViews.{saw_slot}
use Rattle.log_rule.proofs.Contention.{contended_seeing-uncontended}
use Rattle.ring_buffer.specs.Calls.{IsSameWorker}
use Rattle.ring_buffer.proofs.TwoCalls.{IsSameWorker-trans}
use Rattle.consol_array.specs.declared.call.Heard.{Heard}
use Rattle.consol_array.specs.declared.call.Heard.TheVariants as heard
use Rattle.consol_array.specs.declared.call.Joined.{Joined}
use Rattle.consol_array.specs.Hearing.{HasHeard, HasSeenNoLess}
use Rattle.consol_array.proofs.Keeping.{IsSameWorker-looked}

-- the member has looked since `first`, and heard nothing
pub record HasOnlyLooked (first seat : Seat) : Type 0 where
  pub same : IsSameWorker first seat
  pub entries : (view_of seat).entries ≡ (view_of first).entries
  pub books : (view_of seat).books ≡ (view_of first).books
  pub stop : (view_of seat).seen.stop ≡ (view_of first).seen.stop
  pub alone : (view_of first).contended ≡ false → (view_of seat).contended ≡ false

pub HasOnlyLooked-again : (first seat new : Seat) (slot word : ℕ) → HasOnlyLooked first seat → Becomes seat new (saw_slot slot word (view_of seat))
    → HasOnlyLooked first new
HasOnlyLooked-again first seat new slot word before looks = record {
  same = IsSameWorker-trans first seat new before.same (IsSameWorker-looked seat new slot word looks);
  entries = ap (λ me. me.0.entries) looks.me ∙ before.entries;
  books = ap (λ me. me.0.books) looks.me ∙ before.books;
  stop = ap (λ me. me.0.seen.stop) looks.me ∙ before.stop;
  alone = λ alone. ap (λ me. me.0.contended) looks.me ∙ contended_seeing-uncontended slot word (view_of seat) (before.alone alone);
}

HasSeenNoLess-since : (piece : Piece) (first seat new : Seat) → IsSameWorker first seat → HasSeenNoLess piece seat new → HasSeenNoLess piece first new
HasSeenNoLess-since piece first seat new same no_less before was tail durable = no_less before (IsSameWorker-trans before first seat was same) tail durable

-- what is heard after some looks
pub HasHeard-since : (ring : ℕ) (joined : Joined) (piece : Piece) (first seat new : Seat) (answer : Heard) → HasOnlyLooked first seat
    → HasHeard ring joined piece seat new answer → HasHeard ring joined piece first new answer
HasHeard-since ring joined piece first seat new (heard.Base member) looked has = record {
  slot_is = has.slot_is;
  offset_is = has.offset_is;
  size_is = has.size_is;
  base = has.base;
  total = has.total;
  at_is = has.at_is;
  within = has.within;
  behind = has.behind;
  seen = has.seen;
  same = HasSeenNoLess-since piece first seat new looked.same has.same;
  call = has.call;
  entries = has.entries ∙ looked.entries;
  books = has.books ∙ ap (placing (has.base + piece.offset + piece.size) piece.rec) looked.books;
  stop = has.stop ∙ looked.stop;
  alone = λ alone. has.alone (looked.alone alone);
}
HasHeard-since ring joined piece first seat new (heard.Refused refused leaver) looked has = record {
  slot_is = has.slot_is;
  size_is = has.size_is;
  total = has.total;
  within = has.within;
  few = has.few;
  refuses = has.refuses;
  now = omega (arith, looked.same.steps, has.now);
  durable_now = omega (arith, looked.same.steps, has.durable_now);
  told = has.told;
  kept = has.kept;
  same = HasSeenNoLess-since piece first seat new looked.same has.same;
  call = has.call;
  entries = has.entries ∙ looked.entries;
  books = has.books ∙ looked.books;
  stop = has.stop ∙ looked.stop;
  alone = λ alone. has.alone (looked.alone alone);
}
