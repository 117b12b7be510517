-- The rounds of an insert, and what they come to.
use Rattle.std.proofs.Common.{arith, ◌≡◌, ◌∙◌, ℕ, ◌<◌, ◌≤◌, length, ap, sym, refl, le_refl}
use Rattle.log_record.specs.Spelling.{spelling}
use Rattle.slot_word.specs.SlotWord.{word_of}
use Rattle.log_table.specs.declared.table.LogTable.{LogTable}
use Rattle.log_table.specs.declared.table.Seat.{Seat}
use Rattle.log_rule.specs.declared.view.Books.{Books}
use Rattle.log_rule.specs.Books.{next_of}
use Rattle.log_table.specs.Seats.{Becomes, view_of}
use Rattle.log_table.proofs.Stepping.{Becomes-trans}
use Rattle.log_rule.specs.SlotViews.{joined_slot, piece_joining, saw_slot}
use Rattle.log_rule.specs.Views.{lost_alone}
use Rattle.ring_buffer.specs.Calls.{IsSameWorker, MayPlace, looked}
use Rattle.ring_buffer.proofs.OneStep.{IsSameWorker-becomes}
use Rattle.ring_buffer.proofs.TwoCalls.{IsSameWorker-trans}
use Rattle.consol_array.specs.declared.call.Joined.{Joined}
use Rattle.consol_array.specs.Inserting.{JoinsNext}
use Rattle.consol_array.specs.Joining.{HasJoined}

-- the seat looked, lost its exchange, and joined a group
module _ (table : LogTable) (first mid lost new : Seat) (n tail durable found : ℕ) (joined : Joined) (looks : Becomes first mid (looked tail durable (view_of first)))
    (loses : Becomes mid lost (lost_alone found (view_of mid)))
  where
    loses-is : Becomes first lost (lost_alone found (looked tail durable (view_of first)))
    loses-is = Becomes-trans first mid lost (looked tail durable (view_of first)) (lost_alone found) looks loses

    same-lost : (view_of first).seen.tail ≤ tail → tail < found → (view_of first).seen.durable ≤ durable → IsSameWorker first lost
    same-lost grows greater seen = IsSameWorker-becomes first lost (lost_alone found (looked tail durable (view_of first))) loses-is record {
      constants = refl;
      standing = refl;
      tail = omega (arith, grows, greater);
      exposed = le_refl (view_of first).seen.exposed;
      durable = seen;
      steps = omega arith;
    }

    books-lost : (view_of lost).books ≡ (view_of first).books
    books-lost = ap (λ me. me.0.books) loses-is.me

    pub JoinsNext-joined : (view_of first).seen.tail ≤ tail → tail < found → (view_of first).seen.durable ≤ durable → MayPlace n (view_of first).books
        → HasJoined table lost new n joined → JoinsNext table first new n joined
    JoinsNext-joined grows greater seen next has =
        let view = joined_slot joined.slot joined.offset (word_of has.loaded) (saw_slot joined.slot (word_of has.loaded) (view_of lost)) in record {
          slot_below = has.slot_below;
          size_is = has.size_is;
          piece = piece_joining joined.offset (view_of lost);
          call = ap (λ me. me.0.call) has.becomes.me;
          offset_is = refl;
          rec_is = ap next_of books-lost;
          whole = ap (λ (books : Books). length (spelling (next_of books))) books-lost ∙ sym next.size;
          tail_seen = sym (ap (λ me. me.0.seen.tail) has.becomes.me);
          durable_seen = sym (ap (λ me. me.0.seen.durable) has.becomes.me);
          same = IsSameWorker-trans first lost new (same-lost grows greater seen) (IsSameWorker-becomes lost new view has.becomes record {
            constants = refl;
            standing = refl;
            tail = le_refl (view_of lost).seen.tail;
            exposed = le_refl (view_of lost).seen.exposed;
            durable = le_refl (view_of lost).seen.durable;
            steps = omega arith;
          });
          entries = ap (λ me. me.0.entries) has.becomes.me ∙ ap (λ me. me.0.entries) loses-is.me;
          books = ap (λ me. me.0.books) has.becomes.me ∙ books-lost;
          stop = ap (λ me. me.0.seen.stop) has.becomes.me ∙ ap (λ me. me.0.seen.stop) loses-is.me;
          alone = ap (λ me. me.0.contended) has.becomes.me;
        }
