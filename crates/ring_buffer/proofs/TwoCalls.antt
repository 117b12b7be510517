-- What a seat has after two calls, one after the other.
use Rattle.std.proofs.Common.{◌∙◌, List, arith}
use Rattle.log_table.specs.declared.table.Seat.{Seat}
use Rattle.log_rule.specs.declared.view.Books.{Books}
use Rattle.log_rule.specs.declared.view.Entry.{Entry}
use Rattle.ring_buffer.specs.Calls.{IsSameWorker, HasEntries}

pub IsSameWorker-trans : (first second third : Seat) → IsSameWorker first second → IsSameWorker second third → IsSameWorker first third
IsSameWorker-trans first second third before after = record {
  table_is = after.table_is ∙ before.table_is;
  number = after.number ∙ before.number;
  slots = after.slots ∙ before.slots;
  worker = after.worker ∙ before.worker;
  constants = after.constants ∙ before.constants;
  standing = after.standing ∙ before.standing;
  grows = omega (arith, before.grows, after.grows);
  exposed = omega (arith, before.exposed, after.exposed);
  durable = omega (arith, before.durable, after.durable);
  steps = omega (arith, before.steps, after.steps);
}

-- the entries and books are those of the later call
pub HasEntries-trans : (first second third : Seat) (entries entries' : List Entry) (books books' : Books)
    → HasEntries first second entries books
    → HasEntries second third entries' books' → HasEntries first third entries' books'
HasEntries-trans first second third entries entries' books books' before after = record {
  same = IsSameWorker-trans first second third before.same after.same;
  idle = after.idle;
  contended = after.contended ∙ before.contended;
  entries_are = after.entries_are;
  books_are = after.books_are;
}
