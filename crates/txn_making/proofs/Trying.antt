-- One account is tried: it is taken, or it was held.
use Rattle.std.proofs.Common.{◌≡◌, ℕ, ◌≤◌, ◌∙◌, List, Bool, true, false, sym, ap, arith}
use Rattle.std.specs.Prelude.{MatchBool}
use Rattle.lsn_space.specs.declared.opening.TheConstants.{MOST_BALANCE}
use Rattle.log_rule.specs.Books.{taking}
use Rattle.log_table.specs.Seats.{Becomes, view_of}
use Rattle.log_table.specs.declared.table.Seat.{Seat}
use Rattle.log_rule.specs.declared.view.Seen.{Seen}
use Rattle.log_rule.specs.declared.view.Books.{Books}
use Rattle.log_rule.specs.declared.view.Call.TheVariants.{Idle}
use Rattle.log_rule.specs.declared.view.Entry.{Entry}
use Rattle.ring_buffer.specs.Calls.{HasEntries}
use Rattle.ring_buffer.proofs.TwoCalls.{IsSameWorker-trans}
use Rattle.early_locks.specs.declared.taken.Held.{Held}
use Rattle.early_locks.specs.declared.taken.Taken.{Taken}
use Rattle.early_locks.specs.Locks.{HasTaken, WasHeld, held_of}

-- what a second call leaves as it was
pub HasEntries-after_unchanged : (first second third : Seat) (entries : List Entry) (books : Books) → HasEntries first second entries books
    → HasEntries second third (view_of second).entries (view_of second).books → HasEntries first third entries books
HasEntries-after_unchanged first second third entries books before after = record {
  same = IsSameWorker-trans first second third before.same after.same;
  idle = after.idle;
  contended = after.contended ∙ before.contended;
  entries_are = after.entries_are ∙ before.entries_are;
  books_are = after.books_are ∙ before.books_are;
}

-- the seat saw more, and its books are these
pub Becomes-has_entries : (old new : Seat) (seen : Seen) (books : Books) → (view_of old).call ≡ Idle
    → Becomes old new (record (view_of old) { seen = seen; books = books })
    → (view_of old).seen.tail ≤ seen.tail → (view_of old).seen.exposed ≤ seen.exposed → (view_of old).seen.durable ≤ seen.durable
    → (view_of old).seen.steps ≤ seen.steps → HasEntries old new (view_of old).entries books
Becomes-has_entries old new seen books idle becomes tail exposed durable steps = record {
  same = record {
    table_is = becomes.table_is;
    number = becomes.number;
    slots = ap (λ m. m.1) becomes.me;
    worker = becomes.worker;
    constants = ap (λ m. m.0.constants) becomes.me;
    standing = ap (λ m. m.0.standing) becomes.me;
    grows = omega (arith, tail, ap (λ m. m.0.seen.tail) becomes.me);
    exposed = omega (arith, exposed, ap (λ m. m.0.seen.exposed) becomes.me);
    durable = omega (arith, durable, ap (λ m. m.0.seen.durable) becomes.me);
    steps = omega (arith, steps, ap (λ m. m.0.seen.steps) becomes.me);
  };
  idle = ap (λ m. m.0.call) becomes.me ∙ idle;
  contended = ap (λ m. m.0.contended) becomes.me;
  entries_are = ap (λ m. m.0.entries) becomes.me;
  books_are = ap (λ m. m.0.books) becomes.me;
}

pub HasTaken-balance_le : (old new : Seat) (account : ℕ) (taken : Taken) → HasTaken old new account taken → taken.balance ≤ MOST_BALANCE
HasTaken-balance_le old new account taken has = has.range

either : {X Y Z : Type 0} (so : Bool) → MatchBool so X Y → (X → Z) → (Y → Z) → Z
either true has f g = f has
either false has f g = g has

module _ (first second third : Seat) (account : ℕ) (before : HasEntries first second (view_of first).entries (view_of first).books) where
  pub HasTaken-has_entries : (taken : Taken) → HasTaken second third account taken
      → HasEntries first third (view_of first).entries (taking (held_of taken) (view_of first).books)
  HasTaken-has_entries taken has =
      let step = Becomes-has_entries second third _ _ before.idle has.becomes (omega arith) (omega arith) (omega arith) (omega arith) in record {
        same = IsSameWorker-trans first second third before.same step.same;
        idle = step.idle;
        contended = step.contended ∙ before.contended;
        entries_are = step.entries_are ∙ before.entries_are;
        books_are = has.books ∙ (λ i. taking (record { account = sym has.account_is i; balance = taken.balance; last_commit = taken.mark }) (before.books_are i));
      }

  saw : (seen : Seen) → Becomes second third (record (view_of second) { seen = seen }) → (view_of second).seen.tail ≤ seen.tail
      → (view_of second).seen.exposed ≤ seen.exposed → (view_of second).seen.durable ≤ seen.durable → (view_of second).seen.steps ≤ seen.steps
      → HasEntries first third (view_of first).entries (view_of first).books
  saw seen becomes tail exposed durable steps =
      HasEntries-after_unchanged _ _ _ _ _ before (Becomes-has_entries second third seen (view_of second).books before.idle becomes tail exposed durable steps)

  pub WasHeld-has_entries : (held : Held) → WasHeld second third account held → HasEntries first third (view_of first).entries (view_of first).books
  WasHeld-has_entries held was = either held.loaded.held was (λ same. saw _ same.1 (omega arith) (omega arith) (omega arith) (omega arith))
      (λ other. saw _ other.1 (omega arith) (omega arith) (omega arith) (omega arith))
