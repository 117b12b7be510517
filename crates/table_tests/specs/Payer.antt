-- The books of a worker whose only job, under number 1, pays 30 from account 0 to account 1, which had the greatest balance and nothing.
use Rattle.std.specs.Prelude.{◌≡◌, ℕ, ◌-◌, false, neg_ℤ, pos, None, List, [], ◌∷◌}
use Rattle.lsn_space.specs.declared.opening.TheConstants.{MOST_BALANCE}
use Rattle.log_record.specs.declared.rec.Rec.{Rec}
use Rattle.log_record.specs.declared.rec.Rec.TheVariants.{Update, Commit}
use Rattle.log_record.specs.declared.rec.Placed.{Placed}
use Rattle.log_table.specs.declared.table.LogTable.{LogTable}
use Rattle.log_table.specs.declared.table.Seat.{Seat}
use Rattle.log_rule.specs.declared.view.Books.{Books}
use Rattle.log_rule.specs.declared.view.Call.TheVariants.{Idle}
use Rattle.log_rule.specs.declared.view.Half.{Half}
use Rattle.log_rule.specs.declared.view.Half.TheVariants.{Neither, Giving}
use Rattle.log_rule.specs.declared.view.Role.TheVariants.{Active}
use Rattle.log_rule.specs.declared.view.Taken.{Taken}
use Rattle.log_rule.specs.declared.view.TakenJob.{TakenJob}
use Rattle.log_table.specs.Seats.{IsOf, view_of}

abbrev pub payment : TakenJob
payment = record { number = 1; job = record { legs = (0, 1, 30) ∷ []; note = None } }

-- with these records of it in the log, and these accounts held and half held
abbrev pub payer_books : List Placed → List Taken → Half → Books
payer_books placed held half = record { jobs = payment ∷ []; last = payment; placed = placed; held = held; half = half; given = [] }

-- account 0 as it is taken, and both
abbrev pub payer_account : Taken
payer_account = record { account = 0; balance = MOST_BALANCE; last_commit = 0 }

abbrev pub payee_account : Taken
payee_account = record { account = 1; balance = 0; last_commit = 0 }

abbrev pub both_accounts : List Taken
both_accounts = payee_account ∷ payer_account ∷ []

-- the records of the payment, which end at these LSNs, newest first
abbrev pub debit : Rec
debit = Update 1 0 (neg_ℤ (pos 30)) 0

abbrev pub credit : Rec
credit = Update 1 1 (pos 30) 0

abbrev pub paid : ℕ → ℕ → ℕ → List Placed
paid end second first = record { end = end; rec = Commit 1 1 } ∷ record { end = second; rec = credit } ∷ record { end = first; rec = debit } ∷ []

-- the seat is this table's, of a worker that has no call under way and may place alone, and has these books
pub record HasBooks (table : LogTable) (books : Books) (seat : Seat) : Type 0 where
  pub own : IsOf table seat
  pub active : (view_of seat).standing.role ≡ Active
  pub idle : (view_of seat).call ≡ Idle
  pub alone : (view_of seat).contended ≡ false
  pub books_are : (view_of seat).books ≡ books

-- the worker holds both accounts, and its payment is committed by a record that ends there
abbrev pub HasPaid : LogTable → ℕ → Seat → Type 0
HasPaid table end seat = (second first : ℕ) × HasBooks table (payer_books (paid end second first) both_accounts Neither) seat

-- Its balance is stored with which account 0 goes back, and its word isn't.
abbrev pub HasHalfGiven : LogTable → ℕ → Seat → Type 0
HasHalfGiven table end seat = (second first : ℕ)
    × HasBooks table (payer_books (paid end second first) (payee_account ∷ []) (Giving payer_account (MOST_BALANCE - 30))) seat
