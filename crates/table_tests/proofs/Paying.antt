-- The payer's books as it places the records of its payment, and as it gives account 0 back in two steps.
use Rattle.std.proofs.Common.{arith, ◌≡◌, ◌∙◌, inr, ℕ, ◌+◌, ◌-◌, ◌≤◌, false, List, [], ◌∷◌, length, ap, refl, sym, subst}
use Rattle.lsn_space.specs.declared.opening.TheConstants.{MOST_BALANCE}
use Rattle.log_record.specs.declared.rec.Rec.{Rec}
use Rattle.log_record.specs.declared.rec.Rec.TheVariants.{Commit}
use Rattle.log_record.specs.Spelling.{spelling}
use Rattle.slot_word.specs.declared.account_word.AccountWord.{AccountWord}
use Rattle.log_table.specs.declared.table.LogTable.{LogTable}
use Rattle.log_table.specs.declared.table.Seat.{Seat}
use Rattle.log_rule.specs.declared.view.Books.{Books}
use Rattle.log_rule.specs.declared.view.Half.TheVariants.{Neither}
use Rattle.log_rule.specs.declared.view.Standing.{Standing}
use Rattle.log_rule.specs.Accounts.{FollowsJobBalance, commit_in}
use Rattle.log_rule.specs.AccountViews.{stored_balance}
use Rattle.log_rule.specs.Books.{times_held, balance_taken, last_commit_taken, half_giving, next_of, placing, IsNext, HoldsAccounts}
use Rattle.log_rule.specs.May.{MayStoreBalance, MayGiveBack}
use Rattle.log_rule.proofs.RecordsToPlace.{is_next-next_of, may-enter}
use Rattle.log_table.specs.Seats.{Becomes, view_of}
use Rattle.ring_buffer.specs.Calls.{MayPlace}
use Rattle.ring_buffer.specs.Inserting.{HasInserted}
use Rattle.ring_buffer.proofs.SameWorkers.{IsOf-same}
use Rattle.table_tests.specs.Payer.{HasBooks, HasHalfGiven, HasPaid, both_accounts, credit, debit, paid, payer_account, payer_books}

-- this record comes next in the books of the seat
module _ (table : LogTable) (rec : Rec) (seat : Seat) (next : IsNext rec (view_of seat).books) where
  pub units-next : (units : List ℕ) → units ≡ spelling rec → units ≡ spelling (next_of (view_of seat).books)
  units-next units spelled = spelled ∙ ap spelling (sym (is_next-next_of rec (view_of seat).books next))

  pub MayPlace-next : (units : List ℕ) → units ≡ spelling rec → (view_of seat).books.half ≡ Neither → (view_of seat).books.last.number ≡ 1
      → HoldsAccounts (view_of seat).books → MayPlace (length units) (view_of seat).books
  MayPlace-next units spelled whole number holds = record {
    size = ap length (units-next units spelled);
    enters = may-enter rec (view_of seat).books whole (omega (arith, number)) next (inr holds);
  }

  pub HasBooks-inserted : (new : Seat) (n at end : ℕ) → HasBooks table (view_of seat).books seat → HasInserted seat new n at → at + n ≡ end
      → HasBooks table (placing end rec (view_of seat).books) new
  HasBooks-inserted new n at end has inserted ends = record {
    own = IsOf-same table seat new has.own inserted.same;
    active = ap (λ (standing : Standing). standing.role) inserted.same.standing ∙ has.active;
    idle = inserted.idle;
    alone = inserted.contended ∙ has.alone;
    books_are = inserted.books_are ∙ (λ i. placing (ends i) (is_next-next_of rec (view_of seat).books next i) (view_of seat).books);
  }

-- the two Updates of the payment come next, one after another
pub IsNext-debit : IsNext debit (payer_books [] both_accounts Neither)
IsNext-debit = record { rest = credit ∷ Commit 1 1 ∷ []; plan = refl }

pub IsNext-credit : (first : ℕ) → IsNext credit (payer_books (record { end = first; rec = debit } ∷ []) both_accounts Neither)
IsNext-credit first = record { rest = Commit 1 1 ∷ []; plan = refl }

-- with the payment committed, the balance of account 0 may be stored as the payment made it
pub MayStoreBalance-paid : (table : LogTable) (seat : Seat) (end second first : ℕ)
    → HasBooks table (payer_books (paid end second first) both_accounts Neither) seat → MayStoreBalance 0 (MOST_BALANCE - 30) (view_of seat)
MayStoreBalance-paid table seat end second first has = record {
  rests = record { active = has.active; idle = has.idle; whole = ap (λ (books : Books). books.half) has.books_are };
  has = subst (λ (books : Books). 1 ≤ times_held 0 books.held) (sym has.books_are) (omega arith);
  follows = subst (λ (books : Books). FollowsJobBalance 0 (MOST_BALANCE - 30) (balance_taken books.held 0) books.placed) (sym has.books_are) refl;
  fits = omega arith;
}

pub HasHalfGiven-stored : (table : LogTable) (old new : Seat) (end : ℕ) → HasPaid table end old
    → Becomes old new (stored_balance 0 (MOST_BALANCE - 30) (view_of old)) → HasHalfGiven table end new
HasHalfGiven-stored table old new end done becomes = (
  done.0,
  done.1,
  record {
    own = record {
      table_is = becomes.table_is ∙ done.2.own.table_is;
      no_slots = ap (λ me. me.1) becomes.me ∙ done.2.own.no_slots;
      ring = ap (λ me. me.0.constants.ring) becomes.me ∙ done.2.own.ring;
      slots = ap (λ me. me.0.constants.slots) becomes.me ∙ done.2.own.slots;
    };
    active = ap (λ me. me.0.standing.role) becomes.me ∙ done.2.active;
    idle = ap (λ me. me.0.call) becomes.me ∙ done.2.idle;
    alone = ap (λ me. me.0.contended) becomes.me ∙ done.2.alone;
    books_are = ap (λ me. me.0.books) becomes.me ∙ ap (λ (books : Books). half_giving (record {
      account = 0;
      balance = balance_taken books.held 0;
      last_commit = last_commit_taken books.held 0;
    }) (MOST_BALANCE - 30) books) done.2.books_are;
  },
)

-- with that balance stored, the account may be given back by a free word that has the Commit's end
pub MayGiveBack-half_given : (table : LogTable) (seat : Seat) (end : ℕ) (word : AccountWord) → HasHalfGiven table end seat → word.held ≡ false
    → word.mark ≡ end → MayGiveBack 0 word (view_of seat)
MayGiveBack-half_given table seat end word half free mark = record {
  active = half.2.active;
  idle = half.2.idle;
  taken = payer_account;
  balance = MOST_BALANCE - 30;
  half = ap (λ (books : Books). books.half) half.2.books_are;
  account_is = refl;
  free = free;
  last_commit = mark ∙ ap (λ (books : Books). commit_in books.placed 0 0) (sym half.2.books_are);
}
