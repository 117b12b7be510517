-- The two Updates of a leg.
use Rattle.std.proofs.Common.{◌≡◌, ℕ, ◌≤◌, pos, neg_ℤ, ℤ, List, [], ◌∷◌, Contains, inr, sym, refl, ap, ◌∙◌, subst}
use Rattle.std.proofs.lemmas.List.Elements.{All-contains}
use Rattle.log_record.specs.declared.rec.Rec.{Rec}
use Rattle.log_record.specs.declared.rec.Rec.TheVariants.{Update}
use Rattle.log_record.specs.Spelling.{spelling}
use Rattle.log_table.specs.declared.table.Seat.{Seat}
use Rattle.log_rule.specs.declared.view.Books.{Books}
use Rattle.log_rule.specs.declared.view.Half.TheVariants.{Neither}
use Rattle.log_rule.specs.Books.{last_commit_taken, next_of, HoldsAccounts, IsNext, MayEnter}
use Rattle.log_table.specs.Seats.{view_of}
use Rattle.log_rule.proofs.RecordsToPlace.{may-enter}
use Rattle.ring_buffer.specs.Calls.{entry_of}
use Rattle.early_locks.specs.Locks.{HoldsTaken}
use Rattle.txn_jobs.specs.declared.cause.Cause.{Cause}
use Rattle.txn_parts.specs.declared.taken_account.TakenAccount.{TakenAccount}
use Rattle.txn_making.specs.Inserts.{placing_all, PutsRecord, IsLeft, StopsFor, IsCutOff}
use Rattle.txn_making.specs.Legs.{MayMakeLeg, AddsRecords, leg_records}
use Rattle.txn_making.proofs.Adding.{adds-trans, IsLeft-placing_all, uncommitted-placing_all, StopsFor-is_cut_off}
use Rattle.txn_making.proofs.Putting.{IsNext-spelling, IsNext-puts_record, IsNext-stops_for}

-- with all accounts held the next record may be placed
pub IsLeft-may_enter : (rec : Rec) (rest : List Rec) (books : Books) → books.half ≡ Neither → 1 ≤ books.last.number → HoldsAccounts books
    → IsLeft (rec ∷ rest) books → MayEnter (next_of books) books
IsLeft-may_enter rec rest books whole some_job holds left = may-enter rec books whole some_job record { rest = rest; plan = left } (inr holds)

module _ (accounts number : ℕ) (leg : ℕ × ℕ × ℕ) (holdings : List TakenAccount) (old : Seat)
    (may : MayMakeLeg accounts number leg holdings (view_of old).books) where
  abbrev books : Books
  books = (view_of old).books

  abbrev less : Rec
  less = Update number leg.0 (neg_ℤ (pos leg.2)) (last_commit_taken books.held leg.0)

  abbrev more : Rec
  more = Update number leg.1 (pos leg.2) (last_commit_taken books.held leg.1)

  -- what is spelled is an Update with the last Commit of its account as it was taken
  marked : (units : List ℕ) (delta : ℤ) (account : ℕ) (holding : TakenAccount)
      → units ≡ spelling (Update number holding.taken.account delta holding.taken.mark) → Contains holdings holding
      → holding.taken.account ≡ account → units ≡ spelling (Update number account delta (last_commit_taken books.held account))
  marked units delta account holding is has same = is ∙ (λ i. spelling (Update number (same i) delta (last_commit i)))
    where
      last_commit : holding.taken.mark ≡ last_commit_taken books.held account
      last_commit = sym (All-contains (λ (holding : TakenAccount). HoldsTaken holding.taken books) holdings holding may.taken has).last_commit
          ∙ ap (last_commit_taken books.held) same

  next-less : IsNext less books
  next-less = record { rest = more ∷ may.rest; plan = may.left }

  pub MayEnter-payer_update : books.half ≡ Neither → MayEnter (next_of books) books
  MayEnter-payer_update whole = IsLeft-may_enter less (more ∷ may.rest) books whole may.some_job may.holds may.left

  pub payer_update-spells_next : (units : List ℕ) (payer : TakenAccount)
      → units ≡ spelling (Update number payer.taken.account (neg_ℤ (pos leg.2)) payer.taken.mark) → Contains holdings payer
      → payer.taken.account ≡ leg.0 → units ≡ spelling (next_of books)
  payer_update-spells_next units payer is has same = IsNext-spelling less old next-less units (marked units (neg_ℤ (pos leg.2)) leg.0 payer is has same)

  pub IsCutOff-payer_update : (cause : Cause) (new : Seat) → (view_of new).books ≡ books → StopsFor cause (next_of books ∷ []) (view_of new)
      → IsCutOff (view_of new) cause
  IsCutOff-payer_update cause new same stops = StopsFor-is_cut_off less (more ∷ may.rest) cause old new may.left may.uncommitted same
      (IsNext-stops_for less old next-less cause (view_of new) stops)

  module _ (between : Seat) (end : ℕ) (put : PutsRecord (next_of books) end old between) where
    put-less : PutsRecord less end old between
    put-less = IsNext-puts_record less old next-less end between put

    placed : (view_of between).books ≡ placing_all (entry_of put-less.start less ∷ []) books
    placed = put-less.adds.entries.books_are

    left-second : IsLeft (more ∷ may.rest) (view_of between).books
    left-second = IsLeft-placing_all (entry_of put-less.start less ∷ []) (more ∷ may.rest) books (view_of between).books placed may.left

    next-more : IsNext more (view_of between).books
    next-more = record { rest = may.rest; plan = left-second }

    pub MayEnter-payee_update : books.half ≡ Neither → MayEnter (next_of (view_of between).books) (view_of between).books
    MayEnter-payee_update whole = IsLeft-may_enter more may.rest (view_of between).books (ap (λ (b : Books). b.half) placed ∙ whole)
        (subst (λ (b : Books). 1 ≤ b.last.number) (sym placed) may.some_job)
        (subst HoldsAccounts (sym placed) may.holds) left-second

    pub payee_update-spells_next : (units : List ℕ) (payee : TakenAccount)
        → units ≡ spelling (Update number payee.taken.account (pos leg.2) payee.taken.mark) → Contains holdings payee
        → payee.taken.account ≡ leg.1 → units ≡ spelling (next_of (view_of between).books)
    payee_update-spells_next units payee is has same = IsNext-spelling more between next-more units (marked units (pos leg.2) leg.1 payee is has same)

    pub IsCutOff-payee_update : (cause : Cause) (new : Seat) → (view_of new).books ≡ (view_of between).books
        → StopsFor cause (next_of (view_of between).books ∷ []) (view_of new) → IsCutOff (view_of new) cause
    IsCutOff-payee_update cause new same stops = StopsFor-is_cut_off more may.rest cause between new left-second
        (uncommitted-placing_all (entry_of put-less.start less ∷ []) books (view_of between).books placed refl may.uncommitted) same
        (IsNext-stops_for more between next-more cause (view_of new) stops)

    pub AddsRecords-leg : (new : Seat) (end' : ℕ) → PutsRecord (next_of (view_of between).books) end' between new
        → AddsRecords (leg_records number (last_commit_taken books.held) leg) old new
    AddsRecords-leg new end' put' = record {
      added = entry_of put-less.start less ∷ entry_of put-more.start more ∷ [];
      adds = adds-trans (entry_of put-less.start less ∷ []) (entry_of put-more.start more ∷ []) old between new put-less.adds put-more.adds;
      records_are = refl;
    }
      where
        put-more : PutsRecord more end' between new
        put-more = IsNext-puts_record more between next-more end' new put'
