-- What a worker knows of the records that it has still to place.
use Rattle.std.proofs.Common.{◌≡◌, ◌⊎◌, ℕ, suc, ◌+◌, ◌≤◌, List, [], ◌∷◌, length, get_or, Option, Some, sym, ap, ◌∙◌, subst, arith}
use Rattle.log_record.specs.declared.rec.Rec.{Rec}
use Rattle.log_record.specs.declared.rec.Rec.TheVariants.{Note}
use Rattle.log_record.specs.declared.rec.Placed.{Placed}
use Rattle.lock_core.specs.Alone.{planned_from, with_note}
use Rattle.lock_core.specs.Transactions.{recs_of, in_order}
use Rattle.log_rule.specs.declared.view.Books.{Books}
use Rattle.log_rule.specs.declared.view.Half.TheVariants.{Neither}
use Rattle.log_rule.specs.Books.{balance_taken, last_commit_taken, next_of, IsNext, IsNote, HoldsAccounts, MayEnter}
use Rattle.lock_core.specs.Transfers.{note_of}

get_or-in_order : (placed : List Placed) (records : List Rec) (other : Rec) → get_or (in_order (recs_of placed) records) (length placed) other ≡ get_or records 0 other
get_or-in_order placed records other = ap (λ n. get_or (in_order (recs_of placed) records) n other) (omega arith) ∙ behind placed records 0
  where
    behind : (placed : List Placed) (records : List Rec) (k : ℕ) → get_or (in_order (recs_of placed) records) (length placed + k) other ≡ get_or records k other
    behind [] records k = ap (λ n. get_or records n other) (omega arith)
    behind (entry ∷ placed) records k = ap (λ n. get_or (in_order (recs_of placed) (entry.rec ∷ records)) n other) (omega arith)
        ∙ behind placed (entry.rec ∷ records) (suc k)

-- the record that comes next is the only one
pub is_next-next_of : (rec : Rec) (books : Books) → IsNext rec books → next_of books ≡ rec
is_next-next_of rec books next = ap (λ plan. get_or plan (length books.placed) (Note 0 [])) (sym next.plan) ∙ get_or-in_order books.placed (rec ∷ next.rest) (Note 0 [])

-- a record that comes next may be placed
pub may-enter : (rec : Rec) (books : Books) → books.half ≡ Neither → 1 ≤ books.last.number → IsNext rec books → IsNote rec ⊎ HoldsAccounts books → MayEnter (next_of books) books
may-enter rec books whole some_job next accounts = subst (λ r. MayEnter r books) (sym (is_next-next_of rec books next))
    record { whole = whole; some_job = some_job; next = next; accounts = accounts }

-- the Note of a job that has one is the first
pub note-next : (books : Books) (text : List ℕ) → books.placed ≡ [] → books.last.job.note ≡ Some text → 1 ≤ length text → IsNext (Note books.last.number text) books
note-next books [] none noted has = absurd (omega arith)
note-next books (byte ∷ bytes) none noted has = record {
  rest = planned_from books.last.number (last_commit_taken books.held) (balance_taken books.held) 0 books.last.job.legs;
  plan = ap (λ placed. in_order (recs_of placed) (Note books.last.number (byte ∷ bytes) ∷ planned_from books.last.number
      (last_commit_taken books.held) (balance_taken books.held) 0 books.last.job.legs)) none
      ∙ sym (ap (λ (o : Option (List ℕ)). with_note books.last.number (note_of o) (planned_from books.last.number (last_commit_taken books.held)
      (balance_taken books.held) 0 books.last.job.legs)) noted);
}
