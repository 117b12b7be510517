-- One record more.
use Rattle.std.proofs.Common.{◌≡◌, ◌∙◌, ℕ, ◌+◌, ◌≤◌, List, [], ◌∷◌, ◌++◌, length, sym, ap, subst, arith}
use Rattle.log_record.specs.declared.rec.Rec.{Rec}
use Rattle.log_record.specs.LogList.{size_of}
use Rattle.log_record.specs.Spelling.{spelling}
use Rattle.log_table.specs.declared.table.Seat.{Seat}
use Rattle.log_rule.specs.declared.view.Books.{Books}
use Rattle.log_rule.specs.declared.view.Entry.{Entry}
use Rattle.log_rule.specs.declared.view.View.{View}
use Rattle.log_rule.specs.Books.{next_of, placing, IsNext, MayEnter}
use Rattle.log_table.specs.Seats.{view_of}
use Rattle.log_rule.proofs.RecordsToPlace.{is_next-next_of}
use Rattle.ring_buffer.specs.Calls.{MayPlace, HasEntries, entry_of}
use Rattle.txn_jobs.specs.declared.cause.Cause.{Cause}
use Rattle.txn_making.specs.Inserts.{PutsRecord, StopsFor}
use Rattle.ring_buffer.proofs.TwoCalls.{HasEntries-trans}

pub MayEnter-may_place : (units : List ℕ) (books : Books) → units ≡ spelling (next_of books) → MayEnter (next_of books) books
    → MayPlace (length units) books
MayEnter-may_place units books spelled may = record { size = ap length spelled; enters = may }

-- the next record is inserted after attempts that left all as it was
pub placing-puts_record : (n at end : ℕ) (old between new : Seat) → n ≡ size_of (next_of (view_of old).books) → end ≡ at + n
    → HasEntries old between (view_of old).entries (view_of old).books
    → HasEntries between new ((view_of between).entries ++ entry_of at (next_of (view_of between).books) ∷ [])
    (placing (at + n) (next_of (view_of between).books) (view_of between).books)
    → (view_of between).seen.tail ≤ at → at + n ≤ (view_of new).seen.tail → PutsRecord (next_of (view_of old).books) end old new
placing-puts_record n at end old between new size ends before after behind seen = record {
  start = at;
  ends = ends ∙ ap (λ m. at + m) size;
  adds = record {
    entries = subst (λ (p : Rec × List Entry × Books × ℕ). HasEntries old new (p.1 ++ entry_of at p.0 ∷ []) (placing (at + p.3) p.0 p.2))
        (λ i. (next_of (before.books_are i), before.entries_are i, before.books_are i, size i)) (HasEntries-trans _ _ _ _ _ _ _ before after);
    within = (omega (arith, before.same.grows), omega (arith, size));
  };
}

-- what is said of the next record is said of the one that comes next
module _ (rec : Rec) (old : Seat) (next : IsNext rec (view_of old).books) where
  same : next_of (view_of old).books ≡ rec
  same = is_next-next_of rec (view_of old).books next

  pub IsNext-spelling : (units : List ℕ) → units ≡ spelling rec → units ≡ spelling (next_of (view_of old).books)
  IsNext-spelling units spelled = spelled ∙ sym (ap spelling same)

  pub IsNext-puts_record : (end : ℕ) (new : Seat) → PutsRecord (next_of (view_of old).books) end old new → PutsRecord rec end old new
  IsNext-puts_record end new = subst (λ r. PutsRecord r end old new) same

  pub IsNext-stops_for : (cause : Cause) (view : View) → StopsFor cause (next_of (view_of old).books ∷ []) view → StopsFor cause (rec ∷ []) view
  IsNext-stops_for cause view = subst (λ r. StopsFor cause (r ∷ []) view) same
