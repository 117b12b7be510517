-- A worker that took a job with a note may place it, and what it has reserved then.
use Rattle.std.proofs.Common.{◌≡◌, ◌∙◌, inl, ℕ, ◌+◌, ◌-◌, List, length, ap, sym, refl, subst, arith}
use Rattle.log_record.specs.declared.rec.Rec.{Rec}
use Rattle.log_record.specs.declared.rec.Rec.TheVariants.{Note}
use Rattle.log_record.specs.Spelling.{spelling}
use Rattle.lock_core.specs.declared.job.Job.{Job}
use Rattle.log_table.specs.declared.table.LogTable.{LogTable}
use Rattle.log_table.specs.declared.table.Seat.{Seat}
use Rattle.log_rule.specs.declared.view.Books.{Books}
use Rattle.log_rule.specs.declared.view.Call.TheVariants.{Filling}
use Rattle.log_rule.specs.AccountViews.{took_job}
use Rattle.log_rule.specs.Books.{taking_job, next_of, IsNext, MayEnter}
use Rattle.log_table.specs.Seats.{Becomes, view_of}
use Rattle.log_rule.specs.Views.{empty_entry}
use Rattle.log_rule.proofs.RecordsToPlace.{is_next-next_of, may-enter, note-next}
use Rattle.ring_buffer.specs.Calls.{MayPlace, HasPlaced, HasReserved}
use Rattle.ring_buffer.specs.declared.call.Range.{Range}
use Rattle.test_rig.specs.NotedJobs.{AreNoteUnits, MayInsert}

-- the seat took the job
module _ (table : LogTable) (number : ℕ) (job : Job) (units : List ℕ) (seat after : Seat) (word : ℕ)
    (worker : MayInsert table number seat) (taken : Becomes seat after (took_job number job word (view_of seat))) (noted : AreNoteUnits number job units)
  where
    abbrev books : Books
    books = taking_job (record { number = number; job = job }) (view_of seat).books

    is : (view_of after).books ≡ books
    is = ap (λ me. me.0.books) taken.me

    next : IsNext (Note number noted.0) books
    next = note-next books noted.0 refl noted.1 noted.2

    pub units-noted : units ≡ spelling (next_of (view_of after).books)
    units-noted = noted.3 ∙ (ap spelling (sym (is_next-next_of (Note number noted.0) books next)) ∙ ap (λ (b : Books). spelling (next_of b)) (sym is))

    pub MayPlace-noted : MayPlace (length units) (view_of after).books
    MayPlace-noted = record {
      size = ap length units-noted;
      enters = subst (λ (b : Books). MayEnter (next_of b) b) (sym is)
          (may-enter (Note number noted.0) books worker.ready.rests.whole worker.free.txn.0 next (inl tt));
    }

-- what a worker has that reserved for its next record
pub HasReserved-placed : (old new : Seat) (ring n : ℕ) (units : List ℕ) (range : Range) → n ≡ length units
    → units ≡ spelling (next_of (view_of old).books) → HasPlaced old new ring n range → HasReserved range units (view_of new)
HasReserved-placed old new ring n units range size spelled placed =
    let behind : (range.start + n) - range.start ≡ range.size = omega (arith, placed.size) in
    let rec : Rec = next_of (view_of old).books in record {
      rec = rec;
      call = ap (λ me. me.0.call) placed.becomes.me ∙ ap (λ (n : ℕ). Filling (empty_entry range.start n rec)) behind;
      size = placed.size ∙ (size ∙ ap length spelled);
      units_are = spelled;
    }
