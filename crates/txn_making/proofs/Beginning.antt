-- The first record of a transfer: its Note, if it has one.
use Rattle.std.proofs.Common.{◌≡◌, ℕ, ◌+◌, ◌≤◌, false, List, [], ◌∷◌, ◌++◌, length, get_or, Some, None, All, inl, refl, sym, ap, ◌∙◌, subst, arith}
use Rattle.std.proofs.lemmas.List.Elements.{All-nil}
use Rattle.log_record.specs.declared.rec.Rec.{Rec}
use Rattle.log_record.specs.declared.rec.Rec.TheVariants.{Note}
use Rattle.log_record.specs.Spelling.{spelling}
use Rattle.lock_core.specs.Alone.{planned_from, planned_records, with_note}
use Rattle.lock_core.specs.Records.{gain, loss}
use Rattle.lock_core.specs.Sums.{moved}
use Rattle.lock_core.specs.Transactions.{recs_of, changes_in, has_commit, in_order}
use Rattle.lock_core.specs.declared.job.Job.{Job}
use Rattle.log_table.specs.declared.table.Seat.{Seat}
use Rattle.log_rule.specs.declared.view.Books.{Books}
use Rattle.log_rule.specs.declared.view.Half.TheVariants.{Neither}
use Rattle.log_rule.specs.declared.view.Entry.{Entry}
use Rattle.log_rule.specs.declared.view.TakenJob.{TakenJob}
use Rattle.log_rule.specs.Books.{balance_taken, last_commit_taken, next_of, IsNext, MayEnter}
use Rattle.lock_core.specs.Transfers.{transfer_of, note_of}
use Rattle.log_rule.specs.ClosedLog.{records_of}
use Rattle.log_table.specs.Seats.{view_of}
use Rattle.log_rule.proofs.RecordsToPlace.{may-enter, note-next}
use Rattle.ring_buffer.specs.Calls.{HasEntries, entry_of}
use Rattle.txn_jobs.specs.declared.cause.Cause.{Cause}
use Rattle.txn_parts.specs.declared.taken_account.TakenAccount.{TakenAccount}
use Rattle.txn_making.specs.Holdings.{IsUnchanged}
use Rattle.txn_making.specs.Inserts.{PutsRecord, placing_all, IsLeft, StopsFor, IsCutOff}
use Rattle.txn_making.specs.Legs.{changes_by, HoldsJob, AddsRecords, StandsBefore, TouchesLeg}
use Rattle.txn_making.proofs.Adding.{adds-none, IsLeft-placing_all, recs_of-placed_behind, StopsFor-is_cut_off}
use Rattle.txn_making.proofs.Putting.{IsNext-spelling, IsNext-puts_record, IsNext-stops_for}

module _ (number : ℕ) (job : Job) (text : List ℕ) (old : Seat)
    (last : (view_of old).books.last ≡ record { number = number; job = job })
    (noted : job.note ≡ Some text) (none : (view_of old).books.placed ≡ []) (some : 1 ≤ length text) where
  next : IsNext (Note number text) (view_of old).books
  next = subst (λ r. IsNext r (view_of old).books) (ap (λ (taken : TakenJob). Note taken.number text) last)
      (note-next (view_of old).books text none (ap (λ (taken : TakenJob). taken.job.note) last ∙ noted) some)

  pub MayEnter-note : (view_of old).books.half ≡ Neither → 1 ≤ number → MayEnter (next_of (view_of old).books) (view_of old).books
  MayEnter-note whole least = may-enter (Note number text) (view_of old).books whole (subst (λ (taken : TakenJob). 1 ≤ taken.number) (sym last) least)
      next (inl tt)

  pub note-spells_next : (units : List ℕ) → units ≡ spelling (Note number text) → units ≡ spelling (next_of (view_of old).books)
  note-spells_next = IsNext-spelling (Note number text) old next

  pub IsCutOff-note : (cause : Cause) (new : Seat) → (view_of new).books ≡ (view_of old).books
      → StopsFor cause (next_of (view_of old).books ∷ []) (view_of new) → IsCutOff (view_of new) cause
  IsCutOff-note cause new same stops = StopsFor-is_cut_off (Note number text) next.rest cause old new next.plan
      (ap (λ placed. has_commit (recs_of placed)) none) same (IsNext-stops_for (Note number text) old next cause (view_of new) stops)

  pub AddsRecords-note : (end : ℕ) (new : Seat) → PutsRecord (next_of (view_of old).books) end old new
      → AddsRecords (with_note number (note_of job.note) []) old new
  AddsRecords-note end new put = record {
    added = entry_of put-note.start (Note number text) ∷ [];
    adds = put-note.adds;
    records_are = sym (ap (λ note. with_note number (note_of note) []) noted ∙ long text some);
  }
    where
      put-note : PutsRecord (Note number text) end old new
      put-note = IsNext-puts_record (Note number text) old next end new put

      long : (bytes : List ℕ) → 1 ≤ length bytes → with_note number bytes [] ≡ Note number bytes ∷ []
      long [] some = absurd (omega arith)
      long (byte ∷ bytes) some = refl

-- a job without a note needs no record before its first leg
pub AddsRecords-no_note : (number : ℕ) (job : Job) (seat : Seat) → HasEntries seat seat (view_of seat).entries (view_of seat).books → job.note ≡ None
    → AddsRecords (with_note number (note_of job.note) []) seat seat
AddsRecords-no_note number job seat kept none = subst (λ note. AddsRecords (with_note number (note_of note) []) seat seat) (sym none)
    record { added = []; adds = adds-none seat seat kept; records_are = refl }

no-changes : (number : ℕ) (text : List ℕ) → changes_in (in_order (with_note number text []) []) ≡ []
no-changes number [] = refl
no-changes number (byte ∷ bytes) = refl

no-commit : (number : ℕ) (text : List ℕ) → has_commit (in_order (with_note number text []) []) ≡ false
no-commit number [] = refl
no-commit number (byte ∷ bytes) = refl

note-first : (number : ℕ) (text : List ℕ) (rest : List Rec) → with_note number text [] ++ rest ≡ with_note number text rest
note-first number [] rest = refl
note-first number (byte ∷ bytes) rest = refl

-- behind its Note the transfer stands before its first leg
module _ (accounts number : ℕ) (job : Job) (holdings : List TakenAccount) (start books : Books) (added : List Entry)
    (placed : books ≡ placing_all added start)
    (records-are : records_of added ≡ with_note number (note_of job.note) []) (none : start.placed ≡ [])
    (holds : HoldsJob accounts number job holdings start) where
  abbrev rest : List Rec
  rest = planned_from number (last_commit_taken start.held) (balance_taken start.held) 0 job.legs

  held : books.held ≡ start.held
  held = ap (λ (b : Books). b.held) placed

  records : recs_of books.placed ≡ in_order (with_note number (note_of job.note) []) []
  records = ap (λ (b : Books). recs_of b.placed) placed ∙ recs_of-placed_behind added start.placed
      ∙ (λ i. in_order (records-are i) (recs_of (none i)))

  changes : changes_by books ≡ []
  changes = ap changes_in records ∙ no-changes number (note_of job.note)

  left-first : IsLeft (records_of added ++ rest) start
  left-first = subst (λ list. IsLeft list start) (sym (note-first number (note_of job.note) rest) ∙ (λ i. sym records-are i ++ rest))
      ((λ i. in_order (recs_of (none i)) (planned_records number (transfer_of job) (last_commit_taken start.held) (balance_taken start.held)))
      ∙ (λ i. planned_records (sym holds.last i).number (transfer_of (sym holds.last i).job) (last_commit_taken start.held)
      (balance_taken start.held)))

  pub StandsBefore-first_leg : All IsUnchanged holdings → StandsBefore 0 number job holdings books
  StandsBefore-first_leg unchanged = record {
    balances = balance_taken books.held;
    left = subst (λ list. IsLeft (planned_from number (last_commit_taken list) (balance_taken list) 0 job.legs) books) (sym held)
        (IsLeft-placing_all added rest start books placed left-first);
    outcome = refl;
    now = λ k d within. unchanged k d within ∙ sym (holds.taken k d within).balance
        ∙ ap (λ list. balance_taken list (get_or holdings k d).taken.account) (sym held);
    sums = λ account. subst (λ list. balance_taken books.held account + moved loss account list
        ≡ balance_taken books.held account + moved gain account list) (sym changes) refl;
    touched = All-nil (TouchesLeg (changes_by books));
    uncommitted = ap has_commit records ∙ no-commit number (note_of job.note);
  }
