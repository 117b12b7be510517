-- The end record of a transfer.
use Rattle.std.proofs.Common.{◌≡◌, ◌||◌, ℕ, ◌+◌, ◌≤◌, cond, true, List, [], ◌∷◌, length, get_or, All, refl, sym, ap, ◌∙◌, subst}
use Rattle.log_record.specs.declared.rec.Rec.TheVariants.{Commit}
use Rattle.log_record.specs.LogList.{size_of}
use Rattle.log_record.specs.Spelling.{spelling}
use Rattle.lock_core.specs.Alone.{outcome_alone}
use Rattle.lock_core.specs.History.{end_from}
use Rattle.lock_core.specs.Records.{ends}
use Rattle.lock_core.specs.Transactions.{recs_of, has_end}
use Rattle.lock_core.specs.declared.job.Job.{Job}
use Rattle.log_table.specs.declared.table.Seat.{Seat}
use Rattle.log_rule.specs.declared.view.Books.{Books}
use Rattle.log_rule.specs.declared.view.Half.TheVariants.{Neither}
use Rattle.log_rule.specs.declared.view.Entry.{Entry}
use Rattle.log_rule.specs.declared.view.TakenJob.{TakenJob}
use Rattle.log_rule.specs.Books.{balance_taken, next_of, IsNext, MayEnter}
use Rattle.lock_core.specs.Transfers.{transfer_of}
use Rattle.log_table.specs.Seats.{view_of}
use Rattle.ring_buffer.specs.Calls.{entry_of}
use Rattle.txn_parts.specs.declared.release.Release.TheVariants.{Committed}
use Rattle.txn_parts.specs.declared.taken_account.TakenAccount.{TakenAccount}
use Rattle.txn_jobs.specs.declared.cause.Cause.{Cause}
use Rattle.txn_jobs.specs.declared.rows.Answer.{Answer}
use Rattle.txn_jobs.specs.declared.rows.Answer.TheVariants.{Done, Short, Over}
use Rattle.txn_parts.specs.declared.ended.TransferEnd.{TransferEnd}
use Rattle.txn_making.specs.Endings.{release_at, EndsTransfer}
use Rattle.txn_making.specs.Holdings.{GoesBack}
use Rattle.txn_making.specs.Inserts.{placing_all, Adds, PutsRecord, StopsFor, IsCutOff}
use Rattle.txn_making.specs.Legs.{HoldsJob, HasChanged, ReachesEnd, last_record}
use Rattle.txn_making.proofs.Adding.{adds-trans, IsLeft-placing_all, StopsFor-is_cut_off}
use Rattle.txn_making.proofs.Backing.{GoesBack-unchanged}
use Rattle.txn_making.proofs.Making.{IsLeft-may_enter}
use Rattle.txn_making.proofs.Passing.{HoldsJob-placing_all, HoldsJob-holds_accounts}
use Rattle.txn_making.proofs.Putting.{IsNext-spelling, IsNext-puts_record, IsNext-stops_for}

ends-last : (number : ℕ) (job : Job) (answer : Answer) → ends (last_record number job answer) ≡ true
ends-last number job Done = refl
ends-last number job (Short leg) = refl
ends-last number job (Over leg) = refl

-- after the Commit an account goes back with its new balance
back-moved : (number legs start : ℕ) (books : Books) (holding : TakenAccount) → HasChanged books holding
    → GoesBack (Committed (start + size_of (Commit number legs))) (placing_all (entry_of start (Commit number legs) ∷ []) books) holding
back-moved number legs start books holding has = record {
  balance_is = has.sum;
  last_commit_is = λ i. cond (sym has.touched i) (start + size_of (Commit number legs)) holding.taken.mark;
}

all-back : (number : ℕ) (job : Job) (answer : Answer) (holdings : List TakenAccount) (books : Books) (start : ℕ)
    → ReachesEnd answer number job holdings books
    → All (GoesBack (release_at (start + size_of (last_record number job answer)) answer)
    (placing_all (entry_of start (last_record number job answer) ∷ []) books)) holdings
all-back number job Done holdings books start reaches = λ k d within. back-moved number (length job.legs) start books
    (get_or holdings k d) (reaches.moved refl k d within)
all-back number job (Short leg) holdings books start reaches = GoesBack-unchanged
    (placing_all (entry_of start (last_record number job (Short leg)) ∷ []) books) reaches.uncommitted holdings
all-back number job (Over leg) holdings books start reaches = GoesBack-unchanged
    (placing_all (entry_of start (last_record number job (Over leg)) ∷ []) books) reaches.uncommitted holdings

-- the end record comes next
next-last : (number : ℕ) (job : Job) (answer : Answer) (holdings : List TakenAccount) (books : Books) → ReachesEnd answer number job holdings books
    → IsNext (last_record number job answer) books
next-last number job answer holdings books reaches = record { rest = []; plan = reaches.left }

pub MayEnter-last_record : (accounts number : ℕ) (job : Job) (answer : Answer) (holdings holdings' : List TakenAccount) (old between : Seat)
    (before : List Entry) → (view_of old).books.half ≡ Neither
    → Adds before old between → HoldsJob accounts number job holdings (view_of old).books
    → ReachesEnd answer number job holdings' (view_of between).books → MayEnter (next_of (view_of between).books) (view_of between).books
MayEnter-last_record accounts number job answer holdings holdings' old between before whole adds holds reaches =
    IsLeft-may_enter (last_record number job answer) [] (view_of between).books
    (ap (λ (books : Books). books.half) adds.entries.books_are ∙ whole)
    (subst (λ (last : TakenJob). 1 ≤ last.number) (sym still.last) holds.allowed.number.0)
    (HoldsJob-holds_accounts accounts number job holdings (view_of between).books still) reaches.left
  where
    still : HoldsJob accounts number job holdings (view_of between).books
    still = HoldsJob-placing_all accounts number job holdings (view_of old).books (view_of between).books before adds.entries.books_are holds

pub last_record-spells_next : (number : ℕ) (job : Job) (answer : Answer) (holdings : List TakenAccount) (between : Seat)
    → ReachesEnd answer number job holdings (view_of between).books → (units : List ℕ) → units ≡ spelling (last_record number job answer)
    → units ≡ spelling (next_of (view_of between).books)
last_record-spells_next number job answer holdings between reaches = IsNext-spelling (last_record number job answer) between
    (next-last number job answer holdings (view_of between).books reaches)

pub IsCutOff-last_record : (number : ℕ) (job : Job) (answer : Answer) (holdings : List TakenAccount) (between : Seat)
    → ReachesEnd answer number job holdings (view_of between).books → (cause : Cause) (new : Seat)
    → (view_of new).books ≡ (view_of between).books → StopsFor cause (next_of (view_of between).books ∷ []) (view_of new)
    → IsCutOff (view_of new) cause
IsCutOff-last_record number job answer holdings between reaches cause new same stops =
    StopsFor-is_cut_off (last_record number job answer) [] cause between new reaches.left reaches.uncommitted same
    (IsNext-stops_for (last_record number job answer) between (next-last number job answer holdings (view_of between).books reaches) cause (view_of new) stops)

pub ends-transfer : (number : ℕ) (job : Job) (ended : TransferEnd) (holdings : List TakenAccount) (old between new : Seat)
    (before : List Entry)
    → Adds before old between → ReachesEnd ended.answer number job holdings (view_of between).books
    → PutsRecord (next_of (view_of between).books) ended.end between new → EndsTransfer number job ended holdings old new
ends-transfer number job ended holdings old between new before adds reaches put-next = record {
  before = before;
  start = put.start;
  end_is = put.ends;
  adds = adds-trans before (entry_of put.start (last_record number job ended.answer) ∷ []) old between new adds put.adds;
  left = IsLeft-placing_all (entry_of put.start (last_record number job ended.answer) ∷ []) [] (view_of between).books (view_of new).books placed
      reaches.left;
  outcome = reaches.outcome ∙ ap (λ (b : Books). outcome_alone (transfer_of job) (balance_taken b.held)) adds.entries.books_are;
  back = subst (λ (p : ℕ × Books). All (GoesBack (release_at p.0 ended.answer) p.1) holdings) (λ i. (sym put.ends i, sym placed i))
      (all-back number job ended.answer holdings (view_of between).books put.start reaches);
  is_last = ap (λ (b : Books). end_from 0 b.placed) placed ∙ sym put.ends;
  has_ended = ap (λ (b : Books). has_end (recs_of b.placed)) placed
      ∙ (λ i. ends-last number job ended.answer i || has_end (recs_of (view_of between).books.placed));
}
  where
    put : PutsRecord (last_record number job ended.answer) ended.end between new
    put = IsNext-puts_record (last_record number job ended.answer) between
        (next-last number job ended.answer holdings (view_of between).books reaches) ended.end new put-next

    placed : (view_of new).books ≡ placing_all (entry_of put.start (last_record number job ended.answer) ∷ []) (view_of between).books
    placed = put.adds.entries.books_are
