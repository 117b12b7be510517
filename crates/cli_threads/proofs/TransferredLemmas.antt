-- A run's end: the seats are gathered, the table is closed, and what is known then.
use Rattle.std.proofs.Common.{◌≡◌, ◌∙◌, ℕ, zero, suc, ◌+◌, ◌≤◌, Bool, true, cond, eqb, List, [], ◌∷◌, length, map, sym, refl, ap, subst, arith}
use Rattle.std.proofs.Common.{add-one, add-zero, Option, None, Some, IsSome, IsSomeAnd}
use Rattle.std.specs.List.{AllByRecursion, list_any}
use Rattle.std.proofs.lemmas.List.{length-map}
use Rattle.log_disk.specs.declared.disk.LogDisk.{Ghosts}
use Rattle.log_disk.specs.declared.sink.Sink.{Ghosts as SinkGhosts}
use Rattle.log_recovery.specs.Opened.{OpenedList}
use Rattle.segment_file.specs.declared.scan_result.Tail.{Tail}
use Rattle.log_table.specs.declared.table.LogTable.{LogTable}
use Rattle.log_table.specs.declared.table.Seat.{Seat}
use Rattle.log_rule.specs.declared.start.Start.{Start}
use Rattle.log_rule.specs.declared.view.Books.{Books}
use Rattle.log_rule.specs.declared.view.Constants.{Constants}
use Rattle.log_rule.specs.declared.view.Role.{Role}
use Rattle.log_rule.specs.declared.view.Role.TheVariants.{Flusher}
use Rattle.log_rule.specs.declared.view.Sending.{Sending}
use Rattle.log_rule.specs.declared.view.Standing.{Standing}
use Rattle.log_rule.specs.declared.view.View.{View}
use Rattle.log_rule.specs.ClosedLog.{HasHeardOfWorkers, IsGathered, HasLedger}
use Rattle.log_rule.specs.May.{MayClose}
use Rattle.log_rule.specs.Members.{IsRefusalOf}
use Rattle.log_table.specs.Seats.{view_of}
use Rattle.log_rule.specs.Sends.{IsDrained}
use Rattle.log_rule.specs.Sound.{HasReadStop, base_of}
use Rattle.log_rule.specs.Roles.{is_worker}
use Rattle.log_rule.specs.Views.{constants_of, sent_to}
use Rattle.log_rule.specs.CrewViews.{takes_in}
use Rattle.end_lines.specs.declared.voice.Voice.{Voice}
use Rattle.commit_pipeline.specs.declared.daemon.Daemon.{Daemon}
use Rattle.commit_pipeline.specs.Later.{Later}
use Rattle.commit_pipeline.specs.Turning.{IsSameDaemon}
use Rattle.commit_pipeline.proofs.RanLemmas.{Later-same_daemon}
use Rattle.txn_jobs.specs.declared.cause.Worked.{Worked}
use Rattle.job_queue.specs.declared.queue.Queue.{Queue}
use Rattle.txn_runner.specs.Working.{jobs_of}
use Rattle.cli_workers.specs.declared.workers.Worker.{Worker}
use Rattle.cli_threads.specs.Gathering.{AreFront, HasLeft, all_marks, all_places, share_of, takes_all, view_in, worked_of}
use Rattle.cli_threads.specs.Prepared.{IsBegun}
use Rattle.cli_threads.specs.Shares.{Share, HasGathered}
use Rattle.cli_threads.specs.Transferred.{HasTransferred, IsFresh, IsOpened}
use Rattle.log_table.specs.HiredWorkers.{KnowsHired, hired_numbers}
use Rattle.cli_workers.specs.Workers.{Numbered}
use Rattle.cli_threads.specs.Workers.{AreDone, HasServed, IsDone, IsDoneAs}
use Rattle.cli_threads.proofs.GatheredShares.{HasGathered-all}
use Rattle.cli_threads.proofs.ServedLemmas.{IsDone-has_served}

-- a worker that is done has left
HasLeft-done : (table : LogTable) (queue : Queue) (wait : Bool) (worker : Worker) → IsDone table queue wait worker → HasLeft table queue worker
HasLeft-done table queue wait worker done =
    let has = IsDone-has_served table queue wait worker done in
    record { seat = has.seat; ended = has.ended; worked = by_case worker.worked done; pass = has.pass }
  where
    by_case : (worked : Option Worked) → IsSomeAnd worked (HasServed table queue wait worker) → IsSome worked
    by_case None done = absurd done
    by_case (Some worked) done = refl

pub HasLeft-all : (table : LogTable) (queue : Queue) (wait : Bool) (number : ℕ) (workers : List Worker)
    → Numbered (IsDoneAs table queue wait) number workers → AllByRecursion (HasLeft table queue) workers
HasLeft-all table queue wait number [] done = tt
HasLeft-all table queue wait number (worker ∷ workers) done =
    (HasLeft-done table queue wait worker done.0.1, HasLeft-all table queue wait (number + 1) workers done.1)

-- what the flusher's seat keeps as it is, while it takes in others
pub takes_all-constants : (view : View) (others : List View) → (takes_all view others).constants ≡ view.constants
takes_all-constants view [] = refl
takes_all-constants view (other ∷ others) = takes_all-constants (takes_in view other) others

pub takes_all-sending : (view : View) (others : List View) → (takes_all view others).sending ≡ view.sending
takes_all-sending view [] = refl
takes_all-sending view (other ∷ others) = takes_all-sending (takes_in view other) others

takes_all-role : (view : View) (others : List View) → (takes_all view others).standing.role ≡ view.standing.role
takes_all-role view [] = refl
takes_all-role view (other ∷ others) = takes_all-role (takes_in view other) others

takes_all-made : (view : View) (others : List View) → (takes_all view others).standing.made ≡ view.standing.made
takes_all-made view [] = refl
takes_all-made view (other ∷ others) = takes_all-made (takes_in view other) others

-- the numbers of the workers whose seats it took in
takes_all-merged : (table : LogTable) (queue : Queue) (wait : Bool) (number : ℕ) (workers : List Worker)
    → Numbered (IsDoneAs table queue wait) number workers → (view : View) → view.standing.merged ≡ hired_numbers number
    → (takes_all view (map view_in workers)).standing.merged ≡ hired_numbers (number + length workers)
takes_all-merged table queue wait number [] done view below = below ∙ ap hired_numbers (sym (add-zero number))
takes_all-merged table queue wait number (worker ∷ workers) done view below =
    let own = view_in worker in
    let ended = (IsDone-has_served table queue wait worker done.0.1).ended in
    let one : (takes_in view own).standing.merged ≡ own.standing.worker ∷ view.standing.merged =
    ap (λ (role : Role). cond (is_worker role) (own.standing.worker ∷ view.standing.merged) view.standing.merged) ended in
    let named : own.standing.worker ≡ number = sym worker.seat.named ∙ done.0.0 in
    let next : (takes_in view own).standing.merged ≡ hired_numbers (number + 1) =
    one ∙ ((λ i. named i ∷ below i) ∙ ap hired_numbers (sym (add-one number))) in
    takes_all-merged table queue wait (number + 1) workers done.1 (takes_in view own) next ∙ ap hired_numbers (omega arith)

length-hired : (n : ℕ) → length (hired_numbers n) ≡ n
length-hired zero = refl
length-hired (suc n) = ap suc (length-hired n)

-- a view that sends as another, from the same start, is drained where that is
IsDrained-same : (view other : View) → view.sending ≡ other.sending → view.constants ≡ other.constants → IsDrained other → IsDrained view
IsDrained-same view other sending constants drained =
    let ends : sent_to view ≡ sent_to other = λ i. (constants i).start + length (sending i).sent in
    record {
      quiet = ap (λ (s : Sending). s.quiet) sending ∙ drained.quiet;
      looked = ap (λ (s : Sending). s.looked) sending ∙ drained.looked;
      all = ap (λ (s : Sending). s.exposed) sending ∙ (drained.all ∙ sym ends);
    }

-- what is left of what the flusher's seat knew before the turns: it made so many workers, and took in nothing
pub record HasTaken (key : Start) (workers : ℕ) (view : View) : Type 0 where
  pub flusher : view.standing.role ≡ Flusher
  pub made : view.standing.made ≡ hired_numbers workers
  pub merged : view.standing.merged ≡ []
  pub constants : view.constants ≡ constants_of key
  pub entries : view.entries ≡ []
  pub jobs : view.books.jobs ≡ []

-- Once the seats of all workers are taken in, the table may be closed.
pub MayClose-all : (table : LogTable) (queue : Queue) (wait : Bool) (key : Start) (workers : List Worker) → AreDone table queue wait workers
    → (view : View) → HasTaken key (length workers) view → MayClose (takes_all view (map view_in workers))
MayClose-all table queue wait key workers done view taken =
    let all = takes_all view (map view_in workers) in
    let merged = takes_all-merged table queue wait 0 workers done view taken.merged in
    let made = takes_all-made view (map view_in workers) ∙ taken.made in
    let count : 0 + length workers ≡ length workers = omega arith in
    record {
      flusher = takes_all-role view (map view_in workers) ∙ taken.flusher;
      all_merged = λ worker known. subst (λ l. list_any (eqb worker) l ≡ true) (made ∙ sym (merged ∙ ap hired_numbers count)) known;
    }

module _ {D : Type 0} {K : Type 0} (g : Ghosts D) (h : SinkGhosts K) {tail : Tail} {voice : Voice} {flusher_seat : Seat} {disk : D} {sink : K}
    (first last : Daemon D K g h) (begun : IsBegun g h tail voice flusher_seat disk sink first) (later : Later g h first last) where
  same : IsSameDaemon g first last
  same = Later-same_daemon g h first last later

  standing : (view_of last.flusher.seat).standing ≡ (view_of flusher_seat).standing
  standing = same.flusher.workers ∙ ap (λ (s : Seat). (view_of s).standing) begun.seat_is

  pub HasTaken-turned : (key : Start) (workers : ℕ) → KnowsHired key workers (view_of flusher_seat) → HasTaken key workers (view_of last.flusher.seat)
  HasTaken-turned key workers knows = record {
    flusher = ap (λ (s : Standing). s.role) standing ∙ knows.flusher;
    made = ap (λ (s : Standing). s.made) standing ∙ knows.made;
    merged = ap (λ (s : Standing). s.merged) standing ∙ knows.merged;
    constants = same.flusher.seat.constants ∙ (ap (λ (s : Seat). (view_of s).constants) begun.seat_is ∙ knows.constants);
    entries = same.flusher.seat.entries ∙ (ap (λ (s : Seat). (view_of s).entries) begun.seat_is ∙ knows.entries);
    jobs = ap (λ (books : Books). books.jobs) same.flusher.seat.books
        ∙ (ap (λ (s : Seat). (view_of s).books.jobs) begun.seat_is ∙ ap (λ (books : Books). books.jobs) knows.books);
  }

  -- the first daemon had sent nothing
  IsFresh-begun : (key : Start) (workers : ℕ) → KnowsHired key workers (view_of flusher_seat) → IsFresh key first
  IsFresh-begun key workers knows = record {
    constants = ap (λ (s : Seat). (view_of s).constants) begun.seat_is ∙ knows.constants;
    made = begun.made;
    stop = ap (λ (s : Seat). (view_of s).sending.stop) begun.seat_is ∙ ap (λ (s : Sending). s.stop) knows.sending;
    fine = begun.fine;
  }

  pub MayClose-gathered : (key : Start) (table : LogTable) (queue : Queue) (wait : Bool) (workers : List Worker)
      → KnowsHired key (length workers) (view_of flusher_seat) → AreDone table queue wait workers
      → (view : View) → view ≡ takes_all (view_of last.flusher.seat) (map view_in workers) → MayClose view
  MayClose-gathered key table queue wait workers knows done view is = subst MayClose (sym is)
      (MayClose-all table queue wait key workers done (view_of last.flusher.seat) (HasTaken-turned key (length workers) knows))

  -- Once all seats are taken in, a front of the script was taken, and the table is closed, all is known of the run.
  pub HasTransferred-gathered : (key : Start) (table : LogTable) (queue : Queue) (wait : Bool) (workers : List Worker)
      → KnowsHired key (length workers) (view_of flusher_seat) → (opened : OpenedList) → IsOpened g disk tail opened queue.first key
      → AreDone table queue wait workers → 1 ≤ length workers
      → (front : AreFront (length queue.script) (all_places workers) (all_marks workers))
      → AllByRecursion (HasReadStop (view_of last.flusher.seat).sending.stop) (map view_in workers)
      → (last.fault ≡ None → IsDrained (view_of last.flusher.seat))
      → (view : View) → view ≡ takes_all (view_of last.flusher.seat) (map view_in workers)
      → view.constants.ring ≡ table.ring → view.constants.slots ≡ table.slots
      → (lsn : ℕ) (rows : List (ℕ × ℕ)) → IsGathered lsn view → HasLedger (base_of key) view rows → HasHeardOfWorkers view
      → HasTransferred g h opened (jobs_of queue) front.front (map share_of workers) key first last view lsn rows
  HasTransferred-gathered key table queue wait workers knows opened log done someone front stops drained view is ring slots lsn rows gathered
      accounts heard =
      let others = map view_in workers in
      let shares = map share_of workers in
      let taken = HasTaken-turned key (length workers) knows in
      let sending = ap (λ (v : View). v.sending) is ∙ takes_all-sending (view_of last.flusher.seat) others in
      let constants = ap (λ (v : View). v.constants) is ∙ takes_all-constants (view_of last.flusher.seat) others in
      let has = HasGathered-all table queue wait workers done someone front (view_of last.flusher.seat) taken.entries taken.jobs stops
      (ap (λ (c : Constants). c.ring) (sym constants) ∙ ring) (ap (λ (c : Constants). c.slots) (sym constants) ∙ slots) lsn
      (subst (IsGathered lsn) is gathered) in
      let made = ap (λ (v : View). v.standing.made) is ∙ takes_all-made (view_of last.flusher.seat) others ∙ taken.made in
      let as_many : length view.standing.made ≡ length shares =
      ap length made ∙ (length-hired (length workers) ∙ sym (length-map workers share_of)) in
      record {
        log = subst (λ d. IsOpened g d first.flusher.tail opened queue.first key) (sym begun.disk_is)
            (subst (λ t. IsOpened g disk t opened queue.first key) (sym begun.tail_is) log);
        fresh = IsFresh-begun key (length workers) knows;
        later = later;
        sending = sending;
        constants = constants;
        drained = λ fine. IsDrained-same view (view_of last.flusher.seat) sending constants (drained fine);
        workers = subst (HasGathered (jobs_of queue) front.front shares) (sym is) has;
        gathered = gathered;
        accounts = accounts;
        heard = subst (λ (n : ℕ). AllByRecursion (IsRefusalOf n) view.seen.refusals) as_many heard;
      }

-- Workers that are done with what a run was made of.
pub AreDone-same : {table table' : LogTable} {queue queue' : Queue} {wait wait' : Bool} (workers : List Worker) → table' ≡ table → queue' ≡ queue
    → wait' ≡ wait → AreDone table' queue' wait' workers → AreDone table queue wait workers
AreDone-same workers same_table same_queue same_wait done =
    subst (λ (run : LogTable × Queue × Bool). AreDone run.0 run.1 run.2 workers) (λ i. (same_table i, same_queue i, same_wait i)) done

-- the shares are those of what the works came to
pub share_of-worked_of : (workers : List Worker) → map (λ (share : Share). share.worked) (map share_of workers) ≡ map worked_of workers
share_of-worked_of [] = refl
share_of-worked_of (worker ∷ workers) = ap (λ l. worked_of worker ∷ l) (share_of-worked_of workers)

-- of what is in a place two facts hold; and one fact leads to another
pub IsSomeAnd-both : {A : Type 0} (P Q : A → Type 0) (place : Option A) → IsSomeAnd place P → IsSomeAnd place Q → (one : A) × P one × Q one
IsSomeAnd-both P Q None first second = absurd first
IsSomeAnd-both P Q (Some one) first second = (one, first, second)

pub IsSomeAnd-weaken : {A : Type 0} (P Q : A → Type 0) (place : Option A) → IsSomeAnd place P → ((one : A) → P one → Q one) → IsSomeAnd place Q
IsSomeAnd-weaken P Q None first then = absurd first
IsSomeAnd-weaken P Q (Some one) first then = then one first
