-- Transfers that find no room: the log is full of notes of one transaction, but for one unit. Each of two workers is cut off.
use Rattle.std.proofs.Common.{◌≡◌, inl, inr, ◌<◌, ◌≤◌, ℕ, zero, suc, ◌+◌, ◌*◌, pos, negsuc, true, false, true≢false, List, [], ◌∷◌, ◌++◌, length}
use Rattle.std.proofs.Common.{Some, None, slice_get, All, Contains, refl, ap, ◌∙◌, sym, subst, arith, append-nil, length-append}
use Rattle.std.specs.List.{AllByRecursion, flat_map}
use Rattle.std.proofs.lemmas.List.Elements.{All-cons, All-nil}
use mathlib.Core.Option.{some, some-injective, some-ne-none}
use lib.ListN.{get_elem?}
use Rattle.lsn_space.specs.declared.lsn.TheConstants.{LAST}
use Rattle.lsn_space.proofs.TilingLemmas.{all-append}
use Rattle.log_record.specs.declared.rec.Rec.{Rec}
use Rattle.log_record.specs.declared.rec.Rec.TheVariants.{Update, Commit, Note}
use Rattle.log_record.specs.declared.rec.Placed.{Placed}
use Rattle.log_record.specs.LogList.{units_of, end_of}
use Rattle.log_record.specs.Spelling.{spelling, IsSpellable, IsBalance, IsPrintable}
use Rattle.lock_core.specs.History.{end_from, entry_at, history_from, history}
use Rattle.lock_core.specs.Lawful.{IsLawful, base_with}
use Rattle.lock_core.specs.Records.{gain, loss}
use Rattle.lock_core.specs.AccountRows.{row}
use Rattle.lock_core.specs.Sums.{no_opening, ShowsAccounts, balance_of, last_commit_of, greatest_txn, total}
use Rattle.lock_core.specs.Transactions.{own_records_of, has_end}
use Rattle.lock_core.specs.Witness.{genesis_log}
use Rattle.lock_core.proofs.Fronts.{history_from-append}
use Rattle.lock_core.proofs.OneMore.{total-no_change}
use Rattle.lock_core.specs.declared.job.Job.{Job}
use Rattle.lock_core.specs.Alone.{leg_updates, planned_records}
use Rattle.lock_core.specs.Transfers.{transfer_of}
use Rattle.segment_file.specs.File.{written, batch, gated, joined, IsCountedBatch}
use Rattle.segment_file.specs.StandingLog.{StandsAt}
use Rattle.segment_file.specs.declared.layout.TheConstants.{CLOSED}
use Rattle.segment_file.specs.declared.scan_result.Tail.{Tail}
use Rattle.segment_file.proofs.BatchLemmas.{length-batch}
use Rattle.segment_file.proofs.FirstFormat.{StandsAt-LogStandsAt}
use Rattle.log_recovery.specs.Opened.{OpenedList, whole_list, list_end, log_of, placed}
use Rattle.log_rule.specs.declared.start.Start.{Start}
use Rattle.log_rule.specs.declared.view.Given.{Given}
use Rattle.log_rule.specs.declared.view.View.{View}
use Rattle.log_rule.specs.Accounts.{IsOfFront}
use Rattle.log_rule.specs.ClosedLog.{IsGathered, HasLedger}
use Rattle.log_rule.specs.Sound.{base_of}
use Rattle.log_rule.specs.Views.{flusher}
use Rattle.log_table.specs.declared.table.Seat.{Seat}
use Rattle.flusher.specs.KeptLog.{KeepsLog}
use Rattle.flusher.proofs.Keeps.{KeepsLog-none_sent}
use Rattle.commit_pipeline.specs.Told.{HasTold}
use Rattle.commit_pipeline.proofs.ToldSoFar.{HasToldAll-has_told, HasToldAll-none}
use Rattle.end_lines.specs.declared.voice.Voice.TheVariants.{Lines}
use Rattle.txn_jobs.specs.declared.cause.Cause.TheVariants.{LogEnd}
use Rattle.txn_jobs.specs.declared.cause.Worked.TheVariants as worked
use Rattle.txn_jobs.specs.declared.cause.Worked.TheVariants.{Cut}
use Rattle.txn_jobs.specs.Places.{NumberedJobs, number_at, job_at}
use Rattle.job_queue.specs.Takings.{times, once_below}
use Rattle.cli_laws.specs.RunWitness.{PlainDaemon, payment, file_at, plain_disk, plain_sink, HasHitLogEnd}
use Rattle.cli_threads.specs.Shares.{Share, IsGivenUncommitted, AreGivenUncommitted, EndsLogAt, HasShare, HasGathered, sharing_of}
use Rattle.cli_threads.specs.Sharing.{IsSharedOut}
use Rattle.cli_threads.specs.Transferred.{IsOpened}
use Rattle.cli_laws.proofs.RunWitness.{genesis-counted, genesis-spellable, genesis-lawful, plain_disk-images_now, closed_file-is_shut}

-- ---- the log

abbrev note : Rec
note = Note 1 (120 ∷ [])

abbrev notes : ℕ → List Rec
notes zero = []
notes (suc n) = note ∷ notes n

abbrev batches : ℕ → List (List ℕ)
batches zero = []
batches (suc n) = spelling note ∷ batches n

-- what a history keeps to which notes are added
record Stays (h : List Placed) : Type 0 where
  some : 0 < length h
  lawful : IsLawful no_opening h
  unended : has_end (own_records_of 1 h) ≡ false
  few : greatest_txn h ≤ 1
  count : (base_with no_opening h).accounts ≡ 2
  balance : (account : ℕ) → (base_with no_opening h).balance account ≡ (base_with no_opening (history genesis_log)).balance account
  totals : (account : ℕ) → (total gain account h ≡ 0) × (total loss account h ≡ 0)
  last_commits : (account : ℕ) → last_commit_of (base_with no_opening h) h account ≡ 0

stays-note : (end : ℕ) (h : List Placed) → Stays h → Stays (record { end = end; rec = note } ∷ h)
stays-note end h before = record {
  some = omega arith;
  lawful = (((let some = before.some in omega arith), (tt, (((λ other. omega arith), before.unended), (tt, (tt, (tt, (tt, ((λ on. absurd (true≢false (sym on))), tt)))))))), before.lawful);
  unended = before.unended;
  few = (let most = before.few in omega arith);
  count = before.count;
  balance = before.balance;
  totals = λ account. (
    total-no_change gain account (record { end = end; rec = note }) h refl refl ∙ (before.totals account).0,
    total-no_change loss account (record { end = end; rec = note }) h refl refl ∙ (before.totals account).1,
  );
  last_commits = before.last_commits;
}

stays-notes : (n : ℕ) (h : List Placed) → Stays h → Stays (history_from 0 h (notes n))
stays-notes zero h before = before
stays-notes (suc n) h before = stays-notes n (entry_at (end_from 0 h) note ∷ h) (stays-note (end_from 0 h + 2) h before)

stays-genesis : Stays (history genesis_log)
stays-genesis = record {
  some = omega arith;
  lawful = genesis-lawful;
  unended = refl;
  few = omega arith;
  count = refl;
  balance = λ account. refl;
  totals = λ account. (refl, refl);
  last_commits = λ account. refl;
}

notes-spellable : (n : ℕ) → AllByRecursion IsSpellable (notes n)
notes-spellable zero = tt
notes-spellable (suc n) = (((omega arith, omega arith), (omega arith, omega arith, printable)), notes-spellable n)
  where
    printable : All IsPrintable (120 ∷ [])
    printable = All-cons IsPrintable 120 [] (omega arith, omega arith) (All-nil IsPrintable)

end-notes : (n : ℕ) → end_of (notes n) ≡ 2 * n
end-notes zero = refl
end-notes (suc n) = let rest = end-notes n in omega arith

rows-shown : (h : List Placed) → Stays h → ShowsAccounts ((100, 0) ∷ (0, 0) ∷ []) (base_with no_opening h) h
rows-shown h stays = record { count = sym stays.count; each = each }
  where
    each : (account : ℕ) → account < (base_with no_opening h).accounts → slice_get {X = ℕ × ℕ} ((100, 0) ∷ (0, 0) ∷ []) account
        ≡ Some (balance_of (base_with no_opening h) h account, last_commit_of (base_with no_opening h) h account)
    each zero inside =
        let is : 100 ≡ balance_of (base_with no_opening h) h 0 = omega (arith, stays.balance 0, (stays.totals 0).0, (stays.totals 0).1) in
        λ i. Some (is i, sym (stays.last_commits 0) i)
    each (suc zero) inside =
        let is : 0 ≡ balance_of (base_with no_opening h) h 1 = omega (arith, stays.balance 1, (stays.totals 1).0, (stays.totals 1).1) in
        λ i. Some (is i, sym (stays.last_commits 1) i)
    each (suc (suc n)) inside = absurd (omega (arith, stays.count))

-- ---- its file

note-counted : IsCountedBatch (spelling note)
note-counted = record { some = omega arith; most = omega arith; each = (omega arith, (omega arith, tt)) }

batches-counted : (n : ℕ) → AllByRecursion IsCountedBatch (batches n)
batches-counted zero = tt
batches-counted (suc n) = (note-counted, batches-counted n)

joined-notes : (n : ℕ) → joined (batches n) ≡ units_of (notes n)
joined-notes zero = refl
joined-notes (suc n) = ap (λ units. spelling note ++ units) (joined-notes n)

length-notes : (n : ℕ) → length (flat_map gated (batches n)) ≡ 21 * n
length-notes zero = refl
length-notes (suc n) =
    let rest = length-notes n in
    let one = length-batch (batch (spelling note)) (spelling note) [] (sym (append-nil (batch (spelling note)))) in
    let sum = length-append (batch (spelling note)) (flat_map gated (batches n)) in omega arith

module _ (n slots : ℕ) (full : 4 + 2 * n ≤ LAST) (near : LAST < 4 + 2 * n + 2) where
  abbrev opened : OpenedList
  opened = whole_list (genesis_log ++ notes n)

  abbrev file : List ℕ
  file = written (units_of genesis_log ∷ batches n) ++ CLOSED ∷ []

  abbrev tail : Tail
  tail = record { at = length (written (units_of genesis_log ∷ batches n)); next = 4 + 2 * n }

  end-opened : list_end opened ≡ 4 + 2 * n
  end-opened = omega (arith, end-notes n)

  stays-opened : Stays (placed opened)
  stays-opened = subst Stays (sym (history_from-append 0 [] genesis_log (notes n))) (stays-notes n (history genesis_log) stays-genesis)

  stands : StandsAt tail (units_of opened.records) file
  stands = record {
    batches = units_of genesis_log ∷ batches n;
    rest = CLOSED ∷ [];
    file = record {
      some = omega arith;
      each = (genesis-counted, batches-counted n);
      whole = refl;
      closed = λ opened. opened;
      total = omega (arith, ap length (joined-notes n), end-notes n);
    };
    units_are = ap (λ units. units_of genesis_log ++ units) (sym (joined-notes n));
    place = refl;
    next = omega (arith, end-opened);
  }

  abbrev key : Start
  key = record { start = 4 + 2 * n; ring = 1024; slots = slots; accounts = record { rows = (100, 0) ∷ (0, 0) ∷ []; room = 2 } }

  is-opened : IsOpened (plain_disk (λ moment. file)) 0 tail opened 2 key
  is-opened = record {
    spellable = all-append IsSpellable genesis_log (notes n) genesis-spellable (notes-spellable n);
    lawful = stays-opened.lawful;
    range = λ account none. absurd (omega arith);
    some_accounts = omega (arith, stays-opened.count);
    below = omega (arith, stays-opened.few);
    stand = λ honest bytes is. StandsAt-LogStandsAt tail (units_of opened.records) bytes (subst (StandsAt tail (units_of opened.records)) (sym is) stands);
    shut = λ honest. closed_file-is_shut (λ moment. file) 0 tail.at (written (units_of genesis_log ∷ batches n)) refl refl;
    next = sym end-opened;
    place = omega (
      arith,
      full,
      length-notes n,
      length-append (batch (units_of genesis_log)) (flat_map gated (batches n)),
      length-batch (batch (units_of genesis_log)) (units_of genesis_log) [] (sym (append-nil (batch (units_of genesis_log)))),
    );
    start = sym end-opened;
    accounts = rows-shown (placed opened) stays-opened;
  }

  -- ---- the run

  abbrev jobs : NumberedJobs
  jobs = record { script = payment ∷ payment ∷ payment ∷ []; first = 2 }

  abbrev cut : ℕ → Share
  cut place = record { taken = place ∷ []; worked = Cut (LogEnd (4 + 2 * n) 2) }

  abbrev shares : List Share
  shares = cut 0 ∷ cut 1 ∷ []

  abbrev view_old : View
  view_old = record (flusher key) { sending = record (flusher key).sending { quiet = true; looked = true } }

  -- the account as the transaction's worker gave it back
  abbrev given_of : ℕ → ℕ → Given
  given_of txn account = record {
    txn = txn;
    account = account;
    balance = (row key.accounts.rows account).0;
    tail = 4 + 2 * n;
    durable = 4 + 2 * n;
    committed = false;
  }

  abbrev view : View
  view = record view_old {
    books = record (flusher key).books {
      jobs = record { number = 2; job = payment } ∷ record { number = 3; job = payment } ∷ [];
      given = given_of 3 1 ∷ given_of 3 0 ∷ given_of 2 1 ∷ given_of 2 0 ∷ [];
    };
  }

  gathered : IsGathered (4 + 2 * n) view
  gathered = record {
    tiles = refl;
    full = tt;
    seen = (refl, tt);
    unsent = [];
    sent = refl;
    drained = λ drained. refl;
    spelled = tt;
  }

  accounts : HasLedger (base_of key) view key.accounts.rows
  accounts = record {
    count = refl;
    ledger = λ once. record {
      lawful = tt;
      serial = record {
        each = (
          inr (record { rest = leg_updates 2 payment.legs; front = refl }),
          (inr (record { rest = leg_updates 3 payment.legs; front = refl }), tt),
        );
        others = λ txn none. refl;
      };
      accounts = record { count = refl; range = range; balance = λ account inside. refl; last = λ account inside. refl };
    };
    given = λ once. (λ _. all-of 3 1, (λ _. all-of 3 0, (λ _. all-of 2 1, (λ _. all-of 2 0, tt))));
  }
    where
      all-of : (txn account : ℕ) → IsOfFront (base_of key) [] (given_of txn account)
      all-of txn account = record { later = []; front = []; whole = refl; balance = refl; tail = omega arith }

      range : (account : ℕ) → account < 2 → IsBalance (row ((100, 0) ∷ (0, 0) ∷ []) account).0
      range zero inside = omega arith
      range (suc zero) inside = omega arith
      range (suc (suc n)) inside = absurd (omega arith)

  abbrev balance_at : ℕ → ℕ
  balance_at account = (row key.accounts.rows account).0

  given-at : (txn account : ℕ) → Contains view.books.given (given_of txn account)
      → IsGivenUncommitted txn (4 + 2 * n) (balance_at account) view.books.given account
  given-at txn account has = record {
    back = given_of txn account;
    contains = has;
    txn = refl;
    account_is = refl;
    uncommitted = refl;
    tail_is = refl;
    balance_is = refl;
  }

  -- for the payment at this place there was no room, by its own two units
  ends-at : (place : ℕ) → job_at jobs place ≡ payment
      → AreGivenUncommitted (number_at jobs place) (4 + 2 * n) balance_at view.books.given (0, 1, 30)
      → EndsLogAt jobs 2 place (4 + 2 * n) 2 view
  ends-at place is gave = record {
    balances = balance_at;
    last_commits = λ account. 0;
    gave = subst (λ (job : Job). AllByRecursion (AreGivenUncommitted (number_at jobs place) (4 + 2 * n) balance_at view.books.given) job.legs)
        (sym is) (gave, tt);
    next = Update (number_at jobs place) 0 (negsuc 29) 0;
    rest = Update (number_at jobs place) 1 (pos 30) 0 ∷ Commit (number_at jobs place) 1 ∷ [];
    plan = ap (λ (job : Job). planned_records (number_at jobs place) (transfer_of job) (λ account. 0) balance_at) (sym is);
    asked = inl refl;
    too_long = near;
    seen = (0, omega arith, refl);
    alone = λ one. tt;
  }

  share-cut : (place : ℕ) → place < 3 → EndsLogAt jobs 2 place (4 + 2 * n) 2 view → HasShare jobs 2 (cut place) view
  share-cut place inside ends = record {
    places = (inside, tt);
    came_to = ([], place, refl, tt, ends);
    in_turn = λ i j before after less one other has. absurd (omega (arith, has.1));
  }

  has-share : (worker : ℕ) (share : Share) → get_elem? shares worker ≡ some share → HasShare jobs 2 share view
  has-share zero share at = subst (λ (s : Share). HasShare jobs 2 s view) (some-injective (cut 0) share at)
      (share-cut 0 (omega arith) (ends-at 0 refl (given-at 2 0 (3, omega arith, refl), given-at 2 1 (2, omega arith, refl))))
  has-share (suc zero) share at = subst (λ (s : Share). HasShare jobs 2 s view) (some-injective (cut 1) share at)
      (share-cut 1 (omega arith) (ends-at 1 refl (given-at 3 0 (1, omega arith, refl), given-at 3 1 (0, omega arith, refl))))
  has-share (suc (suc worker)) share at = absurd (some-ne-none share (sym at))

  -- none of them came to the end of the queue
  none-whole : (worker : ℕ) (share : Share) → get_elem? shares worker ≡ some share → share.worked ≡ worked.All → ⊥
  none-whole zero share at all = is-cut (ap (λ (s : Share). s.worked) (some-injective (cut 0) share at) ∙ all)
    where
      is-cut : Cut (LogEnd (4 + 2 * n) 2) ≡ worked.All → ⊥
      is-cut same = cc
  none-whole (suc zero) share at all = is-cut (ap (λ (s : Share). s.worked) (some-injective (cut 1) share at) ∙ all)
    where
      is-cut : Cut (LogEnd (4 + 2 * n) 2) ≡ worked.All → ⊥
      is-cut same = cc
  none-whole (suc (suc worker)) share at all = absurd (some-ne-none share (sym at))

  -- the first two places are one worker's each
  once : (place : ℕ) → times place (0 ∷ 1 ∷ []) ≡ once_below place 2
  once zero = refl
  once (suc zero) = refl
  once (suc (suc place)) = refl

  shared : IsSharedOut 2 jobs (sharing_of 2 shares)
  shared = record { count = refl; rise = ((tt, tt), ((tt, tt), tt)); once = once; within = omega arith }

  workers : HasGathered jobs 2 shares view
  workers = record {
    someone = omega arith;
    taken = refl;
    each = has-share;
    sharing = shared;
    all = λ worker share at all. absurd (none-whole worker share at all);
  }

  module _ (d : PlainDaemon file_at) where
    abbrev seat : Seat
    seat = record { base = record d.flusher.seat.base { me = (view_old, []) }; worker = 0; named = refl }

    keeps-still : KeepsLog (plain_disk (λ moment. file)) 0 0 tail [] []
    keeps-still = KeepsLog-none_sent (plain_disk (λ moment. file)) (plain_disk-images_now (λ moment. file)) 0 tail [] [] refl refl refl (log_of opened)
        (is-opened.stand tt)

    told-none : HasTold plain_sink [] [] Lines view_old view_old
    told-none = HasToldAll-has_told plain_sink [] Lines view_old [] view_old (HasToldAll-none plain_sink [] Lines view_old)

    abbrev daemon : PlainDaemon (λ moment. file)
    daemon = record {
      flusher = record {
        table = d.flusher.table;
        disk = record d.flusher.disk { now = 0 };
        seat = seat;
        batch = d.flusher.batch;
        tail = tail;
        first = record d.flusher.first { value = 0 };
        keeps = λ honest. ∣ keeps-still ∣₁;
      };
      sink = record d.sink { now = [] };
      voice = Lines;
      tally = record { done = 0; refused = 0 };
      fault = None;
      first = record d.first { value = [] };
      begun = record d.begun { value = seat };
      told = ∣ told-none ∣₁;
    }

    hit : HasHitLogEnd slots
    hit = record {
      file = file;
      opened = opened;
      jobs = jobs;
      front = 2;
      shares = shares;
      key = key;
      old = daemon;
      new = daemon;
      view = view;
      lsn = 4 + 2 * n;
      rows = key.accounts.rows;
      known = record {
        log = is-opened;
        fresh = record {
          constants = refl;
          made = record { disk = refl; sink = refl; seat = refl; unsent = refl };
          stop = refl;
          fine = refl;
        };
        later = inl refl;
        sending = refl;
        constants = refl;
        drained = λ fine. record { quiet = refl; looked = refl; all = omega arith };
        workers = workers;
        gathered = gathered;
        accounts = accounts;
        heard = tt;
      };
      slots_are = refl;
      script = refl;
      taken = refl;
      shared = refl;
      fine = refl;
    }

-- 2147483645 notes of 2 units each behind two Genesis records leave one unit
pub log-end-hit : (slots : ℕ) → PlainDaemon file_at → HasHitLogEnd slots
log-end-hit slots d = hit 2147483645 slots (omega arith) (omega arith) d
