-- One transfer, made by the first of two workers, from the opened log to the closed table: all that is known of such a run holds of it.
use Rattle.std.proofs.Common.{◌≡◌, ◌⊎◌, inl, inr, ◌+◌, ◌*◌, ◌<◌, ◌≤◌, ℕ, zero, suc, pos, negsuc, true, List, [], ◌∷◌, ◌++◌, length, Some, None}
use Rattle.std.proofs.Common.{slice_get, refl, ap, ◌∙◌, sym, subst, arith, append-nil, length-append, Contains}
use Rattle.std.specs.List.{AllByRecursion}
use Rattle.std.proofs.lemmas.List.Elements.{All-contains, All-from_recursion}
use mathlib.Core.Option.{some, some-injective, some-ne-none}
use lib.ListN.{get_elem?}
use Rattle.log_disk.specs.Disk.{Leaves}
use Rattle.log_record.specs.declared.rec.Rec.{Rec}
use Rattle.log_record.specs.declared.rec.Rec.TheVariants.{Genesis, Update, Commit}
use Rattle.log_record.specs.LogList.{units_of}
use Rattle.log_record.specs.Spelling.{spelling, IsSpellable, IsBalance}
use Rattle.lock_core.specs.Records.{txn_of}
use Rattle.log_recovery.specs.Opened.{OpenedList, whole_list, log_of, placed, opening_before, base_in, base_left}
use Rattle.lock_core.specs.Lawful.{IsLawful}
use Rattle.lock_core.specs.Serial.{numbered}
use Rattle.lock_core.specs.AccountRows.{row, KeepsRows}
use Rattle.lock_core.specs.Sums.{no_opening, BaseState, BeginsInRange, ShowsAccounts, IsBalanceOf, balance_of, last_commit_of}
use Rattle.lock_core.specs.Witness.{genesis_log, transfer, transfer_records, transfer_history}
use Rattle.lock_core.proofs.KindLemmas.{passes-genesis}
use Rattle.lock_core.proofs.SerialFronts.{serial-partly}
use Rattle.lock_core.proofs.Witnessing.{transfer-lawful, transfer-serial}
use Rattle.segment_file.specs.File.{written, batch, IsCountedBatch}
use Rattle.segment_file.specs.Log.{Log, with_units, HoldsLog}
use Rattle.segment_file.specs.StandingLog.{StandsAt, LogStands, LogStandsAt, IsShut}
use Rattle.segment_file.specs.declared.layout.TheConstants.{OPEN, CLOSED}
use Rattle.segment_file.specs.declared.scan_result.Tail.{Tail}
use Rattle.segment_file.proofs.BatchLemmas.{length-batch}
use Rattle.segment_file.proofs.FirstFormat.{StandsAt-LogStandsAt}
use Rattle.segment_file.proofs.LogLemmas.{with_units-nil}
use Rattle.segment_file.proofs.OneReading.{one_reading-log}
use Rattle.log_table.specs.declared.table.Seat.{Seat}
use Rattle.log_rule.specs.declared.start.Start.{Start}
use Rattle.log_rule.specs.declared.view.Entry.{Entry}
use Rattle.log_rule.specs.declared.view.View.{View}
use Rattle.log_rule.specs.ClosedLog.{IsGathered, HasLedger, IsLedger}
use Rattle.log_table.specs.Seats.{IsOf}
use Rattle.log_rule.specs.Sound.{base_of}
use Rattle.log_rule.specs.Views.{flusher}
use Rattle.log_rule.proofs.Deltas.{delta-positive, delta-negated}
use Rattle.daemon_turn.specs.declared.fault.DaemonFault.TheVariants.{DiskFault, WriteFault}
use Rattle.end_lines.specs.declared.voice.Voice.TheVariants.{Lines}
use Rattle.commit_pipeline.specs.EndLines.{done_line, end_lines}
use Rattle.commit_pipeline.specs.Later.{Ran}
use Rattle.commit_pipeline.specs.Told.{HasTold, HasToldAll}
use Rattle.commit_pipeline.specs.Turning.{MayTurn}
use Rattle.commit_pipeline.proofs.RanLemmas.{none≢some}
use Rattle.commit_pipeline.proofs.ToldSoFar.{HasToldAll-has_told, HasToldAll-none}
use Rattle.flusher.specs.KeptLog.{HoldsFront, KeepsLog}
use Rattle.flusher.proofs.Keeps.{KeepsLog-none_sent}
use Rattle.txn_jobs.specs.declared.cause.Worked.TheVariants.{All}
use Rattle.txn_jobs.specs.Places.{NumberedJobs}
use Rattle.cli_laws.specs.RunWitness.{PlainDaemon, payment, file_at, plain_disk, plain_sink, HasMadePayment}
use Rattle.cli_threads.specs.Shares.{Share, HasShare, HasGathered, sharing_of}
use Rattle.cli_threads.specs.Sharing.{IsSharedOut}
use Rattle.job_queue.specs.Takings.{times, once_below}
use Rattle.cli_threads.specs.Transferred.{IsOpened}
use Rattle.cli_threads.proofs.RunLedger.{base_of-base_left}

-- ---- the data

abbrev pub jobs : NumberedJobs
jobs = record { script = payment ∷ []; first = 1 }

abbrev made : Share
made = record { taken = 0 ∷ []; worked = All }

abbrev idle : Share
idle = record { taken = []; worked = All }

abbrev pub shares : List Share
shares = made ∷ idle ∷ []

abbrev rows_old : List (ℕ × ℕ)
rows_old = (100, 0) ∷ (0, 0) ∷ []

abbrev rows : List (ℕ × ℕ)
rows = (70, 9) ∷ (30, 9) ∷ []

abbrev entry : ℕ → ℕ → Rec → Entry
entry start size rec = record { start = start; size = size; units = spelling rec; rec = rec }

-- the list that is opened
abbrev pub first_list : OpenedList
first_list = whole_list genesis_log

abbrev tail_old : Tail
tail_old = record { at = length (written (units_of genesis_log ∷ [])); next = 4 }

abbrev pub tail_new : Tail
tail_new = record { at = length (written (units_of genesis_log ∷ units_of transfer_records ∷ [])); next = 9 }

-- ---- the files

pub genesis-counted : IsCountedBatch (units_of genesis_log)
genesis-counted = record { some = omega arith; most = omega arith; each = (omega arith, (omega arith, (omega arith, (omega arith, tt)))) }

transfer-counted : IsCountedBatch (units_of transfer_records)
transfer-counted = record { some = omega arith; most = omega arith; each = (omega arith, (omega arith, (omega arith, (omega arith, (omega arith, tt))))) }

stands-old : StandsAt tail_old (units_of genesis_log) (file_at 0)
stands-old = record {
  batches = units_of genesis_log ∷ [];
  rest = CLOSED ∷ [];
  file = record { some = omega arith; each = (genesis-counted, tt); whole = refl; closed = λ opened. opened; total = omega arith };
  units_are = refl;
  place = refl;
  next = refl;
}

pub stands-new : StandsAt tail_new (units_of genesis_log ++ units_of transfer_records) (file_at 1)
stands-new = record {
  batches = units_of genesis_log ∷ units_of transfer_records ∷ [];
  rest = CLOSED ∷ [];
  file = record { some = omega arith; each = (genesis-counted, (transfer-counted, tt)); whole = refl; closed = λ opened. opened; total = omega arith };
  units_are = refl;
  place = refl;
  next = refl;
}

at-length : (xs : List ℕ) (x : ℕ) → slice_get (xs ++ x ∷ []) (length xs) ≡ Some x
at-length [] x = refl
at-length (y ∷ xs) x = at-length xs x

-- a closed gate stands at the end of the file
pub closed_file-is_shut : (file : ℕ → List ℕ) (moment at : ℕ) (xs : List ℕ) → file moment ≡ xs ++ CLOSED ∷ [] → at ≡ length xs
    → IsShut at ((plain_disk file).images moment)
closed_file-is_shut file moment at xs whole place = record {
  gate = CLOSED;
  shut = λ same. absurd (omega (arith, same));
  stable = λ bytes is. ap (λ b. slice_get b at) (is ∙ whole) ∙ ap (slice_get (xs ++ CLOSED ∷ [])) place ∙ at-length xs CLOSED;
}

-- what such a disk may leave at its moment alone is what it holds
pub plain_disk-images_now : (file : ℕ → List ℕ) (now : ℕ) (bytes : List ℕ) → (plain_disk file).images_since now now bytes
    → (plain_disk file).images now bytes
plain_disk-images_now file now bytes (moment, after, before, is) = is ∙ ap file (omega (arith, after, before))

-- ---- the opened log

pub genesis-spellable : AllByRecursion IsSpellable genesis_log
genesis-spellable = ((omega arith, omega arith), ((omega arith, omega arith), tt))

pub transfer-spellable : AllByRecursion IsSpellable transfer_records
transfer-spellable = (
  ((omega arith, omega arith), omega arith, delta-negated 30 (omega arith) (omega arith), omega arith),
  (((omega arith, omega arith), omega arith, delta-positive 30 (omega arith) (omega arith), omega arith), (((omega arith, omega arith), (omega arith, omega arith)), tt)),
)

pub genesis-lawful : IsLawful no_opening (placed first_list)
genesis-lawful =
    (passes-genesis no_opening (record { end = 2; rec = Genesis 0 100 } ∷ []) 4 1 0 (tt, tt) refl refl, (passes-genesis no_opening [] 2 0 100 tt refl refl, tt))

-- no account stands before it
pub genesis-begins_in_range : BeginsInRange (opening_before first_list).state
genesis-begins_in_range account none = absurd (omega arith)

genesis-shown : ShowsAccounts rows_old (base_in first_list) (placed first_list)
genesis-shown = record { count = refl; each = each }
  where
    each : (account : ℕ) → account < 2 → slice_get {X = ℕ × ℕ} ((100, 0) ∷ (0, 0) ∷ []) account
        ≡ Some (balance_of (base_in first_list) (placed first_list) account, last_commit_of (base_in first_list) (placed first_list) account)
    each zero inside = refl
    each (suc zero) inside = refl
    each (suc (suc n)) inside = absurd (omega arith)

-- ---- the closed table

rows-kept : KeepsRows rows (base_left first_list) transfer_history
rows-kept = record { count = refl; range = range; balance = balance; last = last }
  where
    range : (account : ℕ) → account < 2 → IsBalance (row rows account).0
    range zero inside = omega arith
    range (suc zero) inside = omega arith
    range (suc (suc n)) inside = absurd (omega arith)

    balance : (account : ℕ) → account < 2 → IsBalanceOf (base_left first_list) transfer_history account (row rows account).0
    balance zero inside = refl
    balance (suc zero) inside = refl
    balance (suc (suc n)) inside = absurd (omega arith)

    last : (account : ℕ) → account < 2 → (row rows account).1 ≡ last_commit_of (base_left first_list) transfer_history account
    last zero inside = refl
    last (suc zero) inside = refl
    last (suc (suc n)) inside = absurd (omega arith)

-- the one place of the script is the first worker's
once : (place : ℕ) → times place (0 ∷ []) ≡ once_below place 1
once zero = refl
once (suc place) = refl

shared : IsSharedOut 2 jobs (sharing_of 1 shares)
shared = record { count = refl; rise = ((tt, tt), (tt, tt)); once = once; within = omega arith }

-- ---- what the disk keeps

-- at each moment the disk holds the opened list, and from moment 1 on the transfer's records behind it
abbrev stands-first : LogStands tail_old (log_of first_list) ((plain_disk file_at).images 0)
stands-first bytes is =
    StandsAt-LogStandsAt tail_old (units_of genesis_log) bytes (subst (StandsAt tail_old (units_of genesis_log)) (sym is) stands-old)

abbrev stands-all : LogStands tail_new (with_units (log_of first_list) (units_of transfer_records)) ((plain_disk file_at).images 1)
stands-all bytes is = StandsAt-LogStandsAt tail_new (units_of genesis_log ++ units_of transfer_records) bytes
    (subst (StandsAt tail_new (units_of genesis_log ++ units_of transfer_records)) (sym is) stands-new)

front-at : (moment : ℕ) (bytes : List ℕ) → bytes ≡ file_at moment → HoldsFront (log_of first_list) transfer_records bytes
front-at zero bytes is = record {
  front = [];
  rest = transfer_records;
  whole = refl;
  holds = subst (HoldsLog bytes) (sym (with_units-nil (log_of first_list))) (stands-first bytes is).held;
}
front-at (suc moment) bytes is =
    record { front = transfer_records; rest = []; whole = sym (append-nil transfer_records); holds = (stands-all bytes is).held }

keeps-old : KeepsLog (plain_disk file_at) 0 0 tail_old [] []
keeps-old = KeepsLog-none_sent (plain_disk file_at) (plain_disk-images_now file_at) 0 tail_old [] [] refl refl refl (log_of first_list) stands-first

keeps-new : KeepsLog (plain_disk file_at) 0 1 tail_new (units_of transfer_records) []
keeps-new = record {
  opened = log_of first_list;
  began = λ bytes is. (stands-first bytes is).held;
  shown = refl;
  records = transfer_records;
  spelled = record { spellable = transfer-spellable; units_are = refl };
  later = omega arith;
  moments = λ bytes since. inl (front-at since.0 bytes since.3);
  now = λ bytes is. inl (stands-all bytes is).held;
  goes_on = λ none. stands-all;
}

-- ---- the run over a daemon's table

module _ (d : PlainDaemon file_at) (of : IsOf d.flusher.table.now d.flusher.seat) where
  abbrev ring : ℕ
  ring = d.flusher.table.now.ring

  abbrev key : Start
  key = record { start = 4; ring = ring; slots = d.flusher.table.now.slots; accounts = record { rows = rows_old; room = 2 } }

  -- the flusher's view before, after its turns, and with the workers' seats taken in
  abbrev view_old : View
  view_old = flusher key

  abbrev view_new : View
  view_new = record (flusher key) {
    seen = record (flusher key).seen { exposed = 9; durable = 9; lsns = 9 ∷ 4 ∷ [] };
    sending = record { sent = units_of transfer_records; read = []; exposed = 9; stop = 0; quiet = true; looked = true };
  }

  abbrev view : View
  view = record view_new {
    entries = entry 4 2 (Update 1 0 (negsuc 29) 0) ∷ entry 6 2 (Update 1 1 (pos 30) 0) ∷ entry 8 1 (Commit 1 1) ∷ [];
    books = record (flusher key).books { jobs = record { number = 1; job = payment } ∷ [] };
  }

  -- ---- the opened log, and the closed table

  opened : IsOpened (plain_disk file_at) 0 tail_old first_list 1 key
  opened = record {
    spellable = genesis-spellable;
    lawful = genesis-lawful;
    range = genesis-begins_in_range;
    some_accounts = omega arith;
    below = omega arith;
    stand = λ honest. stands-first;
    shut = λ honest. closed_file-is_shut file_at 0 tail_old.at (written (units_of genesis_log ∷ [])) refl refl;
    next = refl;
    place = omega (arith, length-batch (batch (units_of genesis_log) ++ []) (units_of genesis_log) [] refl, length-append (batch (units_of genesis_log)) []);
    start = refl;
    accounts = genesis-shown;
  }

  base-is : base_of key ≡ base_left first_list
  base-is = base_of-base_left first_list key genesis-lawful refl genesis-shown

  accounts : HasLedger (base_of key) view rows
  accounts = record {
    count = refl;
    ledger = λ once. subst (λ (base : BaseState). IsLedger base transfer_history (numbered 1 (transfer ∷ [])) rows) (sym base-is) (record {
      lawful = transfer-lawful;
      serial = serial-partly (base_left first_list) (numbered 1 (transfer ∷ [])) transfer_history transfer-serial;
      accounts = rows-kept;
    });
    given = λ once. tt;
  }

  gathered : IsGathered 9 view
  gathered = record {
    tiles = (refl, (refl, (refl, refl)));
    full = (refl, (refl, (refl, tt)));
    seen = (inr (inr (inr refl)), (inl refl, tt));
    unsent = [];
    sent = refl;
    drained = λ drained. refl;
    spelled = (
      record { spellable = transfer-spellable.0; units = refl },
      (record { spellable = transfer-spellable.1.0; units = refl }, (record { spellable = transfer-spellable.1.1.0; units = refl }, tt)),
    );
  }

  -- each entry is of the first transaction
  of-first : (entry : Entry) → Contains view.entries entry → txn_of entry.rec ≡ 1
  of-first entry = All-contains IsFirst view.entries entry (All-from_recursion IsFirst view.entries (refl, (refl, (refl, tt))))
    where
      IsFirst : Entry → Type 0
      IsFirst other = txn_of other.rec ≡ 1

  has-share : (worker : ℕ) (share : Share) → get_elem? shares worker ≡ some share → HasShare jobs 2 share view
  has-share zero share at = subst (λ (s : Share). HasShare jobs 2 s view) (some-injective made share at)
      (record {
        places = (omega arith, tt);
        came_to = (
          record {
            end = entry 8 1 (Commit 1 1);
            contains = (2, omega arith, refl);
            number_is = omega arith;
            is_end = refl;
          },
          tt,
        );
        in_turn = λ i j before after less one other has has' is is'. absurd (omega (arith, less, is', of-first after has'));
      })
  has-share (suc zero) share at = subst (λ (s : Share). HasShare jobs 2 s view) (some-injective idle share at)
      (record { places = tt; came_to = tt; in_turn = λ i j before after less one. absurd (omega (arith, one.1)) })
  has-share (suc (suc worker)) share at = absurd (some-ne-none share (sym at))

  workers : HasGathered jobs 1 shares view
  workers = record {
    someone = omega arith;
    taken = refl;
    each = has-share;
    sharing = shared;
    all = λ worker share at all. refl;
  }

  -- ---- the turns

  -- the seat with this view
  abbrev seat_with : (v : View) → v.standing.worker ≡ 0 → Seat
  seat_with v is = record { base = record d.flusher.seat.base { me = (v, []) }; worker = 0; named = sym is }

  told-old : HasTold plain_sink [] [] Lines view_old view_old
  told-old = HasToldAll-has_told plain_sink [] Lines view_old [] view_old (HasToldAll-none plain_sink [] Lines view_old)

  told-new : HasToldAll plain_sink [] (end_lines 4 transfer_records) Lines view_old view_new
  told-new = record {
    since = record { more = transfer_records; spellable = transfer-spellable; constants = refl; sent = refl };
    told = refl;
  }

  abbrev old : PlainDaemon file_at
  old = record {
    flusher = record {
      table = d.flusher.table;
      disk = record d.flusher.disk { now = 0 };
      seat = seat_with view_old refl;
      batch = record { units = []; room = ring };
      tail = tail_old;
      first = record d.flusher.first { value = 0 };
      keeps = λ honest. ∣ keeps-old ∣₁;
    };
    sink = record d.sink { now = [] };
    voice = Lines;
    tally = record { done = 0; refused = 0 };
    fault = None;
    first = record d.first { value = [] };
    begun = record d.begun { value = seat_with view_old refl };
    told = ∣ told-old ∣₁;
  }

  abbrev new : PlainDaemon file_at
  new = record {
    flusher = record {
      table = d.flusher.table;
      disk = record d.flusher.disk { now = 1 };
      seat = seat_with view_new refl;
      batch = record { units = []; room = ring };
      tail = tail_new;
      first = record d.flusher.first { value = 0 };
      keeps = λ honest. ∣ keeps-new ∣₁;
    };
    sink = record d.sink { now = end_lines 4 transfer_records };
    voice = Lines;
    tally = record { done = 1; refused = 0 };
    fault = None;
    first = record d.first { value = [] };
    begun = record d.begun { value = seat_with view_old refl };
    told = ∣ HasToldAll-has_told plain_sink [] Lines view_old (end_lines 4 transfer_records) view_new told-new ∣₁;
  }

  may-turn : MayTurn (plain_disk file_at) new
  may-turn = record {
    flusher = record {
      seat = record { table_is = of.table_is; no_slots = refl; ring = refl; slots = refl };
      flusher = refl;
      unread = refl;
      seen = (0, omega arith, refl);
      next = refl;
      place = omega (
        arith,
        length-append (batch (units_of genesis_log)) (OPEN ∷ batch (units_of transfer_records) ++ []),
        length-append (batch (units_of transfer_records)) [],
        length-batch (batch (units_of genesis_log)) (units_of genesis_log) [] (sym (append-nil (batch (units_of genesis_log)))),
        length-batch (batch (units_of transfer_records)) (units_of transfer_records) [] (sym (append-nil (batch (units_of transfer_records)))),
      );
      shut = λ honest. closed_file-is_shut file_at 1 tail_new.at (written (units_of genesis_log ∷ units_of transfer_records ∷ [])) refl refl;
      room = omega arith;
    };
    fine = refl;
    running = refl;
    counted = omega arith;
    all_told = told-new;
  }

  -- what all images held at first is the opened list
  opening-is : (log : Log) → LogStands tail_old log ((plain_disk file_at).images 0) → log ≡ log_of first_list
  opening-is log stand =
      one_reading-log (file_at 0) log (log_of first_list) (stand (file_at 0) refl).held (stands-first (file_at 0) refl).held

  stands-later : (log : Log) → LogStands tail_old log ((plain_disk file_at).images 0)
      → LogStands tail_new (with_units log (units_of transfer_records)) ((plain_disk file_at).images 1)
  stands-later log stand bytes is =
      subst (λ (first : Log). LogStandsAt tail_new (with_units first (units_of transfer_records)) bytes) (sym (opening-is log stand))
      (stands-all bytes is)

  moments : (log : Log) → LogStands tail_old log ((plain_disk file_at).images 0)
      → Leaves (plain_disk file_at).moment (plain_disk file_at).images_since (HoldsFront log (transfer_records ++ [])) 0 1
  moments log stand = record { later = omega arith; each = each }
    where
      each : (from : ℕ) (bytes : List ℕ) → from ≤ 0 → (moment : ℕ) × (from ≤ moment) × (moment ≤ 1) × (bytes ≡ file_at moment)
          → ((moment : ℕ) × (from ≤ moment) × (moment ≤ 0) × (bytes ≡ file_at moment)) ⊎ HoldsFront log (transfer_records ++ []) bytes
      each from bytes early (zero, after, before, is) = inl (0, after, omega arith, is)
      each from bytes early (suc moment, after, before, is) = inr (record {
        front = transfer_records;
        rest = [];
        whole = refl;
        holds = (stands-later log stand bytes is).held;
      })

  -- the batch of the transfer takes 45 bytes, for five units
  tails : tail_new.at ≤ tail_old.at + 13 * 5
  tails = omega (
    arith,
    length-append (batch (units_of genesis_log)) [],
    length-append (batch (units_of genesis_log)) (OPEN ∷ batch (units_of transfer_records) ++ []),
    length-append (batch (units_of transfer_records)) [],
    length-batch (batch (units_of transfer_records)) (units_of transfer_records) [] (sym (append-nil (batch (units_of transfer_records)))),
  )

  ran : Ran (plain_disk file_at) plain_sink old new
  ran = record {
    was_fine = refl;
    more = transfer_records;
    cut = [];
    spellable = transfer-spellable;
    same = record {
      flusher = record {
        table = refl;
        seat = record { table_is = refl; slots = refl; constants = refl; entries = refl; books = refl };
        workers = refl;
        disk = refl;
        honest = (λ honest. honest, λ honest. honest);
        attached = refl;
        later = omega arith;
        first = refl;
      };
      sink = refl;
      voice = refl;
      first = refl;
      begun = refl;
    };
    constants = refl;
    sent = refl;
    in_flight = (refl, refl);
    may_turn = λ fine. may-turn;
    moments = λ honest. moments;
    stands = λ fault honest. stands-later;
    tallied = λ fault. refl;
    counts = (transfer_records, [], sym (append-nil transfer_records), refl);
    part = λ failed. absurd (none≢some WriteFault failed);
    reason = record {
      stop = refl;
      disk = record { counted = λ failed. absurd (none≢some DiskFault failed); fine = λ sent. refl };
      sink = record { counted = λ failed. absurd (none≢some WriteFault failed); fine = λ written. refl };
    };
    count = λ honest. omega arith;
    tail = tails;
    grows = λ honest. omega (
      arith,
      length-append (written (units_of genesis_log ∷ units_of transfer_records ∷ [])) (CLOSED ∷ []),
      tails,
    );
  }

  pub payment-made : HasMadePayment d
  payment-made = record {
    jobs = jobs;
    front = 1;
    shares = shares;
    key = key;
    old = old;
    new = new;
    view = view;
    rows = rows;
    known = record {
      log = opened;
      fresh = record {
        constants = refl;
        made = record { disk = refl; sink = refl; seat = refl; unsent = refl };
        stop = refl;
        fine = refl;
      };
      later = inr ran;
      sending = refl;
      constants = refl;
      drained = λ fine. record { quiet = refl; looked = refl; all = refl };
      workers = workers;
      gathered = gathered;
      accounts = accounts;
      heard = tt;
    };
    table = refl;
    ring = refl;
    slots = refl;
    script = refl;
    shared = refl;
    list = refl;
    fine = refl;
    text = append-nil (done_line 1 9);
  }
