-- Each kind of step is one that the base crate allows.
use Rattle.std.proofs.Common.{◌≡◌, ◌≢◌, ⊎_elim, ◌==◌, cond, ℕ, ◌+◌, ◌-◌, ◌*◌, ◌%◌, ◌^◌, ◌≤◌, ◌<◌, eqb, length, set, subst, sym, ap, ◌∙◌}
use prog.Atomic.{either}
use Rattle.atomic_table.specs.Table.{Me, Allows}
use Rattle.atomic_table.proofs.Lists.{set_here}
use Rattle.lsn_space.specs.declared.lsn.TheConstants.{LAST}
use Rattle.log_rule.specs.Events.{fills, flushes, look_event, looks_mark, marks, none, raises, reserves, places, Event, IsStep}
use Rattle.table_layout.specs.declared.layout.TheConstants.{STRIDE, TAIL, EXPOSED, DURABLE, STOP, CREW, RING}
use Rattle.log_rule.specs.declared.start.Start.{Start}
use Rattle.log_rule.specs.declared.view.Role.TheVariants.{Flusher, Fresh}
use Rattle.log_rule.specs.declared.view.View.{View}
use Rattle.table_layout.specs.Layout.{Tail, Exposed, Durable, Stop, Crew, Ring, Mark, Account, Balance}
use Rattle.log_rule.specs.May.{IsOwnWord, MayLeave, MayReserve, MayPlaceGroup, MayExchangeTail, MayFill, MayMark, MayLookMark, MayRaise, MayRead}
use Rattle.log_rule.specs.May.{MaySend, MayStop, MayTakeJob, MayTake, MayLoadBalance, MayStoreBalance, MayGiveBack}
use Rattle.slot_word.specs.declared.account_word.AccountWord.{AccountWord}
use Rattle.slot_word.specs.AccountWord.{word_of, IsAccountWord}
use Rattle.lsn_space.specs.declared.opening.TheConstants.{MOST_BALANCE}
use Rattle.lock_core.specs.declared.job.Job.{Job}
use Rattle.log_rule.specs.Sends.{IsExposedToFlusher, IsDurableToFlusher, ReadsWholeEntries}
use Rattle.log_rule.specs.Moments.{HoldsAtOnce}
use Rattle.log_rule.specs.FirstAccounts.{HasAccounts}
use Rattle.log_rule.specs.Sound.{HasReadStop, Ruled}
use Rattle.log_rule.specs.Views.{saw_tail, saw_exposed, saw_durable, filled, has_read, has_sent, has_stopped, saw_stop, saw_crew}
use Rattle.log_rule.specs.SlotViews.{after_exchange}
use Rattle.log_rule.specs.MarkViews.{marked, saw_mark, after_raise}
use Rattle.log_rule.specs.AccountViews.{took_job, saw_account, after_account, loaded_balance, stored_balance, gave_account}
use Rattle.log_rule.specs.CrewViews.{enrolled, retired}
use Rattle.log_rule.specs.Words.{with_word}
use Rattle.log_rule.proofs.Crewing.{enroll-step_modulo, leave-step_modulo}
use Rattle.log_rule.proofs.Exposing.{saw_exposed-step, look-step, mark-tells_le_last}
use Rattle.log_rule.proofs.LeaderPlacing.{place-exchange}
use Rattle.log_rule.proofs.PieceFilling.{fill-step}
use Rattle.log_rule.proofs.Lifting.{allowed-if_step, allowed-if_told, Tells}
use Rattle.log_rule.proofs.Loads.{saw_tail-step, saw_durable-step, saw_stop-step, stop-tells_unchanged, tail-tells_at_least_seen, exposed-tells_at_least_seen, durable-tells_at_least_seen}
use Rattle.log_rule.proofs.Flushing.{send-step}
use Rattle.log_rule.proofs.Reading.{read-step, read-tells_whole_entries}
use Rattle.log_rule.proofs.GroupMarking.{mark-step}
use Rattle.log_rule.proofs.Raising.{raise-step, raise-tells_bounds}
use Rattle.log_rule.proofs.Stopping.{stop_unchanged-step, stop-tells_read_stop, stop-step, saw_crew-step}
use Rattle.log_rule.proofs.Reserving.{reserve_exchange-step}
use Rattle.table_layout.proofs.WordPlaces.{Fits, shared_tail, shared_exposed, shared_durable, shared_stop, shared_crew, in_ring, in_marks, of_account, of_balance}
use Rattle.log_rule.proofs.ViewChanges.{get_elem-below_length}
use Rattle.log_rule.proofs.AccountSteps.{FitsWord, job-step, saw_account-step, account-tells_own_word, account-tells_account_word}
use Rattle.log_rule.proofs.AccountSteps.{balance-tells_range, after_account-step, load_balance-step, store_balance-step, give-step}

module _ (key : Start) (slots seat : ℕ) (me : Me (Unit {0}) View) where
  pub load_tail-allowed : Allows (Ruled key) slots seat me TAIL (λ n. n)
      (λ n new. (new ≡ (saw_tail n me.0, me.1)) × ((me.0.seen.tail ≤ n) × (n ≤ LAST)))
  load_tail-allowed = allowed-if_step key slots seat me Tail shared_tail (λ n. n) (λ n. saw_tail n me.0) (λ _. none)
      (λ n. (me.0.seen.tail ≤ n) × (n ≤ LAST)) (tail-tells_at_least_seen key seat me.0) (λ n _. saw_tail-step key seat me.0 n)

  pub load_exposed-allowed : Allows (Ruled key) slots seat me EXPOSED (λ n. n)
      (λ n new. (new ≡ (saw_exposed n me.0, me.1)) × ((me.0.seen.exposed ≤ n) × (n ≤ LAST) × IsExposedToFlusher me.0 n))
  load_exposed-allowed =
      allowed-if_step key slots seat me Exposed shared_exposed (λ n. n) (λ n. saw_exposed n me.0) (λ _. look_event seat me.0.call)
      (λ n. (me.0.seen.exposed ≤ n) × (n ≤ LAST) × IsExposedToFlusher me.0 n) (exposed-tells_at_least_seen key seat me.0) (λ n _. saw_exposed-step key seat me.0 n)

  pub load_durable-allowed : Allows (Ruled key) slots seat me DURABLE (λ n. n)
      (λ n new. (new ≡ (saw_durable n me.0, me.1)) × ((me.0.seen.durable ≤ n) × (n ≤ LAST) × IsDurableToFlusher me.0 n))
  load_durable-allowed =
      allowed-if_step key slots seat me Durable shared_durable (λ n. n) (λ n. saw_durable n me.0) (λ _. none)
      (λ n. (me.0.seen.durable ≤ n) × (n ≤ LAST) × IsDurableToFlusher me.0 n) (durable-tells_at_least_seen key seat me.0) (λ n _. saw_durable-step key seat me.0 n)

  pub exchange_tail-allowed : (from to : ℕ) → MayExchangeTail from to me.0
      → Allows (Ruled key) slots seat me TAIL (λ n. either (eqb n from) to n)
      (λ n new. (new ≡ (after_exchange from to n me.0, me.1)) × ((me.0.seen.tail ≤ n) × (n ≤ LAST)))
  exchange_tail-allowed from to may = ⊎_elim
      (λ (alone : MayReserve from to me.0). by (λ n. cond (n == from) (reserves seat (to - from)) none) (reserve_exchange-step key seat me.0 from to alone))
      (λ (group : MayPlaceGroup from to me.0).
      by (λ n. cond (n == from) (places seat from me.0.seen.durable) none) (place-exchange key seat me.0 from to group)) may
    where
      by : (event : ℕ → Event) → ((n : ℕ) → IsStep key seat Tail n (either (eqb n from) to n) me.0 (after_exchange from to n me.0) (event n))
          → Allows (Ruled key) slots seat me TAIL (λ n. either (eqb n from) to n)
          (λ n new. (new ≡ (after_exchange from to n me.0, me.1)) × ((me.0.seen.tail ≤ n) × (n ≤ LAST)))
      by event step = allowed-if_step key slots seat me Tail shared_tail (λ n. either (eqb n from) to n) (λ n. after_exchange from to n me.0)
          event (λ n. (me.0.seen.tail ≤ n) × (n ≤ LAST)) (tail-tells_at_least_seen key seat me.0) (λ n _. step n)

  pub enroll-allowed : me.0.standing.role ≡ Fresh
      → Allows (Ruled key) slots seat me CREW (λ n. (n + 1) % 2 ^ 64) (λ n new. (new ≡ (enrolled me.0, me.1)) × Unit {0})
  enroll-allowed fresh =
      allowed-if_step key slots seat me Crew shared_crew (λ n. (n + 1) % 2 ^ 64) (λ _. enrolled me.0) (λ _. none) (λ _. Unit {0})
      (λ _ _ _ _ _. tt) (λ n _. enroll-step_modulo key seat me.0 fresh n)

  pub leave-allowed : MayLeave me.0
      → Allows (Ruled key) slots seat me CREW (λ n. (n + (2 ^ 64 - 1)) % 2 ^ 64) (λ n new. (new ≡ (retired me.0, me.1)) × Unit {0})
  leave-allowed may = allowed-if_step key slots seat me Crew shared_crew (λ n. (n + (2 ^ 64 - 1)) % 2 ^ 64) (λ _. retired me.0) (λ _. none)
      (λ _. Unit {0}) (λ _ _ _ _ _. tt) (λ n _. leave-step_modulo key seat me.0 may n)

  pub store_ring-allowed : (at ring number unit : ℕ) → key.ring ≡ ring → key.slots ≡ number → at % ring < ring → MayFill number at unit me.0
      → Allows (Ruled key) slots seat me (RING + at % ring) (λ _. unit) (λ _ new. (new ≡ (filled unit me.0, me.1)) × Unit {0})
  store_ring-allowed at ring number unit same slotted below may =
      allowed-if_step key slots seat me (Ring (at % ring)) (in_ring (at % ring) (subst (λ r. at % ring < r) (sym same) below)) (λ _. unit)
      (λ _. filled unit me.0) (λ _. fills seat) (λ _. Unit {0}) (λ _ _ _ _ _. tt) (λ n _. fill-step key seat me.0 at ring number unit same slotted may n)

  pub exchange_exposed-allowed : (from to : ℕ) → MayRaise from to me.0
      → Allows (Ruled key) slots seat me EXPOSED (λ n. either (eqb n from) to n)
      (λ n new. (new ≡ (after_raise (cond (n == from) to n) me.0, me.1)) × ((from ≤ n) × (me.0.seen.exposed ≤ n) × (n ≤ LAST)))
  exchange_exposed-allowed from to may =
      allowed-if_step key slots seat me Exposed shared_exposed (λ n. either (eqb n from) to n) (λ n. after_raise (cond (n == from) to n) me.0)
      (λ _. raises seat) (λ n. (from ≤ n) × (me.0.seen.exposed ≤ n) × (n ≤ LAST)) (raise-tells_bounds key seat me.0 from to may)
      (λ n _. raise-step key seat me.0 from to may n)

  module _ (place ring base : ℕ) (at : place ≡ RING + ring + base % ring) (same : key.ring ≡ ring) (below : base % ring < ring) where
    fits-mark : Fits key.ring key.slots (length key.accounts.rows) (Mark (base % ring))
    fits-mark = in_marks (base % ring) (subst (λ r. base % ring < r) (sym same) below)

    at-mark : (left : ℕ → ℕ) (then : ℕ → Me (Unit {0}) View → Type 0)
        → Allows (Ruled key) slots seat me (RING + key.ring + base % ring) left then → Allows (Ruled key) slots seat me place left then
    at-mark left then = subst (λ n. Allows (Ruled key) slots seat me n left then) (ap (λ r. RING + r + base % ring) same ∙ sym at)

    pub store_mark-allowed : (end : ℕ) → MayMark base end me.0
        → Allows (Ruled key) slots seat me place (λ _. end) (λ _ new. (new ≡ (marked me.0, me.1)) × Unit {0})
    store_mark-allowed end may = at-mark (λ _. end) (λ _ new. (new ≡ (marked me.0, me.1)) × Unit {0})
        (allowed-if_step key slots seat me (Mark (base % ring)) fits-mark (λ _. end) (λ _. marked me.0) (λ _. marks seat) (λ _. Unit {0})
        (λ _ _ _ _ _. tt) (λ n _. mark-step key seat me.0 base end ring same may n))

    pub load_mark-allowed : MayLookMark base me.0
        → Allows (Ruled key) slots seat me place (λ n. n) (λ n new. (new ≡ (saw_mark n me.0, me.1)) × (n ≤ LAST))
    load_mark-allowed may = at-mark (λ n. n) (λ n new. (new ≡ (saw_mark n me.0, me.1)) × (n ≤ LAST))
        (allowed-if_step key slots seat me (Mark (base % ring)) fits-mark (λ n. n) (λ n. saw_mark n me.0) (λ _. looks_mark seat) (λ n. n ≤ LAST)
        (mark-tells_le_last key seat me.0 base ring same may) (λ n _. look-step key seat me.0 base ring same may n))

  pub load_ring-allowed : (at ring : ℕ) → key.ring ≡ ring → at % ring < ring → MayRead at me.0
      → Allows (Ruled key) slots seat me (RING + at % ring) (λ n. n) (λ n new. (new ≡ (has_read n me.0, me.1)) × ReadsWholeEntries (has_read n me.0))
  load_ring-allowed at ring same below may =
      allowed-if_step key slots seat me (Ring (at % ring)) (in_ring (at % ring) (subst (λ r. at % ring < r) (sym same) below)) (λ n. n)
      (λ n. has_read n me.0) (λ _. none) (λ n. ReadsWholeEntries (has_read n me.0)) (read-tells_whole_entries key seat me.0 at ring same may)
      (λ n _. read-step key seat me.0 at ring same may n)

  pub store_durable-allowed : (to : ℕ) → MaySend to me.0 → HasAccounts key
      → Allows (Ruled key) slots seat me DURABLE (λ _. to) (λ _ new. (new ≡ (has_sent to me.0, me.1)) × HoldsAtOnce key seat (has_sent to me.0))
  store_durable-allowed to may accounts =
      allowed-if_told key slots seat me Durable shared_durable (λ _. to) (λ _. has_sent to me.0) (λ _. flushes to) (λ _. HoldsAtOnce key seat (has_sent to me.0))
      (λ words views log s here n is led. record {
        accounts = accounts;
        words = with_word words Durable to;
        views = set views seat (has_sent to me.0);
        log = led.after;
        rule = led.sound;
        own = set_here views seat (has_sent to me.0) (get_elem-below_length views seat me.0 here);
      })
      (λ n _. send-step key seat me.0 to may n)

  pub store_stop-allowed : (word : ℕ) → MayStop word me.0
      → Allows (Ruled key) slots seat me STOP (λ _. word) (λ _ new. (new ≡ (has_stopped word me.0, me.1)) × Unit {0})
  store_stop-allowed word may =
      allowed-if_step key slots seat me Stop shared_stop (λ _. word) (λ _. has_stopped word me.0) (λ _. none) (λ _. Unit {0})
      (λ _ _ _ _ _. tt) (λ n _. stop-step key seat me.0 word may n)

  pub tell_stop-allowed : Allows (Ruled key) slots seat me STOP (λ n. n)
      (λ n new. (new ≡ (me.0, me.1)) × (me.0.standing.role ≡ Flusher → HasReadStop me.0.sending.stop me.0))
  tell_stop-allowed = allowed-if_step key slots seat me Stop shared_stop (λ n. n) (λ _. me.0) (λ _. none)
      (λ _. me.0.standing.role ≡ Flusher → HasReadStop me.0.sending.stop me.0) (stop-tells_read_stop key seat me.0) (λ n _. stop_unchanged-step key seat me.0 n)

  pub look-allowed : HasAccounts key → Allows (Ruled key) slots seat me STOP (λ n. n) (λ n new. (new ≡ (me.0, me.1)) × HoldsAtOnce key seat me.0)
  look-allowed accounts = allowed-if_told key slots seat me Stop shared_stop (λ n. n) (λ _. me.0) (λ _. none) (λ _. HoldsAtOnce key seat me.0)
      (λ words views log s here n is led. record { accounts = accounts; words = words; views = views; log = log; rule = s; own = here })
      (λ n _. stop_unchanged-step key seat me.0 n)

  pub load_stop-allowed : Allows (Ruled key) slots seat me STOP (λ n. n) (λ n new. (new ≡ (saw_stop n me.0, me.1)) × (me.0.seen.stop ≢ 0 → n ≡ me.0.seen.stop))
  load_stop-allowed = allowed-if_step key slots seat me Stop shared_stop (λ n. n) (λ n. saw_stop n me.0) (λ _. none)
      (λ n. me.0.seen.stop ≢ 0 → n ≡ me.0.seen.stop) (stop-tells_unchanged key seat me.0) (λ n _. saw_stop-step key seat me.0 n)

  pub load_crew-allowed : Allows (Ruled key) slots seat me CREW (λ n. n) (λ n new. (new ≡ (saw_crew n me.0, me.1)) × Unit {0})
  load_crew-allowed = allowed-if_step key slots seat me Crew shared_crew (λ n. n) (λ n. saw_crew n me.0) (λ _. none) (λ _. Unit {0})
      (λ _ _ _ _ _. tt) (λ n _. saw_crew-step key seat me.0 n)

  pub take_job-allowed : (accounts number picked : ℕ) (job picked_job : Job) → length key.accounts.rows ≡ accounts → picked ≡ number → picked_job ≡ job
      → MayTakeJob accounts number job me.0
      → Allows (Ruled key) slots seat me STOP (λ n. n) (λ n new. (new ≡ (took_job picked picked_job n me.0, me.1)) × (me.0.seen.stop ≢ 0 → n ≡ me.0.seen.stop))
  take_job-allowed accounts number picked job picked_job same is is_job may =
      subst (λ (p : ℕ × Job). Allows (Ruled key) slots seat me STOP (λ n. n) (λ n new. (new ≡ (took_job p.0 p.1 n me.0, me.1)) × (me.0.seen.stop ≢ 0 → n ≡ me.0.seen.stop)))
      (λ i. (sym is i, sym is_job i))
      (allowed-if_step key slots seat me Stop shared_stop (λ n. n) (λ n. took_job number job n me.0) (λ _. none)
      (λ n. me.0.seen.stop ≢ 0 → n ≡ me.0.seen.stop) (stop-tells_unchanged key seat me.0) (λ n _. job-step key seat me.0 accounts number job same may n))

  module _ (place ring number accounts account picked : ℕ) (at : place ≡ RING + ring + ring + STRIDE * (number + number + account)) (same : key.ring ≡ ring)
      (slotted : key.slots ≡ number)
      (counted : length key.accounts.rows ≡ accounts) (below : account < accounts) (is : picked ≡ account) where
    fits-account : Fits key.ring key.slots (length key.accounts.rows) (Account account)
    fits-account = of_account account (subst (λ c. account < c) (sym counted) below)

    placed : RING + key.ring + key.ring + STRIDE * (key.slots + key.slots + account) ≡ place
    placed = (λ i. RING + same i + same i + STRIDE * (slotted i + slotted i + account)) ∙ sym at

    -- the word at that place, with the number as it was picked
    at-account : (left : ℕ → ℕ) (then : ℕ → ℕ → Me (Unit {0}) View → Type 0)
        → Allows (Ruled key) slots seat me (RING + key.ring + key.ring + STRIDE * (key.slots + key.slots + account)) left (then account)
        → Allows (Ruled key) slots seat me place left (then picked)
    at-account left then allows = subst (λ (p : ℕ × ℕ). Allows (Ruled key) slots seat me p.0 left (then p.1))
        (λ i. (placed i, sym is i)) allows

    known-account : account < length key.accounts.rows
    known-account = subst (λ c. account < c) (sym counted) below

    -- what the word of an account tells
    tells-word : Tells key seat (Account account) me.0 (λ n. IsAccountWord n × IsOwnWord account n me.0.books)
    tells-word words views log s at = (
      account-tells_account_word key seat me.0 account known-account words views log s at,
      account-tells_own_word key seat me.0 account words views log s at,
    )

    pub load_account-allowed : Allows (Ruled key) slots seat me place (λ n. n)
        (λ n new. (new ≡ (saw_account picked n me.0, me.1)) × (IsAccountWord n × IsOwnWord picked n me.0.books))
    load_account-allowed = at-account (λ n. n) (λ p n new. (new ≡ (saw_account p n me.0, me.1)) × (IsAccountWord n × IsOwnWord p n me.0.books))
        (allowed-if_step key slots seat me (Account account) fits-account (λ n. n)
        (λ n. saw_account account n me.0) (λ _. none) (λ n. IsAccountWord n × IsOwnWord account n me.0.books) tells-word
        (λ n _. saw_account-step key seat me.0 account n))

    pub exchange_account-allowed : (from to : AccountWord) (free held : ℕ) → free ≡ word_of from → held ≡ word_of to → FitsWord from → FitsWord to
        → MayTake account from to me.0
        → Allows (Ruled key) slots seat me place (λ n. either (eqb n free) held n)
        (λ n new. (new ≡ (after_account picked free n me.0, me.1)) × (IsAccountWord n × IsOwnWord picked n me.0.books))
    exchange_account-allowed from to free held free-is held-is from-fits to-fits may =
        subst (λ (p : ℕ × ℕ). Allows (Ruled key) slots seat me place (λ n. either (eqb n p.0) p.1 n)
        (λ n new. (new ≡ (after_account picked p.0 n me.0, me.1)) × (IsAccountWord n × IsOwnWord picked n me.0.books))) (λ i. (sym free-is i, sym held-is i))
        (at-account (λ n. either (eqb n (word_of from)) (word_of to) n)
        (λ p n new. (new ≡ (after_account p (word_of from) n me.0, me.1)) × (IsAccountWord n × IsOwnWord p n me.0.books))
        (allowed-if_step key slots seat me (Account account) fits-account
        (λ n. either (eqb n (word_of from)) (word_of to) n) (λ n. after_account account (word_of from) n me.0) (λ _. none)
        (λ n. IsAccountWord n × IsOwnWord account n me.0.books) tells-word
        (λ n _. after_account-step key seat me.0 accounts account counted below from to from-fits to-fits may n)))

    pub store_account-allowed : (word : AccountWord) (packed : ℕ) → packed ≡ word_of word → FitsWord word → MayGiveBack account word me.0
        → Allows (Ruled key) slots seat me place (λ _. packed) (λ _ new. (new ≡ (gave_account picked me.0, me.1)) × Unit {0})
    store_account-allowed word packed packed-is fits may =
        subst (λ w. Allows (Ruled key) slots seat me place (λ _. w) (λ _ new. (new ≡ (gave_account picked me.0, me.1)) × Unit {0})) (sym packed-is)
        (at-account (λ _. word_of word) (λ p _ new. (new ≡ (gave_account p me.0, me.1)) × Unit {0})
        (allowed-if_step key slots seat me (Account account) fits-account (λ _. word_of word)
        (λ _. gave_account account me.0) (λ _. none) (λ _. Unit {0}) (λ _ _ _ _ _. tt) (λ n _. give-step key seat me.0 account word fits may n)))

  module _ (place ring number accounts account picked : ℕ) (at : place ≡ RING + ring + ring + STRIDE * (number + number + account) + 1) (same : key.ring ≡ ring)
      (slotted : key.slots ≡ number)
      (counted : length key.accounts.rows ≡ accounts) (below : account < accounts) (is : picked ≡ account) where
    fits-balance : Fits key.ring key.slots (length key.accounts.rows) (Balance account)
    fits-balance = of_balance account (subst (λ c. account < c) (sym counted) below)

    placed-balance : RING + key.ring + key.ring + STRIDE * (key.slots + key.slots + account) + 1 ≡ place
    placed-balance = (λ i. RING + same i + same i + STRIDE * (slotted i + slotted i + account) + 1) ∙ sym at

    at-balance : (left : ℕ → ℕ) (then : ℕ → ℕ → Me (Unit {0}) View → Type 0)
        → Allows (Ruled key) slots seat me (RING + key.ring + key.ring + STRIDE * (key.slots + key.slots + account) + 1) left (then account)
        → Allows (Ruled key) slots seat me place left (then picked)
    at-balance left then allows = subst (λ (p : ℕ × ℕ). Allows (Ruled key) slots seat me p.0 left (then p.1))
        (λ i. (placed-balance i, sym is i)) allows

    pub load_balance-allowed : MayLoadBalance account me.0
        → Allows (Ruled key) slots seat me place (λ n. n) (λ n new. (new ≡ (loaded_balance n me.0, me.1)) × (n ≤ MOST_BALANCE))
    load_balance-allowed may = at-balance (λ n. n) (λ p n new. (new ≡ (loaded_balance n me.0, me.1)) × (n ≤ MOST_BALANCE))
        (allowed-if_step key slots seat me (Balance account) fits-balance (λ n. n)
        (λ n. loaded_balance n me.0) (λ _. none) (λ n. n ≤ MOST_BALANCE)
        (balance-tells_range key seat me.0 account (subst (λ c. account < c) (sym counted) below))
        (λ n _. load_balance-step key seat me.0 account may n))

    pub store_balance-allowed : (balance : ℕ) → MayStoreBalance account balance me.0
        → Allows (Ruled key) slots seat me place (λ _. balance) (λ _ new. (new ≡ (stored_balance picked balance me.0, me.1)) × Unit {0})
    store_balance-allowed balance may = at-balance (λ _. balance) (λ p _ new. (new ≡ (stored_balance p balance me.0, me.1)) × Unit {0})
        (allowed-if_step key slots seat me (Balance account) fits-balance (λ _. balance)
        (λ _. stored_balance account balance me.0) (λ _. none) (λ _. Unit {0}) (λ _ _ _ _ _. tt)
        (λ n _. store_balance-step key seat me.0 account balance may n))
