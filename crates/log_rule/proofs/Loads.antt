-- Steps that change what their seat has seen, and nothing else: the loads, and an exchange that was lost.
use Rattle.std.proofs.Common.{◌≡◌, ◌≢◌, inr, ⊎_elim, ℕ, ◌+◌, ◌/◌, ◌≤◌, Bool, List, length, set, sym, refl, ap, ◌∙◌, subst, le_refl, arith}
use mathlib.Core.Option.{some}
use lib.ListN.{get_elem?}
use Rattle.lsn_space.specs.Tiling.{IsTilingBoundary}
use Rattle.lsn_space.specs.declared.lsn.TheConstants.{LAST}
use Rattle.lsn_space.proofs.TilingLemmas.{boundary-from}
use Rattle.log_rule.specs.declared.start.Start.{Start}
use Rattle.log_rule.specs.declared.view.Constants.{Constants}
use Rattle.log_rule.specs.declared.view.Seen.{Seen}
use Rattle.log_rule.specs.declared.view.Sending.{Sending}
use Rattle.log_rule.specs.declared.view.View.{View}
use Rattle.log_rule.specs.Events.{Leads, IsStep, none}
use Rattle.table_layout.specs.Layout.{Tail, Exposed, Durable, Stop}
use Rattle.log_rule.specs.Log.{Log, ranges_of, IsRangeBoundary, Tiles}
use Rattle.log_rule.specs.Sends.{IsExposedToFlusher, IsDurableToFlusher}
use Rattle.log_rule.specs.Sound.{EachView, HasSeenBoundaries, HasContiguousReservations, SendsIfFlusher, StoresStop, HasReadStop, RestsIfQuiet, LookedIfQuiet, IsSound}
use Rattle.log_rule.specs.Roles.{is_spent}
use Rattle.log_rule.specs.Views.{seen_tail, seen_durable, saw_tail, saw_durable, saw_stop}
use Rattle.log_rule.specs.Words.{Words}
use Rattle.log_rule.proofs.AccountsKept.{same_books-keeps_accounts}
use Rattle.log_rule.proofs.Lifting.{Tells}
use Rattle.log_rule.proofs.Members.{KeepsSeen, one_step_more-keeps_seen, seen_tail-keeps_seen, seen_durable-keeps_seen, keeps_seen-loads_for_group, keeps-view}
use Rattle.log_rule.proofs.Roles.{crew-set_same, rests_if_quiet-set, change_standing-leads}
use Rattle.log_rule.proofs.Boundaries.{range_size, part_size, range_boundary-part_boundary, boundary-append, boundary-end, boundary-prepend_tiling}
use Rattle.log_rule.proofs.RangeLists.{tiles-le, tiles-append}
use Rattle.log_rule.proofs.ViewChanges.{each_view-set}

-- durable, exposed and the tail are boundaries of reservations
module _ (start ring tail exposed durable : ℕ) (log : Log) (c : HasContiguousReservations start ring tail exposed durable log) where
  pub durable-boundary : IsRangeBoundary start (ranges_of log) durable
  durable-boundary = boundary-append range_size _ _ log.flushed _ (boundary-end _ _ _ log.flushed c.to_durable)

  pub exposed-boundary : IsRangeBoundary start (ranges_of log) exposed
  exposed-boundary = boundary-prepend_tiling _ _ _ _ log.flushed _ c.to_durable
      (boundary-append range_size _ _ log.exposed _ (boundary-end _ _ _ log.exposed c.to_exposed))

  pub tail-boundary : IsRangeBoundary start (ranges_of log) tail
  tail-boundary = boundary-prepend_tiling _ _ _ _ log.flushed _ c.to_durable
      (boundary-prepend_tiling _ _ _ _ log.exposed _ c.to_exposed (boundary-end _ _ _ log.ahead c.to_tail))

  pub all-tile : Tiles (ring / 4) start (ranges_of log) tail
  all-tile = tiles-append _ _ _ _ log.flushed _ c.to_durable (tiles-append _ _ _ _ log.exposed log.ahead c.to_exposed c.to_tail)

  -- each boundary of reservations is one of the parts
  pub ranges_of-part_boundary : (at : ℕ) → IsRangeBoundary start (ranges_of log) at → IsTilingBoundary part_size start log.parts at
  ranges_of-part_boundary at b = range_boundary-part_boundary _ start start tail at log.parts (ranges_of log) all-tile c.aligned
      (boundary-from part_size start log.parts) b

-- the seat sees a word, or its part in the sending changes, or whether it is contended
module _ (key : Start) (words : Words) (stop : ℕ) (views : List View) (me : ℕ) (v : View) (log : Log) (seen : Seen) (contended : Bool) (sending : Sending)
    (s : IsSound key words views log) (at : get_elem? views me ≡ some v) where
  abbrev new : View
  new = record v { seen = seen; contended = contended; sending = sending }

  pub change_seen-leads : HasSeenBoundaries key.start words.tail words.exposed words.durable (ranges_of log) seen
      → SendsIfFlusher key.start words.exposed words.durable log new → EachView (λ _ z. StoresStop stop z) (set views me new)
      → EachView (λ _ z. HasReadStop stop z) (set views me new)
      → ((j : ℕ) (z : View) → get_elem? views j ≡ some z → RestsIfQuiet v z → RestsIfQuiet new z)
      → LookedIfQuiet words.exposed new → KeepsSeen log.groups v.seen seen
      → Leads key words (record words { stop = stop }) views (set views me new) log none
  change_seen-leads sees sends stops read quiet looked keeps =
      change_standing-leads key words stop words.crew words.account views me v new log s at refl refl sees (s.constants me v at) (s.resting me v at) (s.entries me v at)
      (crew-set_same words.crew views me v new s.roles at refl) sends stops read (rests_if_quiet-set views me v new s.quiet at quiet (λ _ h. h)) looked
      (s.unheld me v at) (same_books-keeps_accounts key words.account log.parts log.groups views me v new at refl s.accounts)
      (keeps-view key words views me v log s at new refl keeps (keeps_seen-loads_for_group key words views me v log s at seen keeps) (s.awaits me v at))

-- it is as contended as before
pub change_sending-leads : (key : Start) (words : Words) (stop : ℕ) (views : List View) (me : ℕ) (v : View) (log : Log) (seen : Seen) (sending : Sending)
    → IsSound key words views log → get_elem? views me ≡ some v
    → HasSeenBoundaries key.start words.tail words.exposed words.durable (ranges_of log) seen
    → SendsIfFlusher key.start words.exposed words.durable log (record v { seen = seen; sending = sending })
    → EachView (λ _ z. StoresStop stop z) (set views me (record v { seen = seen; sending = sending }))
    → EachView (λ _ z. HasReadStop stop z) (set views me (record v { seen = seen; sending = sending }))
    → ((j : ℕ) (z : View) → get_elem? views j ≡ some z → RestsIfQuiet v z → RestsIfQuiet (record v { seen = seen; sending = sending }) z)
    → LookedIfQuiet words.exposed (record v { seen = seen; sending = sending })
    → KeepsSeen log.groups v.seen seen
    → Leads key words (record words { stop = stop }) views (set views me (record v { seen = seen; sending = sending })) log none
change_sending-leads key words stop views me v log seen sending = change_seen-leads key words stop views me v log seen v.contended sending

-- the seat sees a word
module _ (key : Start) (words : Words) (views : List View) (me : ℕ) (v : View) (log : Log) (seen : Seen) (s : IsSound key words views log)
    (at : get_elem? views me ≡ some v) (sees : HasSeenBoundaries key.start words.tail words.exposed words.durable (ranges_of log) seen)
    (read : HasReadStop words.stop (record v { seen = seen })) (keeps : KeepsSeen log.groups v.seen seen) where
  pub see_word_contended-leads : (contended : Bool) → Leads key words words views (set views me (record v { seen = seen; contended = contended })) log none
  see_word_contended-leads contended = let new : View = record v { seen = seen; contended = contended } in
      change_seen-leads key words words.stop views me v log seen contended v.sending s at sees (s.sends me v at)
      (each_view-set (λ _ z. StoresStop words.stop z) views me new s.stops (s.stops me v at))
      (each_view-set (λ _ z. HasReadStop words.stop z) views me new s.read_stop read) (λ _ _ _ h. h) (s.looked me v at) keeps

  pub see_word-leads : Leads key words words views (set views me (record v { seen = seen })) log none
  see_word-leads = see_word_contended-leads v.contended

module _ (key : Start) (me : ℕ) (v : View) where
  -- the tail is seen, by a load or by an exchange that was lost
  pub saw_tail_contended-step : (contended : Bool) (n : ℕ) → IsStep key me Tail n n v (record v { seen = seen_tail n v.seen; contended = contended }) none
  saw_tail_contended-step contended n = record {
    leads = λ words views log s at is. let old = s.seen me v at in
        subst (λ x. Leads key words (record words { tail = x }) views (set views me (record v { seen = seen_tail x v.seen; contended = contended })) log none) is
        (see_word_contended-leads key words views me v log (seen_tail words.tail v.seen) s at record {
          tail_seen = le_refl _;
          exposed_seen = old.exposed_seen;
          durable_seen = old.durable_seen;
          boundaries = (tail-boundary _ _ _ _ _ log s.contiguous, old.boundaries);
        } (s.read_stop me v at) (seen_tail-keeps_seen key.start key.ring words.tail words.durable (ranges_of log) log.groups v.seen s.in_group) contended);
  }

  pub saw_tail-step : (n : ℕ) → IsStep key me Tail n n v (saw_tail n v) none
  saw_tail-step n = saw_tail_contended-step v.contended n

  pub saw_durable-step : (n : ℕ) → IsStep key me Durable n n v (saw_durable n v) none
  saw_durable-step n = record {
    leads = λ words views log s at is. let old = s.seen me v at in
        subst (λ x. Leads key words (record words { durable = x }) views (set views me (saw_durable x v)) log none) is
        (see_word-leads key words views me v log (seen_durable words.durable v.seen) s at record {
          tail_seen = old.tail_seen;
          exposed_seen = old.exposed_seen;
          durable_seen = le_refl _;
          boundaries = (durable-boundary _ _ _ _ _ log s.contiguous, old.boundaries);
        } (s.read_stop me v at) (seen_durable-keeps_seen key.start key.ring words.tail words.durable (ranges_of log) log.groups v.seen s.in_group));
  }

  pub saw_stop-step : (n : ℕ) → IsStep key me Stop n n v (saw_stop n v) none
  saw_stop-step n = record {
    leads = λ words views log s at is. let old = s.seen me v at in
        subst (λ x. Leads key words (record words { stop = x }) views (set views me (saw_stop x v)) log none) is
        (see_word-leads key words views me v log (record v.seen { steps = v.seen.steps + 1; stop = words.stop }) s at record {
          tail_seen = old.tail_seen;
          exposed_seen = old.exposed_seen;
          durable_seen = old.durable_seen;
          boundaries = old.boundaries;
        } (inr refl) (one_step_more-keeps_seen log.groups v.seen _ refl refl refl refl refl refl refl));
  }

  -- a stop word that was read stays
  pub stop-tells_unchanged : Tells key me Stop v (λ n. v.seen.stop ≢ 0 → n ≡ v.seen.stop)
  stop-tells_unchanged words views log s at stopped = ⊎_elim (λ none. absurd (stopped none)) (λ same. sym same) (s.read_stop me v at)

  -- the rule tells that a word never goes back, and lies in the log
  pub tail-tells_at_least_seen : Tells key me Tail v (λ n. (v.seen.tail ≤ n) × (n ≤ LAST))
  tail-tells_at_least_seen words views log s at = ((s.seen me v at).tail_seen, s.ordered.within_log)

  pub exposed-tells_at_least_seen : Tells key me Exposed v (λ n. (v.seen.exposed ≤ n) × (n ≤ LAST) × IsExposedToFlusher v n)
  exposed-tells_at_least_seen words views log s at = let below = tiles-le _ _ _ log.ahead s.contiguous.to_tail in (
    (s.seen me v at).exposed_seen,
    omega (arith, below, s.ordered.within_log),
    λ f. let sends = s.sends me v at f in let same = s.constants me v at (ap is_spent f) in
        let start : v.constants.start ≡ key.start = ap (λ (c : Constants). c.start) same in
        let ring : v.constants.ring ≡ key.ring = ap (λ (c : Constants). c.ring) same in record {
          read = omega (arith, start, sends.sent_to, sends.read_to, sends.loaded_seen);
          room = omega (arith, start, ring, sends.sent_to, below, s.ordered.within_ring);
        },
  )

  pub durable-tells_at_least_seen : Tells key me Durable v (λ n. (v.seen.durable ≤ n) × (n ≤ LAST) × IsDurableToFlusher v n)
  durable-tells_at_least_seen words views log s at = (
    (s.seen me v at).durable_seen,
    omega (arith, tiles-le _ _ _ log.ahead s.contiguous.to_tail, tiles-le _ _ _ log.exposed s.contiguous.to_exposed, s.ordered.within_log),
    λ f. let start : v.constants.start ≡ key.start = ap (λ (c : Constants). c.start) (s.constants me v at (ap is_spent f)) in
        sym (s.sends me v at f).sent_to ∙ ap (λ n. n + length v.sending.sent) (sym start),
  )
