-- The flusher's seat reads the next unit from the ring.
use Rattle.std.proofs.Common.{◌≡◌, ℕ, ◌==◌, ◌+◌, ◌%◌, ◌<◌, cond, List, [], ◌∷◌, ◌++◌, length, set, sym, refl, ap, ◌∙◌, subst, arith, length-append, eqb-true, Bool, true, false}
use Rattle.std.specs.List.{AllByRecursion}
use mathlib.Core.Option.{some}
use lib.ListN.{get_elem?}
use Rattle.lsn_space.proofs.TilingLemmas.{all-both}
use Rattle.log_rule.specs.declared.start.Start.{Start}
use Rattle.log_rule.specs.declared.view.Constants.{Constants}
use Rattle.log_rule.specs.declared.view.View.{View}
use Rattle.log_rule.specs.Events.{IsStep, Leads, none}
use Rattle.table_layout.specs.Layout.{Ring}
use Rattle.log_rule.specs.Log.{Part, Log, AgreesFrom, StandsInRing, IsFull, IsFullIfReleased, IsReleasedBelow}
use Rattle.log_rule.specs.May.{MayRead}
use Rattle.log_rule.specs.Sends.{AreEntries, ReadsWholeEntries}
use Rattle.log_rule.specs.Sound.{StoresStop, HasReadStop, SendsInsertedUnits, IsSound}
use Rattle.log_rule.specs.Roles.{is_spent}
use Rattle.log_rule.specs.Views.{counted, has_read, sent_to}
use Rattle.log_rule.specs.Words.{Words, put}
use Rattle.log_rule.proofs.AgreedUnits.{agrees-push, between_boundaries-are_entries}
use Rattle.log_rule.proofs.Lifting.{Tells}
use Rattle.log_rule.proofs.Loads.{change_sending-leads, durable-boundary, ranges_of-part_boundary}
use Rattle.log_rule.proofs.Members.{one_step_more-keeps_seen}
use Rattle.log_rule.proofs.ViewChanges.{each_view-set}

-- what stands at a place, put there again, changes nothing
pub put-same_value : (f : ℕ → ℕ) (at n k : ℕ) → f at ≡ n → put f at n k ≡ f k
put-same_value f at n k is = by_test (k == at) refl
  where
    by_test : (b : Bool) → (k == at) ≡ b → cond b n (f k) ≡ f k
    by_test true same = sym is ∙ ap f (sym (eqb-true k at same))
    by_test false differ = refl

module _ (key : Start) (words : Words) (views : List View) (me : ℕ) (v : View) (log : Log) (s : IsSound key words views log)
    (at : get_elem? views me ≡ some v) (lsn : ℕ) (may : MayRead lsn v) where
  abbrev unit : ℕ
  unit = words.ring (lsn % key.ring)

  abbrev read : List ℕ
  read = v.sending.read ++ unit ∷ []

  sends : SendsInsertedUnits key.start words.exposed words.durable log v.sending.exposed v.sending.sent v.sending.read
  sends = s.sends me v at may.flusher

  start-is : v.constants.start ≡ key.start
  start-is = ap (λ (c : Constants). c.start) (s.constants me v at (ap is_spent may.flusher))

  sent-is : sent_to v ≡ words.durable
  sent-is = omega (arith, start-is, sends.sent_to)

  next : lsn ≡ words.durable + length v.sending.read
  next = omega (arith, may.next, sent-is)

  pub has_read-sends_inserted_units : SendsInsertedUnits key.start words.exposed words.durable log v.sending.exposed v.sending.sent read
  has_read-sends_inserted_units = record {
    sent_to = sends.sent_to;
    read_to = omega (arith, length-append v.sending.read (unit ∷ []), next, may.below);
    loaded_seen = sends.loaded_seen;
    boundary = sends.boundary;
    sent_agrees = sends.sent_agrees;
    read_agrees = all-both (AgreesFrom words.durable v.sending.read) (StandsInRing key.ring words.durable words.ring)
        (AgreesFrom words.durable read) log.parts
        (λ p old stands. agrees-push words.durable v.sending.read unit p old
        (λ i lt here. ap (λ x. words.ring (x % key.ring)) (next ∙ sym here) ∙ stands i lt (omega (arith, here)))) sends.read_agrees s.filled.stands;
  }

  full : AllByRecursion (λ (p : Part). p.entry.start < v.sending.exposed → IsFull p.entry) log.parts
  full = all-both IsFullIfReleased (IsReleasedBelow words.exposed) (λ (p : Part). p.entry.start < v.sending.exposed → IsFull p.entry) log.parts
      (λ p is_full below low. is_full (below (omega (arith, low, sends.loaded_seen)))) s.below.full s.below.below

  pub has_read-whole_entries : ReadsWholeEntries (has_read unit v)
  has_read-whole_entries all = subst (λ n. AreEntries n v.sending.exposed read) (sym sent-is)
      (between_boundaries-are_entries key.start words.tail words.durable v.sending.exposed log.parts read s.contiguous.parts
      (ranges_of-part_boundary _ _ _ _ _ log s.contiguous words.durable (durable-boundary _ _ _ _ _ log s.contiguous))
      (ranges_of-part_boundary _ _ _ _ _ log s.contiguous v.sending.exposed sends.boundary) (omega (arith, all, sent-is)) full s.filled.spelled has_read-sends_inserted_units.read_agrees)

  pub ring_read-leads : Leads key words words views (set views me (has_read unit v)) log none
  ring_read-leads = let old = s.seen me v at in
      change_sending-leads key words words.stop views me v log (counted v.seen) (record v.sending { read = read }) s at record {
        tail_seen = old.tail_seen;
        exposed_seen = old.exposed_seen;
        durable_seen = old.durable_seen;
        boundaries = old.boundaries;
      } (λ _. has_read-sends_inserted_units) (each_view-set (λ _ z. StoresStop words.stop z) views me (has_read unit v) s.stops (s.stops me v at))
      (each_view-set (λ _ z. HasReadStop words.stop z) views me (has_read unit v) s.read_stop (s.read_stop me v at))
      (λ _ _ _ h. h) (s.looked me v at) (one_step_more-keeps_seen log.groups v.seen _ refl refl refl refl refl refl refl)

module _ (key : Start) (me : ℕ) (v : View) (lsn ring : ℕ) (same : key.ring ≡ ring) (may : MayRead lsn v) where
  pub read-step : (n : ℕ) → IsStep key me (Ring (lsn % ring)) n n v (has_read n v) none
  read-step n = record {
    leads = λ words views log s at is.
        let found : words.ring (lsn % key.ring) ≡ n = ap (λ r. words.ring (lsn % r)) same ∙ is in
        subst (λ (f : ℕ → ℕ). Leads key words (record words { ring = f }) views (set views me (has_read n v)) log none)
        (λ i k. sym (put-same_value words.ring (lsn % ring) n k is) i)
        (subst (λ x. Leads key words words views (set views me (has_read x v)) log none) found (ring_read-leads key words views me v log s at lsn may));
  }

  pub read-tells_whole_entries : Tells key me (Ring (lsn % ring)) v (λ n. ReadsWholeEntries (has_read n v))
  read-tells_whole_entries words views log s at =
      subst (λ r. ReadsWholeEntries (has_read (words.ring (lsn % r)) v)) same (has_read-whole_entries key words views me v log s at lsn may)
