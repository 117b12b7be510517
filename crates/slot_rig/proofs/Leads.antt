-- What a leader may do next, and what it is then.
use Rattle.std.proofs.Common.{◌≡◌, ◌∙◌, inl, inr, ℕ, ◌+◌, ◌*◌, ◌^◌, ◌<◌, ◌≤◌, ap, sym, refl, subst, arith}
use Rattle.lsn_space.specs.declared.lsn.TheConstants.{LAST}
use Rattle.slot_word.specs.declared.phase.Phase.TheVariants as kind
use Rattle.slot_word.specs.declared.slot_word.SlotWord.{SlotWord}
use Rattle.slot_word.specs.SlotWord.{packed, word_of, total_in}
use Rattle.slot_word.proofs.SlotWordLemmas.{total_back}
use Rattle.log_rule.specs.declared.group_view.MemberStep.{MemberStep}
use Rattle.log_rule.specs.declared.group_view.MemberStep.TheVariants.{Closes, Waits, Places, Stores, Tells}
use Rattle.log_table.specs.declared.table.LogTable.{LogTable}
use Rattle.log_table.specs.declared.table.Seat.{Seat}
use Rattle.log_rule.specs.declared.view.Call.TheVariants.{Joined}
use Rattle.log_rule.specs.declared.view.View.{View}
use Rattle.log_rule.specs.Groups.{Granted}
use Rattle.log_rule.specs.May.{MayCloseSlot, MayStoreBase, MayStoreRefused, MayPublish, MayPlaceGroup}
use Rattle.log_table.specs.Seats.{Becomes, view_of}
use Rattle.log_rule.specs.SlotViews.{closed_slot, call_closed, stored_base, call_stored, published, call_published, reserved_group, call_reserved}
use Rattle.log_rule.specs.Views.{saw_tail, saw_durable}
use Rattle.slot_rig.proofs.Steps.{member-step}
use Rattle.slot_rig.specs.Shares.{IsMember, IsPlacing}
use Rattle.slot_rig.specs.declared.share.Share.{Share}

pub closes-may_close_slot : (table : LogTable) (share : Share) (seat : Seat) → IsMember table share Closes seat → MayCloseSlot share.slot (view_of seat)
closes-may_close_slot table share seat member = record { piece = member.piece; closes = member.call }

pub closed_slot-placing : (table : LogTable) (share : Share) (old new : Seat) (word : SlotWord) → IsMember table share Closes old
    → Becomes old new (closed_slot (word_of word) (view_of old)) → IsPlacing table share word.total new
closed_slot-placing table share old new word member becomes = record {
  closed = (view_of old).seen.steps + 1;
  member = member-step table old new (closed_slot (word_of word) (view_of old)) becomes record { constants = refl; standing = refl; held = refl; half = refl } share Closes
      (Places word.total ((view_of old).seen.steps + 1)) refl member
      (ap (call_closed (total_in (word_of word)) ((view_of old).seen.steps + 1)) member.call
      ∙ ap (λ n. Joined share.slot member.piece (Places n ((view_of old).seen.steps + 1)))
      (total_back word.phase word.total word.remaining word.total_fits word.remaining_fits));
  just_now = sym (ap (λ me. me.0.seen.steps) becomes.me);
  few = word.total_fits;
}

-- the leader loaded tail and durable since it closed its group
module _ (table : LogTable) (share : Share) (total tail durable : ℕ) (closed tailed loaded : Seat) (placing : IsPlacing table share total closed)
    (loads : Becomes closed tailed (saw_tail tail (view_of closed))) (looks : Becomes tailed loaded (saw_durable durable (view_of tailed)))
  where
    tailed-is : view_of tailed ≡ saw_tail tail (view_of closed)
    tailed-is = ap (λ me. me.0) loads.me

    is : view_of loaded ≡ saw_durable durable (saw_tail tail (view_of closed))
    is = ap (λ me. me.0) looks.me ∙ ap (saw_durable durable) tailed-is

    abbrev step : MemberStep
    step = Places total placing.closed

    member : IsMember table share step loaded
    member =
        let first = member-step table closed tailed (saw_tail tail (view_of closed)) loads record { constants = refl; standing = refl; held = refl; half = refl } share step step
        refl placing.member placing.member.call in
        member-step table tailed loaded (saw_durable durable (view_of tailed)) looks record { constants = refl; standing = refl; held = refl; half = refl } share step step refl
        first first.call

    tail_loaded : placing.closed < (view_of loaded).seen.tail_step
    tail_loaded = subst (λ (v : View). placing.closed < v.seen.tail_step) (sym is) (omega (arith, placing.just_now))

    durable_loaded : placing.closed < (view_of loaded).seen.durable_step
    durable_loaded = subst (λ (v : View). placing.closed < v.seen.durable_step) (sym is) (omega (arith, placing.just_now))

    tail-is : (view_of loaded).seen.tail ≡ tail
    tail-is = ap (λ (v : View). v.seen.tail) is

    durable-is : (view_of loaded).seen.durable ≡ durable
    durable-is = ap (λ (v : View). v.seen.durable) is

    ring-is : (view_of loaded).constants.ring ≡ table.ring
    ring-is = member.worker.own.ring

    pub room-may_place_group : (end : ℕ) → end ≡ tail + total → end ≤ LAST → end ≤ durable + table.ring → MayPlaceGroup tail end (view_of loaded)
    room-may_place_group end size within_log within_ring = record {
      slot = share.slot;
      piece = member.piece;
      total = total;
      closed = placing.closed;
      there = subst (λ n. share.slot < n) (sym member.worker.own.slots) member.slot;
      places = member.call;
      tail_loaded = tail_loaded;
      durable_loaded = durable_loaded;
      tail = tail-is;
      size = size;
      within_log = within_log;
      within_ring = subst (λ n. end ≤ n) (sym (λ i. durable-is i + ring-is i)) within_ring;
    }

    pub reserved_group-stores : (placed : Seat) (end : ℕ) → Becomes loaded placed (reserved_group tail end (view_of loaded))
        → IsMember table share (Stores total tail) placed
    reserved_group-stores placed end becomes =
        member-step table loaded placed (reserved_group tail end (view_of loaded)) becomes record { constants = refl; standing = refl; held = refl; half = refl } share step
        (Stores total tail) refl member (ap (call_reserved tail) member.call)

    pub no_room-may_store_refused : (word : ℕ) → durable + table.ring < tail + total → word ≡ tail * 2 ^ 32 + durable → MayStoreRefused share.slot word (view_of loaded)
    no_room-may_store_refused word no_room word_is = record {
      piece = member.piece;
      total = total;
      closed = placing.closed;
      places = member.call;
      tail_loaded = tail_loaded;
      durable_loaded = durable_loaded;
      no_room = inr (subst (λ n. n < (view_of loaded).seen.tail + total) (sym (λ i. durable-is i + ring-is i))
          (subst (λ n. durable + table.ring < n + total) (sym tail-is) no_room));
      word_is = word_is ∙ sym (λ i. tail-is i * 2 ^ 32 + durable-is i);
    }

-- the leader has reserved the range, which begins there
module _ (table : LogTable) (share : Share) (total base : ℕ) (old new : Seat) where
  pub stores-may_store_base : IsMember table share (Stores total base) old → MayStoreBase share.slot base (view_of old)
  stores-may_store_base member = inl record { piece = member.piece; total = total; stores = member.call }

  pub stored_granted-tells : IsMember table share (Stores total base) old → Becomes old new (stored_base (view_of old))
      → IsMember table share (Tells total (Granted base)) new
  stored_granted-tells member becomes =
      member-step table old new (stored_base (view_of old)) becomes record { constants = refl; standing = refl; held = refl; half = refl } share (Stores total base)
      (Tells total (Granted base)) refl member (ap (call_stored (view_of old).seen.tail (view_of old).seen.durable) member.call)

  pub tells_granted-may_publish : (word : SlotWord) → word.phase ≡ kind.Published → word.total ≡ total → word.remaining ≡ total
      → IsMember table share (Tells total (Granted base)) old → MayPublish share.slot word (view_of old)
  tells_granted-may_publish word phase total-is remaining member = record {
    piece = member.piece;
    total = total;
    outcome = Granted base;
    tells = member.call;
    word_is = λ i. packed (phase i) (total-is i) (remaining i);
  }

  pub published_granted-waits : IsMember table share (Tells total (Granted base)) old → Becomes old new (published (view_of old)) → IsMember table share Waits new
  published_granted-waits member becomes =
      member-step table old new (published (view_of old)) becomes record { constants = refl; standing = refl; held = refl; half = refl } share (Tells total (Granted base)) Waits
      refl member (ap call_published member.call)
