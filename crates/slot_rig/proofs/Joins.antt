-- A worker that took a job with a note may join the group at its slot for it, and what it is then.
use Rattle.std.proofs.Common.{◌≡◌, ◌∙◌, ℕ, ◌+◌, ◌<◌, ◌≤◌, ◌/◌, ◌%◌, length, ap, sym, refl, subst}
use Rattle.log_record.specs.Spelling.{spelling}
use Rattle.slot_word.specs.declared.phase.Phase.TheVariants.{Gathering}
use Rattle.slot_word.specs.declared.slot_word.SlotWord.{SlotWord}
use Rattle.lock_core.specs.declared.job.Job.{Job}
use Rattle.log_table.specs.declared.table.LogTable.{LogTable}
use Rattle.log_table.specs.declared.table.Seat.{Seat}
use Rattle.log_rule.specs.declared.view.Call.TheVariants.{Joined}
use Rattle.log_rule.specs.declared.view.View.{View}
use Rattle.log_rule.specs.AccountViews.{took_job}
use Rattle.log_rule.specs.Books.{next_of}
use Rattle.log_rule.specs.May.{IsAtRest, MayJoinSlot}
use Rattle.log_table.specs.Seats.{Becomes, view_of}
use Rattle.log_rule.specs.SlotViews.{own_slot_of, piece_joining, step_joining, joined_slot}
use Rattle.test_rig.proofs.Placing.{MayPlace-noted, units-noted}
use Rattle.test_rig.specs.NotedJobs.{AreNoteUnits, MayInsert}
use Rattle.slot_rig.proofs.Steps.{worker-step}
use Rattle.slot_rig.specs.Shares.{IsJoiner, IsWorker, IsMember}
use Rattle.slot_rig.specs.declared.share.Share.{Share}

module _ (table : LogTable) (share : Share) (number : ℕ) (job : Job) (seat after : Seat) (word : ℕ)
    (joiner : IsJoiner table share.worker number seat) (taken : Becomes seat after (took_job number job word (view_of seat)))
    (noted : AreNoteUnits number job share.units)
  where
    abbrev worker : MayInsert table number seat
    worker = joiner.inserts

    is : view_of after ≡ took_job number job word (view_of seat)
    is = ap (λ me. me.0) taken.me

    spelled : share.units ≡ spelling (next_of (view_of after).books)
    spelled = units-noted table number job share.units seat after word worker taken noted

    size : length (spelling (next_of (view_of after).books)) ≡ length share.units
    size = ap length (sym spelled)

    pub took_job-may_join_slot : (from to : SlotWord) → share.slot ≡ share.worker % table.slots → from.phase ≡ Gathering → from.total ≡ share.offset
        → to.phase ≡ from.phase → to.total ≡ from.total + length share.units → to.remaining ≡ from.remaining
        → share.offset + length share.units ≤ table.ring / 4 → MayJoinSlot share.slot from to (view_of after)
    took_job-may_join_slot from to own_slot gathers total phase grown remaining room = record {
      rests = subst IsAtRest (sym is) record { active = worker.ready.rests.active; idle = worker.ready.rests.idle; whole = worker.ready.rests.whole };
      enters = (MayPlace-noted table number job share.units seat after word worker taken noted).enters;
      own_slot = own_slot ∙ (sym (λ i. joiner.numbered i % worker.own.slots i) ∙ sym (ap own_slot_of is));
      gathers = gathers;
      phase = phase;
      total = grown ∙ ap (λ n. from.total + n) (sym size);
      remaining = remaining;
      room = subst (λ n. from.total + length (spelling (next_of (view_of after).books)) ≤ n / 4) (sym ring) (subst (λ n. n ≤ table.ring / 4) (sym whole) room);
    }
      where
        ring : (view_of after).constants.ring ≡ table.ring
        ring = ap (λ (v : View). v.constants.ring) is ∙ worker.own.ring

        whole : from.total + length (spelling (next_of (view_of after).books)) ≡ share.offset + length share.units
        whole = λ i. total i + size i

    worker-took : IsWorker table share.worker after
    worker-took =
        worker-step table seat after (took_job number job word (view_of seat)) taken record { constants = refl; standing = refl; held = refl; half = refl } share.worker
        record {
          own = worker.own;
          active = worker.ready.rests.active;
          numbered = joiner.numbered;
          none_held = worker.free.none_held;
          whole = worker.ready.rests.whole;
        }

    pub joined_slot-member : (joined : Seat) (total found : ℕ) → total ≡ share.offset → share.slot < table.slots
        → Becomes after joined (joined_slot share.slot total found (view_of after))
        → IsMember table share (step_joining share.offset) joined
    joined_slot-member joined total found offset slot becomes = record {
      worker = worker-step table after joined (joined_slot share.slot total found (view_of after)) becomes
          record { constants = refl; standing = refl; held = refl; half = refl } share.worker worker-took;
      slot = slot;
      piece = piece_joining share.offset (view_of after);
      own_piece = record { offset_is = refl; size_is = size; spelled = spelled };
      call = ap (λ me. me.0.call) becomes.me ∙ ap (λ n. Joined share.slot (piece_joining n (view_of after)) (step_joining n)) offset;
      no_entry = ap (λ me. me.0.entries) becomes.me ∙ (ap (λ (v : View). v.entries) is ∙ joiner.no_entry);
    }
