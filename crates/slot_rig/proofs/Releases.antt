-- What a member may do that has filled its piece, or heard a refusal, and what it is then.
use Rattle.std.proofs.Common.{◌≡◌, ◌≢◌, ◌==◌, ◌∙◌, ◌⊎◌, inl, inr, ℕ, ◌+◌, ◌<◌, cond, true, false, ◌++◌, length, ap, sym, refl, eq-eqb, lt-ltb}
use Rattle.std.proofs.lemmas.Bool.Decides.{eqb_tells}
use Rattle.slot_word.specs.declared.slot_word.SlotWord.{SlotWord}
use Rattle.slot_word.specs.SlotWord.{word_of, total_in, remaining_in}
use Rattle.slot_word.proofs.SlotWordLemmas.{total_back, remaining_back}
use Rattle.log_rule.specs.declared.group_view.After.TheVariants.{Reopens}
use Rattle.log_rule.specs.declared.group_view.MemberStep.{MemberStep}
use Rattle.log_rule.specs.declared.group_view.MemberStep.TheVariants.{Fills, Leaves}
use Rattle.log_table.specs.declared.table.LogTable.{LogTable}
use Rattle.log_table.specs.declared.table.Seat.{Seat}
use Rattle.log_rule.specs.declared.view.Call.{Call}
use Rattle.log_rule.specs.declared.view.Call.TheVariants.{Idle, Joined, Emptying, Marked, Holding, Raising, Reopening}
use Rattle.log_rule.specs.MarkViews.{saw_mark, call_with_mark, after_raise, call_with_exposed}
use Rattle.log_rule.specs.May.{MayLookMark, MayRaise, MayReleaseFilled, MayReleaseRefused, MayMarkGroup}
use Rattle.log_table.specs.Seats.{Becomes, view_of}
use Rattle.log_rule.specs.SlotViews.{call_emptying, call_released, piece_in, released_piece}
use Rattle.log_rule.specs.Views.{after_look, saw_exposed}
use Rattle.slot_rig.proofs.Steps.{worker-step, released-step}
use Rattle.slot_rig.specs.Shares.{IsMember, HasReleased, HasLeft}
use Rattle.slot_rig.specs.declared.share.Share.{Share}

-- the call after a release of so many units, by whether no more remained
call-last : (slot size : ℕ) (word : SlotWord) (step : MemberStep) (call : Call) → word.remaining ≡ size → call_emptying slot word.total step ≡ call
    → cond (remaining_in (word_of word) == size) (call_emptying slot (total_in (word_of word)) step) Idle ≡ call
call-last slot size word step call last is =
    let remains = remaining_back word.phase word.total word.remaining word.total_fits word.remaining_fits in
    ap (λ b. cond b (call_emptying slot (total_in (word_of word)) step) Idle) (eq-eqb _ _ (remains ∙ last))
    ∙ (ap (λ n. call_emptying slot n step) (total_back word.phase word.total word.remaining word.total_fits word.remaining_fits) ∙ is)

call-not_last : (slot size : ℕ) (word : SlotWord) (step : MemberStep) → word.remaining ≢ size
    → cond (remaining_in (word_of word) == size) (call_emptying slot (total_in (word_of word)) step) Idle ≡ Idle
call-not_last slot size word step others = by_test (eqb_tells (remaining_in (word_of word)) size)
  where
    by_test : (((remaining_in (word_of word) == size) ≡ true) × (remaining_in (word_of word) ≡ size))
        ⊎ (((remaining_in (word_of word) == size) ≡ false) × (remaining_in (word_of word) ≢ size))
        → cond (remaining_in (word_of word) == size) (call_emptying slot (total_in (word_of word)) step) Idle ≡ Idle
    by_test (inl same) = absurd (others (sym (remaining_back word.phase word.total word.remaining word.total_fits word.remaining_fits) ∙ same.1))
    by_test (inr other) = ap (λ b. cond b (call_emptying slot (total_in (word_of word)) step) Idle) other.0

module _ (table : LogTable) (share : Share) (base : ℕ) (old : Seat) (member : IsMember table share (Fills base share.units) old) where
  pub fills_all-may_release_filled : MayReleaseFilled share.slot (length share.units) (view_of old)
  fills_all-may_release_filled = record {
    piece = member.piece;
    base = base;
    units = share.units;
    fills = member.call;
    full = sym member.own_piece.size_is;
    size = sym member.own_piece.size_is;
  }

  module _ (new : Seat) (word : SlotWord) (becomes : Becomes old new (released_piece (word_of word) (view_of old))) where
    released : (call : Call) → call_released (word_of word) (Joined share.slot member.piece (Fills base share.units)) ≡ call
        → HasReleased table share base call new
    released call is = record {
      worker = worker-step table old new (released_piece (word_of word) (view_of old)) becomes record { constants = refl; standing = refl; held = refl; half = refl } share.worker
          member.worker;
      slot = member.slot;
      piece = member.piece;
      own_piece = member.own_piece;
      call_is = ap (λ me. me.0.call) becomes.me ∙ (ap (call_released (word_of word)) member.call ∙ is);
      entry = ap (λ me. me.0.entries) becomes.me ∙ (λ i. member.no_entry i ++ piece_in (member.call i));
    }

    pub released_last-call_emptying : word.remaining ≡ length share.units → HasReleased table share base (Emptying share.slot base word.total) new
    released_last-call_emptying last = released (Emptying share.slot base word.total)
        (call-last share.slot member.piece.size word (Fills base share.units) (Emptying share.slot base word.total) (last ∙ sym member.own_piece.size_is) refl)

    pub released_not_last-call_idle : word.remaining ≢ length share.units → HasReleased table share base Idle new
    released_not_last-call_idle others = released Idle
        (call-not_last share.slot member.piece.size word (Fills base share.units) (λ same. others (same ∙ member.own_piece.size_is)))

module _ (table : LogTable) (share : Share) (tail durable : ℕ) (old : Seat) (member : IsMember table share (Leaves tail durable) old) where
  pub leaves-may_release_refused : MayReleaseRefused share.slot (length share.units) (view_of old)
  leaves-may_release_refused = record { piece = member.piece; tail = tail; durable = durable; leaves = member.call; size = sym member.own_piece.size_is }

  module _ (new : Seat) (word : SlotWord) (becomes : Becomes old new (released_piece (word_of word) (view_of old))) where
    left : (call : Call) → call_released (word_of word) (Joined share.slot member.piece (Leaves tail durable)) ≡ call → HasLeft table share call new
    left call is = record {
      worker = worker-step table old new (released_piece (word_of word) (view_of old)) becomes record { constants = refl; standing = refl; held = refl; half = refl } share.worker
          member.worker;
      slot = member.slot;
      call_is = ap (λ me. me.0.call) becomes.me ∙ (ap (call_released (word_of word)) member.call ∙ is);
      no_entry = ap (λ me. me.0.entries) becomes.me ∙ (λ i. member.no_entry i ++ piece_in (member.call i));
    }

    pub left_last-call_reopening : word.remaining ≡ length share.units → HasLeft table share (Reopening share.slot) new
    left_last-call_reopening last = left (Reopening share.slot)
        (call-last share.slot member.piece.size word (Leaves tail durable) (Reopening share.slot) (last ∙ sym member.own_piece.size_is) refl)

module _ (table : LogTable) (share : Share) (base : ℕ) (old new : Seat) where
  pub emptying-may_mark_group : (total end : ℕ) → end ≡ base + total → HasReleased table share base (Emptying share.slot base total) old → MayMarkGroup base end (view_of old)
  emptying-may_mark_group total end ends released = record { slot = share.slot; total = total; emptying = released.call_is; ends = ends }

  pub saw_exposed-call_holding : (at : ℕ) → HasReleased table share base (Marked (Reopens share.slot)) old → Becomes old new (saw_exposed at (view_of old))
      → HasReleased table share base (Holding at (Reopens share.slot)) new
  saw_exposed-call_holding at released becomes =
      released-step table old new (saw_exposed at (view_of old)) becomes record { constants = refl; standing = refl; held = refl; half = refl } share base
      (Marked (Reopens share.slot)) (Holding at (Reopens share.slot)) refl released (ap (after_look at) released.call_is)

  pub holding-may_look_mark : (at : ℕ) → HasReleased table share base (Holding at (Reopens share.slot)) old → MayLookMark at (view_of old)
  holding-may_look_mark at released = record { after = Reopens share.slot; holding = released.call_is }

  module _ (at mark : ℕ) (released : HasReleased table share base (Holding at (Reopens share.slot)) old) (becomes : Becomes old new (saw_mark mark (view_of old)))
    where
      saw : (call : Call) → call_with_mark mark (Holding at (Reopens share.slot)) ≡ call → HasReleased table share base call new
      saw call is =
          released-step table old new (saw_mark mark (view_of old)) becomes record { constants = refl; standing = refl; held = refl; half = refl } share base
          (Holding at (Reopens share.slot)) call refl released (ap (call_with_mark mark) released.call_is ∙ is)

      pub saw_mark_above-call_raising : at < mark → HasReleased table share base (Raising at mark (Reopens share.slot)) new
      saw_mark_above-call_raising above = saw (Raising at mark (Reopens share.slot))
          (ap (λ b. cond b (Raising at mark (Reopens share.slot)) (Reopening share.slot)) (lt-ltb at mark above))

  pub raising-may_raise : (from to : ℕ) → HasReleased table share base (Raising from to (Reopens share.slot)) old → MayRaise from to (view_of old)
  raising-may_raise from to released = record { after = Reopens share.slot; raising = released.call_is }

  pub after_raise-call_holding : (from to : ℕ) → HasReleased table share base (Raising from to (Reopens share.slot)) old → Becomes old new (after_raise to (view_of old))
      → HasReleased table share base (Holding to (Reopens share.slot)) new
  after_raise-call_holding from to released becomes =
      released-step table old new (after_raise to (view_of old)) becomes record { constants = refl; standing = refl; held = refl; half = refl } share base
      (Raising from to (Reopens share.slot)) (Holding to (Reopens share.slot)) refl released (ap (call_with_exposed to) released.call_is)
