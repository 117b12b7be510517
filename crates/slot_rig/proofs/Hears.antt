-- What a member sees and hears of its group, and what it is then.
use Rattle.std.proofs.Common.{◌≡◌, ◌∙◌, ℕ, ◌+◌, ◌/◌, ◌^◌, ◌<◌, ◌≤◌, cond, Bool, false, true, length, take, get_or, ap, sym, refl, arith, eq-eqb, length-take-le}
use Rattle.std.specs.Prelude.{nat_eq}
use Rattle.std.proofs.lemmas.Bool.{le-ltb}
use Rattle.std.proofs.lemmas.List.{take_more}
use Rattle.log_record.specs.Spelling.{spelling}
use Rattle.slot_word.specs.declared.phase.Phase.TheVariants as kind
use Rattle.slot_word.specs.declared.slot_word.SlotWord.{SlotWord}
use Rattle.slot_word.specs.SlotWord.{number_of, word_of, total_in}
use Rattle.slot_word.proofs.SlotWordLemmas.{total_back}
use Rattle.log_rule.specs.declared.group_view.MemberStep.{MemberStep}
use Rattle.log_rule.specs.declared.group_view.MemberStep.TheVariants.{Waits, Hears, Fills}
use Rattle.log_table.specs.declared.table.LogTable.{LogTable}
use Rattle.log_table.specs.declared.table.Seat.{Seat}
use Rattle.log_rule.specs.declared.view.Call.TheVariants.{Joined}
use Rattle.log_table.specs.Seats.{Becomes, view_of}
use Rattle.log_rule.specs.SlotViews.{tells_refusal, step_seeing, call_seeing, saw_slot}
use Rattle.log_rule.specs.Views.{call_with_unit, filled}
use Rattle.log_rule.specs.May.{MayFillPiece, MayLoadBase}
use Rattle.slot_rig.proofs.Steps.{member-step}
use Rattle.slot_rig.specs.Shares.{IsMember}
use Rattle.slot_rig.specs.declared.share.Share.{Share}

-- a word of at least 2 ^ 63 tells a member that waits whether its group was refused, and its total
seen-high : (word : ℕ) → 2 ^ 63 ≤ word → step_seeing word Waits ≡ Hears (tells_refusal word) (total_in word)
seen-high word high = ap (λ b. cond b Waits (Hears (tells_refusal word) (total_in word))) (le-ltb word (2 ^ 63) high)

published-high : (word : SlotWord) → word.phase ≡ kind.Published → (2 ^ 63 ≤ word_of word) × (word_of word / 2 ^ 62 ≡ 2)
published-high word phase =
    let number : number_of word.phase ≡ 2 = ap number_of phase in let total = word.total_fits in let remaining = word.remaining_fits in
    (omega (arith, number), omega (arith, number))

refused-high : (word : SlotWord) → word.phase ≡ kind.Refused → (2 ^ 63 ≤ word_of word) × (word_of word / 2 ^ 62 ≡ 3)
refused-high word phase =
    let number : number_of word.phase ≡ 3 = ap number_of phase in let total = word.total_fits in let remaining = word.remaining_fits in
    (omega (arith, number), omega (arith, number))

seen-published : (word : SlotWord) → word.phase ≡ kind.Published → step_seeing (word_of word) Waits ≡ Hears false word.total
seen-published word phase = let high = published-high word phase in
    seen-high (word_of word) high.0
    ∙ (λ i. Hears (nat_eq (high.1 i) 3) (total_back word.phase word.total word.remaining word.total_fits word.remaining_fits i))

seen-refused : (word : SlotWord) → word.phase ≡ kind.Refused → step_seeing (word_of word) Waits ≡ Hears true word.total
seen-refused word phase = let high = refused-high word phase in
    seen-high (word_of word) high.0
    ∙ (λ i. Hears (nat_eq (high.1 i) 3) (total_back word.phase word.total word.remaining word.total_fits word.remaining_fits i))

module _ (table : LogTable) (share : Share) (old new : Seat) where
  seen : (word : ℕ) (step : MemberStep) → step_seeing word Waits ≡ step → IsMember table share Waits old
      → Becomes old new (saw_slot share.slot word (view_of old)) → IsMember table share step new
  seen word step is member becomes =
      member-step table old new (saw_slot share.slot word (view_of old)) becomes record { constants = refl; standing = refl; held = refl; half = refl } share Waits step refl member
      (ap (call_seeing share.slot word) member.call
      ∙ (ap (λ b. Joined share.slot member.piece (cond b (step_seeing word Waits) Waits)) (eq-eqb share.slot share.slot refl)
      ∙ ap (Joined share.slot member.piece) is))

  pub saw_published-hears : (word : SlotWord) → word.phase ≡ kind.Published → IsMember table share Waits old
      → Becomes old new (saw_slot share.slot (word_of word) (view_of old)) → IsMember table share (Hears false word.total) new
  saw_published-hears word phase = seen (word_of word) (Hears false word.total) (seen-published word phase)

  pub saw_refused-hears : (word : SlotWord) → word.phase ≡ kind.Refused → IsMember table share Waits old
      → Becomes old new (saw_slot share.slot (word_of word) (view_of old)) → IsMember table share (Hears true word.total) new
  saw_refused-hears word phase = seen (word_of word) (Hears true word.total) (seen-refused word phase)

module _ (table : LogTable) (share : Share) (old new : Seat) (total : ℕ) where
  pub hears-may_load_base : (refused : Bool) → IsMember table share (Hears refused total) old → MayLoadBase share.slot (view_of old)
  hears-may_load_base refused member = record { piece = member.piece; refused = refused; total = total; hears = member.call }

module _ (table : LogTable) (share : Share) (base i : ℕ) (old new : Seat) (member : IsMember table share (Fills base (take i share.units)) old)
    (within : i < length share.units)
  where
    len : length (take i share.units) ≡ i
    len = length-take-le i share.units (omega (arith, within))

    abbrev unit : ℕ
    unit = get_or share.units i 0

    pub fills-may_fill_piece : (at : ℕ) → at ≡ base + share.offset + i → MayFillPiece table.slots at unit (view_of old)
    fills-may_fill_piece at at-is = record {
      slot = share.slot;
      slot_below = member.slot;
      piece = member.piece;
      base = base;
      units = take i share.units;
      filling = member.call;
      next = omega (arith, at-is, len, member.own_piece.offset_is);
      unfilled = omega (arith, len, within, member.own_piece.size_is);
      unit_is = ap (λ units. get_or units i 0) member.own_piece.spelled ∙ ap (λ n. get_or (spelling member.piece.rec) n 0) (sym len);
    }

    pub filled-fills_more : Becomes old new (filled unit (view_of old)) → IsMember table share (Fills base (take (i + 1) share.units)) new
    filled-fills_more becomes =
        member-step table old new (filled unit (view_of old)) becomes record { constants = refl; standing = refl; held = refl; half = refl } share (Fills base (take i share.units))
        (Fills base (take (i + 1) share.units)) refl member
        (ap (call_with_unit unit) member.call ∙ ap (λ units. Joined share.slot member.piece (Fills base units)) (sym (take_more share.units i 0 within)))
