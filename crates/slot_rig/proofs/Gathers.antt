-- Two workers, the only ones, have left and were taken in.
use Rattle.std.proofs.Common.{◌≡◌, ◌∙◌, ℕ, ◌+◌, ◌≤◌, cond, List, [], ◌∷◌, ap, subst, arith}
use Rattle.std.proofs.lemmas.Bool.{le-ltb}
use Rattle.log_table.specs.declared.table.LogTable.{LogTable}
use Rattle.log_table.specs.declared.table.Seat.{Seat}
use Rattle.log_rule.specs.declared.view.Call.TheVariants.{Idle}
use Rattle.log_rule.specs.declared.view.Entry.{Entry}
use Rattle.log_rule.specs.CrewViews.{merged_entries}
use Rattle.log_rule.specs.GroupViews.{placed_piece}
use Rattle.log_rule.specs.May.{MayLeave}
use Rattle.log_table.specs.Seats.{view_of}
use Rattle.slot_rig.specs.Shares.{HasBoth, HasReleased, IsDone, IsWorker}
use Rattle.slot_rig.specs.declared.share.Share.{Share}

pub done-may_leave : (table : LogTable) (number : ℕ) (seat : Seat) → IsDone table number seat → MayLeave (view_of seat)
done-may_leave table number seat done = record { rests = record { active = done.worker.active; idle = done.idle; whole = done.worker.whole }; none_held = done.worker.none_held }

pub released-done : (table : LogTable) (share : Share) (base : ℕ) (seat : Seat) (number : ℕ) → share.worker ≡ number
    → HasReleased table share base Idle seat → IsDone table number seat
released-done table share base seat number is released =
    record { worker = subst (λ n. IsWorker table n seat) is released.worker; idle = released.call_is }

-- both have released their pieces of a range that begins there
module _ (table : LogTable) (ours theirs : Share) (base : ℕ) (one two : Seat) (a : HasReleased table ours base Idle one)
    (b : HasReleased table theirs base Idle two)
  where
    abbrev first : Entry
    first = placed_piece base ours.units a.piece

    abbrev second : Entry
    second = placed_piece base theirs.units b.piece

    in-order : (entries : List Entry) → ours.offset ≤ theirs.offset → entries ≡ []
        → merged_entries (merged_entries entries (first ∷ [])) (second ∷ []) ≡ first ∷ second ∷ []
    in-order entries behind none = ap (λ l. merged_entries (merged_entries l (first ∷ [])) (second ∷ [])) none
        ∙ ap (λ t. cond {A = List Entry} t (second ∷ first ∷ []) (first ∷ second ∷ []))
        (le-ltb (base + b.piece.offset) (base + a.piece.offset) (omega (arith, behind, a.own_piece.offset_is, b.own_piece.offset_is)))

    pub both_released-has_both : (old new : Seat) → ours.offset ≤ theirs.offset → (view_of old).entries ≡ []
        → (view_of new).entries ≡ merged_entries (merged_entries (view_of old).entries (view_of one).entries) (view_of two).entries → HasBoth ours theirs base new
    both_released-has_both old new behind none merged = record {
      first = a.piece;
      own_first = a.own_piece;
      second = b.piece;
      own_second = b.own_piece;
      entries = merged
          ∙ ((λ i. merged_entries (merged_entries (view_of old).entries (a.entry i)) (b.entry i)) ∙ in-order (view_of old).entries behind none);
    }
