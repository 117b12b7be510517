-- The store of a unit into the ring: the machine's Fill. A member fills its piece of the range of its group.
use Rattle.std.proofs.Common.{◌≡◌, ⊎_elim, ℕ, ◌+◌, ◌%◌, ◌<◌, List, [], ◌∷◌, ◌++◌, length, map, set, Some, sym, refl, ap, ◌∙◌, subst, arith, length-append, slice_index}
use mathlib.Core.Option.{some}
use lib.ListN.{get_elem?}
use Rattle.log_record.specs.Spelling.{spelling}
use Rattle.ring_core.specs.RingLog.{filled_at}
use Rattle.slot_core.specs.State.{Task, SlotState, Group as MachineGroup, joined, task_of, with_task, group_at}
use Rattle.slot_core.specs.Machine.{MayFill as MayFillNow, told_outcome, granted_base, log_filled, after_fill}
use Rattle.slot_parts.specs.declared.task.MemberStage.TheVariants as stage
use Rattle.log_rule.specs.declared.group_view.MemberStep.TheVariants.{Fills}
use Rattle.log_rule.specs.declared.start.Start.{Start}
use Rattle.log_rule.specs.declared.view.Call.{Call}
use Rattle.log_rule.specs.declared.view.Call.TheVariants.{Joined}
use Rattle.log_rule.specs.declared.view.Entry.{Entry}
use Rattle.log_rule.specs.declared.view.View.{View}
use Rattle.log_rule.specs.Events.{reservation_of, task_in, hands_of, slots_of, Leads, IsStep, fills}
use Rattle.log_rule.specs.Groups.{Granted, GroupPhase, Piece, Group}
use Rattle.log_rule.specs.GroupViews.{placed_piece}
use Rattle.table_layout.specs.Layout.{Ring}
use Rattle.log_rule.specs.Log.{Log, ranges_of}
use Rattle.log_rule.specs.May.{MayFill, MayFillRun, MayFillPiece}
use Rattle.log_rule.specs.Slots.{IsToldOf, KnowsGroup}
use Rattle.log_rule.specs.Sound.{HasWorkingOwner, IsSound}
use Rattle.log_rule.specs.Views.{call_with_unit, counted, filled}
use Rattle.log_rule.specs.Words.{Words, put}
use Rattle.log_rule.proofs.Filling.{FillsEntry, after, fill-sound, reservations-filled_at, run-step}
use Rattle.log_rule.proofs.Groups.{group_at-groups_from}
use Rattle.log_rule.proofs.MachineShown.{hands_of-set, task_of-hands_of}
use Rattle.log_rule.proofs.ToldMembers.{piece-within_total, group_range-last_ahead}
use Rattle.log_rule.proofs.ViewChanges.{each_seat-at}

-- a member has the piece's entry with one more unit filled, and all else as before
piece-fills : (groups : ℕ → Group) (seat slot : ℕ) (piece : Piece) (base : ℕ) (units : List ℕ) (unit : ℕ) (old : Call)
    → old ≡ Joined slot piece (Fills base units)
    → FillsEntry groups seat (placed_piece base units piece) unit old (Joined slot piece (Fills base (units ++ unit ∷ [])))
piece-fills groups seat slot piece base units unit old is =
    subst (λ call. FillsEntry groups seat (placed_piece base units piece) unit call (Joined slot piece (Fills base (units ++ unit ∷ []))))
    (sym is) record {
      entries = refl;
      filled = refl;
      claims = refl;
      books = λ _. refl;
      pieces = λ _. refl;
      phases = λ _. refl;
      knows = λ known. known;
      busy = λ gone. cc;
      carries = λ _ carries. carries;
      ends = λ _ _ _. tt;
      loads = λ _. tt;
      awaits = λ _. tt;
    }

module _ (key : Start) (words : Words) (views : List View) (me : ℕ) (v : View) (slot : ℕ) (piece : Piece) (base : ℕ) (units : List ℕ) (unit : ℕ)
    (log : Log) (s : IsSound key words views log) (at : get_elem? views me ≡ some v) (filling : v.call ≡ Joined slot piece (Fills base units))
    (unfilled : length units < piece.size) (unit-is : unit ≡ slice_index (spelling piece.rec) (length units)) (below : slot < key.slots) where
  abbrev entry : Entry
  entry = placed_piece base units piece

  abbrev call : Call
  call = Joined slot piece (Fills base (units ++ unit ∷ []))

  abbrev new : View
  new = record v { seen = counted v.seen; call = call }

  abbrev fill : FillsEntry log.groups me entry unit v.call call
  fill = piece-fills log.groups me slot piece base units unit v.call filling

  abbrev old_state : SlotState
  old_state = slots_of key words views log

  -- the group has this base
  known : IsToldOf (Granted base) (log.groups slot).phase
  known = subst (KnowsGroup log.groups) filling (each_seat-at (HasWorkingOwner log.groups log.parts log.ahead) views me v at s.owners).knows

  in-range : piece.offset < known.total
  in-range = let within = piece-within_total key words views me v slot piece (Fills base units) log s at filling known.total (Granted base)
      known.remaining known.told in omega (arith, within.0, within.1)

  shown : map (reservation_of (after key words views me v entry unit log s at call fill unfilled unit-is).parts) (ranges_of log)
      ≡ map (filled_at base) (map (reservation_of log.parts) (ranges_of log))
  shown = reservations-filled_at key words views me v entry unit log s at call fill unfilled unit-is
      (group_range-last_ahead key words views me v slot piece (Fills base units) log s at filling known.total base known.remaining known.told)
      (omega arith) (omega (arith, in-range))

  base-shown : granted_base (told_outcome (group_at slot old_state.groups).phase) ≡ Some base
  base-shown = ap (λ (x : MachineGroup). granted_base (told_outcome x.phase)) (group_at-groups_from 0 key.slots slot slot log.groups (omega arith) below)
      ∙ ap (λ (p : GroupPhase). granted_base (told_outcome p)) known.told

  task-is : task_of me (hands_of 0 views) ≡ joined slot piece.offset piece.size (stage.Fills (length units))
  task-is = task_of-hands_of 0 me me views v (omega arith) at ∙ ap task_in filling

  abbrev filling_on : ℕ → Task
  filling_on count = joined slot piece.offset piece.size (stage.Fills count)

  hands-are : hands_of 0 (set views me new) ≡ with_task me (filling_on (length units + 1)) (hands_of 0 views)
  hands-are = hands_of-set 0 me me views v new (omega arith) at
      ∙ ap (λ count. with_task me (filling_on count) (hands_of 0 views)) (length-append units (unit ∷ []))

  pub piece_fill-leads : Leads key words (record words { ring = put words.ring ((base + piece.offset + length units) % key.ring) unit }) views
      (set views me new) log (fills me)
  piece_fill-leads = record {
    after = after key words views me v entry unit log s at call fill unfilled unit-is;
    sound = fill-sound key words views me v entry unit log s at call fill unfilled unit-is;
    shows = (
      subst (MayFillNow old_state) (sym task-is) unfilled,
      (λ i. record old_state { log = record old_state.log { reservations = shown i }; hands = hands-are i })
          ∙ ((λ i. record old_state {
            log = log_filled old_state.log (sym base-shown i);
            hands = with_task me (filling_on (length units + 1)) old_state.hands;
          })
          ∙ ap (after_fill old_state me) (sym task-is)),
    );
  }

module _ (key : Start) (me : ℕ) (v : View) (at ring number unit : ℕ) (same : key.ring ≡ ring) (slotted : key.slots ≡ number) where
  piece-step : MayFillPiece number at unit v → (n : ℕ) → IsStep key me (Ring (at % ring)) n unit v (filled unit v) (fills me)
  piece-step may n = record {
    leads = λ words views log s there is.
        let index : (may.base + may.piece.offset + length may.units) % key.ring ≡ at % ring = (λ i. sym may.next i % same i) in
        let call : Joined may.slot may.piece (Fills may.base (may.units ++ unit ∷ [])) ≡ (filled unit v).call =
        ap (call_with_unit unit) (sym may.filling) in
        subst (λ (x : ℕ × Call). Leads key words (record words { ring = put words.ring x.0 unit }) views
        (set views me (record v { seen = counted v.seen; call = x.1 })) log (fills me)) (λ i. (index i, call i))
        (piece_fill-leads key words views me v may.slot may.piece may.base may.units unit log s there may.filling may.unfilled may.unit_is
        (subst (λ k. may.slot < k) (sym slotted) may.slot_below));
  }

  pub fill-step : MayFill number at unit v → (n : ℕ) → IsStep key me (Ring (at % ring)) n unit v (filled unit v) (fills me)
  fill-step may n = ⊎_elim (λ (run : MayFillRun at unit v). run-step key me v at ring unit same run n)
      (λ (of_piece : MayFillPiece number at unit v). piece-step of_piece n) may
