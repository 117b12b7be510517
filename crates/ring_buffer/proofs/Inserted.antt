-- What a seat has once it has filled a range, and then marked it and exposed.
use Rattle.std.proofs.Common.{arith, ◌≡◌, ◌∙◌, ℕ, ◌≤◌, List, [], ◌∷◌, ◌++◌, length, ap, sym, refl, le_refl}
use Rattle.log_table.specs.declared.table.Seat.{Seat}
use Rattle.log_rule.specs.declared.group_view.After.TheVariants.{Nothing}
use Rattle.log_rule.specs.declared.view.Call.TheVariants.{Idle, Filling, Marked}
use Rattle.log_rule.specs.declared.view.Entry.{Entry}
use Rattle.log_rule.specs.declared.view.View.{View}
use Rattle.log_rule.specs.GroupViews.{call_after, follow_up}
use Rattle.log_rule.specs.MarkViews.{marked}
use Rattle.log_table.specs.Seats.{Becomes, view_of}
use Rattle.log_rule.specs.Views.{run_in}
use Rattle.ring_buffer.specs.Calls.{HasReserved, HasFilled, IsSameWorker, HasOnlySeen, HasExposed, filled_with, with_units}
use Rattle.ring_buffer.specs.declared.call.Range.{Range}
use Rattle.ring_buffer.proofs.OneStep.{IsSameWorker-becomes}
use Rattle.ring_buffer.proofs.TwoCalls.{IsSameWorker-trans}

-- a range that was reserved for these units is full once they are copied
pub HasFilled-reserved : (range : Range) (units : List ℕ) (steps : ℕ) (placed filled : Seat) → HasReserved range units (view_of placed)
    → Becomes placed filled (with_units units steps (view_of placed)) → HasFilled range (view_of filled)
HasFilled-reserved range units steps placed filled reserved fills = record {
  entry = record { start = range.start; size = range.size; units = units; rec = reserved.rec };
  call = ap (λ me. me.0.call) fills.me ∙ ap (filled_with units) reserved.call;
  start = refl;
  size = refl;
  full = ap length reserved.units_are ∙ sym reserved.size;
}

module _ (placed filled done last : Seat) (units : List ℕ) (steps : ℕ)
    (fills : Becomes placed filled (with_units units steps (view_of placed)))
    (marks : Becomes filled done (marked (view_of filled)))
    (at : ℕ) (stays : HasOnlySeen done last) (over : HasExposed at (view_of done) (view_of last))
  where
    filled-is : view_of filled ≡ with_units units steps (view_of placed)
    filled-is = ap (λ me. me.0) fills.me

    done-is : view_of done ≡ marked (view_of filled)
    done-is = ap (λ me. me.0) marks.me

    pub IsSameWorker-inserted : (view_of placed).seen.steps ≤ steps → IsSameWorker placed last
    IsSameWorker-inserted later =
        IsSameWorker-trans placed filled last
        (IsSameWorker-becomes placed filled (with_units units steps (view_of placed)) fills record {
          constants = refl;
          standing = refl;
          tail = le_refl (view_of placed).seen.tail;
          exposed = le_refl (view_of placed).seen.exposed;
          durable = le_refl (view_of placed).seen.durable;
          steps = later;
        })
        (IsSameWorker-trans filled done last
        (IsSameWorker-becomes filled done (marked (view_of filled)) marks record {
          constants = refl;
          standing = refl;
          tail = le_refl (view_of filled).seen.tail;
          exposed = le_refl (view_of filled).seen.exposed;
          durable = le_refl (view_of filled).seen.durable;
          steps = omega arith;
        })
        stays.same)

    pub entries-inserted : (entry : Entry) → filled_with units (view_of placed).call ≡ Filling entry → (view_of last).entries ≡ (view_of placed).entries ++ entry ∷ []
    entries-inserted entry filling =
        stays.entries ∙ (ap (λ (v : View). v.entries) done-is
        ∙ ((λ i. (filled-is i).entries ++ run_in (filled-is i).call) ∙ ap (λ call. (view_of placed).entries ++ run_in call) filling))

    pub call_done-marked_nothing : (entry : Entry) → filled_with units (view_of placed).call ≡ Filling entry → (view_of done).call ≡ Marked Nothing
    call_done-marked_nothing entry filling =
        ap (λ (v : View). v.call) done-is ∙ ap (λ call. Marked (follow_up call)) ((λ i. (filled-is i).call) ∙ filling)

    pub idle-inserted : (entry : Entry) → filled_with units (view_of placed).call ≡ Filling entry → (view_of last).call ≡ Idle
    idle-inserted entry filling = over.call ∙ ap (λ call. call_after (follow_up call)) (call_done-marked_nothing entry filling)

    pub books_behind_placing-unchanged : (view_of last).books ≡ (view_of placed).books
    books_behind_placing-unchanged = stays.books ∙ (ap (λ (v : View). v.books) done-is ∙ ap (λ (v : View). v.books) filled-is)

    pub stop_behind_placing-unchanged : (view_of last).seen.stop ≡ (view_of placed).seen.stop
    stop_behind_placing-unchanged = stays.stop ∙ (ap (λ (v : View). v.seen.stop) done-is ∙ ap (λ (v : View). v.seen.stop) filled-is)

    pub contended_behind_placing-unchanged : (view_of last).contended ≡ (view_of placed).contended
    contended_behind_placing-unchanged = stays.contended ∙ (ap (λ (v : View). v.contended) done-is ∙ ap (λ (v : View). v.contended) filled-is)
