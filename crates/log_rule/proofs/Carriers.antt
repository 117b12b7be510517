-- Who is on the way to expose what is ready, and what is known of an LSN in hand, where a view, a seat or the ranges change.
use Rattle.std.proofs.Common.{◌≡◌, ◌++◌, ℕ, List, [], ◌∷◌, set, sym, ap, ◌∙◌, subst}
use mathlib.Core.Logic.{dite}
use mathlib.Core.Option.{some, some-injective}
use native.Mathlib.Decide.{ℕ_discrete}
use lib.ListN.{get_elem?}
use Rattle.atomic_table.proofs.Lists.{set_here, set_else, at_longer}
use Rattle.log_rule.specs.declared.view.Call.{Call}
use Rattle.log_rule.specs.declared.view.Call.TheVariants.{Idle, Filling, Joined, Emptying, Marked, Holding, Raising, Reopening}
use Rattle.log_rule.specs.declared.view.View.{View}
use Rattle.log_rule.specs.Log.{LogRange, Log, ranges_of, IsRangeBoundary, IsReleased}
use Rattle.log_rule.specs.Marks.{IsFirstReleased, FirstEnds, Carries, HasCarrier, HasTrueEnds}
use Rattle.log_rule.proofs.ViewChanges.{get_elem-below_length}

module _ (place : ℕ) where
  -- a seat's call changes, and carries no less
  pub carrier-set : (views : List View) (me : ℕ) (v new : View) → get_elem? views me ≡ some v → (Carries place v.call → Carries place new.call)
      → HasCarrier place views → HasCarrier place (set views me new)
  carrier-set views me v new at keeps c = dite (ℕ_discrete c.seat me)
      (λ same. let is : c.view ≡ v = some-injective _ _ (sym c.there ∙ (ap (λ i. get_elem? views i) same ∙ at)) in record {
        seat = me;
        view = new;
        there = set_here views me new (get_elem-below_length views me v at);
        carries = keeps (subst (λ (z : View). Carries place z.call) is c.carries);
      })
      (λ differ. record { seat = c.seat; view = c.view; there = set_else views me c.seat new differ ∙ c.there; carries = c.carries })

  -- the seat carries now
  pub carrier-set_carrying : (views : List View) (me : ℕ) (v new : View) → get_elem? views me ≡ some v → Carries place new.call
      → HasCarrier place (set views me new)
  carrier-set_carrying views me v new at carries =
      record { seat = me; view = new; there = set_here views me new (get_elem-below_length views me v at); carries = carries }

  pub carrier-push : (views : List View) (new : View) → HasCarrier place views → HasCarrier place (views ++ new ∷ [])
  carrier-push views new c =
      record { seat = c.seat; view = c.view; there = at_longer views (new ∷ []) c.seat c.view c.there; carries = c.carries }

-- a range that is not released, behind others, is not the first released
pub first_released-front : (ranges : List LogRange) (r : LogRange) → (IsReleased r → ⊥) → IsFirstReleased (ranges ++ r ∷ []) → IsFirstReleased ranges
first_released-front [] r unreleased first = absurd (unreleased first)
first_released-front (q ∷ qs) r unreleased first = first

pub first_ends-append : (ranges more : List LogRange) (to : ℕ) → FirstEnds ranges to → FirstEnds (ranges ++ more) to
first_ends-append [] more to ends = absurd ends
first_ends-append (q ∷ qs) more to ends = ends

-- a range that is not released is exchanged for another
pub first_ends-mid_replaced : (ls rs : List LogRange) (r r' : LogRange) (to : ℕ) → (IsReleased r → ⊥) → FirstEnds (ls ++ r ∷ rs) to → FirstEnds (ls ++ r' ∷ rs) to
first_ends-mid_replaced [] rs r r' to unreleased ends = absurd (unreleased ends.0)
first_ends-mid_replaced (l ∷ ls) rs r r' to unreleased ends = ends

-- where boundaries stay boundaries, and the end of the first range ahead stays that
pub true_ends-log_changes : (start exposed : ℕ) (log after : Log) (call : Call)
    → ((x : ℕ) → IsRangeBoundary start (ranges_of log) x → IsRangeBoundary start (ranges_of after) x)
    → ((to : ℕ) → FirstEnds log.ahead to → FirstEnds after.ahead to) → HasTrueEnds start exposed log call → HasTrueEnds start exposed after call
true_ends-log_changes start exposed log after Idle still first e = tt
true_ends-log_changes start exposed log after (Filling entry) still first e = tt
true_ends-log_changes start exposed log after (Joined slot piece step) still first e = tt
true_ends-log_changes start exposed log after (Emptying slot base total) still first e = tt
true_ends-log_changes start exposed log after (Marked next) still first e = tt
true_ends-log_changes start exposed log after (Reopening slot) still first e = tt
true_ends-log_changes start exposed log after (Holding at next) still first e = record { boundary = still at e.boundary; passed = e.passed }
true_ends-log_changes start exposed log after (Raising from to next) still first e =
    (record { boundary = still from e.0.boundary; passed = e.0.passed }, (λ same. first to (e.1 same)))
