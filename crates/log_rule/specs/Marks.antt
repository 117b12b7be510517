-- The parts of the rule on released ranges that are not exposed yet: what the marks tell, and who is on the way to expose what is ready.
use Rattle.std.specs.Prelude.{◌≡◌, ◌⊎◌, ℕ, ◌+◌, ◌%◌, ◌<◌, ◌≤◌, List, [], ◌∷◌}
use Rattle.std.specs.List.{AllByRecursion}
use mathlib.Core.Option.{some}
use lib.ListN.{get_elem?}
use Rattle.log_rule.specs.declared.view.Call.{Call}
use Rattle.log_rule.specs.declared.view.Call.TheVariants.{Idle, Filling, Joined, Emptying, Marked, Holding, Raising, Reopening}
use Rattle.log_rule.specs.declared.view.View.{View}
use Rattle.log_rule.specs.Log.{LogRange, Log, ranges_of, IsRangeBoundary, IsReleased}

-- the range begins at the one LSN and ends at the other, is released, and nothing of it remains
pub record IsReady (at end : ℕ) (range : LogRange) : Type 0 where
  pub base : range.base ≡ at
  pub ends : range.base + range.size ≡ end
  pub released : IsReleased range
  pub remaining : range.remaining ≡ 0

-- one of the ranges is ready, from the one LSN to the other
abbrev pub IsReadyIn : ℕ → ℕ → List LogRange → Type 0
IsReadyIn at end [] = ⊥
IsReadyIn at end (range ∷ ranges) = IsReady at end range ⊎ IsReadyIn at end ranges

-- the mark at an LSN is not above it, or a range is ready that begins there, and ends where the mark says
abbrev pub IsCurrentMark : ℕ → (ℕ → ℕ) → List LogRange → ℕ → Type 0
IsCurrentMark size mark ahead at = (mark (at % size) ≤ at) ⊎ IsReadyIn at (mark (at % size)) ahead

-- the mark at the base of a released range is at least its end
abbrev pub HasTrueMark : ℕ → (ℕ → ℕ) → LogRange → Type 0
HasTrueMark size mark range = IsReleased range → range.base + range.size ≤ mark (range.base % size)

-- From exposed on, for the length of the ring, marks are current. All released ranges, those below exposed too, have true marks. No mark is
-- above the tail.
pub record HasReleaseMarks (size tail exposed : ℕ) (mark : ℕ → ℕ) (log : Log) : Type 0 where
  pub current : (at : ℕ) → exposed ≤ at → at < exposed + size → IsCurrentMark size mark log.ahead at
  pub true_marks : AllByRecursion (HasTrueMark size mark) (ranges_of log)
  pub below_tail : (index : ℕ) → mark index ≤ tail

-- the first of the ranges is released
abbrev pub IsFirstReleased : List LogRange → Type 0
IsFirstReleased [] = ⊥
IsFirstReleased (range ∷ ranges) = IsReleased range

-- and it ends there
abbrev pub FirstEnds : List LogRange → ℕ → Type 0
FirstEnds [] end = ⊥
FirstEnds (range ∷ ranges) end = IsReleased range × (end ≡ range.base + range.size)

-- a seat with this call is on the way to expose what is ready at this LSN: it is yet to look at exposed, or has just this LSN in hand
abbrev pub Carries : ℕ → Call → Type 0
Carries place Idle = ⊥
Carries place (Filling entry) = ⊥
Carries place (Joined slot piece step) = ⊥
Carries place (Emptying slot base total) = ⊥
Carries place (Marked after) = Unit {0}
Carries place (Holding at after) = at ≡ place
Carries place (Raising from to after) = from ≡ place
Carries place (Reopening slot) = ⊥

-- some seat is
pub record HasCarrier (place : ℕ) (views : List View) : Type 0 where
  pub seat : ℕ
  pub view : View
  pub there : get_elem? views seat ≡ some view
  pub carries : Carries place view.call

-- where the first range ahead is released, some seat is on the way to expose it
abbrev pub IsCarried : ℕ → List LogRange → List View → Type 0
IsCarried exposed ahead views = IsFirstReleased ahead → HasCarrier exposed views

-- exposed has been here: a boundary of reservations, at most exposed
pub record IsPassed (start exposed : ℕ) (log : Log) (at : ℕ) : Type 0 where
  pub boundary : IsRangeBoundary start (ranges_of log) at
  pub passed : at ≤ exposed

-- an LSN in hand is one that exposed has passed; who is about to raise exposed from where it still is has the end of the first range ahead
abbrev pub HasTrueEnds : ℕ → ℕ → Log → Call → Type 0
HasTrueEnds start exposed log Idle = Unit {0}
HasTrueEnds start exposed log (Filling entry) = Unit {0}
HasTrueEnds start exposed log (Joined slot piece step) = Unit {0}
HasTrueEnds start exposed log (Emptying slot base total) = Unit {0}
HasTrueEnds start exposed log (Marked after) = Unit {0}
HasTrueEnds start exposed log (Holding at after) = IsPassed start exposed log at
HasTrueEnds start exposed log (Reopening slot) = Unit {0}
HasTrueEnds start exposed log (Raising from to after) = IsPassed start exposed log from × (from ≡ exposed → FirstEnds log.ahead to)
