-- How a search among the marks, and then among the rows from one mark to the next, finds its place.
use Rattle.std.proofs.Common.{◌≡◌, ◌<◌, ◌≤◌, ℕ, ◌+◌, ◌-◌, ◌*◌, min, List, length, take, drop, get_or, ap, ◌∙◌, arith, zero-le, length-take, length-drop}
use Rattle.std.proofs.lemmas.List.{get_or-take, get_or-drop}
use Rattle.std.specs.List.Sorted.{IsNonDecreasingBy}
use mathlib.Core.Logic.{dite}
use native.Mathlib.Decide.{dec_lt}
use Rattle.ledger_view.specs.declared.rows.Row.{Row}
use Rattle.ledger_view.specs.Marks.{AreMarks}

abbrev pub Rises : List Row → Type 0
Rises rows = IsNonDecreasingBy (λ (row : Row). row.end) rows

pub no_row : Row
no_row = record { end = 0; txn = 0; balance = 0; fits = zero-le }

-- the rows between two marks, from this place on
pub record IsBlock (rows block : List Row) (from : ℕ) : Type 0 where
  pub within : from + length block ≤ length rows
  pub at : (j : ℕ) (none : Row) → j < length block → get_or block j none ≡ get_or rows (from + j) none

pub take_drop-is_block : (rows rest block : List Row) (from size : ℕ) → from ≤ length rows → size ≤ length rest → rest ≡ drop from rows → block ≡ take size rest
    → IsBlock rows block from
take_drop-is_block rows rest block from size begun fits rest_is block_is =
    let left = ap length rest_is ∙ length-drop from rows in
    let long = ap length block_is ∙ length-take size rest in record {
      within = omega (arith, left, long);
      at = λ j none inside.
          ap (λ l. get_or l j none) block_is ∙ get_or-take size rest j none (omega (arith, long, inside))
          ∙ ap (λ l. get_or l j none) rest_is ∙ get_or-drop from rows j none;
    }

module _ (marks : List ℕ) (rows : List Row) (are : AreMarks marks rows) where
  module _ (rises : Rises rows) where
    pub marks-rise : IsNonDecreasingBy (λ (mark : ℕ). mark) marks
    marks-rise i j otherwise before inside =
        let few = are.few in
        let first = are.each i otherwise no_row (omega (arith, before, inside)) in
        let second = are.each j otherwise no_row inside in
        let up = rises (16 * i) (16 * j) no_row (omega (arith, before)) (omega (arith, inside, few)) in
        omega (arith, first, second, up)

    module _ (lsn found : ℕ) (some : 0 < found) (known : found ≤ length marks) (block : List Row) (from count : ℕ) (start : from ≡ 16 * (found - 1))
        (is : IsBlock rows block from) (bound : count ≤ length block) where
      pub found_place-rows_before_below : ((i otherwise : ℕ) → i < found → get_or marks i otherwise ≤ lsn)
          → ((j : ℕ) (none : Row) → j < count → (get_or block j none).end ≤ lsn)
          → (i : ℕ) (none : Row) → i < from + count → (get_or rows i none).end ≤ lsn
      found_place-rows_before_below marked below i none inside =
          let few = are.few in
          dite (dec_lt i from)
          (λ before.
          let mark = are.each (found - 1) 0 none (omega (arith, some, known)) in
          let low = marked (found - 1) 0 (omega (arith, some)) in
          let up = rises i (16 * (found - 1)) none (omega (arith, before, start)) (omega (arith, few, some, known)) in
          omega (arith, mark, low, up))
          (λ not_before.
          let here = ap (λ (e : Row). e.end) (is.at (i - from) none (omega (arith, inside, not_before, bound))) in
          let same = ap (λ n. (get_or rows n none).end) (from-again i not_before) in
          let low = below (i - from) none (omega (arith, inside, not_before)) in
          omega (arith, here, same, low))
        where
          from-again : (i : ℕ) → (i < from → ⊥) → from + (i - from) ≡ i
          from-again i not_before = omega (arith, not_before)

      pub found_place-rows_from_behind : length block ≡ min (length rows - from) 16
          → ((i otherwise : ℕ) → found ≤ i → i < length marks → lsn < get_or marks i otherwise)
          → ((j : ℕ) (none : Row) → count ≤ j → j < length block → lsn < (get_or block j none).end)
          → (i : ℕ) (none : Row) → from + count ≤ i → i < length rows → lsn < (get_or rows i none).end
      found_place-rows_from_behind size marked behind i none past inside =
          let enough = are.enough in let few = are.few in
          dite (dec_lt (i - from) (length block))
          (λ within.
          let here = ap (λ (e : Row). e.end) (is.at (i - from) none within) in
          let again : from + (i - from) ≡ i = omega (arith, past) in
          let same = ap (λ n. (get_or rows n none).end) again in
          let high = behind (i - from) none (omega (arith, past)) within in
          omega (arith, here, same, high))
          (λ beyond.
          let whole : from + 16 ≤ i = omega (arith, size, beyond, past, inside) in
          let there : found < length marks = omega (arith, whole, start, some, inside, enough) in
          let mark = are.each found 0 none there in let high = marked found 0 (omega arith) there in
          let up = rises (16 * found) i none (omega (arith, whole, start, some)) inside in
          omega (arith, mark, high, up))
