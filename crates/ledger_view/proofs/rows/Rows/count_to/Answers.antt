use Rattle.std.proofs.Common.{◌≡◌, ◌<◌, ◌≤◌, ◌∙◌, ◌+◌, ◌-◌, ◌*◌, ℕ, ap, refl, sym, subst, arith, length, get_or, drop, min}
use Rattle.std.specs.List.Sorted.{IsNonDecreasingBy}
use Rattle.ledger_view.specs.declared.rows.Row.{Row}
use Rattle.ledger_view.proofs.MarkLemmas.{Rises, IsBlock, take_drop-is_block, marks-rise, found_place-rows_before_below, found_place-rows_from_behind}
use Rattle.ledger_view.proofs.rows.Rows.count_to.Goals as goal

pub marks_to-marks-requires : goal.marks_to-marks-requires
marks_to-marks-requires c =
    subst (IsNonDecreasingBy (λ (mark : ℕ). mark)) (sym c.as_slice.ensures.value)
    (marks-rise c.self.inside.marks.items c.self.inside.items.items c.self.invariant (subst Rises (sym c.self.view_is) c.requires))

-- the rows from the last mark on that lies at or below the LSN, up to the next
block : (c : goal.After-count_to) → IsBlock c.self.inside.items.items c.split_at-2.result.0.now (16 * (c.marks_to-marks.result - 1))
block c =
    let marks = ap length c.as_slice.ensures.value in let few = c.self.invariant.few in
    take_drop-is_block c.self.inside.items.items c.split_at.result.1.now c.split_at-2.result.0.now (16 * (c.marks_to-marks.result - 1)) c.min.result
    (omega (arith, marks, few, c.marks_to-marks.ensures.bound, c.if-marks-eq0.false)) (omega (arith, c.min.ensures))
    (c.split_at.ensures.back ∙ ap (drop (16 * (c.marks_to-marks.result - 1))) c.as_slice-2.ensures.value) c.split_at-2.ensures.front

pub returns-clause-below : goal.returns-clause-below
returns-clause-below c =
    let marks = ap length c.as_slice.ensures.value in
    subst (λ l. (i : ℕ) (none : Row) → i < 16 * (c.marks_to-marks.result - 1) + c.count_to.result → (get_or l i none).end ≤ c.args.lsn) c.self.view_is
    (found_place-rows_before_below c.self.inside.marks.items c.self.inside.items.items c.self.invariant (subst Rises (sym c.self.view_is) c.requires) c.args.lsn
    c.marks_to-marks.result (omega (arith, c.if-marks-eq0.false)) (omega (arith, marks, c.marks_to-marks.ensures.bound))
    c.split_at-2.result.0.now (16 * (c.marks_to-marks.result - 1)) c.count_to.result refl (block c) c.count_to.ensures.bound
    (subst (λ l. (i d : ℕ) → i < c.marks_to-marks.result → get_or l i d ≤ c.args.lsn) c.as_slice.ensures.value c.marks_to-marks.ensures.below)
    c.count_to.ensures.below)

pub returns-clause-behind : goal.returns-clause-behind
returns-clause-behind c =
    let marks = ap length c.as_slice.ensures.value in let items = ap length c.as_slice-2.ensures.value in
    let left : length c.split_at.result.1.now ≡ length c.self.inside.items.items - 16 * (c.marks_to-marks.result - 1) = omega (arith, c.split_at.ensures.back_len, items) in
    subst (λ l. (i : ℕ) (none : Row) → 16 * (c.marks_to-marks.result - 1) + c.count_to.result ≤ i → i < length l → c.args.lsn < (get_or l i none).end) c.self.view_is
    (found_place-rows_from_behind c.self.inside.marks.items c.self.inside.items.items c.self.invariant (subst Rises (sym c.self.view_is) c.requires) c.args.lsn
    c.marks_to-marks.result (omega (arith, c.if-marks-eq0.false)) (omega (arith, marks, c.marks_to-marks.ensures.bound))
    c.split_at-2.result.0.now (16 * (c.marks_to-marks.result - 1)) c.count_to.result refl (block c) c.count_to.ensures.bound
    (c.split_at-2.ensures.front_len ∙ c.min.ensures ∙ ap (λ n. min n 16) left)
    (subst (λ l. (i d : ℕ) → c.marks_to-marks.result ≤ i → i < length l → c.args.lsn < get_or l i d) c.as_slice.ensures.value c.marks_to-marks.ensures.behind)
    c.count_to.ensures.behind)
