use Rattle.std.proofs.Common.{arith, ℕ, length, ◌∙◌, sym, subst}
use Rattle.std.specs.Slots.{slots_items}
use Rattle.table_layout.specs.AccountWords.{ReadsRows}
use Rattle.log_rule.specs.ClosedLog.{IsGathered, in_use}
use Rattle.log_table.specs.Seats.{view_of, key_of}
use Rattle.log_rule.proofs.Gathering.{IsClosed, may_close-closed}
use Rattle.log_table.proofs.table.LogTable.close.Goals as goal

pub overflow_cast-exposed : goal.overflow_cast-exposed
overflow_cast-exposed c = let is : IsClosed _ _ c.word-tail.result c.word-exposed.result (view_of c.args.seat) =
    may_close-closed _ _ _ _ _ _ _ c.close_with-closed.ensures.values.2 c.requires.may c.word-tail.ensures c.word-exposed.ensures in
    omega (arith, is.small, is.released)

-- what the closed table tells of its words
closed : (c : goal.After-array_drop-self)
    → IsClosed (key_of c.args.self) (slots_items c.close_with-closed.result.words) c.word-tail.result c.word-exposed.result (view_of c.args.seat)
closed c = may_close-closed _ _ _ _ _ _ _ c.close_with-closed.ensures.values.2 c.requires.may c.word-tail.ensures c.word-exposed.ensures

pub returns-clause-gathered : goal.returns-clause-gathered
returns-clause-gathered c = subst (λ n. IsGathered n (view_of c.args.seat)) (sym c.new.ensures) (closed c).gathered

pub returns-clause-released : goal.returns-clause-released
returns-clause-released c = c.new-2.ensures ∙ ((closed c).released ∙ sym c.new.ensures)

pub returns-clause-accounts : goal.returns-clause-accounts
returns-clause-accounts c =
    (closed c).accounts _ _ (c.args.self.rowed ∙ sym c.args.self.counted)
    (subst (λ (p : ℕ × ℕ). ReadsRows p.0 p.1 (length c.args.self.rows.rows) (slots_items c.close_with-closed.result.words) c.args.self.rows.rows
    c.read_rows.new.rows.rows)
    (λ i. (sym c.args.self.keyed i, sym c.args.self.slotted i)) c.read_rows.ensures.rows)

pub returns-clause-heard : goal.returns-clause-heard
returns-clause-heard c = (closed c).heard

pub returns-clause-empty : goal.returns-clause-empty
returns-clause-empty c =
    c.count_in_use-in_use.ensures
    ∙ ((λ i. in_use (sym c.args.self.keyed i) (sym c.args.self.slotted i) (slots_items c.close_with-closed.result.words)) ∙ (closed c).empty)
