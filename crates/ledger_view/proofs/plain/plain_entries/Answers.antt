use Rattle.std.proofs.Common.{◌∷◌, [], ◌++◌, ◌∙◌, List, None, Some, take, reverse, ap, sym, subst}
use Rattle.log_record.specs.declared.rec.Placed.{Placed}
use Rattle.lock_core.specs.AccountRows.{opening_of}
use Rattle.lock_core.proofs.OwnLemmas.{reverse-take_more}
use Rattle.ledger_view.specs.declared.entries.Entry.{Entry}
use Rattle.ledger_view.specs.Entries.{entries_of}
use Rattle.ledger_view.specs.Plain.{IsEntryOf}
use Rattle.ledger_view.proofs.PlainLemmas.{placed_at-exists}
use Rattle.ledger_view.proofs.plain.plain_entries.Goals as goal

pub entries-preserved-in_default : goal.entries-preserved-in_default
entries-preserved-in_default c =
    let entries = c.args.entries.now in let opening = opening_of c.args.opening.now in
    let h : List Placed = reverse (take c.entries.i entries) in
    let entry = placed_at-exists entries c.entries.i c.entries-test.true in
    let told : IsEntryOf opening entry.0 h c.args.account None = subst (IsEntryOf opening entry.0 h c.args.account) c.in_default.is (c.plain_entry.ensures entry.0 entry.1) in
    c.entries.invariant
    ∙ sym (ap (λ (l : List Placed). entries_of opening l c.args.account) (reverse-take_more entries c.entries.i entry.0 c.entries-test.true entry.1) ∙ told)

pub entries-preserved : goal.entries-preserved
entries-preserved c =
    let entries = c.args.entries.now in let opening = opening_of c.args.opening.now in
    let h : List Placed = reverse (take c.entries.i entries) in
    let entry = placed_at-exists entries c.entries.i c.entries-test.true in
    let told : IsEntryOf opening entry.0 h c.args.account (Some c.in-Some.entry)
    = subst (IsEntryOf opening entry.0 h c.args.account) c.in-Some.is (c.plain_entry.ensures entry.0 entry.1) in
    c.in_ok-push.ensures ∙ ap (λ (l : List Entry). l ++ c.in-Some.entry ∷ []) c.entries.invariant
    ∙ sym (ap (λ (l : List Placed). entries_of opening l c.args.account) (reverse-take_more entries c.entries.i entry.0 c.entries-test.true entry.1) ∙ told)
