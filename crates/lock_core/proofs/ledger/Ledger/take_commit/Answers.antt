use Rattle.std.proofs.Common.{◌∙◌, ap, cond, arith, refl, true≢false, sym, rules, ◌≡◌}
use Rattle.std.specs.Prelude.{◌∷◌, []}
use Rattle.std.proofs.lemmas.Result.{err_from_is_err_and}
use Rattle.log_record.specs.declared.rec.Placed.{Placed}
use Rattle.log_record.specs.declared.rec.Rec.TheVariants.{Commit}
use Rattle.lock_core.specs.declared.ledger.Ledger.{Ledger}
use Rattle.lock_core.specs.Transactions.{updates_of}
use Rattle.lock_core.proofs.KindLemmas.{lawful_updates_of_at_most_16}
use Rattle.lock_core.proofs.OpenLemmas.{newest-counts_updates_of, updates_of-accounts_known, open_at-is_committing, end_fault-commit_take_fault, open_commit-fails_stale, open_commit-fails_balance}
use Rattle.lock_core.proofs.TakingLemmas.{unended-passes_ended, some_rows-some_account_or_record, no_accounts-fails_genesis, takes-commit, keeps_ledger-same_accounts, keeps_ledger-same_parts}
use Rattle.lock_core.proofs.ledger.Ledger.take_commit.Goals as goal

pub returns-then-count-eq0-clause-taken : goal.returns-then-count-eq0-clause-taken
returns-then-count-eq0-clause-taken c = λ opening h kept. let counted = c.count.ensures in
    no_accounts-fails_genesis opening c.args.self.now h kept (record { end = c.args.end; rec = Commit c.args.txn c.args.legs }) (λ never. never) (omega arith)

pub returns-in_err-place-clause-taken : goal.returns-in_err-place-clause-taken
returns-in_err-place-clause-taken c = λ opening h kept. let counted = c.count.ensures in
    let failed = err_from_is_err_and c.from_residual.result c.from_residual.ensures.1 in
    let same : failed.0 ≡ c.in_err-place.field-0.0 = search rules in
    rw (failed.1, same) (end_fault-commit_take_fault opening c.args.self.now h kept c.args.end c.args.txn c.args.legs (λ none. omega arith)
    _ c.in_err-place.ensures.fault)

pub returns-then-update-legs-clause-taken : goal.returns-then-update-legs-clause-taken
returns-then-update-legs-clause-taken c = λ opening h kept. let counted = c.count.ensures in
    let place = c.in_ok-place.ensures.unended h kept.transactions in
    let same = newest-counts_updates_of opening c.args.self.now h kept _ _ c.update.result c.args.txn c.end.ensures.updates place c.update.ensures in
    let some = some_rows-some_account_or_record opening c.args.self.now h kept (λ none. omega arith) in record {
      passes = (some, (tt, (unended-passes_ended opening c.args.self.now h kept c.args.txn c.in_ok-place.ensures.above place.unended, tt)));
      fails = λ legs. let other = c.if-update-legs.true in absurd (omega arith);
    }

pub changes-requires : goal.changes-requires
changes-requires c =
    let opening = c.requires.kept.0 in let h = c.requires.kept.1 in let kept = c.requires.kept.2 in
    (c.args.txn, h, c.in_ok-place.ensures.unended h kept.transactions, lawful_updates_of_at_most_16 opening h c.args.txn kept.judged.lawful)

pub are_current-requires : goal.are_current-requires
are_current-requires c = let kept = c.requires.kept.2 in
    updates_of-accounts_known _ c.args.self.now _ kept c.end.new.self.accounts c.args.txn _ _ c.end.ensures.accounts c.as_slice-changes.ensures.value
    (c.changes.ensures c.args.txn _ (c.in_ok-place.ensures.unended _ kept.transactions))

pub apply_changes-requires-clause-known : goal.apply_changes-requires-clause-known
apply_changes-requires-clause-known c = let kept = c.requires.kept.2 in
    updates_of-accounts_known _ c.args.self.now _ kept c.end.new.self.accounts c.args.txn _ _ c.end.ensures.accounts c.as_slice-changes.ensures.value
    (c.changes.ensures c.args.txn _ (c.in_ok-place.ensures.unended _ kept.transactions))

pub returns-then-not-are_current-clause-taken : goal.returns-then-not-are_current-clause-taken
returns-then-not-are_current-clause-taken c = λ opening h kept. let counted = c.count.ensures in
    let place = c.in_ok-place.ensures.unended h kept.transactions in
    let on = open_at-is_committing opening c.args.self.now h kept _ _ c.update.result c.args.txn c.args.legs _ _ c.end.ensures.updates place c.update.ensures
    (omega arith) c.as_slice-changes.ensures.value (c.changes.ensures c.args.txn h place) (λ none. omega arith) c.in_ok-place.ensures.above in
    open_commit-fails_stale opening c.args.self.now h kept c.end.new.self.accounts c.end.ensures.accounts c.args.end c.args.txn c.args.legs
    c.as_slice-changes.result.now on (λ all. true≢false (sym (c.if-not-are_current.ensures.1 all)))

pub returns-then-not-apply_changes-clause-taken : goal.returns-then-not-apply_changes-clause-taken
returns-then-not-apply_changes-clause-taken c = λ opening h kept. let counted = c.count.ensures in
    let place = c.in_ok-place.ensures.unended h kept.transactions in
    let on = open_at-is_committing opening c.args.self.now h kept _ _ c.update.result c.args.txn c.args.legs _ _ c.end.ensures.updates place c.update.ensures
    (omega arith) c.as_slice-changes.ensures.value (c.changes.ensures c.args.txn h place) (λ none. omega arith) c.in_ok-place.ensures.above in
    open_commit-fails_balance opening c.args.self.now h kept c.end.new.self.accounts c.end.ensures.accounts c.args.end c.args.txn c.args.legs
    c.as_slice-changes.result.now on (c.if-not-are_current.ensures.0 refl) c.if-not-apply_changes.ensures.leaves

pub returns-clause-taken : goal.returns-clause-taken
returns-clause-taken c = λ opening h kept. let counted = c.count.ensures in
    let place = c.in_ok-place.ensures.unended h kept.transactions in
    let on = open_at-is_committing opening c.args.self.now h kept _ _ c.update.result c.args.txn c.args.legs _ _ c.end.ensures.updates place c.update.ensures
    (omega arith) c.as_slice-changes.ensures.value (c.changes.ensures c.args.txn h place) (λ none. omega arith) c.in_ok-place.ensures.above in
    let ledger : Ledger = record c.args.self.now { accounts = c.end.new.self.accounts } in
    let keeps = keeps_ledger-same_accounts opening c.args.self.now c.end.new.self.accounts h c.end.ensures.accounts kept in
    let entry : Placed = record { end = c.args.end; rec = Commit c.args.txn c.args.legs } in
    let new : Ledger = record c.end.new.self { accounts = c.apply_changes.new.accounts } in
    keeps_ledger-same_parts opening new ledger c.apply_changes.new.accounts (entry ∷ h) refl c.end.ensures.opening c.end.ensures.least
    (takes-commit opening ledger h keeps c.args.end c.args.txn c.args.legs c.as_slice-changes.result.now on c.apply_changes.new.accounts
    c.end.new.self.txns (c.if-not-are_current.ensures.0 refl)
    c.if-not-apply_changes.ensures.room c.if-not-apply_changes.ensures.applied (c.in_ok-place.ensures.taken entry h kept.transactions refl refl))

pub returns-clause-changes : goal.returns-clause-changes
returns-clause-changes c = λ opening h kept. let place = c.in_ok-place.ensures.unended h kept.transactions in
    c.changes.ensures c.args.txn h place ∙ sym (ap (λ b. cond b [] (updates_of c.args.txn h)) place.unended)
