use Rattle.std.proofs.Common.{◌∙◌, sym, refl, true≢false, subst, reverse}
use Rattle.lock_core.specs.Sums.{no_opening}
use Rattle.lock_core.specs.Judging.{IsCommitting}
use Rattle.lock_core.proofs.KindLemmas.{updates_of-accounts_have_rows, fails-stale, fails-balance, committing-applied_keeps_rows, passes-commit}
use Rattle.lock_core.proofs.plain.kinds.admit_commit.Goals as goal

pub are_current-requires : goal.are_current-requires
are_current-requires c =
    updates_of-accounts_have_rows no_opening c.args.accounts.now.rows (reverse c.args.front.now) c.args.txn c.as_slice-changes.result.now c.requires.judged.lawful c.requires.judged.rows
    (c.as_slice-changes.ensures.value ∙ c.in-Ok.ensures.ok.are)

pub apply_changes-requires-clause-known : goal.apply_changes-requires-clause-known
apply_changes-requires-clause-known c =
    updates_of-accounts_have_rows no_opening c.args.accounts.now.rows (reverse c.args.front.now) c.args.txn c.as_slice-changes.result.now c.requires.judged.lawful c.requires.judged.rows
    (c.as_slice-changes.ensures.value ∙ c.in-Ok.ensures.ok.are)

pub returns-then-not-are_current-clause-tests : goal.returns-then-not-are_current-clause-tests
returns-then-not-are_current-clause-tests c =
    let on = subst (IsCommitting no_opening (reverse c.args.front.now) c.args.txn c.args.legs) (sym c.as_slice-changes.ensures.value) c.in-Ok.ensures.ok in
    fails-stale no_opening c.args.accounts.now.rows (reverse c.args.front.now) c.args.txn c.args.legs c.args.end c.as_slice-changes.result.now
    c.requires.judged.lawful c.requires.judged.rows on (λ all. true≢false (sym (c.if-not-are_current.ensures.1 all)))

pub returns-then-not-apply_changes-clause-tests : goal.returns-then-not-apply_changes-clause-tests
returns-then-not-apply_changes-clause-tests c =
    let on = subst (IsCommitting no_opening (reverse c.args.front.now) c.args.txn c.args.legs) (sym c.as_slice-changes.ensures.value) c.in-Ok.ensures.ok in
    fails-balance no_opening c.args.accounts.now.rows (reverse c.args.front.now) c.args.txn c.args.legs c.args.end c.as_slice-changes.result.now
    c.requires.judged.lawful c.requires.judged.rows on (c.if-not-are_current.ensures.0 refl) c.if-not-apply_changes.ensures.leaves

pub returns-clause-tests : goal.returns-clause-tests
returns-clause-tests c =
    let on = subst (IsCommitting no_opening (reverse c.args.front.now) c.args.txn c.args.legs) (sym c.as_slice-changes.ensures.value) c.in-Ok.ensures.ok in
    passes-commit no_opening c.args.accounts.now.rows (reverse c.args.front.now) c.args.txn c.args.legs c.args.end c.as_slice-changes.result.now
    c.requires.judged.lawful c.requires.judged.rows on (c.if-not-are_current.ensures.0 refl) c.apply_changes.new.accounts.rows c.if-not-apply_changes.ensures.applied

pub returns-clause-kept : goal.returns-clause-kept
returns-clause-kept c =
    let on = subst (IsCommitting no_opening (reverse c.args.front.now) c.args.txn c.args.legs) (sym c.as_slice-changes.ensures.value) c.in-Ok.ensures.ok in (
      c.if-not-apply_changes.ensures.room ∙ c.requires.judged.room,
      committing-applied_keeps_rows no_opening c.args.accounts.now.rows (reverse c.args.front.now) c.args.txn c.args.legs c.args.end c.as_slice-changes.result.now
          c.requires.judged.lawful c.requires.judged.rows on c.apply_changes.new.accounts.rows c.if-not-apply_changes.ensures.applied,
    )

pub returns-in-Err-clause-tests : goal.returns-in-Err-clause-tests
returns-in-Err-clause-tests c = c.in-Err.ensures.why c.args.end
