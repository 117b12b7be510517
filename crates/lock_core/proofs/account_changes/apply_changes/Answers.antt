use Rattle.std.proofs.Common.{◌≡◌, ◌<◌, ◌+◌, ◌∙◌, ℕ, [], ◌∷◌, ◌++◌, take, length, ap, sym, subst, arith, false}
use Rattle.std.proofs.lemmas.Grind.{common_steps}
use Rattle.std.proofs.lemmas.List.{take_more}
use Rattle.lsn_space.specs.Accounts.{Accounts}
use Rattle.lock_core.specs.declared.update.Change.{Change}
use Rattle.std.specs.Prelude.{List}
use Rattle.lock_core.specs.Transactions.{touches}
use Rattle.lock_core.specs.AccountRows.{LeavesRange}
use Rattle.lock_core.proofs.ListLemmas.{all-at}
use Rattle.lock_core.proofs.ChangesLemmas.{AppliesToTouched, applies_touched-push_touched, applies_touched-push_untouched, applies_touched-applies_changes, touches-at}
use Rattle.lock_core.proofs.account_changes.apply_changes.Goals as goal
use Rattle.lock_core.proofs.account_changes.apply_changes.Goals.{else-not-touches-via-then-not-touches+else-not-apply_to_account, else-not-touches-via-else-not-touches}

pub returns-then-not-apply_to_account-clause-leaves : goal.returns-then-not-apply_to_account-clause-leaves
returns-then-not-apply_to_account-clause-leaves c =
    let off : touches c.index-changes-i.result.account (take c.loop-i.i c.args.changes.now) ≡ false = sym c.touches.ensures ∙ c.if-not-touches.true in
    record {
      account = c.index-changes-i.result.account;
      inside = all-at (λ (change : Change). change.account < length c.args.accounts.now.rows)
          c.args.changes.now c.loop-i.i c.index-changes-i.result c.requires.known c.loop-i-test.true c.index-changes-i.is;
      leaves = subst (λ (v : ℕ × ℕ). LeavesRange c.args.changes.now c.index-changes-i.result.account v.0)
          (c.loop-i.invariant.rows.left c.index-changes-i.result.account off) c.if-not-apply_to_account.ensures.leaves;
    }

pub returns-clause-applied : goal.returns-clause-applied
returns-clause-applied c =
    let whole : take c.loop-i.i c.args.changes.now ≡ c.args.changes.now = grind (arith, common_steps) in
    applies_touched-applies_changes c.args.changes.now c.args.end c.args.accounts.now.rows c.loop-i.accounts.rows c.requires.range
    (subst (λ (some : List Change). AppliesToTouched some c.args.changes.now c.args.end c.args.accounts.now.rows c.loop-i.accounts.rows) whole c.loop-i.invariant.rows)

pub loop-i-preserved : goal.loop-i-preserved
loop-i-preserved c =
    let changes = c.args.changes.now in let change = c.index-changes-i.result in let rows = c.args.accounts.now.rows in
    let on = touches-at changes c.loop-i.i change c.loop-i-test.true c.index-changes-i.is in
    let grown : take (c.loop-i.i + 1) changes ≡ take c.loop-i.i changes ++ change ∷ [] =
    take_more changes c.loop-i.i change c.loop-i-test.true ∙ ap (λ (last : Change). take c.loop-i.i changes ++ last ∷ []) (sym c.index-changes-i.is) in
    elim c.else-not-touches.branch [
      | else-not-touches-via-then-not-touches+else-not-apply_to_account w ↦ record {
        room = ap (λ (a : Accounts). a.room) w.accounts-is ∙ w.apply_to_account.ensures.room ∙ c.loop-i.invariant.room;
        rows = subst (λ (a : Accounts). AppliesToTouched (take (c.loop-i.i + 1) changes) changes c.args.end rows a.rows) (sym w.accounts-is)
            (subst (λ (some : List Change). AppliesToTouched some changes c.args.end rows w.apply_to_account.new.accounts.rows) (sym grown)
            (applies_touched-push_untouched (take c.loop-i.i changes) changes change c.args.end rows c.loop-i.accounts.rows w.apply_to_account.new.accounts.rows
            (sym c.touches.ensures ∙ w.if-not-touches.true) on
            (all-at (λ (each : Change). each.account < length rows) changes c.loop-i.i change c.requires.known c.loop-i-test.true c.index-changes-i.is)
            c.loop-i.invariant.rows w.if-not-apply_to_account.ensures.applied));
      }
      | else-not-touches-via-else-not-touches w ↦ record {
        room = ap (λ (a : Accounts). a.room) w.accounts-is ∙ c.loop-i.invariant.room;
        rows = subst (λ (a : Accounts). AppliesToTouched (take (c.loop-i.i + 1) changes) changes c.args.end rows a.rows) (sym w.accounts-is)
            (subst (λ (some : List Change). AppliesToTouched some changes c.args.end rows c.loop-i.accounts.rows) (sym grown)
            (applies_touched-push_touched (take c.loop-i.i changes) changes change c.args.end rows c.loop-i.accounts.rows
            (sym c.touches.ensures ∙ w.if-not-touches.false) c.loop-i.invariant.rows));
      }
    ]
