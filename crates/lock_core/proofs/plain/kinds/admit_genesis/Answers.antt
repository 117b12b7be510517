use Rattle.std.proofs.Common.{◌∙◌, refl, sym, ap, subst, reverse, List, arith}
use Rattle.std.specs.Prelude.{◌∷◌}
use Rattle.std.proofs.lemmas.List.{length-reverse}
use Rattle.lsn_space.specs.Accounts.{Accounts}
use Rattle.log_record.specs.declared.rec.Placed.{Placed}
use Rattle.log_record.specs.declared.rec.Rec.TheVariants.{Genesis}
use Rattle.lock_core.specs.Sums.{no_opening}
use Rattle.lock_core.specs.Lawful.{base_with, with_genesis}
use Rattle.lock_core.specs.AccountRows.{KeepsRows}
use Rattle.lock_core.proofs.KindLemmas.{accounts_count-all_genesis, passes-genesis, fails-genesis, keeps_rows-first_genesis}
use Rattle.lock_core.proofs.plain.kinds.admit_genesis.Goals as goal
use Rattle.lock_core.proofs.plain.kinds.admit_genesis.Goals.{then-front-count-via-then-front-count, then-front-count-via-else-front-count+then-account-count}

pub returns-then-front-count-clause-tests : goal.returns-then-front-count-clause-tests
returns-then-front-count-clause-tests c =
    let counted = c.count.ensures in
    let turned = length-reverse c.args.front.now in
    λ end. fails-genesis no_opening c.args.accounts.now.rows (reverse c.args.front.now) c.args.account c.requires.judged.rows
    (elim c.then-front-count.branch [
      | then-front-count-via-then-front-count w ↦ λ equal next. absurd (omega arith)
      | then-front-count-via-else-front-count+then-account-count w ↦ λ equal next. absurd (omega arith)
    ]) end c.args.balance

pub returns-clause-tests : goal.returns-clause-tests
returns-clause-tests c =
    let rows = c.requires.judged.rows.count in
    let counted = c.count.ensures in
    let again = c.count-else-front-count.ensures in
    let turned = length-reverse c.args.front.now in
    λ end. passes-genesis no_opening (reverse c.args.front.now) end c.args.account c.args.balance
    (accounts_count-all_genesis no_opening (reverse c.args.front.now) (omega arith)) refl (omega arith)

pub returns-clause-kept : goal.returns-clause-kept
returns-clause-kept c =
    let rows = c.requires.judged.rows.count in
    let counted = c.count.ensures in
    let again = c.count-else-front-count.ensures in
    let turned = length-reverse c.args.front.now in
    let h : List Placed = reverse c.args.front.now in
    λ end. (
      ap (λ (a : Accounts). a.room) c.push.ensures ∙ c.requires.judged.room,
      subst (λ (a : Accounts). KeepsRows a.rows (with_genesis (Genesis c.args.account c.args.balance) (base_with no_opening h)) (record { end = end; rec = Genesis c.args.account c.args.balance } ∷ h))
          (sym c.push.ensures)
          (keeps_rows-first_genesis no_opening c.args.accounts.now.rows h end c.args.account c.args.balance c.requires.judged.rows (accounts_count-all_genesis no_opening h (omega arith)) (omega arith)
          c.requires.balance (λ a. refl)),
    )
