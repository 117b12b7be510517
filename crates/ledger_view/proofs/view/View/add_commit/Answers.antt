use Rattle.std.proofs.Common.{◌+◌, ◌∙◌, ◌∷◌, ap, refl}
use Rattle.log_record.specs.declared.rec.Rec.TheVariants.{Commit}
use Rattle.lock_core.specs.History.{entry_at}
use Rattle.ledger_view.proofs.ViewLemmas.{commit-open_changes_are_updates, updates_of-accounts_kept, commit-leads, views-commit_record}
use Rattle.ledger_view.proofs.view.View.add_commit.Goals as goal

pub enter_commit-requires-clause-known : goal.enter_commit-requires-clause-known
enter_commit-requires-clause-known c =
    let old = c.args.self.now in let opening = c.requires.given.0 in let h = c.requires.given.1 in let viewed = c.requires.given.2 in
    let judged = c.in_ok-take_commit.ensures.taken opening h viewed.judged in
    updates_of-accounts_kept opening old c.args.lsn c.take_commit.new.self h viewed c.args.txn c.as_slice.result.now
    (c.as_slice.ensures.value ∙ c.in_ok-take_commit.ensures.changes opening h viewed.judged
    ∙ commit-open_changes_are_updates opening old c.args.lsn c.take_commit.new.self h viewed (Commit c.args.txn c.args.legs) c.args.txn c.args.legs refl judged)

pub enter_commit-requires-clause-lead : goal.enter_commit-requires-clause-lead
enter_commit-requires-clause-lead c =
    let old = c.args.self.now in let opening = c.requires.given.0 in let h = c.requires.given.1 in let viewed = c.requires.given.2 in
    let judged = c.in_ok-take_commit.ensures.taken opening h viewed.judged in (
      opening,
      entry_at c.args.lsn (Commit c.args.txn c.args.legs) ∷ h,
      judged,
      commit-leads opening old c.args.lsn c.take_commit.new.self h viewed (Commit c.args.txn c.args.legs) c.args.txn c.args.legs c.as_slice.result.now refl
          (c.as_slice.ensures.value ∙ c.in_ok-take_commit.ensures.changes opening h viewed.judged) c.requires judged,
    )

pub returns-in-Ok : goal.returns-in-Ok
returns-in-Ok c = λ opening h viewed.
    let judged = c.in_ok-take_commit.ensures.taken opening h viewed.judged in
    views-commit_record opening c.args.self.now c.args.lsn c.take_commit.new.self h viewed (Commit c.args.txn c.args.legs) c.args.txn c.args.legs c.new-end.result c.as_slice.result.now
    c.enter_commit.new.accounts refl (c.new-end.ensures ∙ ap (λ n. n + 1) c.units.ensures)
    (c.as_slice.ensures.value ∙ c.in_ok-take_commit.ensures.changes opening h viewed.judged)
    (c.in-Ok.ensures opening (entry_at c.args.lsn (Commit c.args.txn c.args.legs) ∷ h) judged) c.requires judged
