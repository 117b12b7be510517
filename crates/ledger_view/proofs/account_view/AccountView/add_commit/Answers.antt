use Rattle.std.proofs.Common.{◌+◌, ◌∙◌, ap, sym}
use Rattle.ledger_view.proofs.AccountViewLemmas.{kept-untouched, kept-touched, touched-counted, touched-in_range, touched-leads}
use Rattle.ledger_view.proofs.account_view.AccountView.add_commit.Goals as goal

pub balance-balance-requires : goal.balance-balance-requires
balance-balance-requires c =
    let given = c.requires.taken in let kept = given.3 in
    touched-counted given.0 given.1 c.args.self.now given.2 kept c.args.lsn given.4 c.take_commit.new.self c.args.txn c.args.legs
    (c.in_ok-take_commit.ensures.taken given.1 given.2 kept.judged) c.as_slice-changes.result.now
    (c.as_slice-changes.ensures.value ∙ c.in_ok-take_commit.ensures.changes given.1 given.2 kept.judged) (sym c.touches.ensures ∙ c.if-not-touches.false)

pub invariant_of-row : goal.invariant_of-row
invariant_of-row c =
    let given = c.requires.taken in let kept = given.3 in
    record {
      fits = touched-in_range given.0 given.1 c.args.self.now given.2 kept c.args.lsn given.4 c.take_commit.new.self c.args.txn c.args.legs
          (c.in_ok-take_commit.ensures.taken given.1 given.2 kept.judged) c.as_slice-changes.result.now
          (c.as_slice-changes.ensures.value ∙ c.in_ok-take_commit.ensures.changes given.1 given.2 kept.judged) (sym c.touches.ensures ∙ c.if-not-touches.false)
          c.balance-balance.result (c.balance-balance.ensures _ _ (c.in_ok-take_commit.ensures.taken given.1 given.2 kept.judged));
    }

pub enter-requires-clause-leads : goal.enter-requires-clause-leads
enter-requires-clause-leads c =
    let given = c.requires.taken in let kept = given.3 in
    touched-leads given.0 given.1 c.args.self.now given.2 kept c.args.lsn given.4 c.take_commit.new.self c.args.txn c.args.legs
    (c.in_ok-take_commit.ensures.taken given.1 given.2 kept.judged) c.as_slice-changes.result.now
    (c.as_slice-changes.ensures.value ∙ c.in_ok-take_commit.ensures.changes given.1 given.2 kept.judged) (sym c.touches.ensures ∙ c.if-not-touches.false)
    c.balance-balance.result (c.balance-balance.ensures _ _ (c.in_ok-take_commit.ensures.taken given.1 given.2 kept.judged))

pub returns-then-not-touches-clause-taken : goal.returns-then-not-touches-clause-taken
returns-then-not-touches-clause-taken c = λ account opening h kept here.
    kept-untouched account opening c.args.self.now h kept c.args.lsn here c.take_commit.new.self c.args.txn c.args.legs
    (c.in_ok-take_commit.ensures.taken opening h kept.judged) c.as_slice-changes.result.now
    (c.as_slice-changes.ensures.value ∙ c.in_ok-take_commit.ensures.changes opening h kept.judged) (sym c.touches.ensures ∙ c.if-not-touches.true)

pub returns-in-Ok-clause-taken : goal.returns-in-Ok-clause-taken
returns-in-Ok-clause-taken c = λ account opening h kept here.
    let judged = c.in_ok-take_commit.ensures.taken opening h kept.judged in
    kept-touched account opening c.args.self.now h kept c.args.lsn here c.take_commit.new.self c.args.txn c.args.legs judged c.as_slice-changes.result.now
    (c.as_slice-changes.ensures.value ∙ c.in_ok-take_commit.ensures.changes opening h kept.judged) (sym c.touches.ensures ∙ c.if-not-touches.false)
    c.new-end.result c.balance-balance.result c.enter.new.self (c.new-end.ensures ∙ ap (λ n. n + 1) c.units.ensures)
    (c.balance-balance.ensures _ _ judged) c.in-Ok.ensures
