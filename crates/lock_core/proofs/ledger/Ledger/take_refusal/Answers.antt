use Rattle.std.proofs.Common.{arith, refl, rules, ◌≡◌}
use Rattle.std.proofs.lemmas.Result.{err_from_is_err_and}
use Rattle.log_record.specs.declared.rec.Rec.TheVariants.{Short, Over}
use Rattle.lock_core.proofs.OpenLemmas.{newest-counts_updates_of, end_fault-short_take_fault, end_fault-over_take_fault, short-taken, over-taken}
use Rattle.lock_core.proofs.TakingLemmas.{some_rows-some_account_or_record, no_accounts-fails_genesis, fails-short-legs, fails-over-legs}
use Rattle.lock_core.proofs.ledger.Ledger.take_refusal.Goals as goal

pub returns-then-count-eq0-clause-short : goal.returns-then-count-eq0-clause-short
returns-then-count-eq0-clause-short c = λ end opening h kept. let counted = c.count.ensures in
    no_accounts-fails_genesis opening c.args.self.now h kept (record { end = end; rec = Short c.args.txn c.args.leg }) (λ never. never) (omega arith)

pub returns-then-count-eq0-clause-over : goal.returns-then-count-eq0-clause-over
returns-then-count-eq0-clause-over c = λ end opening h kept. let counted = c.count.ensures in
    no_accounts-fails_genesis opening c.args.self.now h kept (record { end = end; rec = Over c.args.txn c.args.leg }) (λ never. never) (omega arith)

pub returns-in_err-place-clause-short : goal.returns-in_err-place-clause-short
returns-in_err-place-clause-short c = λ end opening h kept. let counted = c.count.ensures in
    let failed = err_from_is_err_and c.from_residual.result c.from_residual.ensures.1 in
    let same : failed.0 ≡ c.in_err-place.field-0.0 = search rules in
    rw (failed.1, same) (end_fault-short_take_fault opening c.args.self.now h kept end c.args.txn c.args.leg (λ none. omega arith)
    _ c.in_err-place.ensures.fault)

pub returns-then-update-leg-clause-short : goal.returns-then-update-leg-clause-short
returns-then-update-leg-clause-short c = λ end opening h kept. let counted = c.count.ensures in let place = c.in_ok-place.ensures.unended h kept.transactions in
    let same = newest-counts_updates_of opening c.args.self.now h kept _ _ c.update.result c.args.txn c.end.ensures.updates place c.update.ensures in
    fails-short-legs opening c.args.self.now h kept end c.args.txn c.args.leg (some_rows-some_account_or_record opening c.args.self.now h kept
    (λ none. omega arith)) c.in_ok-place.ensures.above place.unended
    (λ legs. let other = c.if-update-leg.true in omega arith)

pub returns-clause-short : goal.returns-clause-short
returns-clause-short c = λ end opening h kept. let counted = c.count.ensures in let place = c.in_ok-place.ensures.unended h kept.transactions in
    let same = newest-counts_updates_of opening c.args.self.now h kept _ _ c.update.result c.args.txn c.end.ensures.updates place c.update.ensures in
    short-taken opening c.args.self.now h kept c.end.new.self c.end.ensures.accounts c.end.ensures.opening c.end.ensures.least
    end c.args.txn c.args.leg (λ none. omega arith) c.in_ok-place.ensures.above place.unended (omega arith)
    (c.in_ok-place.ensures.taken _ h kept.transactions refl refl)

pub returns-in_err-place-clause-over : goal.returns-in_err-place-clause-over
returns-in_err-place-clause-over c = λ end opening h kept. let counted = c.count.ensures in
    let failed = err_from_is_err_and c.from_residual.result c.from_residual.ensures.1 in
    let same : failed.0 ≡ c.in_err-place.field-0.0 = search rules in
    rw (failed.1, same) (end_fault-over_take_fault opening c.args.self.now h kept end c.args.txn c.args.leg (λ none. omega arith)
    _ c.in_err-place.ensures.fault)

pub returns-then-update-leg-clause-over : goal.returns-then-update-leg-clause-over
returns-then-update-leg-clause-over c = λ end opening h kept. let counted = c.count.ensures in let place = c.in_ok-place.ensures.unended h kept.transactions in
    let same = newest-counts_updates_of opening c.args.self.now h kept _ _ c.update.result c.args.txn c.end.ensures.updates place c.update.ensures in
    fails-over-legs opening c.args.self.now h kept end c.args.txn c.args.leg (some_rows-some_account_or_record opening c.args.self.now h kept
    (λ none. omega arith)) c.in_ok-place.ensures.above place.unended
    (λ legs. let other = c.if-update-leg.true in omega arith)

pub returns-clause-over : goal.returns-clause-over
returns-clause-over c = λ end opening h kept. let counted = c.count.ensures in let place = c.in_ok-place.ensures.unended h kept.transactions in
    let same = newest-counts_updates_of opening c.args.self.now h kept _ _ c.update.result c.args.txn c.end.ensures.updates place c.update.ensures in
    over-taken opening c.args.self.now h kept c.end.new.self c.end.ensures.accounts c.end.ensures.opening c.end.ensures.least
    end c.args.txn c.args.leg (λ none. omega arith) c.in_ok-place.ensures.above place.unended (omega arith)
    (c.in_ok-place.ensures.taken _ h kept.transactions refl refl)
