use Rattle.std.proofs.Common.{◌∙◌, add-one, arith, refl, true≢false, sym}
use Rattle.log_record.specs.declared.rec.Rec.TheVariants.{Update}
use Rattle.lock_core.proofs.OpenLemmas.{open_update-fails_legs, open_update-fails_pair, open_update-fails_prev, update-taken}
use Rattle.lock_core.proofs.TakingLemmas.{some_rows-some_account_or_record, no_accounts-fails_genesis}
use Rattle.lock_core.proofs.ledger.Ledger.take_update.Goals as goal

pub returns-then-accounts-eq0 : goal.returns-then-accounts-eq0
returns-then-accounts-eq0 c = λ end opening h kept.
    no_accounts-fails_genesis opening c.args.self.now h kept (record { end = end; rec = Update c.args.txn c.args.change.account c.args.change.delta c.args.change.prev }) (λ never. never)
    (sym c.count-accounts.ensures ∙ c.if-accounts-eq0.true)

pub returns-then-change-accounts : goal.returns-then-change-accounts
returns-then-change-accounts c = λ end opening h kept. let counted = c.count-accounts.ensures in let same = kept.judged.rows.count in
    record {
      passes = (some_rows-some_account_or_record opening c.args.self.now h kept (λ none. c.if-accounts-eq0.false (counted ∙ none)), tt);
      fails = λ known. let above = c.if-change-accounts.true in omega arith;
    }

pub returns-in_default : goal.returns-in_default
returns-in_default c = λ end opening h kept. let counted = c.count-accounts.ensures in let same = kept.judged.rows.count in
    record {
      passes = (some_rows-some_account_or_record opening c.args.self.now h kept (λ none. c.if-accounts-eq0.false (counted ∙ none)), (omega arith, tt));
      fails = λ ended. c.in_default.ensures.ended opening h kept (ended.0 (λ never. never)) ended.1;
    }

pub returns-then-newest : goal.returns-then-newest
returns-then-newest c = λ end opening h kept. open_update-fails_legs opening c.args.self.now h kept end c.args.txn c.args.change _ c.update-newest.result
    (c.in-Some.ensures.unended h kept.transactions) c.update-newest.ensures _ c.count-accounts.ensures c.if-accounts-eq0.false
    c.if-change-accounts.false c.in-Some.ensures.above (omega arith)

pub returns-then-not-is_paired : goal.returns-then-not-is_paired
returns-then-not-is_paired c = λ end opening h kept. open_update-fails_pair opening c.args.self.now h kept end c.args.txn c.args.change _ c.update-newest.result
    (c.in-Some.ensures.unended h kept.transactions) c.update-newest.ensures _ c.count-accounts.ensures c.if-accounts-eq0.false
    c.if-change-accounts.false c.in-Some.ensures.above
    c.if-newest.false (λ paired. true≢false (sym (c.if-not-is_paired.ensures.1 paired)))

pub returns-then-not-is_current : goal.returns-then-not-is_current
returns-then-not-is_current c = λ end opening h kept. open_update-fails_prev opening c.args.self.now h kept end c.args.txn c.args.change _ c.update-newest.result
    (c.in-Some.ensures.unended h kept.transactions) c.update-newest.ensures _ c.count-accounts.ensures c.if-accounts-eq0.false
    c.if-change-accounts.false c.in-Some.ensures.above
    c.if-newest.false (c.if-not-is_paired.ensures.0 refl) (λ names. true≢false (sym (c.if-not-is_current.ensures.1 names)))

pub push-requires-clause-count : goal.push-requires-clause-count
push-requires-clause-count c = rw add-one c.if-newest.false

pub returns-in-Ok : goal.returns-in-Ok
returns-in-Ok c = λ end opening h kept. update-taken opening c.args.self.now h kept end c.args.txn c.args.change _ c.update-newest.result
    (c.in-Some.ensures.unended h kept.transactions) c.update-newest.ensures _ c.count-accounts.ensures c.if-accounts-eq0.false
    c.if-change-accounts.false c.in-Some.ensures.above
    c.if-newest.false (c.if-not-is_paired.ensures.0 refl) (c.if-not-is_current.ensures.0 refl) c.push.new.self
    (c.in-Ok.ensures end h kept.transactions (c.in-Some.ensures.unended h kept.transactions))
