use Rattle.std.proofs.Common.{arith}
use Rattle.log_record.specs.declared.rec.Rec.TheVariants.{Note}
use Rattle.lock_core.proofs.TakingLemmas.{some_rows-some_account_or_record, no_accounts-fails_genesis, takes-note}
use Rattle.lock_core.proofs.ledger.Ledger.take_note.Goals as goal

pub returns-then-count-eq0 : goal.returns-then-count-eq0
returns-then-count-eq0 c = λ end text opening h kept. let counted = c.count.ensures in
    no_accounts-fails_genesis opening c.args.self.now h kept (record { end = end; rec = Note c.args.txn text }) (λ never. never) (omega arith)

pub returns-in-Some : goal.returns-in-Some
returns-in-Some c = λ end text opening h kept. let counted = c.count.ensures in
    takes-note opening c.args.self.now h kept end c.args.txn text (some_rows-some_account_or_record opening c.args.self.now h kept
    (λ none. omega arith)) c.in-Some.ensures.above (c.in-Some.ensures.unended h kept.transactions).unended
