use Rattle.std.proofs.Common.{◌≡◌, ◌≢◌, ◌<◌, ◌∙◌, ℕ, List, subst, sym, inr, refl, length}
use Rattle.log_record.specs.declared.rec.Placed.{Placed}
use Rattle.txn_tables.specs.Values.{value_at}
use Rattle.lock_core.specs.declared.transactions.Transactions.{Transactions}
use Rattle.lock_core.specs.declared.update_links.TheConstants.{ENDED}
use Rattle.lock_core.specs.Transactions.{own_records_of, updates_of}
use Rattle.lock_core.specs.KeptLedger.{KeepsRecords, KeepsTransactions}
use Rattle.lock_core.proofs.ChainLemmas.{chain-inside}
use Rattle.lock_core.proofs.KeepingLemmas.{first_end-keeps_transactions}
use Rattle.lock_core.proofs.transactions.Transactions.end.Goals as goal

-- what is kept of the transaction's records stands at the place that was found
own : (txns : Transactions) (txn place : ℕ) → place ≡ value_at txns.newest txn → (h : List Placed) → KeepsTransactions txns h
    → KeepsRecords txns.updates place (own_records_of txn h)
own txns txn place before h kept = subst (λ at. KeepsRecords txns.updates at (own_records_of txn h)) (sym before) (kept.each txn)

inside : (txns : Transactions) (txn place : ℕ) → place ≡ value_at txns.newest txn → place ≢ ENDED → (h : List Placed) → KeepsTransactions txns h
    → place < length txns.updates
inside txns txn place before unended h kept =
    chain-inside txns.updates place (updates_of txn h) kept.some ((own txns txn place before h kept).unended unended).chain

pub returns-then-place-clause-fault : goal.returns-then-place-clause-fault
returns-then-place-clause-fault c = inr (refl, λ h kept. (own c.args.self.now c.args.txn c.in-Ok.place c.in-Ok.ensures.before h kept).ended c.if-place.true)

pub returns-then-place-ne0-clause-unended : goal.returns-then-place-ne0-clause-unended
returns-then-place-ne0-clause-unended c = λ h kept. (own c.args.self.now c.args.txn c.in-Ok.place c.in-Ok.ensures.before h kept).unended c.if-place.false

pub returns-else-place-ne0-clause-unended : goal.returns-else-place-ne0-clause-unended
returns-else-place-ne0-clause-unended c = λ h kept. (own c.args.self.now c.args.txn c.in-Ok.place c.in-Ok.ensures.before h kept).unended c.if-place.false

pub returns-then-place-ne0-clause-inside : goal.returns-then-place-ne0-clause-inside
returns-then-place-ne0-clause-inside c =
    inside c.args.self.now c.args.txn c.in-Ok.place c.in-Ok.ensures.before c.if-place.false c.requires.kept.0 c.requires.kept.1

pub returns-else-place-ne0-clause-inside : goal.returns-else-place-ne0-clause-inside
returns-else-place-ne0-clause-inside c =
    inside c.args.self.now c.args.txn c.in-Ok.place c.in-Ok.ensures.before c.if-place.false c.requires.kept.0 c.requires.kept.1

pub returns-then-place-ne0-clause-taken : goal.returns-then-place-ne0-clause-taken
returns-then-place-ne0-clause-taken c = λ entry h kept own ends. let before = c.in-Ok.ensures.before in
    first_end-keeps_transactions c.args.self.now.newest c.put.new.self c.args.self.now.updates c.args.self.now.active _ c.args.txn entry h
    c.in-Ok.ensures.put (λ is. c.if-place.false (before ∙ is)) (λ none. absurd (c.if-place-ne0.true (before ∙ none)))
    (λ some. c.saturating_sub-self.ensures) own ends kept

pub returns-else-place-ne0-clause-taken : goal.returns-else-place-ne0-clause-taken
returns-else-place-ne0-clause-taken c = λ entry h kept own ends. let before = c.in-Ok.ensures.before in
    first_end-keeps_transactions c.args.self.now.newest c.put.new.self c.args.self.now.updates c.args.self.now.active _ c.args.txn entry h
    c.in-Ok.ensures.put (λ is. c.if-place.false (before ∙ is)) (λ none. refl) (λ some. absurd (some (sym before ∙ c.if-place-ne0.false)))
    own ends kept
