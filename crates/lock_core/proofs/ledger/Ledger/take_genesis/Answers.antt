use Rattle.std.proofs.Common.{arith}
use Rattle.lock_core.proofs.TakingLemmas.{genesis_after_opening-fails, genesis_not_next-fails, takes-genesis}
use Rattle.lock_core.proofs.ledger.Ledger.take_genesis.Goals as goal
use Rattle.lock_core.proofs.ledger.Ledger.take_genesis.Goals.{then-not-self-via-then-not-self, then-not-self-via-else-not-self+then-account-count}

pub returns-then-not-self : goal.returns-then-not-self
returns-then-not-self c = λ end opening h kept. elim c.then-not-self.branch [
  | then-not-self-via-then-not-self w ↦ genesis_after_opening-fails opening c.args.self.now h kept end c.args.account c.args.balance w.if-not-self.true
  | then-not-self-via-else-not-self+then-account-count w ↦
      genesis_not_next-fails opening c.args.self.now h kept end c.args.account c.args.balance (λ same. let counted = w.count.ensures in absurd (omega arith))
]

pub returns : goal.returns
returns c = λ end opening h kept. let counted = c.count.ensures in
    takes-genesis opening c.args.self.now h kept end c.args.account c.args.balance c.push.new.self c.if-not-self.false (omega arith) c.requires.balance c.push.ensures
