use Rattle.std.proofs.Common.{◌≡◌, ◌<◌, ◌∙◌, ℕ, length, sym, subst, arith}
use Rattle.std.proofs.lemmas.Int.{ints}
use Rattle.log_record.specs.Spelling.{IsBalance}
use Rattle.ledger_view.specs.ViewedAccounts.{balance_to, AddUp}
use Rattle.ledger_view.proofs.EntryLemmas.{no_entry, add_up-rises, first_entry_behind-adds_net, balance_to-none_behind}
use Rattle.ledger_view.proofs.entries.Entries.balance_to.Goals as goal

pub count_to-next-requires : goal.count_to-next-requires
count_to-next-requires c = add_up-rises 0 c.requires.sums.0 c.args.self.now c.requires.sums.1

-- what is read is the balance that is asked for
read : (c : goal.After-balance_before) (first : ℕ) → AddUp 0 first c.args.self.now
    → IsBalance (balance_to first c.args.self.now c.args.lsn) × (c.balance_before.result ≡ balance_to first c.args.self.now c.args.lsn)
read c first sums =
    let inside : c.count_to-next.result < length c.args.self.now = omega (arith, c.if-next-count.true, c.count.ensures) in
    let adds = first_entry_behind-adds_net 0 first c.args.self.now c.count_to-next.result c.args.lsn no_entry sums inside
    (λ k before. c.count_to-next.ensures.below k no_entry before) (c.count_to-next.ensures.behind c.count_to-next.result no_entry (omega arith) inside) in
    let sum = adds.1 in let net = c.balance_before.ensures.net no_entry in
    (adds.0, omega (arith, ints, sum, net))

pub returns-then-next-count-clause-range : goal.returns-then-next-count-clause-range
returns-then-next-count-clause-range c = let is = read c c.requires.sums.0 c.requires.sums.1 in subst IsBalance (sym is.1) is.0

pub returns-then-next-count-clause-balance : goal.returns-then-next-count-clause-balance
returns-then-next-count-clause-balance c = λ first sums last. (read c first sums).1

pub returns-else-next-count-clause-balance : goal.returns-else-next-count-clause-balance
returns-else-next-count-clause-balance c = λ first sums last.
    last ∙ sym (balance_to-none_behind first c.args.self.now c.args.lsn no_entry
    (λ k inside. c.count_to-next.ensures.below k no_entry (omega (arith, inside, c.if-next-count.false, c.count.ensures))))
