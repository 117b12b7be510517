use Rattle.table_layout.specs.AccountWords.{PutsAccounts}
use Rattle.table_layout.proofs.account_words.put_accounts.Given as goal

abbrev pub invariant-loop-account : goal.invariant-loop-account
invariant-loop-account l = PutsAccounts l.ring l.slots l.accounts.rows l.account l.initial.words.items l.words.items
