-- The accounts of a log that was opened: the table can start with them.
use Rattle.std.proofs.Common.{◌≡◌, ◌<◌, ap, sym, ◌∙◌, subst, ℕ, List, length, arith}
use Rattle.std.proofs.lemmas.Option.{get_or_from_slice_get}
use Rattle.log_record.specs.Spelling.{IsBalance}
use Rattle.lock_core.specs.AccountRows.{row}
use Rattle.lock_core.specs.Sums.{balance_of, last_commit_of}
use Rattle.log_recovery.specs.declared.recovery.Recovered.{Recovered}
use Rattle.log_recovery.specs.Opened.{placed, base_in}
use Rattle.log_recovery.specs.Recovery.{Recovers}
use Rattle.log_recovery.proofs.OpenedLemmas.{held-some_accounts, held-accounts_le_most, held-balance_in_range, held-last_commit_le_end}
use Rattle.log_rule.specs.declared.start.Start.{Start}
use Rattle.log_rule.specs.FirstAccounts.{HasAccounts}

module _ (bytes : List ℕ) (opened : Recovered) (recovers : Recovers opened bytes) (key : Start) (same : key.accounts ≡ opened.accounts)
    (start : key.start ≡ opened.lsn) where
  rows-same : key.accounts.rows ≡ opened.accounts.rows
  rows-same = λ i. (same i).rows

  count-same : length key.accounts.rows ≡ (base_in recovers.list).accounts
  count-same = ap length rows-same ∙ recovers.accounts.count

  -- each row is the balance and the last commit of its account
  row-shown : (account : ℕ) → account < (base_in recovers.list).accounts → row key.accounts.rows account
      ≡ (
        balance_of (base_in recovers.list) (placed recovers.list) account,
        last_commit_of (base_in recovers.list) (placed recovers.list) account,
      )
  row-shown account below = ap (λ rows. row rows account) rows-same
      ∙ get_or_from_slice_get opened.accounts.rows account _ (0, 0) (recovers.accounts.each account below)

  pub has-accounts : HasAccounts key
  has-accounts = record {
    some_accounts = omega (arith, count-same, held-some_accounts bytes recovers.list recovers.held);
    few = omega (arith, count-same, held-accounts_le_most bytes recovers.list recovers.held);
    balances = λ account inside. let below : account < (base_in recovers.list).accounts = omega (arith, count-same, inside) in
        subst (λ r. IsBalance r.0) (sym (row-shown account below)) (held-balance_in_range bytes recovers.list recovers.held account below);
    last_commits = λ account inside. let below : account < (base_in recovers.list).accounts = omega (arith, count-same, inside) in
        let last = ap (λ r. r.1) (row-shown account below) in
        omega (arith, last, start, recovers.lsn, held-last_commit_le_end bytes recovers.list recovers.held account);
  }
