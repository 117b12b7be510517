-- What a ledger knows of a transaction that has no end record, and answers on an Update of it and on what may end it.
use Rattle.std.proofs.Common.{◌≡◌, ◌≢◌, ◌<◌, ◌≤◌, ℕ, ◌+◌, ◌-◌, ◌*◌, false, List, [], ◌∷◌, length, refl, ap, ◌∙◌, sym, subst, arith}
use Rattle.std.specs.List.{AllByRecursion}
use Rattle.log_record.specs.declared.limits.TheConstants.{MOST_LEGS}
use Rattle.log_record.specs.declared.rec.Placed.{Placed}
use Rattle.log_record.specs.declared.rec.Rec.TheVariants.{Commit, Short, Over}
use Rattle.lsn_space.specs.Accounts.{Accounts}
use Rattle.lock_core.specs.declared.reason.JudgeFault.{JudgeFault}
use Rattle.lock_core.specs.declared.reason.Why.TheVariants as why
use Rattle.lock_core.specs.declared.update.Change.{Change}
use Rattle.lock_core.specs.declared.update_links.UpdateLink.{UpdateLink}
use Rattle.lock_core.specs.declared.transactions.Transactions.{Transactions}
use Rattle.lock_core.specs.declared.ledger.Ledger.{Ledger}
use Rattle.lock_core.specs.Transactions.{own_records_of, updates_of, has_end}
use Rattle.lock_core.specs.Sums.{Opening}
use Rattle.lock_core.specs.Tests.{IsPaired}
use Rattle.lock_core.specs.Lawful.{Passes}
use Rattle.lock_core.specs.Faults.{IsFirstFailing}
use Rattle.lock_core.specs.AccountRows.{row, LeavesSome}
use Rattle.lock_core.specs.Judging.{IsCommitting}
use Rattle.lock_core.specs.KeptLedger.{update_at, link_at, IsOpenAt, IsEndFault, KeepsTransactions, KeepsLedger}
use Rattle.lock_core.specs.Taking.{IsTakeFault}
use Rattle.lock_core.proofs.ChainLemmas.{chain-count, paired_chain-paired_newest, paired_newest-paired_chain}
use Rattle.lock_core.proofs.KindLemmas.{updates_of-accounts_have_rows}
use Rattle.lock_core.proofs.TakingLemmas.{some_rows-some_account_or_record, fails-update-legs, fails-update-pair, fails-update-prev, takes-update}
use Rattle.lock_core.proofs.TakingLemmas.{fails-commit-stale, fails-commit-balance, takes-short, takes-over, end_fault-no_memory_or_ended}
use Rattle.lock_core.proofs.TakingLemmas.{keeps_ledger-same_accounts, keeps_ledger-same_parts}

module _ (opening : Opening) (ledger : Ledger) (h : List Placed) (kept : KeepsLedger opening ledger h) where
  -- the newest Update of the transaction counts them all
  pub newest-counts_updates_of : (links : List UpdateLink) (place : ℕ) (newest : UpdateLink) (txn : ℕ) → links ≡ ledger.txns.updates
      → IsOpenAt links place (own_records_of txn h) → newest ≡ link_at links place → newest.count ≡ length (updates_of txn h)
  newest-counts_updates_of links place newest txn same opened is = ap (λ (l : UpdateLink). l.count) is
      ∙ chain-count links (ap (λ links. link_at links 0) same ∙ kept.transactions.first) place (updates_of txn h) opened.chain

  -- what its Updates change, newest first, are accounts of the ledger
  pub updates_of-accounts_known : (accounts : Accounts) (txn : ℕ) (lent changes : List Change) → accounts ≡ ledger.accounts → lent ≡ changes
      → changes ≡ updates_of txn h → AllByRecursion (λ (change : Change). change.account < length accounts.rows) lent
  updates_of-accounts_known accounts txn lent changes same is are = let judged = (keeps_ledger-same_accounts opening ledger accounts h same kept).judged in
      updates_of-accounts_have_rows opening accounts.rows h txn lent judged.lawful judged.rows (is ∙ are)

  -- it has as many Updates as the Commit counts
  pub open_at-is_committing : (links : List UpdateLink) (place : ℕ) (newest : UpdateLink) (txn legs : ℕ) (lent changes : List Change)
      → links ≡ ledger.txns.updates → IsOpenAt links place (own_records_of txn h) → newest ≡ link_at links place
      → newest.count ≡ 2 * legs → lent ≡ changes → changes ≡ updates_of txn h → length ledger.accounts.rows ≢ 0 → ledger.least < txn
      → IsCommitting opening h txn legs lent
  open_at-is_committing links place newest txn legs lent changes same opened is count lends are some above =
      let counted = newest-counts_updates_of links place newest txn same opened is in let long = ap length (lends ∙ are) in let least = kept.least in record {
        some = some_rows-some_account_or_record opening ledger h kept some;
        above = omega arith;
        unended = opened.unended;
        are = lends ∙ are;
        legs_are = omega arith;
      }

  -- one that can't be ended, or for which memory is wanting
  module _ (end txn number : ℕ) (some : length ledger.accounts.rows ≢ 0) (f : JudgeFault)
      (is : IsEndFault ((opening : Opening) (h : List Placed) → KeepsLedger opening ledger h → opening.txn < txn
      → has_end (own_records_of txn h) ≡ false → ⊥) f) where
    pub end_fault-commit_take_fault : IsTakeFault opening h (record { end = end; rec = Commit txn number }) f
    end_fault-commit_take_fault = end_fault-no_memory_or_ended (IsTakeFault opening h (record { end = end; rec = Commit txn number })) f is tt (λ ended. record {
      passes = (some_rows-some_account_or_record opening ledger h kept some, (tt, tt));
      fails = λ fresh. ended opening h kept (fresh.0 (λ never. never)) fresh.1;
    })

    pub end_fault-short_take_fault : IsTakeFault opening h (record { end = end; rec = Short txn number }) f
    end_fault-short_take_fault = end_fault-no_memory_or_ended (IsTakeFault opening h (record { end = end; rec = Short txn number })) f is tt (λ ended. record {
      passes = (some_rows-some_account_or_record opening ledger h kept some, (tt, tt));
      fails = λ fresh. ended opening h kept (fresh.0 (λ never. never)) fresh.1;
    })

    pub end_fault-over_take_fault : IsTakeFault opening h (record { end = end; rec = Over txn number }) f
    end_fault-over_take_fault = end_fault-no_memory_or_ended (IsTakeFault opening h (record { end = end; rec = Over txn number })) f is tt (λ ended. record {
      passes = (some_rows-some_account_or_record opening ledger h kept some, (tt, tt));
      fails = λ fresh. ended opening h kept (fresh.0 (λ never. never)) fresh.1;
    })

  -- a Short or an Over, for which this ledger has its end, and no more
  module _ (new : Ledger) (same : new.accounts ≡ ledger.accounts) (past : new.is_opening ≡ false) (low : new.least ≡ ledger.least)
      (end txn leg : ℕ) (some : length ledger.accounts.rows ≢ 0) (above : ledger.least < txn)
      (unended : has_end (own_records_of txn h) ≡ false) (legs : length (updates_of txn h) ≡ 2 * (leg - 1)) where
    pub short-taken : KeepsTransactions new.txns (record { end = end; rec = Short txn leg } ∷ h)
        → KeepsLedger opening new (record { end = end; rec = Short txn leg } ∷ h)
    short-taken keeps = keeps_ledger-same_parts opening new ledger ledger.accounts (record { end = end; rec = Short txn leg } ∷ h) same past low
        (takes-short opening ledger h kept end txn leg (some_rows-some_account_or_record opening ledger h kept some) above unended new.txns legs keeps)

    pub over-taken : KeepsTransactions new.txns (record { end = end; rec = Over txn leg } ∷ h)
        → KeepsLedger opening new (record { end = end; rec = Over txn leg } ∷ h)
    over-taken keeps = keeps_ledger-same_parts opening new ledger ledger.accounts (record { end = end; rec = Over txn leg } ∷ h) same past low
        (takes-over opening ledger h kept end txn leg (some_rows-some_account_or_record opening ledger h kept some) above unended new.txns legs keeps)

  -- a Commit of these changes, on the accounts that are kept
  module _ (accounts : Accounts) (same : accounts ≡ ledger.accounts) (end txn legs : ℕ) (changes : List Change)
      (on : IsCommitting opening h txn legs changes) where
    abbrev NameLast : Type 0
    NameLast = AllByRecursion (λ (change : Change). change.prev ≡ (row accounts.rows change.account).1) changes

    abbrev on_accounts : Ledger
    on_accounts = record ledger { accounts = accounts }

    pub open_commit-fails_stale : (NameLast → ⊥) → IsFirstFailing (Passes opening h (record { end = end; rec = Commit txn legs })) why.Stale
    open_commit-fails_stale stale =
        fails-commit-stale opening on_accounts h (keeps_ledger-same_accounts opening ledger accounts h same kept) end txn legs changes on stale

    pub open_commit-fails_balance : NameLast → LeavesSome changes accounts.rows
        → IsFirstFailing (Passes opening h (record { end = end; rec = Commit txn legs })) why.Balance
    open_commit-fails_balance all leaves =
        fails-commit-balance opening on_accounts h (keeps_ledger-same_accounts opening ledger accounts h same kept) end txn legs changes on all leaves

  -- an Update of it: `newest` is the one before
  module _ (end txn : ℕ) (change : Change) (place : ℕ) (newest : UpdateLink) (opened : IsOpenAt ledger.txns.updates place (own_records_of txn h))
      (is : newest ≡ link_at ledger.txns.updates place) (count : ℕ) (counted : count ≡ length ledger.accounts.rows) (some : count ≢ 0)
      (below : change.account < count) (above : ledger.least < txn) where
    counts : newest.count ≡ length (updates_of txn h)
    counts = newest-counts_updates_of ledger.txns.updates place newest txn refl opened is

    taken : 0 < opening.state.accounts + length h
    taken = some_rows-some_account_or_record opening ledger h kept (λ none. some (counted ∙ none))

    inside : change.account < length ledger.accounts.rows
    inside = subst (λ n. change.account < n) counted below

    few_updates : newest.count < 2 * MOST_LEGS → length (updates_of txn h) < 2 * MOST_LEGS
    few_updates few = subst (λ n. n < 2 * MOST_LEGS) counts few

    pairs : IsPaired (newest.change ∷ []) change → IsPaired (updates_of txn h) change
    pairs paired = paired_newest-paired_chain ledger.txns.updates kept.transactions.first place (updates_of txn h) change opened.chain
        (subst (λ (l : UpdateLink). IsPaired (l.change ∷ []) change) is paired)

    paired-newest : IsPaired (updates_of txn h) change → IsPaired (newest.change ∷ []) change
    paired-newest paired = subst (λ (l : UpdateLink). IsPaired (l.change ∷ []) change) (sym is)
        (paired_chain-paired_newest ledger.txns.updates kept.transactions.first place (updates_of txn h) change opened.chain paired)

    pub open_update-fails_legs : 2 * MOST_LEGS ≤ newest.count → IsFirstFailing (Passes opening h (update_at end txn change)) why.Legs
    open_update-fails_legs many = let same = counts in
        fails-update-legs opening ledger h kept end txn change taken inside above opened.unended (omega arith)

    pub open_update-fails_pair : newest.count < 2 * MOST_LEGS → (IsPaired (newest.change ∷ []) change → ⊥)
        → IsFirstFailing (Passes opening h (update_at end txn change)) why.Pair
    open_update-fails_pair few apart = fails-update-pair opening ledger h kept end txn change taken inside above opened.unended (few_updates few)
        (λ paired. apart (paired-newest paired))

    pub open_update-fails_prev : newest.count < 2 * MOST_LEGS → IsPaired (newest.change ∷ []) change
        → (change.prev ≡ (row ledger.accounts.rows change.account).1 → ⊥)
        → IsFirstFailing (Passes opening h (update_at end txn change)) why.Prev
    open_update-fails_prev few paired stale =
        fails-update-prev opening ledger h kept end txn change taken inside above opened.unended (few_updates few) (pairs paired) stale

    pub update-taken : newest.count < 2 * MOST_LEGS → IsPaired (newest.change ∷ []) change
        → change.prev ≡ (row ledger.accounts.rows change.account).1 → (txns : Transactions)
        → (newest.count + 1 ≡ length (updates_of txn h) + 1 → KeepsTransactions txns (update_at end txn change ∷ h))
        → KeepsLedger opening (record { accounts = ledger.accounts; is_opening = false; txns = txns; least = ledger.least })
        (update_at end txn change ∷ h)
    update-taken few paired names txns keeps = takes-update opening ledger h kept end txn change taken inside above txns opened.unended
        (few_updates few) (pairs paired) names (keeps (ap (λ n. n + 1) counts))
