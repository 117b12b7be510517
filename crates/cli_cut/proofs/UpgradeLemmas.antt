-- The list that `upgrade` leaves is lawful, and leaves what the list leaves that was upgraded.
use Rattle.std.proofs.Common.{◌≡◌, ◌<◌, ◌∙◌, ap, sym, subst, ℕ, Some, List, [], ◌∷◌, ◌++◌, length, arith, length-append}
use Rattle.std.specs.List.{AllByRecursion}
use Rattle.log_record.specs.declared.rec.Placed.{Placed}
use Rattle.log_record.specs.LogList.{units_of, end_of}
use Rattle.log_record.specs.Spelling.{IsSpellable}
use Rattle.log_record.proofs.LogListLemmas.{units_of-append}
use Rattle.lock_core.specs.History.{history_from}
use Rattle.lock_core.specs.Lawful.{IsLawful, base_with, opening_after}
use Rattle.lock_core.specs.Sums.{BaseState, Opening, ShowsAccounts, balance_of, last_commit_of}
use Rattle.lock_core.specs.Tests.{IsGenesis, HasNoGenesis, AreAbove}
use Rattle.lock_core.specs.Transactions.{ShareNoTransaction}
use Rattle.lock_core.proofs.Appending.{state_after}
use Rattle.lock_core.proofs.GoingOn.{opening_after-accounts_append, opening_after-balance_append, opening_after-last_commit_append, opening_after-txn_append}
use Rattle.lock_core.proofs.ListLemmas.{all-split}
use Rattle.lock_core.proofs.Splitting.{above-all_spelled, all_genesis-share_none, greatest-genesis, lawful-split}
use Rattle.segment_file.specs.Log.{HoldsLog}
use Rattle.log_recovery.specs.Opened.{OpenedList, list_end, log_of, placed, with_front, opening_before, base_in, opening_left}
use Rattle.log_recovery.specs.Recovery.{HoldsLawful, Recovers}
use Rattle.log_recovery.specs.declared.recovery.Recovered.{Recovered}
use Rattle.log_recovery.proofs.AnswerLemmas.{one-list}
use Rattle.log_recovery.proofs.OpenedLemmas.{state_with-base_left, held-some_accounts, spelled-history}
use Rattle.cli_cut.specs.Recovered.{AnswersAlike, IsUpgradedLog, RecoverAlike}
use Rattle.cli_cut.specs.Upgrading.{IsUpgradeOf}
use Rattle.cli_cut.proofs.FrontLemmas.{history_from-all, front-base, front-lawful, front-split, later-has_no_genesis}
use Rattle.cli_cut.proofs.SameLemmas.{shows-same}

-- what follows in a lawful list has numbers above that of what stands before it
above-lawful : (opening : Opening) (h l : List Placed) → IsLawful opening (h ++ l) → AreAbove opening.txn h
above-lawful opening [] l lawful = tt
above-lawful opening (entry ∷ h) l lawful = (lawful.0.1.1.0.0, above-lawful opening h l lawful.1)

module _ (list made : OpenedList) (spellable : AllByRecursion IsSpellable list.records) (lawful : IsLawful (opening_before list) (placed list))
    (some : 0 < (base_in list).accounts) (upgrade : IsUpgradeOf list made) where
  -- the list up to the end of its Genesis records, and what follows
  abbrev front : OpenedList
  front = with_front list upgrade.genesis

  abbrev later : List Placed
  later = history_from (list_end front) [] made.records

  placed-split : placed list ≡ later ++ placed front
  placed-split = front-split list upgrade.genesis made.records upgrade.whole

  whole : IsLawful (opening_before list) (later ++ placed front)
  whole = subst (IsLawful (opening_before list)) placed-split lawful

  first-lawful : IsLawful (opening_before list) (placed front)
  first-lawful = front-lawful list upgrade.genesis made.records upgrade.whole lawful

  none : HasNoGenesis later
  none = later-has_no_genesis list upgrade.genesis made.records upgrade.whole upgrade.none

  all : AllByRecursion (λ (entry : Placed). IsGenesis entry.rec) (placed front)
  all = history_from-all IsGenesis list.opening.lsn [] upgrade.genesis tt upgrade.all

  pub made-spellable : AllByRecursion IsSpellable made.records
  made-spellable = (all-split IsSpellable upgrade.genesis made.records (subst (AllByRecursion IsSpellable) upgrade.whole spellable)).1

  some_before : 0 < (base_in front).accounts
  some_before = subst (λ (base : BaseState). 0 < base.accounts)
      (front-base list upgrade.genesis made.records upgrade.whole upgrade.none) some

  apart : ShareNoTransaction later (placed front)
  apart = all_genesis-share_none later (placed front) (above-all_spelled later (spelled-history (list_end front) [] made.records tt made-spellable)) none all

  -- a Genesis has no transaction number
  same-txn : (opening_before list).txn ≡ (opening_left front).txn
  same-txn = omega (arith, greatest-genesis (placed front) all)

  behind : IsLawful (opening_left front) later
  behind = subst (λ txn. IsLawful (state_after (opening_before list) (placed front) txn) later) same-txn
      (lawful-split (opening_before list) (opening_before list).txn later (placed front) whole some_before none
      (above-lawful (opening_before list) later (placed front) whole) apart)

  same-opening : opening_before made ≡ opening_left front
  same-opening = λ i. record {
    state = state_with-base_left front made.opening.lsn made.opening.accounts first-lawful upgrade.opening.lsn upgrade.opening.accounts i;
    txn = upgrade.opening.txn i;
  }

  placed-made : placed made ≡ later
  placed-made = ap (λ lsn. history_from lsn [] made.records) upgrade.opening.lsn

  pub made-lawful : IsLawful (opening_before made) (placed made)
  made-lawful = subst (λ (opening : Opening). IsLawful opening (placed made)) (sym same-opening)
      (subst (IsLawful (opening_left front)) (sym placed-made) behind)

  pub made-same_end : list_end made ≡ list_end list
  made-same_end = omega (
    arith,
    upgrade.opening.lsn,
    ap end_of upgrade.whole,
    ap length (units_of-append upgrade.genesis made.records),
    length-append (units_of upgrade.genesis) (units_of made.records),
  )

  pub made-same_txn : (opening_left list).txn ≡ (opening_left made).txn
  made-same_txn = ap (λ h. (opening_after (opening_before list) h).txn) placed-split ∙ opening_after-txn_append (opening_before list) later (placed front)
      ∙ sym (λ i. (opening_after (same-opening i) (placed-made i)).txn)

  same-balance : (account : ℕ) → account < (base_in front).accounts
      → balance_of (base_in list) (placed list) account ≡ balance_of (base_in made) (placed made) account
  same-balance account inside = ap (λ h. balance_of (base_with (opening_before list) h) h account) placed-split
      ∙ opening_after-balance_append (opening_before list) later (placed front) first-lawful account inside behind
      ∙ sym (λ i. balance_of (base_with (same-opening i) (placed-made i)) (placed-made i) account)

  same-mark : (account : ℕ) → last_commit_of (base_in list) (placed list) account ≡ last_commit_of (base_in made) (placed made) account
  same-mark account = ap (λ h. last_commit_of (base_with (opening_before list) h) h account) placed-split
      ∙ opening_after-last_commit_append (opening_before list) later (placed front) first-lawful some_before account behind
      ∙ sym (λ i. last_commit_of (base_with (same-opening i) (placed-made i)) (placed-made i) account)

  same-count : (base_in list).accounts ≡ (base_in made).accounts
  same-count = ap (λ h. (base_with (opening_before list) h).accounts) placed-split
      ∙ opening_after-accounts_append (opening_before list) later (placed front) some_before behind
      ∙ sym (λ i. (base_with (same-opening i) (placed-made i)).accounts)

  front-count : (base_in list).accounts ≡ (base_in front).accounts
  front-count = ap (λ (base : BaseState). base.accounts) (front-base list upgrade.genesis made.records upgrade.whole upgrade.none)

  -- rows that show the list show the new one
  pub made-shows : (rows : List (ℕ × ℕ)) → ShowsAccounts rows (base_in list) (placed list) → ShowsAccounts rows (base_in made) (placed made)
  made-shows rows shows = record {
    count = shows.count ∙ same-count;
    each = λ account inside.
        let below : account < (base_in list).accounts = omega (arith, inside, same-count) in
        let within : account < (base_in front).accounts = omega (arith, below, front-count) in
        shows.each account below ∙ (λ i. Some (same-balance account within i, same-mark account i));
  }

pub upgrade-holds_lawful : (bytes written : List ℕ) (list made : OpenedList) → HoldsLawful bytes list → IsUpgradeOf list made → HoldsLog written (log_of made)
    → HoldsLawful written made
upgrade-holds_lawful bytes written list made held upgrade holds = record {
  list = record { each = made-spellable list made held.list.each held.lawful (held-some_accounts bytes list held) upgrade; holds = holds };
  lawful = made-lawful list made held.list.each held.lawful (held-some_accounts bytes list held) upgrade;
}

pub IsUpgradedLog-holds_lawful : (bytes written : List ℕ) (log : IsUpgradedLog bytes written) → HoldsLawful written log.made
IsUpgradedLog-holds_lawful bytes written log = upgrade-holds_lawful bytes written log.list log.made log.lawful log.upgrade log.held

module _ (bytes written : List ℕ) (log : IsUpgradedLog bytes written) (a b : Recovered) (before : Recovers a bytes) (after : Recovers b written) where
  some : 0 < (base_in log.list).accounts
  some = held-some_accounts bytes log.list log.lawful

  list-before : before.list ≡ log.list
  list-before = one-list bytes before.list log.list before.held.list log.lawful.list

  list-after : after.list ≡ log.made
  list-after = one-list written after.list log.made after.held.list (IsUpgradedLog-holds_lawful bytes written log).list

  same-lsn : a.lsn ≡ b.lsn
  same-lsn =
      let same_end = made-same_end log.list log.made log.lawful.list.each log.lawful.lawful some log.upgrade in
      omega (arith, before.lsn, ap list_end list-before, same_end, after.lsn, ap list_end list-after)

  same-next_txn : a.next_txn ≡ b.next_txn
  same-next_txn = omega (
    arith,
    before.next_txn,
    ap (λ (l : OpenedList). (opening_left l).txn) list-before,
    made-same_txn log.list log.made log.lawful.list.each log.lawful.lawful some log.upgrade,
    after.next_txn,
    ap (λ (l : OpenedList). (opening_left l).txn) list-after,
  )

  same-accounts : a.accounts.rows ≡ b.accounts.rows
  same-accounts =
      let first = subst (λ (l : OpenedList). ShowsAccounts a.accounts.rows (base_in l) (placed l)) list-before before.accounts in
      let second = subst (λ (l : OpenedList). ShowsAccounts b.accounts.rows (base_in l) (placed l)) list-after after.accounts in
      shows-same (base_in log.made) (placed log.made) a.accounts.rows b.accounts.rows
      (made-shows log.list log.made log.lawful.list.each log.lawful.lawful some log.upgrade a.accounts.rows first) second

  same-answers : AnswersAlike a b
  same-answers = record { lsn = same-lsn; accounts = same-accounts; next = same-next_txn }

pub IsUpgradedLog-recover_alike : (bytes written : List ℕ) → IsUpgradedLog bytes written → RecoverAlike bytes written
IsUpgradedLog-recover_alike = same-answers
