-- What is known of a list with what stands before it: where it ends, and its accounts.
use Rattle.std.proofs.Common.{◌≡◌, ◌⊎◌, inl, inr, ◌≤◌, ◌<◌, ◌&&◌, ◌^◌, refl, ap, sym, ◌∙◌, subst, ℕ, zero, suc, ◌+◌, Bool, true, false, cond, List, [], ◌∷◌, length, arith, length-append}
use Rattle.std.specs.List.{AllByRecursion}
use Rattle.std.proofs.lemmas.List.{get_or_past}
use Rattle.std.proofs.lemmas.List.Elements.{recursion_from_All}
use Rattle.std.proofs.lemmas.Option.{get_or_from_slice_get}
use mathlib.Core.Logic.{dite}
use native.Mathlib.Decide.{dec_lt}
use Rattle.lsn_space.specs.Opening.{Opening as Snapshot, IsRow, IsSnapshot}
use Rattle.lsn_space.specs.declared.lsn.TheConstants.{LAST}
use Rattle.lsn_space.specs.declared.opening.TheConstants.{MOST_ACCOUNTS}
use Rattle.log_record.specs.declared.rec.Placed.{Placed}
use Rattle.log_record.specs.declared.rec.Rec.{Rec}
use Rattle.log_record.specs.declared.rec.Rec.TheVariants.{Genesis, Update, Commit, Short, Over, Note}
use Rattle.log_record.specs.LogList.{units_of, end_of}
use Rattle.log_record.specs.Spelling.{spelling, IsSpellable, IsBalance}
use Rattle.log_record.proofs.LogListLemmas.{units_of-append}
use Rattle.lock_core.specs.History.{end_from, entry_at, history_from}
use Rattle.lock_core.specs.Lawful.{IsLawful, base_with, with_genesis}
use Rattle.lock_core.specs.Records.{commits, txn_of}
use Rattle.lock_core.specs.AccountRows.{row}
use Rattle.lock_core.specs.Sums.{BaseState, Opening, BeginsInRange, ShowsAccounts, balance_of, last_commit_of}
use Rattle.lock_core.specs.Tests.{OpensLedger}
use Rattle.lock_core.specs.Transactions.{touches, updates_of}
use Rattle.lock_core.proofs.KindLemmas.{all_genesis-accounts_count}
use Rattle.lock_core.proofs.LastCommits.{base_with-last_commit}
use Rattle.lock_core.proofs.Ranging.{is_balance-equals_balance_of, lawful-in_range}
use Rattle.lock_core.proofs.SoundLemmas.{base_state_of-past_accounts_same}
use Rattle.lock_core.proofs.TakingLemmas.{accounts-some, empty_or_snapshot-few_accounts, empty_or_snapshot-rows_in_range}
use Rattle.segment_file.specs.File.{joined}
use Rattle.segment_file.specs.Log.{IsFront, first_format, second_format, HoldsLog, with_units}
use Rattle.log_recovery.specs.Opened.{OpenedList, log_of, list_end, placed, with_records, opening_before, base_in, base_left}
use Rattle.log_recovery.specs.Recovery.{HoldsLawful}
use Rattle.log_recovery.proofs.ListingLemmas.{end_from-history}
use Rattle.log_recovery.proofs.RecoveryLemmas.{log_opening-none_or_snapshot}

-- ---- where it ends

pub list_end-more : (list : OpenedList) (more : List Rec) → list_end (with_records list more) ≡ list_end list + end_of more
list_end-more list more =
    omega (arith, ap length (units_of-append list.records more), length-append (units_of list.records) (units_of more))

pub placed-end : (list : OpenedList) → end_from list.opening.lsn (placed list) ≡ list_end list
placed-end list = end_from-history list.opening.lsn [] list.records

abbrev EndWithin : ℕ → List Placed → Type 0
EndWithin n h = AllByRecursion (λ (entry : Placed). entry.end ≤ n) h

-- each record ends where the list does, or before
ends-within : (start : ℕ) (h : List Placed) (records : List Rec) (n : ℕ) → EndWithin n h → end_from start h + end_of records ≤ n
    → EndWithin n (history_from start h records)
ends-within start h [] n within most = within
ends-within start h (rec ∷ records) n within most =
    let longer = length-append (spelling rec) (units_of records) in
    ends-within start (entry_at (end_from start h) rec ∷ h) records n (omega (arith, longer, most), within) (omega (arith, longer, most))

-- ---- its records

abbrev IsSpelled : List Placed → Type 0
IsSpelled h = AllByRecursion (λ (entry : Placed). IsSpellable entry.rec) h

pub spelled-history : (start : ℕ) (h : List Placed) (records : List Rec) → IsSpelled h → AllByRecursion IsSpellable records
    → IsSpelled (history_from start h records)
spelled-history start h [] spelled each = spelled
spelled-history start h (rec ∷ records) spelled each = spelled-history start (entry_at (end_from start h) rec ∷ h) records (each.0, spelled) each.1

length-history : (start : ℕ) (h : List Placed) (records : List Rec) → length (history_from start h records) ≡ length h + length records
length-history start h [] = omega arith
length-history start h (rec ∷ records) = let more = length-history start (entry_at (end_from start h) rec ∷ h) records in omega arith

some-units : (records : List Rec) → 0 < end_of records → 0 < length records
some-units [] some = absurd (omega arith)
some-units (rec ∷ records) some = omega arith

-- a file holds some account or some record
pub held-some_account_or_record : (bytes : List ℕ) (list : OpenedList) → HoldsLog bytes (log_of list) → 0 < (opening_before list).state.accounts + length (placed list)
held-some_account_or_record bytes list held = by_format held.reads.begins
  where
    by_format : IsFront held.reads.front list.opening held.reads.first → 0 < (opening_before list).state.accounts + length (placed list)
    by_format (first_format nothing counted is) =
        let units : 0 < end_of list.records = omega (arith, counted.some, ap length held.reads.units, length-append held.reads.first (joined held.reads.batches)) in
        omega (arith, some-units list.records units, length-history list.opening.lsn [] list.records)
    by_format (second_format snapshot none is) = omega (arith, snapshot.some)

-- ---- what stands before it

-- the accounts there have balances in their range
pub held-begins_in_range : (bytes : List ℕ) (list : OpenedList) → HoldsLog bytes (log_of list) → BeginsInRange (opening_before list).state
held-begins_in_range bytes list held = empty_or_snapshot-rows_in_range list.opening (log_opening-none_or_snapshot bytes (log_of list) held)

rows-marks : (lsn : ℕ) (rows : List (ℕ × ℕ)) → AllByRecursion (IsRow lsn) rows → (account : ℕ) → (row rows account).1 ≤ lsn
rows-marks lsn [] each account = omega arith
rows-marks lsn (first ∷ rows) each zero = each.0.1
rows-marks lsn (first ∷ rows) each (suc account) = rows-marks lsn rows each.1 account

opening-marks : (opening : Snapshot) → (opening.accounts ≡ []) ⊎ IsSnapshot opening → (account : ℕ) → (row opening.accounts account).1 ≤ opening.lsn
opening-marks opening (inl none) account = subst (λ rows. (row rows account).1 ≤ opening.lsn) (sym none) (omega arith)
opening-marks opening (inr is) account = rows-marks opening.lsn opening.accounts is.each account

-- no account is lost
pub accounts-le_base_with : (opening : Opening) (h : List Placed) → opening.state.accounts ≤ (base_with opening h).accounts
accounts-le_base_with opening [] = omega arith
accounts-le_base_with opening (entry ∷ h) = by_kind entry.rec (accounts-le_base_with opening h)
  where
    by_kind : (rec : Rec) → opening.state.accounts ≤ (base_with opening h).accounts
        → opening.state.accounts ≤ (with_genesis rec (base_with opening h)).accounts
    by_kind (Genesis account balance) before = omega (arith, before)
    by_kind (Update txn account delta prev) before = before
    by_kind (Commit txn legs) before = before
    by_kind (Short txn leg) before = before
    by_kind (Over txn leg) before = before
    by_kind (Note txn text) before = before

-- ---- its accounts

few-lawful : (opening : Opening) (h : List Placed) → opening.state.accounts ≤ MOST_ACCOUNTS → IsSpelled h → IsLawful opening h
    → (base_with opening h).accounts ≤ MOST_ACCOUNTS
few-lawful opening [] first spelled lawful = first
few-lawful opening (entry ∷ h) first spelled lawful = by_kind entry.rec spelled.0 lawful.0.0 (few-lawful opening h first spelled.1 lawful.1)
  where
    by_kind : (rec : Rec) → IsSpellable rec → OpensLedger opening h rec → (base_with opening h).accounts ≤ MOST_ACCOUNTS
        → (with_genesis rec (base_with opening h)).accounts ≤ MOST_ACCOUNTS
    by_kind (Genesis account balance) own opens before = omega (arith, own.0, opens.0, opens.2, all_genesis-accounts_count opening h opens.1)
    by_kind (Update txn account delta prev) own opens before = before
    by_kind (Commit txn legs) own opens before = before
    by_kind (Short txn leg) own opens before = before
    by_kind (Over txn leg) own opens before = before
    by_kind (Note txn text) own opens before = before

last-within : (base : BaseState) (h : List Placed) (account n : ℕ) → base.last_commit account ≤ n → EndWithin n h → last_commit_of base h account ≤ n
last-within base [] account n first within = first
last-within base (entry ∷ h) account n first within =
    by_case (commits entry.rec && touches account (updates_of (txn_of entry.rec) h)) within.0 (last-within base h account n first within.1)
  where
    by_case : (is : Bool) → entry.end ≤ n → last_commit_of base h account ≤ n → cond is entry.end (last_commit_of base h account) ≤ n
    by_case true own before = own
    by_case false own before = before

-- of a lawful list: at most 4096 accounts, each with a balance in its range and a mark that is at most the end
module _ (list : OpenedList) (begins : (list.opening.accounts ≡ []) ⊎ IsSnapshot list.opening) (each : AllByRecursion IsSpellable list.records)
    (lawful : IsLawful (opening_before list) (placed list)) where
  spelled : IsSpelled (placed list)
  spelled = spelled-history list.opening.lsn [] list.records tt each

  few-of : (base_in list).accounts ≤ MOST_ACCOUNTS
  few-of = few-lawful (opening_before list) (placed list) (empty_or_snapshot-few_accounts list.opening begins) spelled lawful

  balance-in : (account : ℕ) → account < (base_in list).accounts → IsBalance (balance_of (base_in list) (placed list) account)
  balance-in account below =
      let found = lawful-in_range (opening_before list) (placed list) (empty_or_snapshot-rows_in_range list.opening begins) spelled lawful account below in
      subst IsBalance (sym (is_balance-equals_balance_of (base_in list) (placed list) account found.0 found.2)) found.1

  last-in : (account : ℕ) → last_commit_of (base_in list) (placed list) account ≤ list_end list
  last-in account =
      let first = base_with-last_commit (opening_before list) (placed list) account in
      last-within (base_in list) (placed list) account (list_end list) (omega (arith, first, opening-marks list.opening begins account))
      (ends-within list.opening.lsn [] list.records (list_end list) tt (omega arith))

  -- rows that show what it leaves, where that is some account, are a snapshot
  pub shown-snapshot : (rows : List (ℕ × ℕ)) (lsn txn : ℕ) → ShowsAccounts rows (base_in list) (placed list) → lsn ≡ list_end list
      → list_end list ≤ LAST → txn < 2 ^ 32 → 0 < (base_in list).accounts → IsSnapshot (record { lsn = lsn; txn = txn; accounts = rows })
  shown-snapshot rows lsn txn shows end fits small some = record {
    lsn = omega (arith, end, fits);
    txn = small;
    some = omega (arith, shows.count, some);
    most = omega (arith, shows.count, few-of);
    each = recursion_from_All (IsRow lsn) rows (λ account other inside.
        let below : account < (base_in list).accounts = omega (arith, shows.count, inside) in
        let mark = last-in account in
        subst (IsRow lsn) (sym (get_or_from_slice_get rows account _ other (shows.each account below)))
        (balance-in account below, omega (arith, end, mark)));
  }

-- and of one that a file holds: some accounts, and the same
module _ (bytes : List ℕ) (list : OpenedList) (held : HoldsLawful bytes list) where
  begins : (list.opening.accounts ≡ []) ⊎ IsSnapshot list.opening
  begins = log_opening-none_or_snapshot bytes (log_of list) held.list.holds

  pub held-some_accounts : 0 < (base_in list).accounts
  held-some_accounts = accounts-some (opening_before list) (placed list) held.lawful (held-some_account_or_record bytes list held.list.holds)

  pub held-accounts_le_most : (base_in list).accounts ≤ MOST_ACCOUNTS
  held-accounts_le_most = few-of list begins held.list.each held.lawful

  pub held-balance_in_range : (account : ℕ) → account < (base_in list).accounts → IsBalance (balance_of (base_in list) (placed list) account)
  held-balance_in_range = balance-in list begins held.list.each held.lawful

  pub held-last_commit_le_end : (account : ℕ) → last_commit_of (base_in list) (placed list) account ≤ list_end list
  held-last_commit_le_end = last-in list begins held.list.each held.lawful

  pub held_shown-snapshot : (rows : List (ℕ × ℕ)) (lsn txn : ℕ) → ShowsAccounts rows (base_in list) (placed list) → lsn ≡ list_end list → txn < 2 ^ 32
      → IsSnapshot (record { lsn = lsn; txn = txn; accounts = rows })
  held_shown-snapshot rows lsn txn shows end small =
      let fits : list_end list ≤ LAST = omega (arith, held.list.holds.reads.total) in
      shown-snapshot list begins held.list.each held.lawful rows lsn txn shows end fits small held-some_accounts

-- ---- what it leaves

end-base : (opening : Opening) (h : List Placed) → end_from (base_with opening h).end h ≡ end_from opening.state.end h
end-base opening [] = refl
end-base opening (entry ∷ h) = refl

pub end-left : (list : OpenedList) → (base_left list).end ≡ list_end list
end-left list = end-base (opening_before list) (placed list) ∙ placed-end list

-- the state of these rows, behind a list that ends here
abbrev pub state_with : ℕ → List (ℕ × ℕ) → BaseState
state_with end rows =
    record { end = end; accounts = length rows; balance = λ account. (row rows account).0; last_commit = λ account. (row rows account).1 }

-- rows that show its accounts are the state that it leaves
pub state_with-base_left : (list : OpenedList) (end : ℕ) (rows : List (ℕ × ℕ)) → IsLawful (opening_before list) (placed list) → end ≡ list_end list
    → ShowsAccounts rows (base_in list) (placed list) → state_with end rows ≡ base_left list
state_with-base_left list end rows lawful ends shows = λ i. record {
  end = (ends ∙ sym (end-left list)) i;
  accounts = shows.count i;
  balance = λ account. each-balance account i;
  last_commit = λ account. each-commit account i;
}
  where
    rows-past : (account : ℕ) → (base_in list).accounts ≤ account → row rows account ≡ (0, 0)
    rows-past account past = get_or_past rows account (0, 0) (let count = shows.count in omega arith)

    before-past : (account : ℕ) → (base_in list).accounts ≤ account → row list.opening.accounts account ≡ (0, 0)
    before-past account past =
        get_or_past list.opening.accounts account (0, 0) (omega (arith, past, accounts-le_base_with (opening_before list) (placed list)))

    shown : (account : ℕ) → account < (base_in list).accounts
        → row rows account ≡ (balance_of (base_in list) (placed list) account, last_commit_of (base_in list) (placed list) account)
    shown account below = get_or_from_slice_get rows account _ (0, 0) (shows.each account below)

    each-balance : (account : ℕ) → (row rows account).0 ≡ (base_left list).balance account
    each-balance account = dite (dec_lt account (base_in list).accounts)
        (λ below. ap (λ (r : ℕ × ℕ). r.0) (shown account below))
        (λ past. ap (λ (r : ℕ × ℕ). r.0) (rows-past account (omega arith) ∙ sym (before-past account (omega arith)))
        ∙ sym (base_state_of-past_accounts_same (opening_before list) (placed list) account lawful (omega arith)).0)

    each-commit : (account : ℕ) → (row rows account).1 ≡ (base_left list).last_commit account
    each-commit account = dite (dec_lt account (base_in list).accounts)
        (λ below. ap (λ (r : ℕ × ℕ). r.1) (shown account below))
        (λ past. ap (λ (r : ℕ × ℕ). r.1) (rows-past account (omega arith) ∙ sym (before-past account (omega arith)))
        ∙ sym (base_state_of-past_accounts_same (opening_before list) (placed list) account lawful (omega arith)).1)

pub log_of-with_records : (list : OpenedList) (records : List Rec)
    → with_units (log_of list) (units_of records) ≡ log_of (with_records list records)
log_of-with_records list records = λ i. record { opening = list.opening; units = sym (units_of-append list.records records) i }
