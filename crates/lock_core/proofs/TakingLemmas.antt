-- What a ledger answers on one record more: the first test that fails, or what it keeps then.
use Rattle.std.proofs.Common.{◌≡◌, ◌<◌, ◌≤◌, ◌⊎◌, ⊎_elim, inl, inr, ℕ, zero, suc, ◌+◌, ◌-◌, ◌*◌, true, false, true≢false, List, [], ◌∷◌, ◌++◌, length, refl, ap, ◌∙◌, sym, subst, arith}
use Rattle.std.specs.List.{AllByRecursion}
use Rattle.lsn_space.specs.declared.opening.TheConstants.{MOST_ACCOUNTS}
use Rattle.log_record.specs.declared.limits.TheConstants.{MOST_LEGS}
use Rattle.log_record.specs.declared.rec.Rec.{Rec}
use Rattle.log_record.specs.declared.rec.Placed.{Placed}
use Rattle.log_record.specs.declared.rec.Rec.TheVariants.{Genesis, Update, Commit, Short, Over, Note}
use Rattle.log_record.specs.Spelling.{IsBalance}
use Rattle.lsn_space.specs.Accounts.{Accounts}
use Rattle.lsn_space.specs.Opening as space
use Rattle.lsn_space.specs.Opening.{IsRow, IsSnapshot}
use Rattle.lock_core.specs.declared.reason.JudgeFault.{JudgeFault}
use Rattle.lock_core.specs.declared.reason.JudgeFault.TheVariants as fault
use Rattle.lock_core.specs.declared.reason.Why.TheVariants as why
use Rattle.lock_core.specs.declared.update.Change.{Change}
use Rattle.lock_core.specs.declared.transactions.Transactions.{Transactions}
use Rattle.lock_core.specs.declared.ledger.Ledger.{Ledger}
use Rattle.lock_core.specs.Transactions.{own_records_of, updates_of, has_end}
use Rattle.lock_core.specs.Sums.{Opening}
use Rattle.lock_core.specs.Tests.{IsGenesis, OpensLedger, IsPaired}
use Rattle.lock_core.specs.Lawful.{tests, Passes, IsLawful, base_with, with_genesis}
use Rattle.lock_core.specs.Faults.{IsFirstFailing}
use Rattle.lock_core.specs.AccountRows.{row, AppliesChanges, LeavesSome, KeepsRows, AreRowsInRange}
use Rattle.lock_core.specs.Judging.{IsCommitting}
use Rattle.lock_core.specs.KeptLedger.{IsEndFault, KeepsTransactions, KeepsLedger}
use Rattle.lock_core.proofs.KindLemmas.{all_genesis-accounts_count, base_with-accounts_le, keeps_rows-first_genesis, passes-genesis, fails-stale}
use Rattle.lock_core.proofs.KindLemmas.{fails-balance, committing-applied_keeps_rows, passes-commit}
use Rattle.lock_core.proofs.JudgingLemmas.{judged-first_same_accounts}
use Rattle.lock_core.proofs.KeepingLemmas.{first_idle-keeps_transactions}

-- a fault of an end: want of memory, or the test of the end
pub end_fault-no_memory_or_ended : {X : Type 0} (F : JudgeFault → Type 0) (f : JudgeFault) → IsEndFault X f → F fault.NoMemory → (X → F (fault.Why why.Ended)) → F f
end_fault-no_memory_or_ended F f is none ended = ⊎_elim (λ same. subst F (sym same) none) (λ both. subst F (sym both.0) (ended both.1)) is

-- ---- no record yet

snapshot-rows : (lsn : ℕ) (rows : List (ℕ × ℕ)) → AllByRecursion (IsRow lsn) rows → AreRowsInRange rows
snapshot-rows lsn [] each account inside = absurd (omega arith)
snapshot-rows lsn (first ∷ rows) each zero inside = each.0.0
snapshot-rows lsn (first ∷ rows) each (suc account) inside = snapshot-rows lsn rows each.1 account (omega arith)

-- a judge may begin with an opening that has no account or is a snapshot: its balances are in their range
pub empty_or_snapshot-rows_in_range : (opening : space.Opening) → (opening.accounts ≡ []) ⊎ IsSnapshot opening → AreRowsInRange opening.accounts
empty_or_snapshot-rows_in_range opening (inl none) = λ account inside. let count = ap length none in absurd (omega arith)
empty_or_snapshot-rows_in_range opening (inr is) = snapshot-rows opening.lsn opening.accounts is.each

pub empty_or_snapshot-few_accounts : (opening : space.Opening) → (opening.accounts ≡ []) ⊎ IsSnapshot opening → length opening.accounts ≤ MOST_ACCOUNTS
empty_or_snapshot-few_accounts opening (inl none) = let count = ap length none in omega arith
empty_or_snapshot-few_accounts opening (inr is) = is.most

module _ (opening : Opening) where
  -- a lawful history with a record has an account
  pub accounts-some : (h : List Placed) → IsLawful opening h → 0 < opening.state.accounts + length h → 0 < (base_with opening h).accounts
  accounts-some [] lawful some = omega arith
  accounts-some (entry ∷ h) lawful some = by_kind entry.rec entry.end lawful.0 (accounts-some h lawful.1)
    where
      by_kind : (rec : Rec) (end : ℕ) → AllByRecursion (Passes opening h (record { end = end; rec = rec })) tests → (0 < opening.state.accounts + length h → 0 < (base_with opening h).accounts)
          → 0 < (with_genesis rec (base_with opening h)).accounts
      by_kind (Genesis account balance) end passes before = omega arith
      by_kind (Update txn account delta prev) end passes before = before passes.0
      by_kind (Commit txn legs) end passes before = before passes.0
      by_kind (Short txn leg) end passes before = before passes.0
      by_kind (Over txn leg) end passes before = before passes.0
      by_kind (Note txn text) end passes before = before passes.0

  opens-some : (h : List Placed) (rec : Rec) → (IsGenesis rec → ⊥) → OpensLedger opening h rec → 0 < opening.state.accounts + length h
  opens-some h (Genesis account balance) other opens = absurd (other tt)
  opens-some h (Update txn account delta prev) other opens = opens
  opens-some h (Commit txn legs) other opens = opens
  opens-some h (Short txn leg) other opens = opens
  opens-some h (Over txn leg) other opens = opens
  opens-some h (Note txn text) other opens = opens

  module _ (ledger : Ledger) (h : List Placed) (kept : KeepsLedger opening ledger h) where
    counted : length ledger.accounts.rows ≡ (base_with opening h).accounts
    counted = kept.judged.rows.count

    -- a number above the opening's, of a transaction with no end record
    pub unended-passes_ended : (txn : ℕ) → ledger.least < txn → has_end (own_records_of txn h) ≡ false → {X : Type 0} → (X → opening.txn < txn) × (has_end (own_records_of txn h) ≡ false)
    unended-passes_ended txn above unended = ((λ other. let least = kept.least in omega arith), unended)

    pub some_rows-some_account_or_record : (length ledger.accounts.rows ≡ 0 → ⊥) → 0 < opening.state.accounts + length h
    some_rows-some_account_or_record some = let same = counted in let most = base_with-accounts_le opening h in let none :
        (base_with opening h).accounts ≡ 0 → ⊥ = (λ is. some (same ∙ is)) in omega (arith, none)

    -- the first record is a Genesis
    pub no_accounts-fails_genesis : (entry : Placed) → (IsGenesis entry.rec → ⊥) → length ledger.accounts.rows ≡ 0 → IsFirstFailing (Passes opening h entry) why.Genesis
    no_accounts-fails_genesis entry other none = record {
      passes = tt;
      fails = λ opens. let some = accounts-some h kept.judged.lawful (opens-some h entry.rec other opens) in let same = counted in omega arith;
    }

    -- there are Genesis records alone, up to this one
    abbrev IsStart : Placed → Type 0
    IsStart entry = (opening.state.accounts ≡ 0) × AllByRecursion (λ (e : Placed). IsGenesis e.rec) (entry ∷ h)

    -- a record that is no Genesis ends the opening
    pub not_genesis-not_start : (entry : Placed) → (IsGenesis entry.rec → ⊥) → (false ≡ true → IsStart entry) × (IsStart entry → false ≡ true)
    not_genesis-not_start entry other = ((λ on. absurd (true≢false (sym on))), (λ start. absurd (other start.1.0)))

    -- a Genesis
    module _ (end account balance : ℕ) where
      abbrev genesis : Placed
      genesis = record { end = end; rec = Genesis account balance }

      pub genesis_after_opening-fails : ledger.is_opening ≡ false → IsFirstFailing (Passes opening h genesis) why.Genesis
      genesis_after_opening-fails off = record { passes = tt; fails = λ opens. true≢false (sym (kept.begins.1 (opens.0, opens.1)) ∙ off) }

      pub genesis_not_next-fails : (account ≡ length ledger.accounts.rows → ⊥) → IsFirstFailing (Passes opening h genesis) why.Genesis
      genesis_not_next-fails other = record {
        passes = tt;
        fails = λ opens. let all = all_genesis-accounts_count opening h opens.1 in let first = opens.0 in let same = counted in let next = opens.2 in other (omega arith);
      }

      pub takes-genesis : (accounts : Accounts) → ledger.is_opening ≡ true → account ≡ length ledger.accounts.rows → IsBalance balance
          → accounts ≡ record ledger.accounts { rows = ledger.accounts.rows ++ (balance, 0) ∷ [] }
          → KeepsLedger opening (record ledger { accounts = accounts }) (genesis ∷ h)
      takes-genesis accounts on next range pushed =
          let start = kept.begins.0 on in let first = start.0 in let all = start.1 in let same = counted in let equal = all_genesis-accounts_count opening h all in record {
            judged = record {
              lawful = (passes-genesis opening h end account balance all first (omega arith), kept.judged.lawful);
              room = ap (λ (a : Accounts). a.room) pushed ∙ kept.judged.room;
              rows = subst (λ (a : Accounts). KeepsRows a.rows (base_with opening (genesis ∷ h)) (genesis ∷ h)) (sym pushed)
                  (keeps_rows-first_genesis opening ledger.accounts.rows h end account balance kept.judged.rows all (omega arith) range (kept.blank first));
            };
            begins = ((λ is. (first, (tt, all))), (λ both. on));
            transactions = first_idle-keeps_transactions ledger.txns genesis h refl refl kept.transactions;
            least = kept.least;
            blank = kept.blank;
          }

    -- an Update
    module _ (end txn : ℕ) (change : Change) (some : 0 < opening.state.accounts + length h) (below : change.account < length ledger.accounts.rows) (above : ledger.least < txn) where
      abbrev update : Placed
      update = record { end = end; rec = Update txn change.account change.delta change.prev }

      known : change.account < (base_with opening h).accounts
      known = let same = counted in omega arith

      pub fails-update-legs : has_end (own_records_of txn h) ≡ false → 2 * MOST_LEGS ≤ length (updates_of txn h) → IsFirstFailing (Passes opening h update) why.Legs
      fails-update-legs unended many = record { passes = (some, (known, (unended-passes_ended txn above unended, tt))); fails = λ few. omega arith }

      pub fails-update-pair : has_end (own_records_of txn h) ≡ false → length (updates_of txn h) < 2 * MOST_LEGS → (IsPaired (updates_of txn h) change → ⊥)
          → IsFirstFailing (Passes opening h update) why.Pair
      fails-update-pair unended few apart = record { passes = (some, (known, (unended-passes_ended txn above unended, (few, tt)))); fails = apart }

      pub fails-update-prev : has_end (own_records_of txn h) ≡ false → length (updates_of txn h) < 2 * MOST_LEGS → IsPaired (updates_of txn h) change
          → (change.prev ≡ (row ledger.accounts.rows change.account).1 → ⊥) → IsFirstFailing (Passes opening h update) why.Prev
      fails-update-prev unended few paired stale = record {
        passes = (some, (known, (unended-passes_ended txn above unended, (few, (paired, tt)))));
        fails = λ names. stale (names ∙ sym (kept.judged.rows.last change.account below));
      }

      pub takes-update : (txns : Transactions) → has_end (own_records_of txn h) ≡ false → length (updates_of txn h) < 2 * MOST_LEGS → IsPaired (updates_of txn h) change
          → change.prev ≡ (row ledger.accounts.rows change.account).1 → KeepsTransactions txns (update ∷ h)
          → KeepsLedger opening (record { accounts = ledger.accounts; is_opening = false; txns = txns; least = ledger.least }) (update ∷ h)
      takes-update txns unended few paired names keeps = record {
        judged = judged-first_same_accounts opening ledger.accounts h end update.rec (λ never. never) refl kept.judged
            (some, (known, (unended-passes_ended txn above unended, (few, (paired, (names ∙ kept.judged.rows.last change.account below, (tt, ((λ on. absurd (true≢false (sym on))), tt))))))));
        begins = not_genesis-not_start update (λ never. never);
        transactions = keeps;
        least = kept.least;
        blank = kept.blank;
      }

    -- a Commit
    module _ (end txn legs : ℕ) (changes : List Change) (on : IsCommitting opening h txn legs changes) where
      abbrev commit : Placed
      commit = record { end = end; rec = Commit txn legs }

      abbrev AreCurrentRows : Type 0
      AreCurrentRows = AllByRecursion (λ (change : Change). change.prev ≡ (row ledger.accounts.rows change.account).1) changes

      pub fails-commit-stale : (AreCurrentRows → ⊥) → IsFirstFailing (Passes opening h commit) why.Stale
      fails-commit-stale stale = fails-stale opening ledger.accounts.rows h txn legs end changes kept.judged.lawful kept.judged.rows on stale

      pub fails-commit-balance : AreCurrentRows → LeavesSome changes ledger.accounts.rows → IsFirstFailing (Passes opening h commit) why.Balance
      fails-commit-balance all leaves = fails-balance opening ledger.accounts.rows h txn legs end changes kept.judged.lawful kept.judged.rows on all leaves

      pub takes-commit : (accounts : Accounts) (txns : Transactions) → AreCurrentRows → accounts.room ≡ ledger.accounts.room → AppliesChanges changes end ledger.accounts.rows accounts.rows
          → KeepsTransactions txns (commit ∷ h) → KeepsLedger opening (record { accounts = accounts; is_opening = false; txns = txns; least = ledger.least }) (commit ∷ h)
      takes-commit accounts txns all room applies keeps = record {
        judged = record {
          lawful = (passes-commit opening ledger.accounts.rows h txn legs end changes kept.judged.lawful kept.judged.rows on all accounts.rows applies, kept.judged.lawful);
          room = room ∙ kept.judged.room;
          rows = committing-applied_keeps_rows opening ledger.accounts.rows h txn legs end changes kept.judged.lawful kept.judged.rows on accounts.rows applies;
        };
        begins = not_genesis-not_start commit (λ never. never);
        transactions = keeps;
        least = kept.least;
        blank = kept.blank;
      }

    -- a Short, an Over
    module _ (end txn leg : ℕ) (some : 0 < opening.state.accounts + length h) (above : ledger.least < txn) (unended : has_end (own_records_of txn h) ≡ false) where
      abbrev short : Placed
      short = record { end = end; rec = Short txn leg }

      abbrev over : Placed
      over = record { end = end; rec = Over txn leg }

      pub fails-short-legs : (length (updates_of txn h) ≡ 2 * (leg - 1) → ⊥) → IsFirstFailing (Passes opening h short) why.Legs
      fails-short-legs other = record { passes = (some, (tt, (unended-passes_ended txn above unended, tt))); fails = other }

      pub fails-over-legs : (length (updates_of txn h) ≡ 2 * (leg - 1) → ⊥) → IsFirstFailing (Passes opening h over) why.Legs
      fails-over-legs other = record { passes = (some, (tt, (unended-passes_ended txn above unended, tt))); fails = other }

      pub takes-short : (txns : Transactions) → length (updates_of txn h) ≡ 2 * (leg - 1) → KeepsTransactions txns (short ∷ h)
          → KeepsLedger opening (record { accounts = ledger.accounts; is_opening = false; txns = txns; least = ledger.least }) (short ∷ h)
      takes-short txns legs keeps = record {
        judged = judged-first_same_accounts opening ledger.accounts h end short.rec (λ never. never) refl kept.judged
            (some, (tt, (unended-passes_ended txn above unended, (legs, (tt, (tt, (tt, ((λ on. absurd (true≢false (sym on))), tt))))))));
        begins = not_genesis-not_start short (λ never. never);
        transactions = keeps;
        least = kept.least;
        blank = kept.blank;
      }

      pub takes-over : (txns : Transactions) → length (updates_of txn h) ≡ 2 * (leg - 1) → KeepsTransactions txns (over ∷ h)
          → KeepsLedger opening (record { accounts = ledger.accounts; is_opening = false; txns = txns; least = ledger.least }) (over ∷ h)
      takes-over txns legs keeps = record {
        judged = judged-first_same_accounts opening ledger.accounts h end over.rec (λ never. never) refl kept.judged
            (some, (tt, (unended-passes_ended txn above unended, (legs, (tt, (tt, (tt, ((λ on. absurd (true≢false (sym on))), tt))))))));
        begins = not_genesis-not_start over (λ never. never);
        transactions = keeps;
        least = kept.least;
        blank = kept.blank;
      }

    -- a Note
    pub takes-note : (end txn : ℕ) (text : List ℕ) → 0 < opening.state.accounts + length h → ledger.least < txn → has_end (own_records_of txn h) ≡ false
        → KeepsLedger opening (record { accounts = ledger.accounts; is_opening = false; txns = ledger.txns; least = ledger.least }) (record { end = end; rec = Note txn text } ∷ h)
    takes-note end txn text some above unended = let note : Placed = record { end = end; rec = Note txn text } in record {
      judged = judged-first_same_accounts opening ledger.accounts h end note.rec (λ never. never) refl kept.judged
          (some, (tt, (unended-passes_ended txn above unended, (tt, (tt, (tt, (tt, ((λ on. absurd (true≢false (sym on))), tt))))))));
      begins = not_genesis-not_start note (λ never. never);
      transactions = first_idle-keeps_transactions ledger.txns note h refl refl kept.transactions;
      least = kept.least;
      blank = kept.blank;
    }

  -- a ledger with the same accounts
  pub keeps_ledger-same_accounts : (ledger : Ledger) (accounts : Accounts) (h : List Placed) → accounts ≡ ledger.accounts → KeepsLedger opening ledger h
      → KeepsLedger opening (record ledger { accounts = accounts }) h
  keeps_ledger-same_accounts ledger accounts h same kept = subst (λ (a : Accounts). KeepsLedger opening (record ledger { accounts = a }) h) (sym same) kept

  -- a ledger with these parts
  pub keeps_ledger-same_parts : (new old : Ledger) (accounts : Accounts) (h : List Placed) → new.accounts ≡ accounts → new.is_opening ≡ false → new.least ≡ old.least
      → KeepsLedger opening (record { accounts = accounts; is_opening = false; txns = new.txns; least = old.least }) h → KeepsLedger opening new h
  keeps_ledger-same_parts new old accounts h same over low keeps =
      subst (λ (l : Ledger). KeepsLedger opening l h) (λ i. record { accounts = sym same i; is_opening = sym over i; txns = new.txns; least = sym low i }) keeps
