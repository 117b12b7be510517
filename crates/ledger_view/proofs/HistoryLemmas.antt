-- What one more record does to the balance of an account, and to what is known of it.
use Rattle.std.proofs.Common.{◌≡◌, ◌≤◌, ◌<◌, ℕ, ◌+◌, ◌-◌, ℤ, pos, ◌+ℤ◌, Bool, true, false, cond, nat_le, Some, None, List, [], ◌∷◌, length, refl, ap}
use Rattle.std.proofs.Common.{◌∙◌, sym, subst, arith, le_refl, le_trans, le-leb, lt-ltb, le-ltb, ne_eqb}
use Rattle.std.proofs.lemmas.Bool.{lt-leb}
use Rattle.std.proofs.lemmas.Int.{ints}
use Rattle.std.specs.List.{AllByRecursion}
use Rattle.log_record.specs.declared.rec.Rec.{Rec}
use Rattle.log_record.specs.declared.rec.Placed.{Placed}
use Rattle.log_record.specs.declared.rec.Rec.TheVariants.{Genesis, Update, Commit, Short, Over, Note}
use Rattle.log_record.specs.Spelling.{IsBalance}
use Rattle.lock_core.specs.declared.judge.Judge.{Judge}
use Rattle.lock_core.specs.Records.{gain, loss}
use Rattle.lock_core.specs.Transactions.{own_records_of, updates_of, has_end}
use Rattle.lock_core.specs.Sums.{Opening, moved, total, IsBalanceOf}
use Rattle.lock_core.specs.Tests.{IsGenesis}
use Rattle.lock_core.specs.Lawful.{tests, Passes, base_with, with_genesis}
use Rattle.lock_core.specs.AccountRows.{row}
use Rattle.lock_core.specs.Taking.{HasJudged}
use Rattle.lock_core.proofs.OneMore.{has_commit-unended, total-uncommitted, total-no_change, total-commit}
use Rattle.lock_core.proofs.ChangesLemmas.{moved-untouched}
use Rattle.lock_core.proofs.Meeting.{all_passed-meets_tests}
use Rattle.lock_core.proofs.Ranging.{is_balance-equals_balance_of}
use Rattle.lock_core.proofs.KindLemmas.{all_genesis-accounts_count, total-genesis}
use Rattle.ledger_view.specs.Entries.{net_of, balance_after, is_commit_on, entries_of, front_to, balance_if_known, balance_up_to}
use Rattle.ledger_view.proofs.NetLemmas.{net_of-moved}

module _ (opening : Opening) where
  pub accounts-grow : (h : List Placed) (rec : Rec) → (base_with opening h).accounts ≤ (with_genesis rec (base_with opening h)).accounts
  accounts-grow h (Genesis account balance) = omega arith
  accounts-grow h (Update txn account delta prev) = omega arith
  accounts-grow h (Commit txn legs) = omega arith
  accounts-grow h (Short txn leg) = omega arith
  accounts-grow h (Over txn leg) = omega arith
  accounts-grow h (Note txn text) = omega arith

  -- what is known up to an LSN is known
  pub accounts-front : (h : List Placed) (lsn : ℕ) → (base_with opening (front_to h lsn)).accounts ≤ (base_with opening h).accounts
  accounts-front [] lsn = le_refl (base_with opening []).accounts
  accounts-front (entry ∷ h) lsn = by_case (nat_le entry.end lsn) (accounts-front h lsn)
    where
      by_case : (b : Bool) → (base_with opening (front_to h lsn)).accounts ≤ (base_with opening h).accounts
          → (base_with opening (cond b (entry ∷ h) (front_to h lsn))).accounts ≤ (base_with opening (entry ∷ h)).accounts
      by_case true before = le_refl (base_with opening (entry ∷ h)).accounts
      by_case false before = le_trans before (accounts-grow h entry.rec)

  pub balance-if_known : (h : List Placed) (account : ℕ) → account < (base_with opening h).accounts
      → balance_if_known opening h account ≡ Some (balance_after opening h account)
  balance-if_known h account inside = ap (λ b. cond b (Some (balance_after opening h account)) None) (lt-ltb account (base_with opening h).accounts inside)

  pub balance-if_unknown : (h : List Placed) (account : ℕ) → (base_with opening h).accounts ≤ account → balance_if_known opening h account ≡ None
  balance-if_unknown h account past = ap (λ b. cond b (Some (balance_after opening h account)) None) (le-ltb account (base_with opening h).accounts past)

  -- an entry changes nothing up to an LSN below its end
  pub balance_up_to-below_end : (entry : Placed) (h : List Placed) (account lsn : ℕ) → lsn < entry.end
      → balance_up_to opening (entry ∷ h) account lsn ≡ balance_up_to opening h account lsn
  balance_up_to-below_end entry h account lsn below =
      ap (λ b. balance_if_known opening (cond b (entry ∷ h) (front_to h lsn)) account) (lt-leb entry.end lsn below)

  -- and counts from there on
  pub balance_up_to-from_end : (entry : Placed) (h : List Placed) (account lsn : ℕ) → entry.end ≤ lsn → account < (base_with opening (entry ∷ h)).accounts
      → balance_up_to opening (entry ∷ h) account lsn ≡ Some (balance_after opening (entry ∷ h) account)
  balance_up_to-from_end entry h account lsn from inside =
      ap (λ b. balance_if_known opening (cond b (entry ∷ h) (front_to h lsn)) account) (le-leb entry.end lsn from)
      ∙ balance-if_known (entry ∷ h) account inside

  -- the balance of before where neither the first balance nor a sum changes
  balance-same : (entry : Placed) (h : List Placed) (account : ℕ) → (base_with opening (entry ∷ h)).balance account ≡ (base_with opening h).balance account
      → ((side : ℤ → ℕ) → total side account (entry ∷ h) ≡ total side account h) → balance_after opening (entry ∷ h) account ≡ balance_after opening h account
  balance-same entry h account base sums = λ i. (base i + sums gain i) - sums loss i

  -- an entry that is no Commit on the account leaves its balance
  pub balance_after-no_commit : (entry : Placed) (h : List Placed) (account : ℕ) → AllByRecursion (Passes opening h entry) tests
      → account < (base_with opening h).accounts → is_commit_on account entry h ≡ false → balance_after opening (entry ∷ h) account ≡ balance_after opening h account
  balance_after-no_commit entry h account passes inside off = by_kind entry.rec entry.end passes off
    where
      by_kind : (rec : Rec) (end : ℕ) → AllByRecursion (Passes opening h (record { end = end; rec = rec })) tests
          → is_commit_on account (record { end = end; rec = rec }) h ≡ false
          → balance_after opening (record { end = end; rec = rec } ∷ h) account ≡ balance_after opening h account
      by_kind (Genesis own balance) end passes off =
          let count = all_genesis-accounts_count opening h passes.0.1 in let none = passes.0.0 in let next = passes.0.2 in
          let entry : Placed = record { end = end; rec = Genesis own balance } in
          balance-same entry h account
          (ap (λ b. cond b balance ((base_with opening h).balance account)) (ne_eqb account own (λ same. absurd (omega arith))))
          (λ side. total-no_change side account entry h refl refl)
      by_kind (Update txn own delta prev) end passes off =
          let entry : Placed = record { end = end; rec = Update txn own delta prev } in
          balance-same entry h account refl
          (λ side. total-uncommitted side account entry h refl (has_commit-unended (own_records_of txn h) (all_passed-meets_tests opening h entry passes).ended))
      by_kind (Commit txn legs) end passes off =
          let entry : Placed = record { end = end; rec = Commit txn legs } in
          balance-same entry h account refl
          (λ side. total-commit side account entry h refl (has_commit-unended (own_records_of txn h) (all_passed-meets_tests opening h entry passes).ended)
          ∙ ap (λ n. total side account h + n) (moved-untouched side account (updates_of txn h) off) ∙ omega arith)
      by_kind (Short txn leg) end passes off =
          let entry : Placed = record { end = end; rec = Short txn leg } in balance-same entry h account refl (λ side. total-no_change side account entry h refl refl)
      by_kind (Over txn leg) end passes off =
          let entry : Placed = record { end = end; rec = Over txn leg } in balance-same entry h account refl (λ side. total-no_change side account entry h refl refl)
      by_kind (Note txn text) end passes off =
          let entry : Placed = record { end = end; rec = Note txn text } in balance-same entry h account refl (λ side. total-no_change side account entry h refl refl)

  -- a balance that a judge keeps
  pub judged-balance_after_in_range : (judge : Judge) (h : List Placed) (account : ℕ) → HasJudged opening judge h → account < (base_with opening h).accounts
      → IsBalance (balance_after opening h account) × IsBalanceOf (base_with opening h) h account (balance_after opening h account)
  judged-balance_after_in_range judge h account judged inside =
      let rows = judged.ledger.judged.rows in let counted = rows.count in
      let within : account < length judge.ledger.accounts.rows = omega arith in
      let balance : ℕ = (row judge.ledger.accounts.rows account).0 in
      let is = rows.balance account within in
      subst (λ n. IsBalance n × IsBalanceOf (base_with opening h) h account n) (sym (is_balance-equals_balance_of (base_with opening h) h account balance is)) (rows.range account within, is)

  -- a Commit adds its net to the balance
  pub commit_balance-adds_net : (txn legs end : ℕ) (h : List Placed) (account before after : ℕ) → has_end (own_records_of txn h) ≡ false
      → IsBalanceOf (base_with opening h) h account before
      → IsBalanceOf (base_with opening h) (record { end = end; rec = Commit txn legs } ∷ h) account after
      → pos after ≡ pos before +ℤ net_of account (updates_of txn h)
  commit_balance-adds_net txn legs end h account before after unended was is =
      let entry : Placed = record { end = end; rec = Commit txn legs } in
      let gains = total-commit gain account entry h refl (has_commit-unended (own_records_of txn h) unended) in
      let losses = total-commit loss account entry h refl (has_commit-unended (own_records_of txn h) unended) in
      let net = net_of-moved account (updates_of txn h) in
      let step : after + moved loss account (updates_of txn h) ≡ before + moved gain account (updates_of txn h) = omega arith in
      omega (arith, ints)

  -- Genesis records make no entry
  pub entries-genesis : (h : List Placed) (account : ℕ) → AllByRecursion (λ (entry : Placed). IsGenesis entry.rec) h → entries_of opening h account ≡ []
  entries-genesis [] account all = refl
  entries-genesis (entry ∷ h) account all = by_kind entry.rec entry.end all.0 (entries-genesis h account all.1)
    where
      by_kind : (rec : Rec) (end : ℕ) → IsGenesis rec → entries_of opening h account ≡ [] → entries_of opening (record { end = end; rec = rec } ∷ h) account ≡ []
      by_kind (Genesis own balance) end is before = before
      by_kind (Update txn own delta prev) end is before = absurd is
      by_kind (Commit txn legs) end is before = absurd is
      by_kind (Short txn leg) end is before = absurd is
      by_kind (Over txn leg) end is before = absurd is
      by_kind (Note txn text) end is before = absurd is

  -- behind Genesis records alone each account has its first balance
  pub balance_after-all_genesis : (h : List Placed) (account : ℕ) → AllByRecursion (λ (entry : Placed). IsGenesis entry.rec) h
      → (base_with opening h).balance account ≡ balance_after opening h account
  balance_after-all_genesis h account all = let gains = total-genesis gain account h all in let losses = total-genesis loss account h all in omega arith

  -- an entry leaves the first balance of an account that is known
  pub base_balance-one_entry_more : (entry : Placed) (h : List Placed) (account : ℕ) → AllByRecursion (Passes opening h entry) tests
      → account < (base_with opening h).accounts → (base_with opening h).balance account ≡ (base_with opening (entry ∷ h)).balance account
  base_balance-one_entry_more entry h account passes inside = by_kind entry.rec entry.end passes
    where
      by_kind : (rec : Rec) (end : ℕ) → AllByRecursion (Passes opening h (record { end = end; rec = rec })) tests
          → (base_with opening h).balance account ≡ (with_genesis rec (base_with opening h)).balance account
      by_kind (Genesis own balance) end passes =
          let count = all_genesis-accounts_count opening h passes.0.1 in let none = passes.0.0 in let next = passes.0.2 in
          sym (ap (λ b. cond b balance ((base_with opening h).balance account)) (ne_eqb account own (λ same. absurd (omega arith))))
      by_kind (Update txn own delta prev) end passes = refl
      by_kind (Commit txn legs) end passes = refl
      by_kind (Short txn leg) end passes = refl
      by_kind (Over txn leg) end passes = refl
      by_kind (Note txn text) end passes = refl
