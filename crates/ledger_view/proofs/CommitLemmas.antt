-- What a Commit that a judge has taken says.
use Rattle.std.proofs.Common.{◌≡◌, ◌<◌, ◌==◌, ◌||◌, ℕ, pos, ◌+ℤ◌, Bool, true, false, cond, List, [], ◌∷◌, refl, ap, ◌∙◌, subst, eqb-true}
use Rattle.std.specs.List.{AllByRecursion}
use Rattle.log_record.specs.declared.rec.Rec.TheVariants.{Commit}
use Rattle.log_record.specs.declared.rec.Placed.{Placed}
use Rattle.log_record.specs.Spelling.{IsBalance}
use Rattle.lock_core.specs.declared.judge.Judge.{Judge}
use Rattle.lock_core.specs.declared.update.Change.{Change}
use Rattle.lock_core.specs.History.{entry_at}
use Rattle.lock_core.specs.Transactions.{updates_of, open_changes_of, touches}
use Rattle.lock_core.specs.Sums.{Opening}
use Rattle.lock_core.specs.Lawful.{base_with}
use Rattle.lock_core.specs.Taking.{HasJudged}
use Rattle.lock_core.proofs.Meeting.{all_passed-meets_tests, lawful-met}
use Rattle.lock_core.proofs.Pairing.{updates_of-fits}
use Rattle.ledger_view.specs.Entries.{net_of, balance_after}
use Rattle.ledger_view.specs.Entering.{LeadsOn}
use Rattle.ledger_view.specs.ViewedAccounts.{KeepsAccount}
use Rattle.ledger_view.specs.declared.accounts.Account.{Account}
use Rattle.ledger_view.proofs.HistoryLemmas.{judged-balance_after_in_range, commit_balance-adds_net}
use Rattle.ledger_view.proofs.RowLemmas.{last_balance-any_first}

-- an account that changes touch is known where their accounts are
pub touched-known : (count account : ℕ) (changes : List Change) → AllByRecursion (λ (change : Change). change.account < count) changes
    → touches account changes ≡ true → account < count
touched-known count account [] known on = absurd (cc)
touched-known count account (change ∷ changes) known on =
    by_case (change.account == account) refl on (λ later. touched-known count account changes known.1 later)
  where
    by_case : (b : Bool) → (change.account == account) ≡ b → (b || touches account changes) ≡ true
        → (touches account changes ≡ true → account < count) → account < count
    by_case true is on' behind = subst (λ a. a < count) (eqb-true change.account account is) known.0
    by_case false is on' behind = behind on'

module _ (opening : Opening) (old judge : Judge) (h : List Placed) (lsn txn legs : ℕ) (was : HasJudged opening old h)
    (judged : HasJudged opening judge (entry_at lsn (Commit txn legs) ∷ h)) where
  abbrev commit : Placed
  commit = entry_at lsn (Commit txn legs)

  -- its transaction had no end before, so all its Updates are open
  pub open_changes-updates : open_changes_of txn h ≡ updates_of txn h
  open_changes-updates = ap (λ b. cond b [] (updates_of txn h)) (all_passed-meets_tests opening h commit judged.ledger.judged.lawful.0).ended

  -- of accounts that there are
  pub updates-known : AllByRecursion (λ (change : Change). change.account < (base_with opening h).accounts) (updates_of txn h)
  updates-known = (updates_of-fits (base_with opening h) h txn (lawful-met opening h was.ledger.judged.lawful)).known

  module _ (account : ℕ) (inside : account < (base_with opening h).accounts) where
    -- it adds its net to the balance of an account
    pub commit-adds : IsBalance (balance_after opening h account)
        × (pos (balance_after opening (commit ∷ h) account) ≡ pos (balance_after opening h account) +ℤ net_of account (updates_of txn h))
    commit-adds =
        let before = judged-balance_after_in_range opening old h account was inside in
        let after = judged-balance_after_in_range opening judge (commit ∷ h) account judged inside in (
          before.0,
          commit_balance-adds_net opening txn legs commit.end h account (balance_after opening h account) (balance_after opening (commit ∷ h) account)
              (all_passed-meets_tests opening h commit judged.ledger.judged.lawful.0).ended before.1 after.1,
        )

    -- which leads on from what is kept of it
    pub commit-leads_on : (kept : Account) → KeepsAccount opening h account kept
        → LeadsOn kept.entries (net_of account (updates_of txn h)) (balance_after opening (commit ∷ h) account)
    commit-leads_on kept keeps = record {
      before = balance_after opening h account;
      range = commit-adds.0;
      sum = commit-adds.1;
      last = λ first some. last_balance-any_first first keeps.first kept.entries some ∙ keeps.last;
    }
