-- How what is kept of one account goes on by one entry of the history.
use Rattle.std.proofs.Common.{◌≡◌, ◌≤◌, ◌<◌, ℕ, pos, ◌+ℤ◌, true, false, cond, Some, List, [], ◌∷◌, ◌++◌, refl, ap, ◌∙◌, sym, subst, arith, le_refl, le_trans, lt_of_lt_of_le, zero-le}
use mathlib.Core.Logic.{dite}
use native.Mathlib.Decide.{dec_lt}
use Rattle.std.specs.List.{AllByRecursion}
use Rattle.log_record.specs.declared.rec.Placed.{Placed}
use Rattle.log_record.specs.Spelling.{IsBalance}
use Rattle.lock_core.specs.Records.{txn_of}
use Rattle.lock_core.specs.Transactions.{updates_of}
use Rattle.lock_core.specs.Sums.{Opening}
use Rattle.lock_core.specs.Tests.{IsGenesis}
use Rattle.lock_core.specs.Lawful.{tests, Passes, base_with}
use Rattle.lsn_space.proofs.TilingLemmas.{all-append}
use Rattle.ledger_view.specs.declared.entries.Entry.{Entry}
use Rattle.ledger_view.specs.declared.accounts.Account.{Account}
use Rattle.ledger_view.specs.Entries.{net_of, balance_after, is_commit_on, entry_of, entries_of, front_to, balance_up_to}
use Rattle.ledger_view.specs.ViewedAccounts.{balance_to, KeepsAccount, untouched}
use Rattle.ledger_view.specs.Entering.{with_entry}
use Rattle.ledger_view.proofs.EntryLemmas.{last_balance-append, balance_to-append_behind, balance_to-all, all_ends_le-weaken, add_up-append}
use Rattle.ledger_view.proofs.HistoryLemmas.{accounts-grow, accounts-front, balance-if_known, balance-if_unknown, balance_up_to-below_end}
use Rattle.ledger_view.proofs.HistoryLemmas.{balance_up_to-from_end, balance_after-no_commit, base_balance-one_entry_more, balance_after-all_genesis}
use Rattle.ledger_view.proofs.HistoryLemmas.{entries-genesis}

-- what is kept of an account stands at or below an LSN
pub record StandsBelow (lsn : ℕ) (kept : Account) : Type 0 where
  pub begun : kept.since ≤ lsn
  pub past : AllByRecursion (λ entry. entry.end ≤ lsn) kept.entries

pub stands_below-weaken : (low high : ℕ) (kept : Account) → low ≤ high → StandsBelow low kept → StandsBelow high kept
stands_below-weaken low high kept more below = record { begun = le_trans below.begun more; past = all_ends_le-weaken kept.entries low high more below.past }

module _ (opening : Opening) where
  -- an account of the opening
  pub keeps_account-none : (account : ℕ) → account < (base_with opening []).accounts → KeepsAccount opening [] account untouched
  keeps_account-none account inside = record {
    first = (base_with opening []).balance account;
    base = refl;
    entries = refl;
    sums = tt;
    last = balance_after-all_genesis opening [] account tt;
    begun = zero-le;
    past = tt;
    before = λ lsn less. absurd (omega arith);
    since = λ lsn from. balance-if_known opening [] account inside ∙ ap Some (sym (balance_after-all_genesis opening [] account tt));
  }

  module _ (entry : Placed) (h : List Placed) (account : ℕ) where
    abbrev longer : List Placed
    longer = entry ∷ h

    -- an account that the entry opens
    pub keeps_account-opened : AllByRecursion (λ (e : Placed). IsGenesis e.rec) longer → (base_with opening h).accounts ≤ account → account < (base_with opening longer).accounts
        → KeepsAccount opening longer account (record { since = entry.end; entries = [] })
    keeps_account-opened all past inside = record {
      first = (base_with opening longer).balance account;
      base = refl;
      entries = sym (entries-genesis opening longer account all);
      sums = tt;
      last = balance_after-all_genesis opening longer account all;
      begun = le_refl entry.end;
      past = tt;
      before = λ lsn less. balance_up_to-below_end opening entry h account lsn less ∙ balance-if_unknown opening (front_to h lsn) account (le_trans (accounts-front opening h lsn) past);
      since = λ lsn from. balance_up_to-from_end opening entry h account lsn from inside ∙ ap Some (sym (balance_after-all_genesis opening longer account all));
    }

    module _ (kept : Account) (below : StandsBelow entry.end kept) (passes : AllByRecursion (Passes opening h entry) tests)
        (inside : account < (base_with opening h).accounts) (was : KeepsAccount opening h account kept) where
      within : account < (base_with opening longer).accounts
      within = lt_of_lt_of_le inside (accounts-grow opening h entry.rec)

      -- before the entry nothing changes
      before-entry : (lsn : ℕ) → kept.since ≤ lsn → lsn < entry.end → balance_up_to opening longer account lsn ≡ Some (balance_to was.first kept.entries lsn)
      before-entry lsn from less = balance_up_to-below_end opening entry h account lsn less ∙ was.since lsn from

      -- an account on which the entry is no Commit
      pub keeps_account-no_commit : is_commit_on account entry h ≡ false → KeepsAccount opening longer account kept
      keeps_account-no_commit off = record {
        first = was.first;
        base = was.base ∙ base_balance-one_entry_more opening entry h account passes inside;
        entries = was.entries ∙ sym (ap (λ b. cond b (entries_of opening h account ++ entry_of opening entry h account ∷ []) (entries_of opening h account)) off);
        sums = was.sums;
        last = was.last ∙ sym stays;
        begun = below.begun;
        past = below.past;
        before = λ lsn less. balance_up_to-below_end opening entry h account lsn (lt_of_lt_of_le less below.begun) ∙ was.before lsn less;
        since = λ lsn from. dite (dec_lt lsn entry.end) (before-entry lsn from)
            (λ not_less. let at : entry.end ≤ lsn = omega arith in
            balance_up_to-from_end opening entry h account lsn at within
            ∙ ap Some (stays ∙ sym was.last ∙ sym (balance_to-all was.first kept.entries lsn (all_ends_le-weaken kept.entries entry.end lsn at below.past))));
      }
        where
          stays : balance_after opening longer account ≡ balance_after opening h account
          stays = balance_after-no_commit opening entry h account passes inside off

      -- an account on which it is a Commit
      pub keeps_account-commit : is_commit_on account entry h ≡ true → IsBalance (balance_after opening h account)
          → pos (balance_after opening longer account) ≡ pos (balance_after opening h account) +ℤ net_of account (updates_of (txn_of entry.rec) h)
          → KeepsAccount opening longer account (with_entry kept (entry_of opening entry h account))
      keeps_account-commit on range net = record {
        first = was.first;
        base = was.base ∙ base_balance-one_entry_more opening entry h account passes inside;
        entries = (λ i. was.entries i ++ own ∷ []) ∙ sym (ap (λ b. cond b (entries_of opening h account ++ own ∷ []) (entries_of opening h account)) on);
        sums = add_up-append 0 was.first kept.entries own zero-le below.past (subst IsBalance (sym was.last) range)
            (net ∙ ap (λ n. pos n +ℤ own.net) (sym was.last)) was.sums;
        last = last_balance-append was.first kept.entries own;
        begun = below.begun;
        past = ends entry.end (le_refl entry.end);
        before = λ lsn less. balance_up_to-below_end opening entry h account lsn (lt_of_lt_of_le less below.begun) ∙ was.before lsn less;
        since = λ lsn from. dite (dec_lt lsn entry.end)
            (λ less. before-entry lsn from less ∙ ap Some (sym (balance_to-append_behind was.first kept.entries own lsn less)))
            (λ not_less. let at : entry.end ≤ lsn = omega arith in
            balance_up_to-from_end opening entry h account lsn at within
            ∙ ap Some (sym (balance_to-all was.first (kept.entries ++ own ∷ []) lsn (ends lsn at) ∙ last_balance-append was.first kept.entries own)));
      }
        where
          own : Entry
          own = entry_of opening entry h account

          ends : (lsn : ℕ) → entry.end ≤ lsn → AllByRecursion (λ (e : Entry). e.end ≤ lsn) (kept.entries ++ own ∷ [])
          ends lsn at = all-append (λ (e : Entry). e.end ≤ lsn) kept.entries (own ∷ []) (all_ends_le-weaken kept.entries entry.end lsn at below.past) (at, tt)
