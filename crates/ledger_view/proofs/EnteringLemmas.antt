-- A Commit's entries, change by change.
use Rattle.std.proofs.Common.{◌≡◌, ◌≢◌, ◌<◌, ◌==◌, ◌||◌, ℕ, ℤ, Bool, true, false, true≢false, List, [], ◌∷◌, ◌++◌, length, get_or, set, refl, ap, ◌∙◌}
use Rattle.std.proofs.Common.{sym, subst, arith, eq-eqb, eqb-true, get_or-set_same, get_or-set_other, length-set}
use Rattle.std.proofs.lemmas.List.{get_or_default}
use mathlib.Core.Logic.{dite}
use native.Mathlib.Decide.{ℕ_discrete}
use Rattle.log_record.specs.declared.rec.Placed.{Placed}
use Rattle.lock_core.specs.declared.update.Change.{Change}
use Rattle.lock_core.specs.Transactions.{touches}
use Rattle.lock_core.specs.Sums.{Opening}
use Rattle.lock_core.proofs.OneMore.{or_false-both_false}
use Rattle.lock_core.proofs.ChangesLemmas.{touches-more}
use Rattle.ledger_view.specs.declared.entries.Entry.{Entry}
use Rattle.ledger_view.specs.declared.accounts.Account.{Account}
use Rattle.ledger_view.specs.Entries.{net_of, balance_after}
use Rattle.ledger_view.specs.ViewedAccounts.{last_balance, untouched, account_at}
use Rattle.ledger_view.specs.Entering.{with_entry, LeadsOn, Enters}
use Rattle.ledger_view.specs.declared.rows.Row.{Row}
use Rattle.ledger_view.specs.Rows.{entry_of_row}
use Rattle.ledger_view.proofs.RowLemmas.{entry_of_row-net}

-- the entry of a net behind others, and the first
pub next_entry_of_row-net : (entries same : List Entry) (net : ℤ) (row : Row) → LeadsOn entries net row.balance → 0 < length entries → same ≡ entries
    → same ++ entry_of_row (last_balance 0 same) row ∷ [] ≡ entries ++ record { end = row.end; txn = row.txn; net = net; balance = row.balance } ∷ []
next_entry_of_row-net entries same net row leads some is =
    (λ i. is i ++ entry_of_row ((ap (last_balance 0) is ∙ leads.last 0 some) i) row ∷ [])
    ∙ ap (λ (e : Entry). entries ++ e ∷ []) (entry_of_row-net leads.before row net leads.sum)

pub first_entry_of_row-net : (entries : List Entry) (first : ℕ) (net : ℤ) (row : Row) → (leads : LeadsOn entries net row.balance) → length entries ≡ 0 → first ≡ leads.before
    → entry_of_row first row ∷ [] ≡ entries ++ record { end = row.end; txn = row.txn; net = net; balance = row.balance } ∷ []
first_entry_of_row-net [] first net row leads none is =
    ap (λ n. entry_of_row n row ∷ []) is ∙ ap (λ (e : Entry). e ∷ []) (entry_of_row-net leads.before row net leads.sum)
first_entry_of_row-net (x ∷ entries) first net row leads none is = absurd (omega arith)

-- what stands at an account's place is what is kept of it
pub kept_at-account_at : (rows accounts : List Account) (account : ℕ) (kept : Account) → rows ≡ accounts → account < length accounts
    → kept ≡ get_or rows account kept → kept ≡ account_at accounts account
kept_at-account_at rows accounts account kept seen inside is =
    is ∙ ap (λ l. get_or l account kept) seen ∙ get_or_default accounts account kept untouched inside

-- an account that is written back with an entry more
pub set-with_entry : (rows accounts : List Account) (account : ℕ) (kept : Account) (entries : List Entry) (entry : Entry) → rows ≡ accounts → account < length accounts
    → kept ≡ get_or rows account kept → (kept ≡ account_at accounts account → entries ≡ (account_at accounts account).entries ++ entry ∷ [])
    → set rows account (record { since = kept.since; entries = entries }) ≡ set accounts account (with_entry (account_at accounts account) entry)
set-with_entry rows accounts account kept entries entry seen inside is grown =
    let same = kept_at-account_at rows accounts account kept seen inside is in
    λ i. set (seen i) account (record { since = (same i).since; entries = grown same i })

module _ (opening : Opening) (h : List Placed) (txn end : ℕ) (changes : List Change) where
  pub enters-none : (old : List Account) → Enters opening h txn end changes [] old old
  enters-none old = record { count = refl; done = λ account on. absurd (true≢false (sym on)); left = λ account off. refl }

  -- the entry of an account
  abbrev own_entry : ℕ → Entry
  own_entry account = record { end = end; txn = txn; net = net_of account changes; balance = balance_after opening h account }

  module _ (some : List Change) (change : Change) (old new : List Account) (before : Enters opening h txn end changes some old new) where
    -- an account other than the change's is touched by those before it
    by_other : (account : ℕ) → account ≢ change.account → touches account (some ++ change ∷ []) ≡ true → touches account some ≡ true
    by_other account other touched = by_case (touches account some) refl (sym (touches-more account some change) ∙ touched)
      where
        by_case : (b : Bool) → touches account some ≡ b → (touches account some || (change.account == account)) ≡ true → touches account some ≡ true
        by_case true is either = is
        by_case false is either = absurd (other (sym (eqb-true change.account account (sym (ap (λ b. b || (change.account == account)) is) ∙ either))))

    -- a change on an account that has its entry
    pub enters-push_touched : touches change.account some ≡ true → Enters opening h txn end changes (some ++ change ∷ []) old new
    enters-push_touched on = record {
      count = before.count;
      done = λ account touched. dite (ℕ_discrete account change.account)
          (λ same. before.done account (ap (λ a. touches a some) same ∙ on))
          (λ other. before.done account (by_other account other touched));
      left = λ account untouched. before.left account (or_false-both_false (touches account some) (change.account == account) (sym (touches-more account some change) ∙ untouched)).0;
    }

    -- a change on another account gives that one its entry
    pub enters-push_untouched : (newer : List Account) (entry : Entry) → touches change.account some ≡ false → change.account < length old
        → newer ≡ set new change.account (with_entry (account_at new change.account) entry) → entry ≡ own_entry change.account
        → Enters opening h txn end changes (some ++ change ∷ []) old newer
    enters-push_untouched newer entry off inside is made = let counted = before.count in record {
      count = ap length is ∙ length-set new change.account (with_entry (account_at new change.account) entry) ∙ before.count;
      done = λ account touched. dite (ℕ_discrete account change.account)
          (λ same. subst (λ a. account_at newer a ≡ with_entry (account_at old a) (own_entry a)) (sym same) own)
          (λ other. row-other account other ∙ before.done account (by_other account other touched));
      left = λ account untouched.
          let parts = or_false-both_false (touches account some) (change.account == account) (sym (touches-more account some change) ∙ untouched) in
          row-other account (λ same. true≢false (sym (eq-eqb change.account account (sym same)) ∙ parts.1)) ∙ before.left account parts.0;
    }
      where
        row-other : (account : ℕ) → account ≢ change.account → account_at newer account ≡ account_at new account
        row-other account other = ap (λ accounts. account_at accounts account) is
            ∙ get_or-set_other new change.account account (with_entry (account_at new change.account) entry) untouched other

        own : account_at newer change.account ≡ with_entry (account_at old change.account) (own_entry change.account)
        own = let counted = before.count in ap (λ accounts. account_at accounts change.account) is
            ∙ get_or-set_same new change.account (with_entry (account_at new change.account) entry) untouched (omega arith)
            ∙ (λ i. with_entry (before.left change.account off i) (made i))
