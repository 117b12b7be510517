-- How what a view of one account keeps goes on by one record.
use Rattle.std.proofs.Common.{◌≡◌, ◌<◌, ◌≤◌, ℕ, ◌+◌, ◌&&◌, true, false, List, [], ◌∷◌, ◌++◌, refl, ap, ◌∙◌, sym, subst, arith, le_trans}
use mathlib.Core.Logic.{dite}
use native.Mathlib.Decide.{dec_lt}
use Rattle.log_record.specs.declared.rec.Rec.{Rec}
use Rattle.log_record.specs.declared.rec.Rec.TheVariants.{Genesis, Update, Commit, Short, Over, Note}
use Rattle.log_record.specs.declared.rec.Placed.{Placed}
use Rattle.lock_core.specs.declared.judge.Judge.{Judge}
use Rattle.lock_core.specs.History.{end_from, entry_at}
use Rattle.lock_core.specs.Records.{txn_of, commits}
use Rattle.lock_core.specs.declared.update.Change.{Change}
use Rattle.lock_core.specs.Transactions.{updates_of, open_changes_of, touches}
use Rattle.lock_core.specs.Sums.{Opening}
use Rattle.lock_core.specs.Lawful.{base_with}
use Rattle.lock_core.specs.Taking.{HasJudged, count_of}
use Rattle.ledger_view.specs.declared.entries.Entry.{Entry}
use Rattle.ledger_view.specs.declared.accounts.Account.{Account}
use Rattle.ledger_view.specs.declared.account_view.AccountView.{AccountView}
use Rattle.log_record.specs.Spelling.{IsBalance}
use Rattle.ledger_view.specs.Entries.{net_of, balance_after, is_commit_on, entry_of}
use Rattle.ledger_view.specs.Entering.{LeadsOn}
use Rattle.ledger_view.specs.KeptAccount.{HasKept}
use Rattle.ledger_view.specs.ViewedAccounts.{last_balance, AddUp, KeepsAccount}
use Rattle.ledger_view.proofs.CommitLemmas.{touched-known, open_changes-updates, updates-known, commit-adds, commit-leads_on}
use Rattle.ledger_view.proofs.HistoryLemmas.{accounts-grow, judged-balance_after_in_range}
use Rattle.ledger_view.proofs.KeepingLemmas.{StandsBelow, stands_below-weaken, keeps_account-none, keeps_account-opened, keeps_account-no_commit, keeps_account-commit}

-- a record that is no Commit
pub other_kind-no_commit : (rec : Rec) → ((txn legs : ℕ) → rec ≡ Commit txn legs → ⊥) → commits rec ≡ false
other_kind-no_commit (Genesis account balance) none = refl
other_kind-no_commit (Update txn account delta prev) none = refl
other_kind-no_commit (Commit txn legs) none = absurd (none txn legs refl)
other_kind-no_commit (Short txn leg) none = refl
other_kind-no_commit (Over txn leg) none = refl
other_kind-no_commit (Note txn text) none = refl

-- behind an opening
pub kept-none : (account : ℕ) (opening : Opening) (view : AccountView) → view.account ≡ account → HasJudged opening view.judge [] → view.entries ≡ []
    → HasKept account opening view []
kept-none account opening view of judged none = record {
  of = of;
  judged = judged;
  known = λ inside. (
    0,
    subst (λ (entries : List Entry). KeepsAccount opening [] account (record { since = 0; entries = entries })) (sym none)
        (keeps_account-none opening account inside),
  );
  unknown = λ past. none;
}

-- where the entries of the account lead, if it is there
module _ (account : ℕ) (opening : Opening) (view : AccountView) (h : List Placed) (kept : HasKept account opening view h)
    (inside : view.account < (base_with opening h).accounts) where
  pub kept-inside : account < (base_with opening h).accounts
  kept-inside = subst (λ a. a < (base_with opening h).accounts) kept.of inside

  pub kept-sums : (last : ℕ) → last ≡ balance_after opening h view.account
      → (first : ℕ) × AddUp 0 first view.entries × (last ≡ last_balance first view.entries)
  kept-sums last is = let was = (kept.known kept-inside).1 in
      (was.first, was.sums, is ∙ ap (balance_after opening h) kept.of ∙ sym was.last)

  -- and begin
  pub kept-first : (last first : ℕ) → last ≡ balance_after opening h view.account
      → ((begun : ℕ) → AddUp 0 begun view.entries → last ≡ last_balance begun view.entries → first ≡ begun)
      → first ≡ (base_with opening h).balance account
  kept-first last first is told = let was = (kept.known kept-inside).1 in
      told was.first was.sums (is ∙ ap (balance_after opening h) kept.of ∙ sym was.last) ∙ was.base

module _ (account : ℕ) (opening : Opening) (old : AccountView) (h : List Placed) (kept : HasKept account opening old h) (lsn : ℕ)
    (here : lsn ≡ end_from opening.state.end h) (judge : Judge) where
  -- what is kept of the account, if it is there
  abbrev kept_since : ℕ → Account
  kept_since since = record { since = since; entries = old.entries }

  -- it stands at or below the end of the record to come
  stands : (rec : Rec) (since : ℕ) → KeepsAccount opening h account (kept_since since) → StandsBelow (entry_at lsn rec).end (kept_since since)
  stands rec since keeps = stands_below-weaken lsn (entry_at lsn rec).end (kept_since since) (omega arith)
      (subst (λ end. StandsBelow end (kept_since since)) (sym here) (record { begun = keeps.begun; past = keeps.past }))

  -- an account that the record opens
  opened : (rec : Rec) → HasJudged opening judge (entry_at lsn rec ∷ h) → (base_with opening h).accounts ≤ account
      → account < (base_with opening (entry_at lsn rec ∷ h)).accounts
      → KeepsAccount opening (entry_at lsn rec ∷ h) account (record { since = (entry_at lsn rec).end; entries = [] })
  opened (Genesis own balance) judged past inside =
      keeps_account-opened opening (entry_at lsn (Genesis own balance)) h account (tt, judged.ledger.judged.lawful.0.0.1) past inside
  opened (Update txn own delta prev) judged past inside = absurd (omega arith)
  opened (Commit txn legs) judged past inside = absurd (omega arith)
  opened (Short txn leg) judged past inside = absurd (omega arith)
  opened (Over txn leg) judged past inside = absurd (omega arith)
  opened (Note txn text) judged past inside = absurd (omega arith)

  -- a record that is no Commit on the account
  pub kept-no_commit : (rec : Rec) → HasJudged opening judge (entry_at lsn rec ∷ h) → is_commit_on account (entry_at lsn rec) h ≡ false
      → HasKept account opening (record { account = old.account; judge = judge; entries = old.entries }) (entry_at lsn rec ∷ h)
  kept-no_commit rec judged off = record {
    of = kept.of;
    judged = judged;
    known = λ inside. dite (dec_lt account (base_with opening h).accounts)
        (λ before. let was = kept.known before in (
          was.0,
          keeps_account-no_commit opening (entry_at lsn rec) h account (kept_since was.0) (stands rec was.0 was.1)
              judged.ledger.judged.lawful.0 before was.1 off,
        ))
        (λ not_before. let past : (base_with opening h).accounts ≤ account = omega arith in (
          (entry_at lsn rec).end,
          subst (λ (entries : List Entry). KeepsAccount opening (entry_at lsn rec ∷ h) account (record { since = (entry_at lsn rec).end; entries = entries }))
              (sym (kept.unknown past)) (opened rec judged past inside),
        ));
    unknown = λ past. kept.unknown (le_trans (accounts-grow opening h rec) past);
  }

  -- a record that is no Commit
  pub kept-other_kind : (rec : Rec) → commits rec ≡ false → HasJudged opening judge (entry_at lsn rec ∷ h)
      → HasKept account opening (record { account = old.account; judge = judge; entries = old.entries }) (entry_at lsn rec ∷ h)
  kept-other_kind rec plain judged = kept-no_commit rec judged (ap (λ b. b && touches account (updates_of (txn_of rec) h)) plain)

  -- a Commit on the account
  module _ (txn legs : ℕ) (judged : HasJudged opening judge (entry_at lsn (Commit txn legs) ∷ h)) (on : touches account (updates_of txn h) ≡ true)
      (inside : account < (base_with opening h).accounts) where
    pub kept-commit : (entries : List Entry) → entries ≡ old.entries ++ entry_of opening (entry_at lsn (Commit txn legs)) h account ∷ []
        → HasKept account opening (record { account = old.account; judge = judge; entries = entries }) (entry_at lsn (Commit txn legs) ∷ h)
    kept-commit entries grown =
        let was = kept.known inside in
        let sums = commit-adds opening old.judge judge h lsn txn legs kept.judged judged account inside in
        record {
          of = kept.of;
          judged = judged;
          known = λ _. (
            was.0,
            subst (λ (e : List Entry). KeepsAccount opening (entry_at lsn (Commit txn legs) ∷ h) account (record { since = was.0; entries = e })) (sym grown)
                (keeps_account-commit opening (entry_at lsn (Commit txn legs)) h account (kept_since was.0) (stands (Commit txn legs) was.0 was.1)
                judged.ledger.judged.lawful.0 inside was.1 on sums.0 sums.1),
          );
          unknown = λ past. absurd (omega arith);
        }

  -- a Commit of these changes, which are the open ones of its transaction
  module _ (txn legs : ℕ) (judged : HasJudged opening judge (entry_at lsn (Commit txn legs) ∷ h)) (changes : List Change)
      (are : changes ≡ open_changes_of txn h) where
    updates : changes ≡ updates_of txn h
    updates = are ∙ open_changes-updates opening old.judge judge h lsn txn legs kept.judged judged

    touched-same : touches old.account changes ≡ touches account (updates_of txn h)
    touched-same = λ i. touches (kept.of i) (updates i)

    pub kept-untouched : touches old.account changes ≡ false
        → HasKept account opening (record { account = old.account; judge = judge; entries = old.entries }) (entry_at lsn (Commit txn legs) ∷ h)
    kept-untouched off = kept-no_commit (Commit txn legs) judged (sym touched-same ∙ off)

    module _ (on : touches old.account changes ≡ true) where
      abbrev after : ℕ
      after = balance_after opening (entry_at lsn (Commit txn legs) ∷ h) old.account

      touched-inside : account < (base_with opening h).accounts
      touched-inside = touched-known (base_with opening h).accounts account (updates_of txn h)
          (updates-known opening old.judge judge h lsn txn legs kept.judged judged) (sym touched-same ∙ on)

      -- the account is known
      pub touched-counted : old.account < count_of judge
      touched-counted = let counted = judged.ledger.judged.rows.count in let inside = touched-inside in let of = kept.of in omega arith

      -- its balance is in its range
      pub touched-in_range : (balance : ℕ) → balance ≡ after → IsBalance balance
      touched-in_range balance is = subst IsBalance (sym (is ∙ ap (balance_after opening (entry_at lsn (Commit txn legs) ∷ h)) kept.of))
          (judged-balance_after_in_range opening judge (entry_at lsn (Commit txn legs) ∷ h) account judged touched-inside).0

      -- its net leads on from what is kept of it
      pub touched-leads : (balance : ℕ) → balance ≡ after → LeadsOn old.entries (net_of old.account changes) balance
      touched-leads balance is =
          let was = kept.known touched-inside in
          subst (LeadsOn old.entries (net_of old.account changes)) (sym is)
          (subst (λ (l : List Change). LeadsOn old.entries (net_of old.account l) after) (sym updates)
          (subst (λ a. LeadsOn old.entries (net_of a (updates_of txn h)) (balance_after opening (entry_at lsn (Commit txn legs) ∷ h) a)) (sym kept.of)
          (commit-leads_on opening old.judge judge h lsn txn legs kept.judged judged account touched-inside (kept_since was.0) was.1)))

      -- with its entry more it is kept
      pub kept-touched : (end balance : ℕ) (entries : List Entry) → end ≡ lsn + 1 → balance ≡ after
          → entries ≡ old.entries ++ record { end = end; txn = txn; net = net_of old.account changes; balance = balance } ∷ []
          → HasKept account opening (record { account = old.account; judge = judge; entries = entries }) (entry_at lsn (Commit txn legs) ∷ h)
      kept-touched end balance entries at is grown =
          let balances = is ∙ ap (balance_after opening (entry_at lsn (Commit txn legs) ∷ h)) kept.of in
          let own : record { end = end; txn = txn; net = net_of old.account changes; balance = balance }
          ≡ entry_of opening (entry_at lsn (Commit txn legs)) h account
          = λ i. record { end = at i; txn = txn; net = net_of (kept.of i) (updates i); balance = balances i } in
          kept-commit txn legs judged (sym touched-same ∙ on) touched-inside entries (grown ∙ ap (λ (e : Entry). old.entries ++ e ∷ []) own)
