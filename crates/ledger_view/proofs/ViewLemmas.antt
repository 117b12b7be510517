-- How what a view keeps goes on by one record.
use Rattle.std.proofs.Common.{◌≡◌, ◌≤◌, ◌<◌, ℕ, ◌+◌, pos, ◌+ℤ◌, ◌&&◌, Bool, None, true, false, List, [], ◌∷◌, ◌++◌, length, replicate, Result}
use Rattle.std.proofs.Common.{Ok, Err, refl, ap, ◌∙◌, sym, subst, arith, length-append}
use Rattle.std.specs.Prelude.{OnOk, IfErr}
use Rattle.std.proofs.lemmas.List.{length-replicate, get_or-replicate, get_or_append_left, get_or_at}
use mathlib.Core.Logic.{dite}
use native.Mathlib.Decide.{ℕ_discrete}
use Rattle.std.specs.List.{AllByRecursion}
use Rattle.log_record.specs.declared.rec.Rec.{Rec}
use Rattle.log_record.specs.declared.rec.Placed.{Placed}
use Rattle.log_record.specs.declared.rec.Rec.TheVariants.{Genesis, Update, Commit, Short, Over, Note}
use Rattle.log_record.specs.Spelling.{IsBalance}
use Rattle.lock_core.specs.declared.judge.Judge.{Judge}
use Rattle.lock_core.specs.declared.update.Change.{Change}
use Rattle.lock_core.specs.History.{entry_at}
use Rattle.lock_core.specs.Records.{txn_of, commits}
use Rattle.lock_core.specs.Transactions.{updates_of, open_changes_of, touches}
use Rattle.lock_core.specs.Sums.{Opening}
use Rattle.lock_core.specs.Tests.{IsGenesis}
use Rattle.lock_core.specs.Lawful.{base_with, with_genesis}
use Rattle.lock_core.specs.Taking.{HasJudged, IsTakeFault}
use Rattle.lock_core.specs.declared.reason.JudgeFault.{JudgeFault}
use Rattle.lock_core.proofs.Meeting.{lawful-met}
use Rattle.lock_core.proofs.Pairing.{updates_of-fits}
use Rattle.ledger_view.specs.declared.accounts.Account.{Account}
use Rattle.ledger_view.specs.declared.view.View.{View}
use Rattle.ledger_view.specs.Entries.{net_of, balance_after, is_commit_on, entry_of, front_to, balance_up_to}
use Rattle.ledger_view.specs.ViewedAccounts.{untouched, account_at, KeepsAccount, HasViewed}
use Rattle.ledger_view.specs.Entering.{with_entry, LeadsOn, AllLeadOn, Enters, CanAdd, AddsEntry}
use Rattle.ledger_view.proofs.HistoryLemmas.{accounts-front, balance-if_unknown, judged-balance_after_in_range}
use Rattle.ledger_view.proofs.CommitLemmas.{commit-adds, commit-leads_on, open_changes-updates}
use Rattle.ledger_view.proofs.KeepingLemmas.{StandsBelow, stands_below-weaken, keeps_account-none, keeps_account-opened, keeps_account-no_commit, keeps_account-commit}

-- what is kept stands at or below the record to come
pub can_add-stands_below : (view : View) (lsn : ℕ) (rec : Rec) → CanAdd view lsn rec → (account : ℕ) → account < length view.accounts
    → StandsBelow lsn (account_at view.accounts account)
can_add-stands_below view lsn rec can account inside =
    let given = can.given in let kept = given.2.each account inside in
    subst (λ end. StandsBelow end (account_at view.accounts account)) (sym given.3) (record { begun = kept.begun; past = kept.past })

-- a record that is neither a Genesis nor a Commit
pub other_kind-no_genesis_no_commit : (rec : Rec) → ((account balance : ℕ) → rec ≡ Genesis account balance → ⊥) → ((txn legs : ℕ) → rec ≡ Commit txn legs → ⊥)
    → (IsGenesis rec → ⊥) × (commits rec ≡ false)
other_kind-no_genesis_no_commit (Genesis account balance) no_genesis no_commit = absurd (no_genesis account balance refl)
other_kind-no_genesis_no_commit (Update txn account delta prev) no_genesis no_commit = (λ is. is, refl)
other_kind-no_genesis_no_commit (Commit txn legs) no_genesis no_commit = absurd (no_commit txn legs refl)
other_kind-no_genesis_no_commit (Short txn leg) no_genesis no_commit = (λ is. is, refl)
other_kind-no_genesis_no_commit (Over txn leg) no_genesis no_commit = (λ is. is, refl)
other_kind-no_genesis_no_commit (Note txn text) no_genesis no_commit = (λ is. is, refl)

-- an account that a view doesn't keep is known nowhere
pub unknown-up_to : (opening : Opening) (view : View) (h : List Placed) (account lsn : ℕ) → HasViewed opening view h → length view.accounts ≤ account
    → balance_up_to opening h account lsn ≡ None
unknown-up_to opening view h account lsn viewed past =
    let counted = viewed.count in let front = accounts-front opening h lsn in balance-if_unknown opening (front_to h lsn) account (omega arith)

-- the last balance of an account that it keeps
pub last-in-range : (opening : Opening) (view : View) (h : List Placed) (account : ℕ) → HasViewed opening view h → account < length view.accounts
    → IsBalance (balance_after opening h account)
last-in-range opening view h account viewed inside =
    let counted = viewed.count in (judged-balance_after_in_range opening view.judge h account viewed.judged (omega arith)).0

module _ (opening : Opening) where
  -- behind an opening
  pub views-none : (judge : Judge) (count : ℕ) (accounts : List Account) → HasJudged opening judge [] → count ≡ (base_with opening []).accounts
      → accounts ≡ replicate count untouched → HasViewed opening (record { judge = judge; accounts = accounts }) []
  views-none judge count accounts judged counted is =
      let long : length accounts ≡ count = ap length is ∙ length-replicate count untouched in record {
        judged = judged;
        count = long ∙ counted;
        each = λ account inside.
            let within : account < count = omega arith in
            subst (KeepsAccount opening [] account) (sym (ap (λ l. account_at l account) is ∙ get_or-replicate count account untouched untouched within))
            (keeps_account-none opening account (omega arith));
      }

  module _ (old : View) (lsn : ℕ) (judge : Judge) (h : List Placed) (viewed : HasViewed opening old h) where
    -- an account on which the record is no Commit
    stays : (rec : Rec) → CanAdd old lsn rec → HasJudged opening judge (entry_at lsn rec ∷ h) → (account : ℕ) → account < length old.accounts
        → is_commit_on account (entry_at lsn rec) h ≡ false → KeepsAccount opening (entry_at lsn rec ∷ h) account (account_at old.accounts account)
    stays rec can judged account inside off =
        let counted = viewed.count in
        let kept = account_at old.accounts account in
        keeps_account-no_commit opening (entry_at lsn rec) h account kept
        (stands_below-weaken lsn (entry_at lsn rec).end kept (omega arith) (can_add-stands_below old lsn rec can account inside))
        judged.ledger.judged.lawful.0 (omega arith) (viewed.each account inside) off

    -- a record that neither opens an account nor commits
    pub views-other_kind : (rec : Rec) → (IsGenesis rec → ⊥) → commits rec ≡ false → CanAdd old lsn rec → HasJudged opening judge (entry_at lsn rec ∷ h)
        → HasViewed opening (record { judge = judge; accounts = old.accounts }) (entry_at lsn rec ∷ h)
    views-other_kind rec other plain can judged = record {
      judged = judged;
      count = viewed.count ∙ same rec other;
      each = λ account inside. stays rec can judged account inside (ap (λ b. b && touches account (updates_of (txn_of rec) h)) plain);
    }
      where
        same : (rec : Rec) → (IsGenesis rec → ⊥) → (base_with opening h).accounts ≡ (with_genesis rec (base_with opening h)).accounts
        same (Genesis account balance) other = absurd (other tt)
        same (Update txn account delta prev) other = refl
        same (Commit txn legs) other = refl
        same (Short txn leg) other = refl
        same (Over txn leg) other = refl
        same (Note txn text) other = refl

    -- a Genesis
    module _ (own balance : ℕ) (can : CanAdd old lsn (Genesis own balance)) (judged : HasJudged opening judge (entry_at lsn (Genesis own balance) ∷ h)) where
      abbrev genesis : Placed
      genesis = entry_at lsn (Genesis own balance)

      abbrev opened : Account
      opened = record { since = lsn + 2; entries = [] }

      abbrev more : List Account
      more = old.accounts ++ opened ∷ []

      all : AllByRecursion (λ (e : Placed). IsGenesis e.rec) (genesis ∷ h)
      all = (tt, judged.ledger.judged.lawful.0.0.1)

      pub views-genesis : HasViewed opening (record { judge = judge; accounts = more }) (genesis ∷ h)
      views-genesis = let counted = viewed.count in let long = length-append old.accounts (opened ∷ []) in record {
        judged = judged;
        count = omega arith;
        each = λ account inside. dite (ℕ_discrete account (length old.accounts))
            (λ new. subst (KeepsAccount opening (genesis ∷ h) account) (sym (get_or_at old.accounts opened [] untouched account (sym new)))
            (keeps_account-opened opening genesis h account all (omega arith) (omega arith)))
            (λ not_new. let within : account < length old.accounts = omega arith in
            subst (KeepsAccount opening (genesis ∷ h) account) (sym (get_or_append_left old.accounts (opened ∷ []) untouched account within))
            (stays (Genesis own balance) can judged account within refl));
      }

    -- a Commit
    module _ (txn legs : ℕ) (can : CanAdd old lsn (Commit txn legs)) (judged : HasJudged opening judge (entry_at lsn (Commit txn legs) ∷ h)) where
      abbrev commit : Placed
      commit = entry_at lsn (Commit txn legs)

      -- it adds its net to the balance of an account
      adds : (account : ℕ) → account < length old.accounts → IsBalance (balance_after opening h account)
          × (pos (balance_after opening (commit ∷ h) account) ≡ pos (balance_after opening h account) +ℤ net_of account (updates_of txn h))
      adds account inside =
          let counted = viewed.count in commit-adds opening old.judge judge h lsn txn legs viewed.judged judged account (omega arith)

      -- which leads on from what is kept of it
      leads : (account : ℕ) → account < length old.accounts
          → LeadsOn (account_at old.accounts account).entries (net_of account (updates_of txn h)) (balance_after opening (commit ∷ h) account)
      leads account inside =
          let counted = viewed.count in
          commit-leads_on opening old.judge judge h lsn txn legs viewed.judged judged account (omega arith) (account_at old.accounts account)
          (viewed.each account inside)

      pub known_changes-all_lead_on : (some : List Change) → AllByRecursion (λ (change : Change). change.account < length old.accounts) some
          → AllLeadOn opening (commit ∷ h) (updates_of txn h) some old.accounts
      known_changes-all_lead_on [] known = tt
      known_changes-all_lead_on (change ∷ some) known = (leads change.account known.0, known_changes-all_lead_on some known.1)

      entered : (account : ℕ) → account < length old.accounts → touches account (updates_of txn h) ≡ true
          → KeepsAccount opening (commit ∷ h) account (with_entry (account_at old.accounts account) (entry_of opening commit h account))
      entered account inside on =
          let counted = viewed.count in
          let kept = account_at old.accounts account in
          let sums = adds account inside in
          keeps_account-commit opening commit h account kept
          (stands_below-weaken lsn commit.end kept (omega arith) (can_add-stands_below old lsn (Commit txn legs) can account inside))
          judged.ledger.judged.lawful.0 (omega arith) (viewed.each account inside) on sums.0 sums.1

      pub views-commit : (new : List Account) → Enters opening (commit ∷ h) txn (lsn + 1) (updates_of txn h) (updates_of txn h) old.accounts new
          → HasViewed opening (record { judge = judge; accounts = new }) (commit ∷ h)
      views-commit new enters = record {
        judged = judged;
        count = enters.count ∙ viewed.count;
        each = λ account inside. let counted = enters.count in by_case account (omega arith) (touches account (updates_of txn h)) refl;
      }
        where
          by_case : (account : ℕ) → account < length old.accounts → (b : Bool) → touches account (updates_of txn h) ≡ b
              → KeepsAccount opening (commit ∷ h) account (account_at new account)
          by_case account inside true on = subst (KeepsAccount opening (commit ∷ h) account) (sym (enters.done account on)) (entered account inside on)
          by_case account inside false off =
              subst (KeepsAccount opening (commit ∷ h) account) (sym (enters.left account off)) (stays (Commit txn legs) can judged account inside off)

    -- a record that is a Genesis
    pub views-genesis_record : (rec : Rec) (own balance since : ℕ) (accounts : List Account) → rec ≡ Genesis own balance → since ≡ lsn + 2
        → accounts ≡ old.accounts ++ record { since = since; entries = [] } ∷ [] → CanAdd old lsn rec → HasJudged opening judge (entry_at lsn rec ∷ h)
        → HasViewed opening (record { judge = judge; accounts = accounts }) (entry_at lsn rec ∷ h)
    views-genesis_record rec own balance since accounts is from grown can judged =
        subst (λ (l : List Account). HasViewed opening (record { judge = judge; accounts = l }) (entry_at lsn rec ∷ h))
        (sym (grown ∙ ap (λ s. old.accounts ++ record { since = s; entries = [] } ∷ []) from))
        (subst (λ r. HasViewed opening (record { judge = judge; accounts = old.accounts ++ record { since = lsn + 2; entries = [] } ∷ [] }) (entry_at lsn r ∷ h)) (sym is)
        (views-genesis own balance (subst (CanAdd old lsn) is can) (subst (λ r. HasJudged opening judge (entry_at lsn r ∷ h)) is judged)))

    -- what a Commit commits
    pub commit-open_changes_are_updates : (rec : Rec) (txn legs : ℕ) → rec ≡ Commit txn legs → HasJudged opening judge (entry_at lsn rec ∷ h) → open_changes_of txn h ≡ updates_of txn h
    commit-open_changes_are_updates rec txn legs is judged =
        open_changes-updates opening old.judge judge h lsn txn legs viewed.judged (subst (λ r. HasJudged opening judge (entry_at lsn r ∷ h)) is judged)

    -- its accounts are kept
    pub updates_of-accounts_kept : (txn : ℕ) (changes : List Change) → changes ≡ updates_of txn h
        → AllByRecursion (λ (change : Change). change.account < length old.accounts) changes
    updates_of-accounts_kept txn changes are =
        subst (λ count. AllByRecursion (λ (change : Change). change.account < count) changes) (sym viewed.count)
        (subst (AllByRecursion (λ (change : Change). change.account < (base_with opening h).accounts)) (sym are)
        (updates_of-fits (base_with opening h) h txn (lawful-met opening h viewed.judged.ledger.judged.lawful)).known)

    -- the net of a Commit's changes leads on, account by account
    pub commit-leads : (rec : Rec) (txn legs : ℕ) (changes : List Change) → rec ≡ Commit txn legs → changes ≡ open_changes_of txn h
        → CanAdd old lsn rec → HasJudged opening judge (entry_at lsn rec ∷ h) → AllLeadOn opening (entry_at lsn rec ∷ h) changes changes old.accounts
    commit-leads rec txn legs changes is are can judged =
        let updates = are ∙ commit-open_changes_are_updates rec txn legs is judged in
        subst (λ r. AllLeadOn opening (entry_at lsn r ∷ h) changes changes old.accounts) (sym is)
        (subst (λ (l : List Change). AllLeadOn opening (entry_at lsn (Commit txn legs) ∷ h) l l old.accounts) (sym updates)
        (known_changes-all_lead_on txn legs (subst (CanAdd old lsn) is can) (subst (λ r. HasJudged opening judge (entry_at lsn r ∷ h)) is judged)
        (updates_of txn h) (updates_of-accounts_kept txn (updates_of txn h) refl)))

    -- a record that is a Commit
    pub views-commit_record : (rec : Rec) (txn legs end : ℕ) (changes : List Change) (new : List Account) → rec ≡ Commit txn legs → end ≡ lsn + 1
        → changes ≡ open_changes_of txn h → Enters opening (entry_at lsn rec ∷ h) txn end changes changes old.accounts new
        → CanAdd old lsn rec → HasJudged opening judge (entry_at lsn rec ∷ h) → HasViewed opening (record { judge = judge; accounts = new }) (entry_at lsn rec ∷ h)
    views-commit_record rec txn legs end changes new is at are enters can judged =
        let own = subst (λ (l : List Change). Enters opening (entry_at lsn rec ∷ h) txn end l l old.accounts new) (are ∙ commit-open_changes_are_updates rec txn legs is judged) enters in
        subst (λ r. HasViewed opening (record { judge = judge; accounts = new }) (entry_at lsn r ∷ h)) (sym is)
        (views-commit txn legs (subst (CanAdd old lsn) is can) (subst (λ r. HasJudged opening judge (entry_at lsn r ∷ h)) is judged) new
        (subst (λ e. Enters opening (entry_at lsn (Commit txn legs) ∷ h) txn e (updates_of txn h) (updates_of txn h) old.accounts new) at
        (subst (λ r. Enters opening (entry_at lsn r ∷ h) txn end (updates_of txn h) (updates_of txn h) old.accounts new) is own)))

-- what adding an entry says where it succeeds
pub adds_entry_ok-has_viewed : {A : Type 0} (old new : View) (entry : Placed) (r : Result A JudgeFault) → AddsEntry old new entry r
    → OnOk r ((opening : Opening) (h : List Placed) → HasViewed opening old h → HasViewed opening new (entry ∷ h))
adds_entry_ok-has_viewed old new entry (Ok x) adds = adds
adds_entry_ok-has_viewed old new entry (Err fault) adds = tt

-- and where it fails
pub adds_entry_err-take_fault : {A : Type 0} (old new : View) (entry : Placed) (r : Result A JudgeFault) → AddsEntry old new entry r
    → IfErr r (λ fault. (opening : Opening) (h : List Placed) → HasViewed opening old h → IsTakeFault opening h entry fault)
adds_entry_err-take_fault old new entry (Ok x) adds = tt
adds_entry_err-take_fault old new entry (Err fault) adds = adds
