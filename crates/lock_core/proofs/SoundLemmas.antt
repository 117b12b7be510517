-- What a lawful list keeps that goes on from another; and that nothing moves an account that it doesn't have.
use Rattle.std.proofs.Common.{◌≡◌, ◌<◌, ◌≤◌, ◌==◌, ◌&&◌, ◌||◌, ℕ, ◌+◌, cond, ℤ, Bool, true, false, List, [], ◌∷◌, ◌++◌, refl, ap, ◌∙◌, sym, arith, ne_eqb}
use Rattle.std.specs.List.{AllByRecursion}
use mathlib.Core.Logic.{dite}
use native.Mathlib.Decide.{dec_lt}
use Rattle.log_record.specs.declared.rec.Rec.{Rec}
use Rattle.log_record.specs.declared.rec.Placed.{Placed}
use Rattle.log_record.specs.declared.rec.Rec.TheVariants.{Genesis, Update, Commit, Short, Over, Note}
use Rattle.log_record.specs.Spelling.{IsSpellable}
use Rattle.lock_core.specs.declared.update.Change.{Change}
use Rattle.lock_core.specs.Records.{txn_of, commits, changes_of, gain, loss}
use Rattle.lock_core.specs.Transactions.{updates_of, touches, is_committed, ShareNoTransaction}
use Rattle.lock_core.specs.Tests.{HasNoGenesis, KnowsAccount, OpensLedger}
use Rattle.lock_core.specs.Sums.{BaseState, Opening, BeginsInRange, moved, moved_by, sum_below, IsBalanceOf, balance_of, last_commit_of}
use Rattle.lock_core.specs.Lawful.{IsLawful, base_with, with_genesis, base_state_of, opening_after}
use Rattle.lock_core.specs.Soundness.{IsSoundAfter}
use Rattle.lock_core.proofs.Meeting.{AreMet, lawful-met}
use Rattle.lock_core.proofs.LastCommits.{base_with-last_commit}
use Rattle.lock_core.proofs.Preceding.{lawful-has_predecessors}
use Rattle.lock_core.proofs.Fronts.{lawful-front}
use Rattle.lock_core.proofs.Appending.{base_with-append_no_genesis, lawful-no_genesis, lawful-append_opening_after, met-balance_of_is_balance, total-append}
use Rattle.lock_core.proofs.Ranging.{lawful-in_range}
use Rattle.lock_core.proofs.Conserving.{lawful-balances_sum_as_base}
use Rattle.lock_core.proofs.KindLemmas.{all_genesis-accounts_count}
use Rattle.lock_core.proofs.Pairing.{updates_of-fits}

-- a lawful list keeps sound what it goes on from, where nothing behind that is a Genesis
pub lawful-sound_after : (opening : Opening) (before later : List Placed) → BeginsInRange opening.state → IsLawful opening (later ++ before) → HasNoGenesis later
    → AllByRecursion (λ (entry : Placed). IsSpellable entry.rec) (later ++ before) → IsSoundAfter opening before (later ++ before)
lawful-sound_after opening before later first whole none spellable = record {
  later = later;
  whole = refl;
  predecessors = lawful-has_predecessors opening (later ++ before) whole;
  range = lawful-in_range opening (later ++ before) first spellable whole;
  sum = lawful-balances_sum_as_base opening (later ++ before) whole
      ∙ ap (λ (base : BaseState). sum_below base.accounts base.balance) (base_with-append_no_genesis opening later before none)
      ∙ sym (lawful-balances_sum_as_base opening before (lawful-front opening later before whole));
}

pub lawful_after-sound_after : (opening : Opening) (before later : List Placed) → BeginsInRange opening.state → IsLawful opening before
    → 0 < (base_with opening before).accounts → AllByRecursion (λ (entry : Placed). IsSpellable entry.rec) (later ++ before)
    → IsLawful (opening_after opening before) later → IsSoundAfter opening before (later ++ before)
lawful_after-sound_after opening before later first lawful some spellable after =
    lawful-sound_after opening before later first (lawful-append_opening_after opening later before lawful some after)
    (lawful-no_genesis (opening_after opening before) later some after) spellable

-- ---- an account that the list doesn't have

moved-past : (side : ℤ → ℕ) (accounts account : ℕ) (changes : List Change) → accounts ≤ account
    → AllByRecursion (λ (change : Change). change.account < accounts) changes → moved side account changes ≡ 0
moved-past side accounts account [] past known = refl
moved-past side accounts account (change ∷ changes) past known =
    let here : cond (change.account == account) (side change.delta) 0 ≡ 0 =
    ap (λ b. cond b (side change.delta) 0) (ne_eqb change.account account (λ same. let below = known.0 in omega arith)) in
    let rest = moved-past side accounts account changes past known.1 in omega arith

touches-past : (accounts account : ℕ) (changes : List Change) → accounts ≤ account
    → AllByRecursion (λ (change : Change). change.account < accounts) changes → touches account changes ≡ false
touches-past accounts account [] past known = refl
touches-past accounts account (change ∷ changes) past known =
    let here = ne_eqb change.account account (λ same. let below = known.0 in omega arith) in
    λ i. here i || touches-past accounts account changes past known.1 i

changes_of-known : (base : BaseState) (rec : Rec) → KnowsAccount base rec → AllByRecursion (λ (change : Change). change.account < base.accounts) (changes_of rec)
changes_of-known base (Genesis account balance) known = tt
changes_of-known base (Update txn account delta prev) known = (known, tt)
changes_of-known base (Commit txn legs) known = tt
changes_of-known base (Short txn leg) known = tt
changes_of-known base (Over txn leg) known = tt
changes_of-known base (Note txn text) known = tt

module _ (base : BaseState) (account : ℕ) (past : base.accounts ≤ account) where
  moved_by-past : (counts : ℕ → Bool) (side : ℤ → ℕ) (h : List Placed) → AreMet base h → moved_by counts side account h ≡ 0
  moved_by-past counts side [] met = refl
  moved_by-past counts side (entry ∷ h) met =
      let here = moved-past side base.accounts account (changes_of entry.rec) past (changes_of-known base entry.rec met.0.account) in
      let rest = moved_by-past counts side h met.1 in
      by_count (counts (txn_of entry.rec)) here rest
    where
      by_count : (b : Bool) → moved side account (changes_of entry.rec) ≡ 0 → moved_by counts side account h ≡ 0
          → cond b (moved side account (changes_of entry.rec)) 0 + moved_by counts side account h ≡ 0
      by_count true here rest = omega arith
      by_count false here rest = omega arith

  last_commit_of-past : (h : List Placed) → AreMet base h → last_commit_of base h account ≡ base.last_commit account
  last_commit_of-past [] met = refl
  last_commit_of-past (entry ∷ h) met =
      let no_touch = touches-past base.accounts account (updates_of (txn_of entry.rec) h) past (updates_of-fits base h (txn_of entry.rec) met.1).known in
      by_kind (commits entry.rec) (touches account (updates_of (txn_of entry.rec) h)) no_touch ∙ last_commit_of-past h met.1
    where
      by_kind : (is on : Bool) → on ≡ false → cond (is && on) entry.end (last_commit_of base h account) ≡ last_commit_of base h account
      by_kind true on off = ap (λ b. cond b entry.end (last_commit_of base h account)) off
      by_kind false on off = refl

base_with-past : (opening : Opening) (h : List Placed) (account : ℕ) → IsLawful opening h → (base_with opening h).accounts ≤ account
    → (base_with opening h).balance account ≡ opening.state.balance account
base_with-past opening [] account lawful past = refl
base_with-past opening (entry ∷ h) account lawful past = by_kind entry.rec lawful.0.0 (base_with-past opening h account lawful.1) past
  where
    by_kind : (rec : Rec) → OpensLedger opening h rec
        → ((base_with opening h).accounts ≤ account → (base_with opening h).balance account ≡ opening.state.balance account)
        → (with_genesis rec (base_with opening h)).accounts ≤ account → (with_genesis rec (base_with opening h)).balance account ≡ opening.state.balance account
    by_kind (Genesis own balance) opens before past =
        let count = all_genesis-accounts_count opening h opens.1 in let none = opens.0 in let number = opens.2 in
        ap (λ b. cond b balance ((base_with opening h).balance account)) (ne_eqb account own (λ same. omega arith)) ∙ before (omega arith)
    by_kind (Update txn own delta prev) opens before past = before past
    by_kind (Commit txn legs) opens before past = before past
    by_kind (Short txn leg) opens before past = before past
    by_kind (Over txn leg) opens before past = before past
    by_kind (Note txn text) opens before past = before past

-- an account that a lawful list doesn't have has what the opening says of it: nothing, and no Commit, in a whole log
pub base_state_of-past_accounts_same : (opening : Opening) (h : List Placed) (account : ℕ) → IsLawful opening h → (base_with opening h).accounts ≤ account
    → ((base_state_of opening h).balance account ≡ opening.state.balance account) × ((base_state_of opening h).last_commit account ≡ opening.state.last_commit account)
base_state_of-past_accounts_same opening h account lawful past =
    let base = base_with opening h in
    let met = lawful-met opening h lawful in
    let gains = moved_by-past base account past (λ txn. is_committed txn h) gain h met in
    let losses = moved_by-past base account past (λ txn. is_committed txn h) loss h met in
    let begins = base_with-past opening h account lawful past in
    (omega arith, last_commit_of-past base account past h met ∙ base_with-last_commit opening h account)

-- the balance of any account in a lawful list is a balance
is_balance-lawful : (opening : Opening) (h : List Placed) (account : ℕ) → IsLawful opening h
    → IsBalanceOf (base_with opening h) h account (balance_of (base_with opening h) h account)
is_balance-lawful opening h account lawful = dite (dec_lt account (base_with opening h).accounts)
    (λ inside. met-balance_of_is_balance (base_with opening h) h account inside (lawful-met opening h lawful))
    (λ outside.
    let met = lawful-met opening h lawful in
    let past : (base_with opening h).accounts ≤ account = omega arith in
    let gains = moved_by-past (base_with opening h) account past (λ txn. is_committed txn h) gain h met in
    let losses = moved_by-past (base_with opening h) account past (λ txn. is_committed txn h) loss h met in omega arith)

-- a balance after the base state that a lawful list leaves is one of both lists
pub is_balance-lawful_append : (opening : Opening) (h l : List Placed) (account balance : ℕ) → IsLawful opening l → ShareNoTransaction h l
    → IsBalanceOf (base_state_of opening l) h account balance → IsBalanceOf (base_with opening l) (h ++ l) account balance
is_balance-lawful_append opening h l account balance lawful apart is =
    let before = is_balance-lawful opening l account lawful in
    let gains = total-append gain account h l apart in let losses = total-append loss account h l apart in omega arith
