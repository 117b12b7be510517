-- How the accounts at one LSN are kept while a history comes by, and where its boundaries are.
use Rattle.std.proofs.Common.{◌≡◌, ◌<◌, ◌⊎◌, inl, inr, ℕ, ◌+◌, List, [], ◌∷◌, ◌++◌, Option, Some, None, append-nil, refl, ap, ◌∙◌, sym, subst, arith}
use Rattle.log_record.specs.declared.rec.Placed.{Placed}
use Rattle.log_record.specs.declared.rec.Rec.{Rec}
use Rattle.log_record.specs.LogList.{end_of}
use Rattle.log_record.proofs.SpellingLemmas.{size_of-positive}
use Rattle.log_record.proofs.LogListLemmas.{boundary_is_front, end_of-cons, front_is_boundary}
use Rattle.lsn_space.specs.Accounts.{Accounts}
use Rattle.lock_core.specs.History.{end_from, entry_at, history_from}
use Rattle.lock_core.specs.Sums.{Opening}
use Rattle.lock_core.specs.Taking.{HasJudged}
use Rattle.lock_core.specs.declared.judge.Judge.{Judge}
use Rattle.lock_core.proofs.Fronts.{history_from-append}
use Rattle.log_recovery.specs.Opened.{OpenedList, IsListBoundary, placed}
use Rattle.log_recovery.proofs.ListingLemmas.{end_from-history}
use Rattle.ledger_view.specs.Entries.{front_to}
use Rattle.ledger_view.proofs.FrontLemmas.{front_to-past, front_to-whole}
use Rattle.cli_view.specs.declared.accounts_at.AccountsAt.{AccountsAt}
use Rattle.cli_view.specs.AccountsAt.{StartsAt, IsPlaceIn, IsFoundAt, IsAnswerAt, HasTakenAt}
use Rattle.cli_view.specs.Balances.{HasBalances}

-- ---- boundaries

-- where a record starts of a history with more records behind it: one of those before them, or behind a front of them
starts-within : (start : ℕ) (h : List Placed) (records : List Rec) (lsn : ℕ) → StartsAt start (history_from start h records) lsn
    → StartsAt start h lsn ⊎ ((front later : List Rec) × (records ≡ front ++ later) × (lsn ≡ end_from start h + end_of front))
starts-within start h [] lsn is = inl is
starts-within start h (rec ∷ records) lsn is =
    elim (starts-within start (entry_at (end_from start h) rec ∷ h) records lsn is) [
      | inl here ↦ elim here [
        | inl first ↦ inr ([], rec ∷ records, refl, omega (arith, first))
        | inr before ↦ inl before
      ]
      | inr found ↦ inr (rec ∷ found.0, found.1, ap (λ rs. rec ∷ rs) found.2, omega (arith, found.3, end_of-cons rec found.0))
    ]

-- it starts there whatever comes behind it
starts-stay : (start : ℕ) (h : List Placed) (records : List Rec) (lsn : ℕ) → StartsAt start h lsn → StartsAt start (history_from start h records) lsn
starts-stay start h [] lsn is = is
starts-stay start h (rec ∷ records) lsn is = starts-stay start (entry_at (end_from start h) rec ∷ h) records lsn (inr is)

-- where a front ends there is a place
front-place : (start : ℕ) (front later : List Rec) (lsn : ℕ) → lsn ≡ start + end_of front → IsPlaceIn start (history_from start [] (front ++ later)) lsn
front-place start front [] lsn is =
    inl (is ∙ sym (end_from-history start [] front) ∙ ap (λ rs. end_from start (history_from start [] rs)) (sym (append-nil front)))
front-place start front (rec ∷ later) lsn is =
    let before = history_from start [] front in
    inr (subst (λ h. StartsAt start h lsn) (sym (history_from-append start [] front (rec ∷ later)))
    (starts-stay start (entry_at (end_from start before) rec ∷ before) later lsn (inl (is ∙ sym (end_from-history start [] front)))))

-- the places in a list are its boundaries
pub boundary-place : (list : OpenedList) (lsn : ℕ) → IsListBoundary list lsn → IsPlaceIn list.opening.lsn (placed list) lsn
boundary-place list lsn boundary =
    let found = boundary_is_front list.records boundary.0 boundary.2 in
    subst (λ rs. IsPlaceIn list.opening.lsn (history_from list.opening.lsn [] rs) lsn) (sym found.2)
    (front-place list.opening.lsn found.0 found.1 lsn (omega (arith, boundary.1, found.3)))

pub place-boundary : (list : OpenedList) (lsn : ℕ) → IsPlaceIn list.opening.lsn (placed list) lsn → IsListBoundary list lsn
place-boundary list lsn (inl ends) = (
  end_of list.records,
  ends ∙ end_from-history list.opening.lsn [] list.records,
  front_is_boundary list.records (end_of list.records) (list.records, [], sym (append-nil list.records), refl),
)
place-boundary list lsn (inr starts) =
    elim (starts-within list.opening.lsn [] list.records lsn starts) [
      | inl never ↦ absurd never
      | inr front ↦ (end_of front.0, front.3, front_is_boundary list.records (end_of front.0) (front.0, front.1, front.2, refl))
    ]

-- ---- what was found

module _ (lsn : ℕ) (opening : Opening) (h : List Placed) where
  abbrev end : ℕ
  end = end_from opening.state.end h

  -- the balances that a history leaves are those up to its end
  whole-HasBalances : (rows : List (ℕ × ℕ)) → lsn ≡ end → HasBalances opening h rows → HasBalances opening (front_to h lsn) rows
  whole-HasBalances rows here has =
      subst (λ front. HasBalances opening front rows) (sym (front_to-whole opening.state.end h lsn (omega (arith, here)))) has

  module _ (entry : Placed) (behind : end < entry.end) where
    -- a record that starts at the LSN
    pub here-found : (balances : Accounts) → lsn ≡ end → HasBalances opening h balances.rows → IsFoundAt lsn opening (entry ∷ h) (Some balances)
    here-found balances here has = (
      inl here,
      omega (arith, here, behind),
      subst (λ front. HasBalances opening front balances.rows) (sym (front_to-past entry h lsn (omega (arith, here, behind))))
          (whole-HasBalances balances.rows here has),
    )

    -- one that starts elsewhere
    pub elsewhere-found : (found : Option Accounts) → (lsn ≡ end → ⊥) → IsFoundAt lsn opening h found → IsFoundAt lsn opening (entry ∷ h) found
    elsewhere-found None other none = λ starts. elim starts [ inl here ↦ other here | inr before ↦ none before ]
    elsewhere-found (Some balances) other some = (
      inr some.0,
      omega (arith, some.1, behind),
      subst (λ front. HasBalances opening front balances.rows) (sym (front_to-past entry h lsn (omega (arith, some.1, behind)))) some.2,
    )

  -- the history ends at the LSN
  pub end-answer : (balances : Accounts) → lsn ≡ end → HasBalances opening h balances.rows → IsAnswerAt lsn opening h (Some balances)
  end-answer balances here has = (inl here, whole-HasBalances balances.rows here has)

  -- or elsewhere
  pub found-answer : (found : Option Accounts) → (lsn ≡ end → ⊥) → IsFoundAt lsn opening h found → IsAnswerAt lsn opening h found
  found-answer None other none = λ place. elim place [ inl here ↦ other here | inr starts ↦ none starts ]
  found-answer (Some balances) other some = (inr some.0, some.2)

-- ---- the taker

module _ (asked : ℕ) (opening : Opening) (old : AccountsAt) (h : List Placed) (lsn : ℕ) (rec : Rec) (judge : Judge)
    (taken : HasTakenAt asked opening old h) (here : lsn ≡ end_from opening.state.end h)
    (judged : HasJudged opening judge (entry_at lsn rec ∷ h)) where
  behind : end_from opening.state.end h < (entry_at lsn rec).end
  behind = omega (arith, here, size_of-positive rec)

  pub elsewhere-taken : (lsn ≡ old.asked → ⊥) → HasTakenAt asked opening (record old { judge = judge }) (entry_at lsn rec ∷ h)
  elsewhere-taken other = record {
    of = taken.of;
    judged = judged;
    found = elsewhere-found asked opening h (entry_at lsn rec) behind old.found (λ is. other (here ∙ sym is ∙ sym taken.of)) taken.found;
  }

  pub here-taken : lsn ≡ old.asked → (balances : Accounts) → HasBalances opening h balances.rows
      → HasTakenAt asked opening (record old { judge = judge; found = Some balances }) (entry_at lsn rec ∷ h)
  here-taken same balances has = record {
    of = taken.of;
    judged = judged;
    found = here-found asked opening h (entry_at lsn rec) behind balances (sym taken.of ∙ sym same ∙ here) has;
  }
