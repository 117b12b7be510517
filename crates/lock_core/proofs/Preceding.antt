-- Where each entry of a lawful history stands: behind the Commits that it builds on, and before nothing of its transaction that it ended.
use Rattle.std.proofs.Common.{◌≡◌, ◌≢◌, ◌||◌, true, true≢false, List, [], ◌∷◌, ◌++◌, refl, ap, ◌∙◌, sym, subst}
use Rattle.std.specs.List.{AllByRecursion}
use mathlib.Core.Logic.{dite}
use native.Mathlib.Decide.{ℕ_discrete}
use Rattle.log_record.specs.declared.rec.Rec.{Rec}
use Rattle.log_record.specs.declared.rec.Placed.{Placed}
use Rattle.log_record.specs.declared.rec.Rec.TheVariants.{Genesis, Update, Commit, Short, Over, Note}
use Rattle.lock_core.specs.declared.update.Change.{Change}
use Rattle.lock_core.specs.Records.{txn_of, commits, ends, changes_of}
use Rattle.lock_core.specs.Transactions.{of_transaction, recs_of, own_records_of, updates_of, has_end}
use Rattle.lock_core.specs.Tests.{IsGenesis, OpensLedger, IsUnended, IsCurrent, NamesLastCommit, IsNotStale}
use Rattle.lock_core.specs.Sums.{BaseState, Opening}
use Rattle.lock_core.specs.Lawful.{IsLawful, base_with}
use Rattle.lock_core.specs.Soundness.{IsBuiltOn, StandsBetween, HasPredecessors}
use Rattle.lock_core.proofs.Meeting.{AreMet, lawful-met}
use Rattle.lock_core.proofs.LastCommits.{IsBaseOrCommitOn, last_commit_of-base_or_commit}
use Rattle.lock_core.proofs.ListLemmas.{all-split}
use Rattle.lock_core.proofs.OneMore.{of_transaction-first_own, of_transaction-first_other, or-true}

-- ---- what is named

are-built_on : (base : BaseState) (front : List Placed) (changes : List Change) → AllByRecursion (IsCurrent base front) changes
    → AllByRecursion (IsBuiltOn base front) changes
are-built_on base front [] current = tt
are-built_on base front (change ∷ changes) current =
    let there = subst (IsBaseOrCommitOn base front change.account) (sym current.0) (last_commit_of-base_or_commit base front change.account) in
    (record { last = current.0; there = there }, are-built_on base front changes current.1)

current-update : (base : BaseState) (h : List Placed) (rec : Rec) → NamesLastCommit base h rec → AllByRecursion (IsCurrent base h) (changes_of rec)
current-update base h (Genesis account balance) names = tt
current-update base h (Update txn account delta prev) names = (names, tt)
current-update base h (Commit txn legs) names = tt
current-update base h (Short txn leg) names = tt
current-update base h (Over txn leg) names = tt
current-update base h (Note txn text) names = tt

current-commit : (base : BaseState) (h : List Placed) (rec : Rec) → IsNotStale base h rec → commits rec ≡ true
    → AllByRecursion (IsCurrent base h) (updates_of (txn_of rec) h)
current-commit base h (Genesis account balance) fresh is = absurd (true≢false (sym is))
current-commit base h (Update txn account delta prev) fresh is = absurd (true≢false (sym is))
current-commit base h (Commit txn legs) fresh is = fresh
current-commit base h (Short txn leg) fresh is = absurd (true≢false (sym is))
current-commit base h (Over txn leg) fresh is = absurd (true≢false (sym is))
current-commit base h (Note txn text) fresh is = absurd (true≢false (sym is))

-- ---- what stands behind an end record

-- a Genesis stands on Genesis records alone
abbrev OpensAlone : List Placed → Type 0
OpensAlone [] = Unit {0}
OpensAlone (entry ∷ h) = (IsGenesis entry.rec → AllByRecursion (λ (other : Placed). IsGenesis other.rec) h) × OpensAlone h

opens-alone : (opening : Opening) (h : List Placed) → IsLawful opening h → OpensAlone h
opens-alone opening [] lawful = tt
opens-alone opening (entry ∷ h) lawful = (by_kind entry.rec lawful.0.0, opens-alone opening h lawful.1)
  where
    by_kind : (rec : Rec) → OpensLedger opening h rec → IsGenesis rec → AllByRecursion (λ (other : Placed). IsGenesis other.rec) h
    by_kind (Genesis account balance) opens is = opens.1
    by_kind (Update txn account delta prev) opens is = absurd is
    by_kind (Commit txn legs) opens is = absurd is
    by_kind (Short txn leg) opens is = absurd is
    by_kind (Over txn leg) opens is = absurd is
    by_kind (Note txn text) opens is = absurd is

genesis-not-end : (rec : Rec) → IsGenesis rec → ends rec ≡ true → ⊥
genesis-not-end (Genesis account balance) is on = true≢false (sym on)
genesis-not-end (Update txn account delta prev) is on = is
genesis-not-end (Commit txn legs) is on = is
genesis-not-end (Short txn leg) is on = is
genesis-not-end (Over txn leg) is on = is
genesis-not-end (Note txn text) is on = is

-- a record of a transaction that has ended is a Genesis
unended-genesis : (h : List Placed) (rec : Rec) → IsUnended h rec → has_end (own_records_of (txn_of rec) h) ≡ true → IsGenesis rec
unended-genesis h (Genesis account balance) off on = tt
unended-genesis h (Update txn account delta prev) off on = absurd (true≢false (sym on ∙ off))
unended-genesis h (Commit txn legs) off on = absurd (true≢false (sym on ∙ off))
unended-genesis h (Short txn leg) off on = absurd (true≢false (sym on ∙ off))
unended-genesis h (Over txn leg) off on = absurd (true≢false (sym on ∙ off))
unended-genesis h (Note txn text) off on = absurd (true≢false (sym on ∙ off))

module _ (base : BaseState) (front : List Placed) (entry : Placed) where
  has_end-front : (later : List Placed) → ends entry.rec ≡ true → has_end (own_records_of (txn_of entry.rec) (later ++ entry ∷ front)) ≡ true
  has_end-front [] on =
      ap (λ entries. has_end (recs_of entries)) (of_transaction-first_own (txn_of entry.rec) entry front refl) ∙ ap (λ b. b || has_end (own_records_of (txn_of entry.rec) front)) on
  has_end-front (next ∷ later) on = dite (ℕ_discrete (txn_of next.rec) (txn_of entry.rec))
      (λ same. ap (λ entries. has_end (recs_of entries)) (of_transaction-first_own (txn_of entry.rec) next (later ++ entry ∷ front) same)
      ∙ ap (λ b. ends next.rec || b) (has_end-front later on) ∙ or-true (ends next.rec))
      (λ other. ap (λ entries. has_end (recs_of entries)) (of_transaction-first_other (txn_of entry.rec) next (later ++ entry ∷ front) other) ∙ has_end-front later on)

  of_transaction-ended : (later : List Placed) → AreMet base (later ++ entry ∷ front) → OpensAlone (later ++ entry ∷ front) → ends entry.rec ≡ true
      → of_transaction (txn_of entry.rec) later ≡ []
  of_transaction-ended [] met opens on = refl
  of_transaction-ended (next ∷ later) met opens on =
      of_transaction-first_other (txn_of entry.rec) next later apart ∙ of_transaction-ended later met.1 opens.1 on
    where
      apart : txn_of next.rec ≢ txn_of entry.rec
      apart same =
          let ended = ap (λ n. has_end (own_records_of n (later ++ entry ∷ front))) same ∙ has_end-front later on in
          let below = opens.0 (unended-genesis (later ++ entry ∷ front) next.rec met.0.ended ended) in
          genesis-not-end entry.rec (all-split (λ (other : Placed). IsGenesis other.rec) later (entry ∷ front) below).1.0 on

  met-front : (later : List Placed) → AreMet base (later ++ entry ∷ front) → AreMet base (entry ∷ front)
  met-front [] met = met
  met-front (next ∷ later) met = met-front later met.1

  stands-between : (later : List Placed) → AreMet base (later ++ entry ∷ front) → OpensAlone (later ++ entry ∷ front) → StandsBetween base front later entry
  stands-between later met opens = record {
    update = are-built_on base front (changes_of entry.rec) (current-update base front entry.rec (met-front later met).0.prev);
    commit = λ is. are-built_on base front (updates_of (txn_of entry.rec) front) (current-commit base front entry.rec (met-front later met).0.stale is);
    last = of_transaction-ended later met opens;
  }

-- ---- whole histories

predecessors-met : (base : BaseState) (h : List Placed) → AreMet base h → OpensAlone h → HasPredecessors base h
predecessors-met base h met opens later front entry whole =
    stands-between base front entry later (subst (AreMet base) whole met) (subst OpensAlone whole opens)

pub lawful-has_predecessors : (opening : Opening) (h : List Placed) → IsLawful opening h → HasPredecessors (base_with opening h) h
lawful-has_predecessors opening h lawful = predecessors-met (base_with opening h) h (lawful-met opening h lawful) (opens-alone opening h lawful)
