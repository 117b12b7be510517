-- What the tests of one entry come to in terms of what a judge keeps.
use Rattle.std.proofs.Common.{◌≡◌, ◌<◌, ◌≤◌, ℕ, ◌+◌, cond, ℤ, false, true≢false, List, [], ◌∷◌, length, refl, ap, ◌∙◌, sym, subst, arith, ne_eqb, eq-eqb, length-append, ◌++◌}
use Rattle.std.specs.List.{AllByRecursion}
use Rattle.std.proofs.lemmas.List.{get_or_append_left, get_or_at}
use mathlib.Core.Logic.{dite}
use native.Mathlib.Decide.{ℕ_discrete}
use Rattle.log_record.specs.declared.rec.Rec.{Rec}
use Rattle.log_record.specs.declared.rec.Placed.{Placed}
use Rattle.log_record.specs.declared.rec.Rec.TheVariants.{Genesis, Update, Commit, Short, Over, Note}
use Rattle.log_record.specs.Spelling.{IsBalance}
use Rattle.lock_core.specs.declared.update.Change.{Change}
use Rattle.lock_core.specs.Records.{gain, loss}
use Rattle.lock_core.specs.Transactions.{own_records_of, updates_of, has_end, touches}
use Rattle.lock_core.specs.Sums.{BaseState, Opening, moved, total, AreInRange, last_commit_of}
use Rattle.lock_core.specs.Tests.{IsGenesis, IsCurrent}
use Rattle.lock_core.specs.declared.reason.Why.TheVariants as why
use Rattle.lock_core.specs.Lawful.{IsLawful, base_with, with_genesis, tests, Passes}
use Rattle.lock_core.specs.Faults.{IsFirstFailing}
use Rattle.lock_core.specs.AccountRows.{row, AppliesChanges, LeavesSome, KeepsRows}
use Rattle.lock_core.specs.Judging.{IsCommitting}
use Rattle.lock_core.proofs.OneMore.{has_commit-unended, total-no_change, total-commit, last_commit_of-commit}
use Rattle.lock_core.proofs.Meeting.{lawful-met}
use Rattle.lock_core.proofs.LastCommits.{base_with-last_commit}
use Rattle.lock_core.proofs.Pairing.{updates_of-fits}

-- a record that moves nothing and commits nothing leaves the rows
pub keeps_rows-first_unmoved : (rows : List (ℕ × ℕ)) (base : BaseState) (h : List Placed) (entry : Placed)
    → ((side : ℤ → ℕ) (a : ℕ) → total side a (entry ∷ h) ≡ total side a h)
    → ((a : ℕ) → last_commit_of base (entry ∷ h) a ≡ last_commit_of base h a) → KeepsRows rows base h → KeepsRows rows base (entry ∷ h)
keeps_rows-first_unmoved rows base h entry sums lasts kept = record {
  count = kept.count;
  range = kept.range;
  balance = λ a inside. let before = kept.balance a inside in let gains = sums gain a in let losses = sums loss a in omega arith;
  last = λ a inside. kept.last a inside ∙ sym (lasts a);
}

-- the changes name the last Commits exactly where they agree with the rows
pub prev_in_rows-current : (rows : List (ℕ × ℕ)) (base : BaseState) (h : List Placed) (changes : List Change)
    → AllByRecursion (λ (change : Change). change.account < length rows) changes → KeepsRows rows base h
    → AllByRecursion (λ (change : Change). change.prev ≡ (row rows change.account).1) changes → AllByRecursion (IsCurrent base h) changes
prev_in_rows-current rows base h [] known kept all = tt
prev_in_rows-current rows base h (change ∷ changes) known kept all =
    (all.0 ∙ kept.last change.account known.0, prev_in_rows-current rows base h changes known.1 kept all.1)

pub current-prev_in_rows : (rows : List (ℕ × ℕ)) (base : BaseState) (h : List Placed) (changes : List Change)
    → AllByRecursion (λ (change : Change). change.account < length rows) changes → KeepsRows rows base h
    → AllByRecursion (IsCurrent base h) changes → AllByRecursion (λ (change : Change). change.prev ≡ (row rows change.account).1) changes
current-prev_in_rows rows base h [] known kept all = tt
current-prev_in_rows rows base h (change ∷ changes) known kept all =
    (all.0 ∙ sym (kept.last change.account known.0), current-prev_in_rows rows base h changes known.1 kept all.1)

module _ (rows : List (ℕ × ℕ)) (base : BaseState) (h : List Placed) (txn legs end : ℕ) (changes : List Change) (kept : KeepsRows rows base h)
    (unended : has_end (own_records_of txn h) ≡ false) (are : changes ≡ updates_of txn h) where
  abbrev commit : Placed
  commit = record { end = end; rec = Commit txn legs }

  -- what a Commit moves
  moves : (side : ℤ → ℕ) (a : ℕ) → total side a (commit ∷ h) ≡ total side a h + moved side a changes
  moves side a = total-commit side a commit h refl (has_commit-unended (own_records_of txn h) unended) ∙ ap (λ l. total side a h + moved side a l) (sym are)

  pub keeps_rows-first_commit : (new : List (ℕ × ℕ)) → AppliesChanges changes end rows new → KeepsRows new base (commit ∷ h)
  keeps_rows-first_commit new applies = let count = applies.count in let counted = kept.count in record {
    count = omega arith;
    range = λ a inside. (applies.each a (omega arith)).range;
    balance = λ a inside.
        let old-inside : a < length rows = omega arith in
        let before = kept.balance a old-inside in let step = (applies.each a old-inside).balance in
        let gains = moves gain a in let losses = moves loss a in omega arith;
    last = λ a inside.
        let old-inside : a < length rows = omega arith in
        (applies.each a old-inside).last
        ∙ (λ i. cond (touches a (are i)) end (kept.last a old-inside i))
        ∙ sym (last_commit_of-commit base commit h a refl);
  }

  pub leaves_some-commit_out_of_range : LeavesSome changes rows → AreInRange base (commit ∷ h) → ⊥
  leaves_some-commit_out_of_range leaves range =
      let inside = leaves.inside in let counted = kept.count in
      let found = range leaves.account (omega arith) in
      let before = kept.balance leaves.account inside in
      let after = found.2 in let gains = moves gain leaves.account in let losses = moves loss leaves.account in
      leaves.leaves found.0 found.1 (omega arith)

pub keeps_rows-in_range : (rows : List (ℕ × ℕ)) (base : BaseState) (h : List Placed) → KeepsRows rows base h → AreInRange base h
keeps_rows-in_range rows base h kept account below =
    let counted = kept.count in let inside : account < length rows = omega arith in
    ((row rows account).0, kept.range account inside, kept.balance account inside)

-- in a list of Genesis records nothing is moved, and nothing committed
pub total-genesis : (side : ℤ → ℕ) (a : ℕ) (h : List Placed) → AllByRecursion (λ (entry : Placed). IsGenesis entry.rec) h → total side a h ≡ 0
total-genesis side a [] all = refl
total-genesis side a (entry ∷ h) all = by_kind entry.rec entry.end all.0 ∙ total-genesis side a h all.1
  where
    by_kind : (rec : Rec) (end : ℕ) → IsGenesis rec → total side a (record { end = end; rec = rec } ∷ h) ≡ total side a h
    by_kind (Genesis account balance) end is = total-no_change side a (record { end = end; rec = Genesis account balance }) h refl refl
    by_kind (Update txn account delta prev) end is = absurd is
    by_kind (Commit txn legs) end is = absurd is
    by_kind (Short txn leg) end is = absurd is
    by_kind (Over txn leg) end is = absurd is
    by_kind (Note txn text) end is = absurd is

last-genesis : (base : BaseState) (a : ℕ) (h : List Placed) → AllByRecursion (λ (entry : Placed). IsGenesis entry.rec) h → last_commit_of base h a ≡ base.last_commit a
last-genesis base a [] all = refl
last-genesis base a (entry ∷ h) all = by_kind entry.rec entry.end all.0 ∙ last-genesis base a h all.1
  where
    by_kind : (rec : Rec) (end : ℕ) → IsGenesis rec → last_commit_of base (record { end = end; rec = rec } ∷ h) a ≡ last_commit_of base h a
    by_kind (Genesis account balance) end is = refl
    by_kind (Update txn account delta prev) end is = absurd is
    by_kind (Commit txn legs) end is = absurd is
    by_kind (Short txn leg) end is = absurd is
    by_kind (Over txn leg) end is = absurd is
    by_kind (Note txn text) end is = absurd is

module _ (opening : Opening) where
  -- at most 16 Updates of a transaction stand in a lawful list
  pub lawful_updates_of_at_most_16 : (h : List Placed) (n : ℕ) → IsLawful opening h → length (updates_of n h) ≤ 16
  lawful_updates_of_at_most_16 h n lawful = (updates_of-fits (base_with opening h) h n (lawful-met opening h lawful)).few

  -- and their accounts have a row
  pub updates_of-accounts_have_rows : (rows : List (ℕ × ℕ)) (h : List Placed) (n : ℕ) (changes : List Change) → IsLawful opening h → KeepsRows rows (base_with opening h) h
      → changes ≡ updates_of n h → AllByRecursion (λ (change : Change). change.account < length rows) changes
  updates_of-accounts_have_rows rows h n changes lawful kept are =
      subst (λ count. AllByRecursion (λ (change : Change). change.account < count) changes) (sym kept.count)
      (subst (AllByRecursion (λ (change : Change). change.account < (base_with opening h).accounts)) (sym are)
      (updates_of-fits (base_with opening h) h n (lawful-met opening h lawful)).known)

  -- behind a list of Genesis records there is an account for each
  pub all_genesis-accounts_count : (h : List Placed) → AllByRecursion (λ (entry : Placed). IsGenesis entry.rec) h → (base_with opening h).accounts ≡ opening.state.accounts + length h
  all_genesis-accounts_count [] all = omega arith
  all_genesis-accounts_count (entry ∷ h) all = by_kind entry.rec all.0 (all_genesis-accounts_count h all.1)
    where
      by_kind : (rec : Rec) → IsGenesis rec → (base_with opening h).accounts ≡ opening.state.accounts + length h → (with_genesis rec
          (base_with opening h)).accounts ≡ opening.state.accounts + length (entry ∷ h)
      by_kind (Genesis account balance) is before = omega arith
      by_kind (Update txn account delta prev) is before = absurd is
      by_kind (Commit txn legs) is before = absurd is
      by_kind (Short txn leg) is before = absurd is
      by_kind (Over txn leg) is before = absurd is
      by_kind (Note txn text) is before = absurd is

  pub base_with-accounts_le : (h : List Placed) → (base_with opening h).accounts ≤ opening.state.accounts + length h
  base_with-accounts_le [] = omega arith
  base_with-accounts_le (entry ∷ h) = by_kind entry.rec (base_with-accounts_le h)
    where
      by_kind : (rec : Rec) → (base_with opening h).accounts ≤ opening.state.accounts + length h → (with_genesis rec (base_with opening h)).accounts ≤ opening.state.accounts + length (entry ∷ h)
      by_kind (Genesis account balance) before = omega arith
      by_kind (Update txn account delta prev) before = omega arith
      by_kind (Commit txn legs) before = omega arith
      by_kind (Short txn leg) before = omega arith
      by_kind (Over txn leg) before = omega arith
      by_kind (Note txn text) before = omega arith

  -- where there are as many accounts as records, all are Genesis records
  pub accounts_count-all_genesis : (h : List Placed) → (base_with opening h).accounts ≡ opening.state.accounts + length h → AllByRecursion (λ (entry : Placed). IsGenesis entry.rec) h
  accounts_count-all_genesis [] equal = tt
  accounts_count-all_genesis (entry ∷ h) equal = by_kind entry.rec equal (base_with-accounts_le h) (accounts_count-all_genesis h)
    where
      by_kind : (rec : Rec) → (with_genesis rec (base_with opening h)).accounts ≡ opening.state.accounts + length (entry ∷ h) → (base_with opening h).accounts ≤ opening.state.accounts + length h
          → ((base_with opening h).accounts ≡ opening.state.accounts + length h → AllByRecursion (λ (entry : Placed). IsGenesis entry.rec) h)
          → IsGenesis rec × AllByRecursion (λ (entry : Placed). IsGenesis entry.rec) h
      by_kind (Genesis account balance) equal most rest = (tt, rest (omega arith))
      by_kind (Update txn account delta prev) equal most rest = absurd (omega arith)
      by_kind (Commit txn legs) equal most rest = absurd (omega arith)
      by_kind (Short txn leg) equal most rest = absurd (omega arith)
      by_kind (Over txn leg) equal most rest = absurd (omega arith)
      by_kind (Note txn text) equal most rest = absurd (omega arith)

  -- one more Genesis adds a row
  module _ (rows : List (ℕ × ℕ)) (h : List Placed) (end account balance : ℕ) (kept : KeepsRows rows (base_with opening h) h)
      (all : AllByRecursion (λ (entry : Placed). IsGenesis entry.rec) h) (next : account ≡ (base_with opening h).accounts) (range : IsBalance balance)
      (blank : (a : ℕ) → opening.state.last_commit a ≡ 0) where
    abbrev genesis : Placed
    genesis = record { end = end; rec = Genesis account balance }

    abbrev grown : BaseState
    grown = with_genesis (Genesis account balance) (base_with opening h)

    old-row : (a : ℕ) → a < length rows → row (rows ++ (balance, 0) ∷ []) a ≡ row rows a
    old-row a inside = get_or_append_left rows ((balance, 0) ∷ []) (0, 0) a inside

    new-row : (a : ℕ) → a ≡ length rows → row (rows ++ (balance, 0) ∷ []) a ≡ (balance, 0)
    new-row a is = get_or_at rows (balance, 0) [] (0, 0) a (sym is)

    last-zero : (a : ℕ) → last_commit_of grown (genesis ∷ h) a ≡ 0
    last-zero a = last-genesis grown a (genesis ∷ h) (tt, all) ∙ base_with-last_commit opening h a ∙ blank a

    balance-old : (a : ℕ) → a < length rows → grown.balance a ≡ (base_with opening h).balance a
    balance-old a inside = let counted = kept.count in
        ap (λ b. cond b balance ((base_with opening h).balance a)) (ne_eqb a account (λ same. absurd (omega arith)))

    balance-new : (a : ℕ) → a ≡ length rows → grown.balance a ≡ balance
    balance-new a is = let counted = kept.count in ap (λ b. cond b balance ((base_with opening h).balance a)) (eq-eqb a account (omega arith))

    pub keeps_rows-first_genesis : KeepsRows (rows ++ (balance, 0) ∷ []) grown (genesis ∷ h)
    keeps_rows-first_genesis = let counted = kept.count in let longer = length-append rows ((balance, 0) ∷ []) in record {
      count = omega arith;
      range = λ a inside. dite (ℕ_discrete a (length rows))
          (λ new. subst (λ (v : ℕ × ℕ). IsBalance v.0) (sym (new-row a new)) range)
          (λ old. let inside' : a < length rows = omega arith in subst (λ (v : ℕ × ℕ). IsBalance v.0) (sym (old-row a inside')) (kept.range a inside'));
      balance = λ a inside.
          let gains = total-genesis gain a (genesis ∷ h) (tt, all) in let losses = total-genesis loss a (genesis ∷ h) (tt, all) in
          dite (ℕ_discrete a (length rows))
          (λ new. let here = ap (λ (v : ℕ × ℕ). v.0) (new-row a new) in let first = balance-new a new in omega arith)
          (λ old. let inside' : a < length rows = omega arith in
          let here = ap (λ (v : ℕ × ℕ). v.0) (old-row a inside') in let first = balance-old a inside' in
          let before = kept.balance a inside' in let gains-before = total-genesis gain a h all in let losses-before = total-genesis loss a h all in omega arith);
      last = λ a inside. dite (ℕ_discrete a (length rows))
          (λ new. ap (λ (v : ℕ × ℕ). v.1) (new-row a new) ∙ sym (last-zero a))
          (λ old. let inside' : a < length rows = omega arith in
          ap (λ (v : ℕ × ℕ). v.1) (old-row a inside') ∙ kept.last a inside' ∙ last-genesis (base_with opening h) a h all ∙ base_with-last_commit opening h a ∙ blank a ∙ sym (last-zero a));
    }

  -- a Commit whose transaction has these changes
  module _ (rows : List (ℕ × ℕ)) (h : List Placed) (txn legs end : ℕ) (changes : List Change) (lawful : IsLawful opening h) (kept : KeepsRows rows (base_with opening h) h)
      (on : IsCommitting opening h txn legs changes) where
    abbrev entry : Placed
    entry = record { end = end; rec = Commit txn legs }

    abbrev AreCurrentRows : Type 0
    AreCurrentRows = AllByRecursion (λ (change : Change). change.prev ≡ (row rows change.account).1) changes

    known : AllByRecursion (λ (change : Change). change.account < length rows) changes
    known = updates_of-accounts_have_rows rows h txn changes lawful kept on.are

    current : AreCurrentRows → AllByRecursion (IsCurrent (base_with opening h) h) (updates_of txn h)
    current all = subst (AllByRecursion (IsCurrent (base_with opening h) h)) on.are (prev_in_rows-current rows (base_with opening h) h changes known kept all)

    pub fails-stale : (AreCurrentRows → ⊥) → IsFirstFailing (Passes opening h entry) why.Stale
    fails-stale stale = record {
      passes = (on.some, (tt, (((λ other. on.above), on.unended), (sym (ap length on.are) ∙ on.legs_are, (tt, (tt, tt))))));
      fails = λ all. stale (current-prev_in_rows rows (base_with opening h) h changes known kept (subst (AllByRecursion (IsCurrent (base_with opening h) h)) (sym on.are) all));
    }

    pub fails-balance : AreCurrentRows → LeavesSome changes rows → IsFirstFailing (Passes opening h entry) why.Balance
    fails-balance all leaves = record {
      passes = (on.some, (tt, (((λ other. on.above), on.unended), (sym (ap length on.are) ∙ on.legs_are, (tt, (tt, (current all, tt)))))));
      fails = λ keeps. leaves_some-commit_out_of_range rows (base_with opening h) h txn legs end changes kept on.unended on.are leaves (keeps refl);
    }

    pub committing-applied_keeps_rows : (new : List (ℕ × ℕ)) → AppliesChanges changes end rows new → KeepsRows new (base_with opening h) (entry ∷ h)
    committing-applied_keeps_rows new applies = keeps_rows-first_commit rows (base_with opening h) h txn legs end changes kept on.unended on.are new applies

    pub passes-commit : AreCurrentRows → (new : List (ℕ × ℕ)) → AppliesChanges changes end rows new → AllByRecursion (Passes opening h entry) tests
    passes-commit all new applies = (
      on.some,
      (
        tt,
        (
          ((λ other. on.above), on.unended),
          (
            sym (ap length on.are) ∙ on.legs_are,
            (
              tt,
              (
                tt,
                (
                  current all,
                  ((λ is. keeps_rows-in_range new (base_with opening h) (entry ∷ h) (committing-applied_keeps_rows new applies)), tt),
                ),
              ),
            ),
          ),
        ),
      ),
    )

  -- a Genesis passes all other tests
  pub passes-genesis : (h : List Placed) (end account balance : ℕ) → AllByRecursion (λ (entry : Placed). IsGenesis entry.rec) h → opening.state.accounts ≡ 0 → account ≡ length h
      → AllByRecursion (Passes opening h (record { end = end; rec = Genesis account balance })) tests
  passes-genesis h end account balance all first next =
      ((first, all, next), (tt, (((λ other. absurd (other tt)), tt), (tt, (tt, (tt, (tt, ((λ on. absurd (true≢false (sym on))), tt))))))))

  pub fails-genesis : (rows : List (ℕ × ℕ)) (h : List Placed) (account : ℕ) → KeepsRows rows (base_with opening h) h
      → (length h ≡ length rows → account ≡ length rows → ⊥) → (end balance : ℕ)
      → IsFirstFailing (Passes opening h (record { end = end; rec = Genesis account balance })) why.Genesis
  fails-genesis rows h account kept other end balance = record {
    passes = tt;
    fails = λ opens. let counted = kept.count in let all = all_genesis-accounts_count h opens.1 in let none = opens.0 in let next = opens.2 in other (omega arith) (omega arith);
  }
