-- In a lawful history the plain words of the format say the same as the tests.
use Rattle.std.proofs.Common.{◌≡◌, ◌↔◌, ℕ, ◌&&◌, ◌||◌, cond, Bool, true, false, true≢false, List, [], ◌∷◌, ◌++◌, length, sym, refl, ap, ◌∙◌}
use Rattle.std.specs.List.{AllByRecursion}
use Rattle.std.specs.Prelude.{MatchBool}
use mathlib.Core.Logic.{dite}
use native.Mathlib.Decide.{ℕ_discrete}
use Rattle.log_record.specs.declared.rec.Rec.{Rec}
use Rattle.log_record.specs.declared.rec.Placed.{Placed}
use Rattle.log_record.specs.declared.rec.Rec.TheVariants.{Genesis, Update, Commit, Short, Over, Note}
use Rattle.lock_core.specs.declared.update.Change.{Change}
use Rattle.lock_core.specs.Records.{txn_of, commits, ends, changes_of, lowers}
use Rattle.lock_core.specs.Transactions.{recs_of, own_records_of, updates_of, has_end, touches}
use Rattle.lock_core.specs.Sums.{BaseState, Opening, last_commit_of}
use Rattle.lock_core.specs.Tests.{IsUnended, IsPaired, IsOpposite}
use Rattle.lock_core.specs.Plain.{last_commit_where, plain_last_commit, is_odd, IsOppositeOfNewest, IsPlainlyPaired}
use Rattle.lock_core.specs.Lawful.{IsLawful, base_with}
use Rattle.lock_core.proofs.Meeting.{AreMet, lawful-met}
use Rattle.lock_core.proofs.OneMore.{of_transaction-first_own, of_transaction-first_other, updates_of-first_own, updates_of-first_other, changes_of-commit, or-true}
use Rattle.lock_core.proofs.Pairing.{ArePaired, updates_of-fits, newest_lowers, newest_lowers-parity}

commits-ends : (rec : Rec) → commits rec ≡ true → ends rec ≡ true
commits-ends (Genesis account balance) is = absurd (true≢false (sym is))
commits-ends (Update txn account delta prev) is = absurd (true≢false (sym is))
commits-ends (Commit txn legs) is = refl
commits-ends (Short txn leg) is = absurd (true≢false (sym is))
commits-ends (Over txn leg) is = absurd (true≢false (sym is))
commits-ends (Note txn text) is = absurd (true≢false (sym is))

-- where the entry commits, its transaction is ended in the history
abbrev HasEndedIn : List Placed → Placed → Type 0
HasEndedIn h entry = commits entry.rec ≡ true → has_end (own_records_of (txn_of entry.rec) h) ≡ true

has_end-more : (entry : Placed) (h : List Placed) (n : ℕ) → has_end (own_records_of n h) ≡ true → has_end (own_records_of n (entry ∷ h)) ≡ true
has_end-more entry h n ended = dite (ℕ_discrete (txn_of entry.rec) n)
    (λ same. ap (λ entries. has_end (recs_of entries)) (of_transaction-first_own n entry h same) ∙ ap (λ b. ends entry.rec || b) ended ∙ or-true (ends entry.rec))
    (λ other. ap (λ entries. has_end (recs_of entries)) (of_transaction-first_other n entry h other) ∙ ended)

all-map : (P Q : Placed → Type 0) → ((entry : Placed) → P entry → Q entry) → (h : List Placed) → AllByRecursion P h → AllByRecursion Q h
all-map P Q f [] all = tt
all-map P Q f (entry ∷ h) all = (f entry all.0, all-map P Q f h all.1)

all-ended : (h : List Placed) → AllByRecursion (HasEndedIn h) h
all-ended [] = tt
all-ended (entry ∷ h) = (
  (λ is. ap (λ entries. has_end (recs_of entries)) (of_transaction-first_own (txn_of entry.rec) entry h refl)
      ∙ ap (λ b. b || has_end (own_records_of (txn_of entry.rec) h)) (commits-ends entry.rec is)),
  all-map (HasEndedIn h) (HasEndedIn (entry ∷ h)) (λ other ended is. has_end-more entry h (txn_of other.rec) (ended is)) h (all-ended h),
)

last_commit_where-same : (c d : ℕ → Bool) (otherwise : ℕ) (h : List Placed)
    → AllByRecursion (λ (entry : Placed). commits entry.rec ≡ true → c (txn_of entry.rec) ≡ d (txn_of entry.rec)) h
    → last_commit_where c otherwise h ≡ last_commit_where d otherwise h
last_commit_where-same c d otherwise [] same = refl
last_commit_where-same c d otherwise (entry ∷ h) same =
    by_case (commits entry.rec) refl
    ∙ ap (λ rest. cond (commits entry.rec && d (txn_of entry.rec)) entry.end rest) (last_commit_where-same c d otherwise h same.1)
  where
    by_case : (b : Bool) → b ≡ commits entry.rec → cond (commits entry.rec && c (txn_of entry.rec)) entry.end (last_commit_where c otherwise h)
        ≡ cond (commits entry.rec && d (txn_of entry.rec)) entry.end (last_commit_where c otherwise h)
    by_case true on = ap (λ b. cond (commits entry.rec && b) entry.end (last_commit_where c otherwise h)) (same.0 (sym on))
    by_case false off =
        ap (λ b. cond (b && c (txn_of entry.rec)) entry.end (last_commit_where c otherwise h)) (sym off)
        ∙ ap (λ b. cond (b && d (txn_of entry.rec)) entry.end (last_commit_where c otherwise h)) off

-- an entry of an ended transaction is a Genesis; then it changes nothing of its transaction
updates_of-ended : (base : BaseState) (entry : Placed) (h : List Placed) (n : ℕ) → IsUnended h entry.rec → has_end (own_records_of n h) ≡ true
    → updates_of n (entry ∷ h) ≡ updates_of n h
updates_of-ended base entry h n unended ended = dite (ℕ_discrete (txn_of entry.rec) n)
    (λ same. updates_of-first_own n entry h same ∙ by_kind entry.rec unended same)
    (λ other. updates_of-first_other n entry h other)
  where
    clash : (m : ℕ) → has_end (own_records_of m h) ≡ false → m ≡ n → ⊥
    clash m off same = true≢false (sym ended ∙ ap (λ k. has_end (own_records_of k h)) (sym same) ∙ off)

    by_kind : (rec : Rec) → IsUnended h rec → txn_of rec ≡ n → changes_of rec ++ updates_of n h ≡ updates_of n h
    by_kind (Genesis account balance) off same = refl
    by_kind (Update txn account delta prev) off same = absurd (clash txn off same)
    by_kind (Commit txn legs) off same = refl
    by_kind (Short txn leg) off same = refl
    by_kind (Over txn leg) off same = refl
    by_kind (Note txn text) off same = refl

pub last_commit_of-plainly : (base : BaseState) (h : List Placed) (account : ℕ) → AreMet base h → plain_last_commit base h account ≡ last_commit_of base h account
last_commit_of-plainly base [] account met = refl
last_commit_of-plainly base (entry ∷ h) account met = head (last_commit_of-plainly base h account met.1)
  where
    rest : last_commit_where (λ n. touches account (updates_of n (entry ∷ h))) (base.last_commit account) h ≡ plain_last_commit base h account
    rest = last_commit_where-same (λ n. touches account (updates_of n (entry ∷ h))) (λ n. touches account (updates_of n h)) (base.last_commit account) h
        (all-map (HasEndedIn h) (λ other. commits other.rec ≡ true → touches account (updates_of (txn_of other.rec) (entry ∷ h)) ≡ touches account (updates_of (txn_of other.rec) h))
        (λ other ended is. ap (touches account) (updates_of-ended base entry h (txn_of other.rec) met.0.ended (ended is))) h (all-ended h))

    head : plain_last_commit base h account ≡ last_commit_of base h account → plain_last_commit base (entry ∷ h) account ≡ last_commit_of base (entry ∷ h) account
    head before = by_case (commits entry.rec) refl
        ∙ ap (λ z. cond (commits entry.rec && touches account (updates_of (txn_of entry.rec) h)) entry.end z) (rest ∙ before)
      where
        by_case : (b : Bool) → b ≡ commits entry.rec
            → cond (commits entry.rec && touches account (updates_of (txn_of entry.rec) (entry ∷ h))) entry.end (last_commit_where
            (λ n. touches account (updates_of n (entry ∷ h))) (base.last_commit account) h)
            ≡ cond (commits entry.rec && touches account (updates_of (txn_of entry.rec) h)) entry.end (last_commit_where (λ n. touches account (updates_of n (entry ∷ h))) (base.last_commit account) h)
        by_case true on =
            ap (λ changes. cond (commits entry.rec && touches account changes) entry.end (last_commit_where (λ n. touches account (updates_of n (entry ∷ h))) (base.last_commit account) h))
            (updates_of-first_own (txn_of entry.rec) entry h refl ∙ ap (λ changes. changes ++ updates_of (txn_of entry.rec) h) (changes_of-commit entry.rec (sym on)))
        by_case false off =
            ap (λ z. cond (z && touches account (updates_of (txn_of entry.rec) (entry ∷ h))) entry.end (last_commit_where (λ n. touches account
            (updates_of n (entry ∷ h))) (base.last_commit account) h)) (sym off)
            ∙ ap (λ z. cond (z && touches account (updates_of (txn_of entry.rec) h)) entry.end (last_commit_where (λ n. touches account (updates_of n (entry ∷ h))) (base.last_commit account) h)) off

paired-newest : (before : List Change) (change : Change) (b : Bool) → newest_lowers before ≡ b → IsPaired before change
    → (b ≡ false → lowers change.delta ≡ true) × (b ≡ true → IsOppositeOfNewest before change)
paired-newest [] change b is paired = ((λ off. paired), (λ on. absurd (true≢false (sym on ∙ sym is))))
paired-newest (newest ∷ older) change b is paired =
    ((λ off. by_false (lowers newest.delta) (is ∙ off) paired), (λ on. by_true (lowers newest.delta) (is ∙ on) paired))
  where
    by_false : (c : Bool) → c ≡ false → MatchBool c (IsOpposite newest change) (lowers change.delta ≡ true) → lowers change.delta ≡ true
    by_false true off paired = absurd (true≢false off)
    by_false false off paired = paired

    by_true : (c : Bool) → c ≡ true → MatchBool c (IsOpposite newest change) (lowers change.delta ≡ true) → IsOpposite newest change
    by_true true on paired = paired
    by_true false on paired = absurd (true≢false (sym on))

pub paired-plainly : (before : List Change) (change : Change) → ArePaired before → IsPaired before change → IsPlainlyPaired before change
paired-plainly before change are paired =
    let both = paired-newest before change (is_odd (length before)) (newest_lowers-parity before are) paired in record { odd = both.0; even = both.1 }

pub plainly-paired : (before : List Change) (change : Change) → ArePaired before → IsPlainlyPaired before change → IsPaired before change
plainly-paired [] change are plain = plain.odd refl
plainly-paired (newest ∷ older) change are plain = by_case (lowers newest.delta) refl
  where
    by_case : (b : Bool) → lowers newest.delta ≡ b → MatchBool b (IsOpposite newest change) (lowers change.delta ≡ true)
    by_case true is = plain.even (sym (newest_lowers-parity (newest ∷ older) are) ∙ is)
    by_case false is = plain.odd (sym (newest_lowers-parity (newest ∷ older) are) ∙ is)

pub lawful-plain_last_commit_same : (opening : Opening) (h : List Placed) (account : ℕ) → IsLawful opening h
    → plain_last_commit (base_with opening h) h account ≡ last_commit_of (base_with opening h) h account
lawful-plain_last_commit_same opening h account lawful = last_commit_of-plainly (base_with opening h) h account (lawful-met opening h lawful)

pub lawful-paired_iff_plainly : (opening : Opening) (h : List Placed) (txn : ℕ) (change : Change) → IsLawful opening h
    → IsPaired (updates_of txn h) change ↔ IsPlainlyPaired (updates_of txn h) change
lawful-paired_iff_plainly opening h txn change lawful =
    let fits = updates_of-fits (base_with opening h) h txn (lawful-met opening h lawful) in
    (paired-plainly (updates_of txn h) change fits.paired, plainly-paired (updates_of txn h) change fits.paired)
