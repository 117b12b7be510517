-- The Updates of one transaction: they come in pairs, on accounts of the ledger, and are at most 16.
use Rattle.std.proofs.Common.{◌≡◌, ◌<◌, ◌≤◌, ℕ, zero, suc, ◌+◌, ◌*◌, ℤ, pos, negsuc, neg_ℤ, not, Bool, true, false, true≢false, List, [], ◌∷◌, ◌++◌, length, sym, refl, ap, ◌∙◌, subst, arith}
use Rattle.std.specs.List.{AllByRecursion}
use Rattle.std.specs.Prelude.{MatchBool}
use mathlib.Core.Logic.{dite}
use native.Mathlib.Decide.{ℕ_discrete}
use Rattle.log_record.specs.declared.rec.Rec.{Rec}
use Rattle.log_record.specs.declared.rec.Placed.{Placed}
use Rattle.log_record.specs.declared.rec.Rec.TheVariants.{Genesis, Update, Commit, Short, Over, Note}
use Rattle.lock_core.specs.declared.update.Change.{Change}
use Rattle.lock_core.specs.Records.{txn_of, changes_of, lowers, gain, loss}
use Rattle.lock_core.specs.Transactions.{updates_of}
use Rattle.lock_core.specs.Sums.{BaseState}
use Rattle.lock_core.specs.Tests.{KnowsAccount, CountsLegs, PairsDeltas, IsPaired, IsOpposite}
use Rattle.lock_core.specs.Plain.{is_odd}
use Rattle.lock_core.proofs.Meeting.{AreMet}
use Rattle.lock_core.proofs.OneMore.{updates_of-first_own, updates_of-first_other}

-- each change is paired with those before it
abbrev pub ArePaired : List Change → Type 0
ArePaired [] = Unit {0}
ArePaired (change ∷ changes) = IsPaired changes change × ArePaired changes

pub record Fits (accounts : ℕ) (changes : List Change) : Type 0 where
  pub few : length changes ≤ 16
  pub paired : ArePaired changes
  pub known : AllByRecursion (λ (change : Change). change.account < accounts) changes

fits-more : (base : BaseState) (h : List Placed) (rec : Rec) → KnowsAccount base rec → CountsLegs h rec → PairsDeltas h rec
    → Fits base.accounts (updates_of (txn_of rec) h) → Fits base.accounts (changes_of rec ++ updates_of (txn_of rec) h)
fits-more base h (Update txn account delta prev) known legs pair fits =
    record { few = omega arith; paired = (pair, fits.paired); known = (known, fits.known) }
fits-more base h (Genesis account balance) known legs pair fits = fits
fits-more base h (Commit txn legs') known legs pair fits = fits
fits-more base h (Short txn leg) known legs pair fits = fits
fits-more base h (Over txn leg) known legs pair fits = fits
fits-more base h (Note txn text) known legs pair fits = fits

pub updates_of-fits : (base : BaseState) (h : List Placed) (n : ℕ) → AreMet base h → Fits base.accounts (updates_of n h)
updates_of-fits base [] n met = record { few = omega arith; paired = tt; known = tt }
updates_of-fits base (entry ∷ h) n met = let before = updates_of-fits base h n met.1 in dite (ℕ_discrete (txn_of entry.rec) n)
    (λ same. subst (Fits base.accounts) (sym (updates_of-first_own n entry h same))
    (subst (λ m. Fits base.accounts (changes_of entry.rec ++ updates_of m h)) same
    (fits-more base h entry.rec met.0.account met.0.legs met.0.pair (subst (λ m. Fits base.accounts (updates_of m h)) (sym same) before))))
    (λ other. subst (Fits base.accounts) (sym (updates_of-first_other n entry h other)) before)

pub gain-lowers : (delta : ℤ) → lowers delta ≡ true → gain delta ≡ 0
gain-lowers (pos n) is = absurd (true≢false (sym is))
gain-lowers (negsuc n) is = refl

pub loss-raises : (delta : ℤ) → lowers delta ≡ false → loss delta ≡ 0
loss-raises (pos n) is = refl
loss-raises (negsuc n) is = absurd (true≢false is)

pub lowers-opposite : (delta : ℤ) → lowers delta ≡ true → lowers (neg_ℤ delta) ≡ false
lowers-opposite (pos n) is = absurd (true≢false (sym is))
lowers-opposite (negsuc n) is = refl

pub gain-opposite : (delta : ℤ) → lowers delta ≡ true → gain (neg_ℤ delta) ≡ loss delta
gain-opposite (pos n) is = absurd (true≢false (sym is))
gain-opposite (negsuc n) is = refl

-- all that the changes move on one side
abbrev pub all_moved : (ℤ → ℕ) → List Change → ℕ
all_moved side [] = 0
all_moved side (change ∷ changes) = side change.delta + all_moved side changes

-- what the newest change took, and the next is to add
abbrev pub owed : List Change → ℕ
owed [] = 0
owed (newest ∷ older) = loss newest.delta

pub paired-loss_is_gain_plus_owed : (changes : List Change) → ArePaired changes → all_moved loss changes ≡ all_moved gain changes + owed changes
paired-loss_is_gain_plus_owed [] paired = refl
paired-loss_is_gain_plus_owed (change ∷ []) paired = let none = gain-lowers change.delta paired.0 in omega arith
paired-loss_is_gain_plus_owed (change ∷ newest ∷ older) paired = by_newest (lowers newest.delta) refl paired.0 (paired-loss_is_gain_plus_owed (newest ∷ older) paired.1)
  where
    by_newest : (b : Bool) → lowers newest.delta ≡ b → MatchBool b (IsOpposite newest change) (lowers change.delta ≡ true)
        → all_moved loss (newest ∷ older) ≡ all_moved gain (newest ∷ older) + loss newest.delta
        → all_moved loss (change ∷ newest ∷ older) ≡ all_moved gain (change ∷ newest ∷ older) + loss change.delta
    by_newest true took opposite before =
        let added : gain change.delta ≡ loss newest.delta = ap gain opposite.0 ∙ gain-opposite newest.delta took in omega arith
    by_newest false added took before =
        let nothing = loss-raises newest.delta added in let none = gain-lowers change.delta took in omega arith

-- whether the newest change took
abbrev pub newest_lowers : List Change → Bool
newest_lowers [] = false
newest_lowers (newest ∷ older) = lowers newest.delta

pub newest_lowers-parity : (changes : List Change) → ArePaired changes → newest_lowers changes ≡ is_odd (length changes)
newest_lowers-parity [] paired = refl
newest_lowers-parity (change ∷ []) paired = paired.0
newest_lowers-parity (change ∷ newest ∷ older) paired =
    by_newest (lowers newest.delta) refl paired.0 ∙ ap not (newest_lowers-parity (newest ∷ older) paired.1)
  where
    by_newest : (b : Bool) → lowers newest.delta ≡ b → MatchBool b (IsOpposite newest change) (lowers change.delta ≡ true)
        → lowers change.delta ≡ not (lowers newest.delta)
    by_newest true took opposite = ap lowers opposite.0 ∙ lowers-opposite newest.delta took ∙ sym (ap not took)
    by_newest false added took = took ∙ sym (ap not added)

is_odd-twice : (k : ℕ) → is_odd (2 * k) ≡ false
is_odd-twice zero = refl
is_odd-twice (suc k) = ap is_odd (let e : 2 * suc k ≡ suc (suc (2 * k)) = omega arith in e) ∙ twice (is_odd (2 * k)) ∙ is_odd-twice k
  where
    twice : (b : Bool) → not (not b) ≡ b
    twice true = refl
    twice false = refl

-- an even number of paired changes owes nothing
pub owed-even : (changes : List Change) (k : ℕ) → ArePaired changes → length changes ≡ 2 * k → owed changes ≡ 0
owed-even [] k paired even = refl
owed-even (newest ∷ older) k paired even =
    loss-raises newest.delta (newest_lowers-parity (newest ∷ older) paired ∙ ap is_odd even ∙ is_odd-twice k)
