-- Committed transactions add in all what they take: the sum of all balances stays.
use Rattle.std.proofs.Common.{◌≡◌, ◌<◌, ◌≤◌, ◌==◌, ℕ, zero, suc, ◌+◌, ◌*◌, cond, ℤ, true, false, List, [], ◌∷◌, length, sym, refl, ap, ◌∙◌, arith, eq-eqb, ne_eqb}
use Rattle.std.specs.List.{AllByRecursion}
use mathlib.Core.Logic.{dite}
use native.Mathlib.Decide.{ℕ_discrete}
use Rattle.log_record.specs.declared.rec.Rec.{Rec}
use Rattle.log_record.specs.declared.rec.Placed.{Placed}
use Rattle.log_record.specs.declared.rec.Rec.TheVariants.{Genesis, Update, Commit, Short, Over, Note}
use Rattle.lock_core.specs.declared.update.Change.{Change}
use Rattle.lock_core.specs.Records.{txn_of, commits, gain, loss}
use Rattle.lock_core.specs.Transactions.{own_records_of, updates_of, has_end}
use Rattle.lock_core.specs.Sums.{BaseState, Opening, moved, total, IsBalanceOf, balance_of, sum_below}
use Rattle.lock_core.specs.Lawful.{IsLawful, base_with}
use Rattle.lock_core.proofs.Meeting.{MeetsTests, AreMet, lawful-met}
use Rattle.lock_core.proofs.Appending.{met-balance_of_is_balance}
use Rattle.lock_core.proofs.OneMore.{has_commit-unended, total-uncommitted, total-no_change, total-commit}
use Rattle.lock_core.proofs.Pairing.{updates_of-fits, all_moved, paired-loss_is_gain_plus_owed, owed-even}

pub sum_below-add : (n : ℕ) (f g : ℕ → ℕ) → sum_below n (λ a. f a + g a) ≡ sum_below n f + sum_below n g
sum_below-add zero f g = refl
sum_below-add (suc n) f g = let more = sum_below-add n f g in omega arith

pub sum_below-same : (n : ℕ) (f g : ℕ → ℕ) → ((a : ℕ) → a < n → f a ≡ g a) → sum_below n f ≡ sum_below n g
sum_below-same zero f g same = refl
sum_below-same (suc n) f g same =
    let more = sum_below-same n f g (λ a below. same a (omega arith)) in let last = same n (omega arith) in omega arith

pub sum_below-zeros : (n : ℕ) → sum_below n (λ a. 0) ≡ 0
sum_below-zeros zero = refl
sum_below-zeros (suc n) = let more = sum_below-zeros n in omega arith

sum_below-past : (n account amount : ℕ) → n ≤ account → sum_below n (λ a. cond (account == a) amount 0) ≡ 0
sum_below-past zero account amount past = refl
sum_below-past (suc n) account amount past =
    let more = sum_below-past n account amount (omega arith) in
    let last : cond {A = ℕ} (account == n) amount 0 ≡ 0 = ap (λ b. cond {A = ℕ} b amount 0) (ne_eqb account n (λ e. omega arith)) in omega arith

-- an amount at one account
pub sum_below-single_amount : (n account amount : ℕ) → account < n → sum_below n (λ a. cond (account == a) amount 0) ≡ amount
sum_below-single_amount zero account amount below = absurd (omega arith)
sum_below-single_amount (suc n) account amount below = dite (ℕ_discrete account n)
    (λ same.
    let last : cond {A = ℕ} (account == n) amount 0 ≡ amount = ap (λ b. cond {A = ℕ} b amount 0) (eq-eqb account n same) in
    let more = sum_below-past n account amount (omega arith) in omega arith)
    (λ other.
    let last : cond {A = ℕ} (account == n) amount 0 ≡ 0 = ap (λ b. cond {A = ℕ} b amount 0) (ne_eqb account n other) in
    let more = sum_below-single_amount n account amount (omega arith) in omega arith)

sum_below-moved : (n : ℕ) (side : ℤ → ℕ) (changes : List Change) → AllByRecursion (λ (change : Change). change.account < n) changes
    → sum_below n (λ a. moved side a changes) ≡ all_moved side changes
sum_below-moved n side [] known = sum_below-zeros n
sum_below-moved n side (change ∷ changes) known =
    let here = sum_below-single_amount n change.account (side change.delta) known.0 in
    let more = sum_below-moved n side changes known.1 in
    let both = sum_below-add n (λ a. cond (change.account == a) (side change.delta) 0) (λ a. moved side a changes) in omega arith

abbrev IsConserved : BaseState → List Placed → Type 0
IsConserved base h = sum_below base.accounts (λ a. total gain a h) ≡ sum_below base.accounts (λ a. total loss a h)

conserved-same : (base : BaseState) (h h' : List Placed) → ((side : ℤ → ℕ) (a : ℕ) → total side a h' ≡ total side a h) → IsConserved base h → IsConserved base h'
conserved-same base h h' same before =
    sum_below-same base.accounts (λ a. total gain a h') (λ a. total gain a h) (λ a below. same gain a) ∙ before
    ∙ sym (sum_below-same base.accounts (λ a. total loss a h') (λ a. total loss a h) (λ a below. same loss a))

conserved-commit : (base : BaseState) (entry : Placed) (h : List Placed) (legs : ℕ) → commits entry.rec ≡ true → has_end (own_records_of (txn_of entry.rec) h) ≡ false
    → length (updates_of (txn_of entry.rec) h) ≡ 2 * legs → AreMet base h → IsConserved base h → IsConserved base (entry ∷ h)
conserved-commit base entry h legs is unended even met before =
    let updates : List Change = updates_of (txn_of entry.rec) h in
    let n : ℕ = base.accounts in
    let uncommitted = has_commit-unended (own_records_of (txn_of entry.rec) h) unended in
    let fits = updates_of-fits base h (txn_of entry.rec) met in
    let gains = sum_below-same n (λ a. total gain a (entry ∷ h)) (λ a. total gain a h + moved gain a updates) (λ a below. total-commit gain a entry h is uncommitted) in
    let losses = sum_below-same n (λ a. total loss a (entry ∷ h)) (λ a. total loss a h + moved loss a updates) (λ a below. total-commit loss a entry h is uncommitted) in
    let gains-add = sum_below-add n (λ a. total gain a h) (λ a. moved gain a updates) in
    let losses-add = sum_below-add n (λ a. total loss a h) (λ a. moved loss a updates) in
    let gains-own = sum_below-moved n gain updates fits.known in
    let losses-own = sum_below-moved n loss updates fits.known in
    let own = paired-loss_is_gain_plus_owed updates fits.paired in
    let nothing = owed-even updates legs fits.paired even in
    omega arith

pub total-conserved : (base : BaseState) (h : List Placed) → AreMet base h → IsConserved base h
total-conserved base [] met = refl
total-conserved base (entry ∷ h) met = by_kind entry.rec entry.end met.0 (total-conserved base h met.1)
  where
    by_kind : (rec : Rec) (end : ℕ) → MeetsTests base h (record { end = end; rec = rec }) → IsConserved base h → IsConserved base (record { end = end; rec = rec } ∷ h)
    by_kind (Genesis account balance) end meets =
        conserved-same base h (record { end = end; rec = Genesis account balance } ∷ h) (λ side a. total-no_change side a (record { end = end; rec = Genesis account balance }) h refl refl)
    by_kind (Update txn account delta prev) end meets =
        conserved-same base h (record { end = end; rec = Update txn account delta prev } ∷ h)
        (λ side a. total-uncommitted side a (record { end = end; rec = Update txn account delta prev }) h refl (has_commit-unended (own_records_of txn h) meets.ended))
    by_kind (Commit txn legs) end meets = conserved-commit base (record { end = end; rec = Commit txn legs }) h legs refl meets.ended meets.legs met.1
    by_kind (Short txn leg) end meets =
        conserved-same base h (record { end = end; rec = Short txn leg } ∷ h) (λ side a. total-no_change side a (record { end = end; rec = Short txn leg }) h refl refl)
    by_kind (Over txn leg) end meets =
        conserved-same base h (record { end = end; rec = Over txn leg } ∷ h) (λ side a. total-no_change side a (record { end = end; rec = Over txn leg }) h refl refl)
    by_kind (Note txn text) end meets =
        conserved-same base h (record { end = end; rec = Note txn text } ∷ h) (λ side a. total-no_change side a (record { end = end; rec = Note txn text }) h refl refl)

-- the balances have the sum of those of the base state
pub met-balances_sum_as_base : (base : BaseState) (h : List Placed) (balance : ℕ → ℕ) → AreMet base h
    → ((a : ℕ) → a < base.accounts → IsBalanceOf base h a (balance a)) → sum_below base.accounts balance ≡ sum_below base.accounts base.balance
met-balances_sum_as_base base h balance met balances =
    let conserved = total-conserved base h met in
    let before = sum_below-add base.accounts balance (λ a. total loss a h) in
    let after = sum_below-add base.accounts base.balance (λ a. total gain a h) in
    let each = sum_below-same base.accounts (λ a. balance a + total loss a h) (λ a. base.balance a + total gain a h) balances in
    omega arith

pub lawful-balances_sum_as_base : (opening : Opening) (h : List Placed) → IsLawful opening h
    → sum_below (base_with opening h).accounts (balance_of (base_with opening h) h) ≡ sum_below (base_with opening h).accounts (base_with opening h).balance
lawful-balances_sum_as_base opening h lawful =
    let met = lawful-met opening h lawful in
    met-balances_sum_as_base (base_with opening h) h (balance_of (base_with opening h) h) met (λ account inside. met-balance_of_is_balance (base_with opening h) h account inside met)
