-- What one more entry changes of what a history says.
use Rattle.std.proofs.Common.{◌≡◌, ◌≢◌, ℕ, ◌==◌, ◌&&◌, ◌||◌, ◌+◌, cond, ℤ, Bool, true, false, true≢false, List, [], ◌∷◌, ◌++◌, sym, refl, ap, ◌∙◌, arith, eq-eqb, ne_eqb}
use mathlib.Core.Logic.{dite}
use native.Mathlib.Decide.{ℕ_discrete}
use Rattle.log_record.specs.declared.rec.Rec.{Rec}
use Rattle.log_record.specs.declared.rec.Placed.{Placed}
use Rattle.log_record.specs.declared.rec.Rec.TheVariants.{Genesis, Update, Commit, Short, Over, Note}
use Rattle.lock_core.specs.declared.update.Change.{Change}
use Rattle.lock_core.specs.Records.{txn_of, commits, ends, changes_of}
use Rattle.lock_core.specs.Transactions.{of_transaction, recs_of, changes_in, updates_of, has_end, has_commit, is_committed, touches}
use Rattle.lock_core.specs.Sums.{BaseState, moved, moved_by, total, last_commit_of}

pub of_transaction-first_own : (n : ℕ) (entry : Placed) (h : List Placed) → txn_of entry.rec ≡ n → of_transaction n (entry ∷ h) ≡ entry ∷ of_transaction n h
of_transaction-first_own n entry h is = ap (λ (b : Bool). cond b (entry ∷ of_transaction n h) (of_transaction n h)) (eq-eqb (txn_of entry.rec) n is)

pub of_transaction-first_other : (n : ℕ) (entry : Placed) (h : List Placed) → txn_of entry.rec ≢ n → of_transaction n (entry ∷ h) ≡ of_transaction n h
of_transaction-first_other n entry h other = ap (λ (b : Bool). cond b (entry ∷ of_transaction n h) (of_transaction n h)) (ne_eqb (txn_of entry.rec) n other)

pub updates_of-first_own : (n : ℕ) (entry : Placed) (h : List Placed) → txn_of entry.rec ≡ n → updates_of n (entry ∷ h) ≡ changes_of entry.rec ++ updates_of n h
updates_of-first_own n entry h is = ap (λ entries. changes_in (recs_of entries)) (of_transaction-first_own n entry h is)

pub updates_of-first_other : (n : ℕ) (entry : Placed) (h : List Placed) → txn_of entry.rec ≢ n → updates_of n (entry ∷ h) ≡ updates_of n h
updates_of-first_other n entry h other = ap (λ entries. changes_in (recs_of entries)) (of_transaction-first_other n entry h other)

pub or-false : (x : Bool) → (x || false) ≡ x
or-false true = refl
or-false false = refl

pub or-true : (x : Bool) → (x || true) ≡ true
or-true true = refl
or-true false = refl

pub or_false-both_false : (x y : Bool) → (x || y) ≡ false → (x ≡ false) × (y ≡ false)
or_false-both_false true y off = absurd (true≢false off)
or_false-both_false false y off = (refl, off)

ends_not-commits_not : (rec : Rec) → ends rec ≡ false → commits rec ≡ false
ends_not-commits_not (Genesis account balance) off = refl
ends_not-commits_not (Update txn account delta prev) off = refl
ends_not-commits_not (Commit txn legs) off = off
ends_not-commits_not (Short txn leg) off = refl
ends_not-commits_not (Over txn leg) off = refl
ends_not-commits_not (Note txn text) off = refl

-- without an end record there is no Commit
pub has_commit-unended : (records : List Rec) → has_end records ≡ false → has_commit records ≡ false
has_commit-unended [] off = refl
has_commit-unended (rec ∷ records) off =
    let parts = or_false-both_false (ends rec) (has_end records) off in
    λ i. ends_not-commits_not rec parts.0 i || has_commit-unended records parts.1 i

pub changes_of-commit : (rec : Rec) → commits rec ≡ true → changes_of rec ≡ []
changes_of-commit (Genesis account balance) is = refl
changes_of-commit (Update txn account delta prev) is = absurd (true≢false (sym is))
changes_of-commit (Commit txn legs) is = refl
changes_of-commit (Short txn leg) is = refl
changes_of-commit (Over txn leg) is = refl
changes_of-commit (Note txn text) is = refl

pub is_committed-no_commit : (entry : Placed) (h : List Placed) (n : ℕ) → commits entry.rec ≡ false → is_committed n (entry ∷ h) ≡ is_committed n h
is_committed-no_commit entry h n plain = by_case (txn_of entry.rec == n)
  where
    by_case : (b : Bool) → has_commit (recs_of (cond b (entry ∷ of_transaction n h) (of_transaction n h))) ≡ is_committed n h
    by_case true = ap (λ b. b || is_committed n h) plain
    by_case false = refl

pub is_committed-commit : (entry : Placed) (h : List Placed) (n : ℕ) → commits entry.rec ≡ true → is_committed n (entry ∷ h) ≡ (is_committed n h || (txn_of entry.rec == n))
is_committed-commit entry h n is = by_case (txn_of entry.rec == n)
  where
    by_case : (b : Bool) → has_commit (recs_of (cond b (entry ∷ of_transaction n h) (of_transaction n h))) ≡ (is_committed n h || b)
    by_case true = ap (λ b. b || is_committed n h) is ∙ sym (or-true (is_committed n h))
    by_case false = sym (or-false (is_committed n h))

pub moved-append : (side : ℤ → ℕ) (account : ℕ) (xs ys : List Change) → moved side account (xs ++ ys) ≡ moved side account xs + moved side account ys
moved-append side account [] ys = omega arith
moved-append side account (x ∷ xs) ys = let more = moved-append side account xs ys in omega arith

moved_by-same : (c d : ℕ → Bool) (side : ℤ → ℕ) (account : ℕ) (h : List Placed) → ((n : ℕ) → c n ≡ d n) → moved_by c side account h ≡ moved_by d side account h
moved_by-same c d side account h same = ap (λ (f : ℕ → Bool). moved_by f side account h) (λ i n. same n i)

-- a record that is no Commit, of a transaction that isn't committed, moves nothing
pub total-uncommitted : (side : ℤ → ℕ) (account : ℕ) (entry : Placed) (h : List Placed) → commits entry.rec ≡ false
    → is_committed (txn_of entry.rec) h ≡ false → total side account (entry ∷ h) ≡ total side account h
total-uncommitted side account entry h plain uncommitted =
    moved_by-same (λ n. is_committed n (entry ∷ h)) (λ n. is_committed n h) side account (entry ∷ h) (λ n. is_committed-no_commit entry h n plain)
    ∙ ap (λ b. cond b (moved side account (changes_of entry.rec)) 0 + total side account h) uncommitted
    ∙ omega arith

-- a record that is no Commit and changes nothing
pub total-no_change : (side : ℤ → ℕ) (account : ℕ) (entry : Placed) (h : List Placed) → commits entry.rec ≡ false
    → changes_of entry.rec ≡ [] → total side account (entry ∷ h) ≡ total side account h
total-no_change side account entry h plain empty =
    moved_by-same (λ n. is_committed n (entry ∷ h)) (λ n. is_committed n h) side account (entry ∷ h) (λ n. is_committed-no_commit entry h n plain)
    ∙ (let nothing : cond (is_committed (txn_of entry.rec) h) (moved side account (changes_of entry.rec)) 0 ≡ 0
    = ap (λ changes. cond (is_committed (txn_of entry.rec) h) (moved side account changes) 0) empty ∙ both (is_committed (txn_of entry.rec) h) in
    omega arith)
  where
    both : (b : Bool) → cond {A = ℕ} b 0 0 ≡ 0
    both true = refl
    both false = refl

-- one more transaction that counts
moved_by-or : (c : ℕ → Bool) (n : ℕ) (side : ℤ → ℕ) (account : ℕ) (h : List Placed) → c n ≡ false
    → moved_by (λ x. c x || (n == x)) side account h ≡ moved_by c side account h + moved side account (updates_of n h)
moved_by-or c n side account [] off = refl
moved_by-or c n side account (entry ∷ h) off =
    let own : ℕ = moved side account (changes_of entry.rec) in
    let more = moved_by-or c n side account h off in
    dite (ℕ_discrete (txn_of entry.rec) n)
    (λ is.
    let off-here : c (txn_of entry.rec) ≡ false = ap c is ∙ off in
    let on-here : (n == txn_of entry.rec) ≡ true = eq-eqb n (txn_of entry.rec) (sym is) in
    let now : cond (c (txn_of entry.rec) || (n == txn_of entry.rec)) own 0 ≡ own = (λ i. cond (off-here i || on-here i) own 0) in
    let before : cond (c (txn_of entry.rec)) own 0 ≡ 0 = ap (λ b. cond b own 0) off-here in
    let updates : moved side account (updates_of n (entry ∷ h)) ≡ own + moved side account (updates_of n h)
    = ap (moved side account) (updates_of-first_own n entry h is) ∙ moved-append side account (changes_of entry.rec) (updates_of n h) in
    omega arith)
    (λ other.
    let off-here : (n == txn_of entry.rec) ≡ false = ne_eqb n (txn_of entry.rec) (λ z. other (sym z)) in
    let same : cond (c (txn_of entry.rec) || (n == txn_of entry.rec)) own 0 ≡ cond (c (txn_of entry.rec)) own 0
    = ap (λ b. cond b own 0) (ap (λ b. c (txn_of entry.rec) || b) off-here ∙ or-false (c (txn_of entry.rec))) in
    let updates : moved side account (updates_of n (entry ∷ h)) ≡ moved side account (updates_of n h)
    = ap (moved side account) (updates_of-first_other n entry h other) in
    omega arith)

-- a Commit moves what the Updates of its transaction say
pub total-commit : (side : ℤ → ℕ) (account : ℕ) (entry : Placed) (h : List Placed) → commits entry.rec ≡ true
    → is_committed (txn_of entry.rec) h ≡ false
    → total side account (entry ∷ h) ≡ total side account h + moved side account (updates_of (txn_of entry.rec) h)
total-commit side account entry h is uncommitted =
    moved_by-same (λ n. is_committed n (entry ∷ h)) (λ n. is_committed n h || (txn_of entry.rec == n)) side account (entry ∷ h)
    (λ n. is_committed-commit entry h n is)
    ∙ (let rest = moved_by-or (λ n. is_committed n h) (txn_of entry.rec) side account h uncommitted in
    let own : cond (is_committed (txn_of entry.rec) h || (txn_of entry.rec == txn_of entry.rec)) (moved side account (changes_of entry.rec)) 0 ≡ 0
    = nothing (is_committed (txn_of entry.rec) h || (txn_of entry.rec == txn_of entry.rec)) in
    omega arith)
  where
    nothing : (b : Bool) → cond b (moved side account (changes_of entry.rec)) 0 ≡ 0
    nothing true = ap (moved side account) (changes_of-commit entry.rec is)
    nothing false = refl

pub last_commit_of-no_commit : (base : BaseState) (entry : Placed) (h : List Placed) (account : ℕ) → commits entry.rec ≡ false
    → last_commit_of base (entry ∷ h) account ≡ last_commit_of base h account
last_commit_of-no_commit base entry h account plain =
    ap (λ b. cond (b && touches account (updates_of (txn_of entry.rec) h)) entry.end (last_commit_of base h account)) plain

pub last_commit_of-commit : (base : BaseState) (entry : Placed) (h : List Placed) (account : ℕ) → commits entry.rec ≡ true
    → last_commit_of base (entry ∷ h) account ≡ cond (touches account (updates_of (txn_of entry.rec) h)) entry.end (last_commit_of base h account)
last_commit_of-commit base entry h account is =
    ap (λ b. cond (b && touches account (updates_of (txn_of entry.rec) h)) entry.end (last_commit_of base h account)) is
