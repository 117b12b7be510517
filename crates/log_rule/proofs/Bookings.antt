-- Lists of books, the accounts that they hold and the jobs that they took.
use Rattle.std.proofs.Common.{◌≡◌, ◌≢◌, ℕ, zero, suc, ◌==◌, ◌+◌, ◌≤◌, cond, Bool, true, false, List, [], ◌∷◌, ◌++◌, map, set, sym, refl, ap, ◌∙◌, subst, ⊎_elim, arith, eq-eqb, ne_eqb}
use Rattle.std.specs.List.{AllByRecursion}
use mathlib.Core.Logic.{dite}
use mathlib.Core.Option.{some, some-injective}
use native.Mathlib.Decide.{ℕ_discrete}
use lib.ListN.{get_elem?}
use Rattle.atomic_table.proofs.Lists.{at_set, at_snoc}
use Rattle.lsn_space.proofs.ListLemmas.{summed-two_members_le}
use Rattle.lsn_space.specs.Lists.{Everywhere}
use Rattle.log_rule.specs.declared.view.TakenJob.{TakenJob}
use Rattle.log_rule.specs.declared.view.Taken.{Taken}
use Rattle.log_rule.specs.declared.view.Books.{Books}
use Rattle.log_rule.specs.Books.{times_held, times_taken, balance_taken, last_commit_taken, without}
use Rattle.log_rule.specs.Accounts.{HasDistinctJobs}

module _ {A : Type 0} where
  pub everywhere-set_weaken : (P Q : A → Type 0) (list : List A) (me : ℕ) (new : A) → Everywhere P list → Q new
      → ((j : ℕ) (x : A) → j ≢ me → get_elem? list j ≡ some x → P x → Q x) → Everywhere Q (set list me new)
  everywhere-set_weaken P Q list me new all mine others j x there = ⊎_elim
      (λ (t : (j ≡ me) × (new ≡ x)). subst Q t.1 mine)
      (λ (t : (j ≢ me) × (get_elem? list j ≡ some x)). others j x t.0 t.1 (all j x t.1))
      (at_set list me j new x there)

  pub everywhere-set : (P : A → Type 0) (list : List A) (me : ℕ) (new : A) → Everywhere P list → P new → Everywhere P (set list me new)
  everywhere-set P list me new all mine = everywhere-set_weaken P P list me new all mine (λ _ _ _ _ p. p)

  pub everywhere-push : (P : A → Type 0) (list : List A) (new : A) → Everywhere P list → P new → Everywhere P (list ++ new ∷ [])
  everywhere-push P list new all mine j x there = ⊎_elim (λ before. all j x before) (λ (same : new ≡ x). subst P same mine) (at_snoc list new x j there)

-- a step that leaves what `tell` tells of its seat's view
pub map-set_same : {A : Type 0} {B : Type 0} (tell : A → B) (list : List A) (me : ℕ) (old new : A) → get_elem? list me ≡ some old → tell new ≡ tell old
    → map tell (set list me new) ≡ map tell list
map-set_same tell [] me old new there same = refl
map-set_same tell (x ∷ xs) zero old new there same = let is : x ≡ old = some-injective x old there in λ i. (same ∙ ap tell (sym is)) i ∷ map tell xs
map-set_same tell (x ∷ xs) (suc me) old new there same = λ i. tell x ∷ map-set_same tell xs me old new there same i

-- one or none
pub cond-one_if_equal : (a b : ℕ) → a ≡ b → cond {A = ℕ} (a == b) 1 0 ≡ 1
cond-one_if_equal a b same = ap (λ c. cond {A = ℕ} c 1 0) (eq-eqb a b same)

pub cond-zero_if_unequal : (a b : ℕ) → a ≢ b → cond {A = ℕ} (a == b) 1 0 ≡ 0
cond-zero_if_unequal a b differ = ap (λ c. cond {A = ℕ} c 1 0) (ne_eqb a b differ)

-- each held account, which is then one that is held
pub all-weaken_if_held : (P Q : Taken → Type 0) (list : List Taken) → AllByRecursion P list → ((held : Taken) → 1 ≤ times_held held.account list → P held → Q held)
    → AllByRecursion Q list
all-weaken_if_held P Q [] all f = tt
all-weaken_if_held P Q (x ∷ xs) all f = (
  f x (let one = cond-one_if_equal x.account x.account refl in omega arith) all.0,
  all-weaken_if_held P Q xs all.1 (λ held has. f held (omega arith)),
)

pub all-weaken_if_taken : (P Q : TakenJob → Type 0) (list : List TakenJob) → AllByRecursion P list
    → ((taken : TakenJob) → 1 ≤ times_taken taken.number list → P taken → Q taken) → AllByRecursion Q list
all-weaken_if_taken P Q [] all f = tt
all-weaken_if_taken P Q (x ∷ xs) all f = (
  f x (let one = cond-one_if_equal x.number x.number refl in omega arith) all.0,
  all-weaken_if_taken P Q xs all.1 (λ taken has. f taken (omega arith)),
)

-- a held account, its values as taken, and what is known of it
pub record Found (P : Taken → Type 0) (list : List Taken) (account : ℕ) : Type 0 where
  pub held : Taken
  pub is : held.account ≡ account
  pub known : P held
  pub balance : balance_taken list account ≡ held.balance
  pub last_commit : last_commit_taken list account ≡ held.last_commit

pub times_held-found : (P : Taken → Type 0) (account : ℕ) (list : List Taken) → 1 ≤ times_held account list → AllByRecursion P list → Found P list account
times_held-found P account [] has all = absurd (omega arith)
times_held-found P account (x ∷ xs) has all = dite (ℕ_discrete x.account account)
    (λ same. let here = eq-eqb x.account account same in record {
      held = x;
      is = same;
      known = all.0;
      balance = ap (λ b. cond b x.balance (balance_taken xs account)) here;
      last_commit = ap (λ b. cond b x.last_commit (last_commit_taken xs account)) here;
    })
    (λ differ. let other = ne_eqb x.account account differ in let none = cond-zero_if_unequal x.account account differ in
    let more = times_held-found P account xs (omega arith) all.1 in record {
      held = more.held;
      is = more.is;
      known = more.known;
      balance = ap (λ b. cond b x.balance (balance_taken xs account)) other ∙ more.balance;
      last_commit = ap (λ b. cond b x.last_commit (last_commit_taken xs account)) other ∙ more.last_commit;
    })

pub balance_taken-none : (account : ℕ) (list : List Taken) → times_held account list ≡ 0 → balance_taken list account ≡ 0
balance_taken-none account [] none = refl
balance_taken-none account (x ∷ xs) none = dite (ℕ_discrete x.account account)
    (λ same. let one = cond-one_if_equal x.account account same in absurd (omega arith))
    (λ differ. ap (λ b. cond b x.balance (balance_taken xs account)) (ne_eqb x.account account differ) ∙ balance_taken-none account xs (omega arith))

-- a last commit as taken, of whatever account, is one of them or 0
pub last_commit_taken-all : (P : ℕ → Type 0) (account : ℕ) (list : List Taken) → P 0 → AllByRecursion (λ (held : Taken). P held.last_commit) list → P (last_commit_taken list account)
last_commit_taken-all P account [] none all = none
last_commit_taken-all P account (x ∷ xs) none all = by_test (x.account == account) (last_commit_taken-all P account xs none all.1)
  where
    by_test : (b : Bool) → P (last_commit_taken xs account) → P (cond b x.last_commit (last_commit_taken xs account))
    by_test true more = all.0
    by_test false more = more

-- a job of one seat is no other's
pub distinct_jobs-numbers_differ : (all : List Books) (i j : ℕ) (x y : Books) (n m : ℕ) → HasDistinctJobs all → get_elem? all i ≡ some x → get_elem? all j ≡ some y → j ≢ i
    → 1 ≤ times_taken n x.jobs → 1 ≤ times_taken m y.jobs → n ≢ m
distinct_jobs-numbers_differ all i j x y n m distinct here there differ mine theirs same =
    let two = summed-two_members_le (λ (books : Books). times_taken n books.jobs) all i j x y here there differ in let one = distinct n in
    let again : 1 ≤ times_taken n y.jobs = subst (λ z. 1 ≤ times_taken z y.jobs) (sym same) theirs in omega arith

-- a list of held accounts without one of them
pub times_held-without : (account : ℕ) (list : List Taken) → 1 ≤ times_held account list → times_held account (without account list) + 1 ≡ times_held account list
times_held-without account [] has = absurd (omega arith)
times_held-without account (x ∷ xs) has = dite (ℕ_discrete x.account account)
    (λ same. let one = cond-one_if_equal x.account account same in
    let gone : times_held account (without account (x ∷ xs)) ≡ times_held account xs =
    ap (λ b. times_held account (cond b xs (x ∷ without account xs))) (eq-eqb x.account account same) in omega arith)
    (λ differ. let none = cond-zero_if_unequal x.account account differ in
    let kept : times_held account (without account (x ∷ xs)) ≡ cond {A = ℕ} (x.account == account) 1 0 + times_held account (without account xs) =
    ap (λ b. times_held account (cond b xs (x ∷ without account xs))) (ne_eqb x.account account differ) in
    let more = times_held-without account xs (omega arith) in omega arith)

pub times_held-without_other : (account other : ℕ) (list : List Taken) → other ≢ account → times_held other (without account list) ≡ times_held other list
times_held-without_other account other [] differ = refl
times_held-without_other account other (x ∷ xs) differ = dite (ℕ_discrete x.account account)
    (λ same. let none = cond-zero_if_unequal x.account other (λ e. differ (sym e ∙ same)) in
    let gone : times_held other (without account (x ∷ xs)) ≡ times_held other xs =
    ap (λ b. times_held other (cond b xs (x ∷ without account xs))) (eq-eqb x.account account same) in omega arith)
    (λ apart. ap (λ b. times_held other (cond b xs (x ∷ without account xs))) (ne_eqb x.account account apart)
    ∙ ap (λ n. cond (x.account == other) 1 0 + n) (times_held-without_other account other xs differ))

pub all-without : (P : Taken → Type 0) (account : ℕ) (list : List Taken) → AllByRecursion P list → AllByRecursion P (without account list)
all-without P account [] all = tt
all-without P account (x ∷ xs) all = by_test (x.account == account) (all-without P account xs all.1)
  where
    by_test : (b : Bool) → AllByRecursion P (without account xs) → AllByRecursion P (cond b xs (x ∷ without account xs))
    by_test true more = all.1
    by_test false more = (all.0, more)

pub times_taken-append : (number : ℕ) (xs ys : List TakenJob) → times_taken number (xs ++ ys) ≡ times_taken number xs + times_taken number ys
times_taken-append number [] ys = omega arith
times_taken-append number (x ∷ xs) ys = let more = times_taken-append number xs ys in omega arith
