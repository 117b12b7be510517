-- The legs of a transfer, one after another.
use Rattle.std.proofs.Common.{◌≡◌, ◌==◌, inl, inr, ℕ, ◌+◌, ◌-◌, ◌<◌, ◌≤◌, cond, true, false, pos, neg_ℤ, List, [], ◌∷◌, ◌++◌, length, get_or, take}
use Rattle.std.proofs.Common.{drop, map, All, Contains, refl, sym, ap, ◌∙◌, subst, arith, lt-ltb, le-ltb, eq-eqb}
use Rattle.std.specs.List.{AllZip, AllByRecursion}
use Rattle.std.proofs.lemmas.Bool.{or_left, or_right, cond-true, cond-false}
use Rattle.std.proofs.lemmas.List.{drop_more, drop_all, take_all, get_or-map, length-map}
use Rattle.std.proofs.lemmas.List.Elements.{All-contains, All-from_recursion, recursion_from_All, All-more, All-weaker, AllZip-get_or, length_all_zip}
use Rattle.log_record.specs.declared.rec.Rec.{Rec}
use Rattle.log_record.specs.declared.rec.Rec.TheVariants.{Update, Commit}
use Rattle.log_record.specs.Spelling.{IsLeg}
use Rattle.lsn_space.specs.declared.opening.TheConstants.{MOST_AMOUNT, MOST_BALANCE}
use Rattle.lock_core.specs.declared.update.Change.{Change}
use Rattle.lock_core.specs.Alone.{outcome_from, outcome_alone, after_leg, planned_from, lacks, overfills, IsAllowedLeg}
use Rattle.lock_core.specs.Records.{gain, loss}
use Rattle.lock_core.specs.Sums.{moved}
use Rattle.lock_core.specs.Transactions.{recs_of, changes_in, has_commit, touches, in_order}
use Rattle.lock_core.specs.declared.job.Job.{Job}
use Rattle.early_locks.specs.declared.taken.Taken.{Taken}
use Rattle.early_locks.specs.Locks.{HoldsTaken}
use Rattle.log_rule.specs.declared.view.Books.{Books}
use Rattle.log_rule.specs.declared.view.Entry.{Entry}
use Rattle.log_rule.specs.declared.view.Taken.{Taken as TakenHere}
use Rattle.log_rule.specs.declared.view.TakenJob.{TakenJob}
use Rattle.log_rule.specs.Books.{times_held, balance_taken, last_commit_taken, HoldsLeg, HoldsAccounts}
use Rattle.lock_core.specs.Transfers.{transfer_of}
use Rattle.log_rule.specs.ClosedLog.{records_of}
use Rattle.log_rule.proofs.Planning.{leg-sums}
use Rattle.txn_parts.specs.declared.taken_account.TakenAccount.{TakenAccount}
use Rattle.txn_jobs.specs.declared.rows.Answer.{Answer}
use Rattle.txn_jobs.specs.declared.rows.Answer.TheVariants as answer
use Rattle.txn_jobs.specs.Accounts.{HasAccountsOf, IsAccountOf}
use Rattle.txn_making.specs.Holdings.{account_of, taken_of}
use Rattle.txn_making.specs.Inserts.{placing_all, IsLeft}
use Rattle.txn_making.specs.Legs.{AreHeld, HasBalance, IsRefused, CanMake, changes_by, HoldsJob, leg_records, MayMakeLeg, IsAfter, TouchesLeg, StandsBefore, HasChanged, ReachesEnd}
use Rattle.txn_making.proofs.Adding.{IsLeft-placing_all, recs_of-placed_behind, uncommitted-placing_all}
use Rattle.txn_making.proofs.Held.{map_account_of-same, all_taken-same}

-- an account that is one of the holdings' is held
contains-held : (books : Books) (holdings : List TakenAccount) (account : ℕ)
    → AreHeld holdings books
    → Contains (map account_of holdings) account → 1 ≤ times_held account books.held
contains-held books [] account taken has = absurd (omega (arith, has.1))
contains-held books (first ∷ holdings) account taken has = subst (λ a. 1 ≤ times_held a books.held)
    (sym (get_or-map account_of (first ∷ holdings) has.0 first account within) ∙ has.2) (taken has.0 first within).has
  where
    within : has.0 < length (first ∷ holdings)
    within = omega (arith, has.1, length-map (first ∷ holdings) account_of)

-- all accounts of the job are held
pub HoldsJob-holds_accounts : (accounts number : ℕ) (job : Job) (holdings : List TakenAccount) (books : Books)
    → HoldsJob accounts number job holdings books → HoldsAccounts books
HoldsJob-holds_accounts accounts number job holdings books holds = subst (λ (last : TakenJob). AllByRecursion
    (HoldsLeg books.held) last.job.legs) (sym holds.last)
    (recursion_from_All (HoldsLeg books.held) job.legs (All-weaker (HasAccountsOf (map account_of holdings)) (HoldsLeg books.held)
    (λ leg has. (contains-held books holdings leg.0 holds.taken has.0, contains-held books holdings leg.1 holds.taken has.1))
    job.legs holds.all))

-- records that are placed, and balances that are changed, leave the job and its accounts as they are
pub HoldsJob-placing_all : (accounts number : ℕ) (job : Job) (holdings : List TakenAccount) (books books' : Books) (added : List Entry)
    → books' ≡ placing_all added books
    → HoldsJob accounts number job holdings books → HoldsJob accounts number job holdings books'
HoldsJob-placing_all accounts number job holdings books books' added placed holds = subst (HoldsJob accounts number job holdings)
    (sym placed) record {
      last = holds.last;
      allowed = holds.allowed;
      all = holds.all;
      only = holds.only;
      taken = λ k d within. let taken = holds.taken k d within in record { has = taken.has; balance = taken.balance; last_commit = taken.last_commit };
    }

holds-same : (accounts number : ℕ) (job : Job) (old new : List TakenAccount) (books : Books) → map taken_of new ≡ map taken_of old
    → HoldsJob accounts number job old books → HoldsJob accounts number job new books
holds-same accounts number job old new books same holds = record {
  last = holds.last;
  allowed = holds.allowed;
  all = subst (λ list. All (HasAccountsOf list) job.legs) (sym (map_account_of-same old new same)) holds.all;
  only = subst (All (IsAccountOf job.legs)) (sym (map_account_of-same old new same)) holds.only;
  taken = all_taken-same old new same (λ taken. HoldsTaken taken books) holds.taken;
}

-- the accounts of one more leg are changed
touches-behind : (account : ℕ) (changes : List Change) (less more : Change) → touches account changes ≡ true
    → touches account (more ∷ less ∷ changes) ≡ true
touches-behind account changes less more before = or_right (more.account == account) _
    (or_right (less.account == account) (touches account changes) before)

touches-more : (legs : List (ℕ × ℕ × ℕ)) (i : ℕ) (leg : ℕ × ℕ × ℕ) (changes : List Change) (less more : Change) → i < length legs
    → leg ≡ get_or legs i leg → less.account ≡ leg.0 → more.account ≡ leg.1 → All (TouchesLeg changes) (take i legs)
    → All (TouchesLeg (more ∷ less ∷ changes)) (take (i + 1) legs)
touches-more legs i leg changes less more within is pays receives before = All-more (TouchesLeg (more ∷ less ∷ changes)) legs i leg within
    (All-weaker (TouchesLeg changes) (TouchesLeg (more ∷ less ∷ changes))
    (λ leg both. (touches-behind leg.0 changes less more both.0, touches-behind leg.1 changes less more both.1)) (take i legs) before)
    (subst (TouchesLeg (more ∷ less ∷ changes)) is (
      or_right (more.account == leg.0) _ (or_left (less.account == leg.0) (touches leg.0 changes) (eq-eqb less.account leg.0 pays)),
      or_left (more.account == leg.1) _ (eq-eqb more.account leg.1 receives),
    ))

-- what a leg makes of each holding
pub IsAfter-taken_same : (leg : ℕ × ℕ × ℕ) (old new : List TakenAccount) → AllZip (IsAfter leg) old new → map taken_of new ≡ map taken_of old
IsAfter-taken_same leg [] [] paid = refl
IsAfter-taken_same leg [] (after ∷ new) paid = absurd paid
IsAfter-taken_same leg (before ∷ old) [] paid = absurd paid
IsAfter-taken_same leg (before ∷ old) (after ∷ new) paid = λ i. paid.0.taken i ∷ IsAfter-taken_same leg old new paid.1 i

paid-now : (leg : ℕ × ℕ × ℕ) (balances : ℕ → ℕ) (old new : List TakenAccount) → AllZip (IsAfter leg) old new
    → All (λ (holding : TakenAccount). holding.balance ≡ balances holding.taken.account) old
    → All (λ (holding : TakenAccount). holding.balance ≡ after_leg leg balances holding.taken.account) new
paid-now leg balances old new paid now k d within = let is = AllZip-get_or (IsAfter leg) old new k d d paid
    (omega (arith, length_all_zip (IsAfter leg) old new paid)) in
    is.balance ∙ same (get_or old k d).taken.account (now k d (omega (arith, length_all_zip (IsAfter leg) old new paid)))
    ∙ ap (λ (taken : Taken). after_leg leg balances taken.account) (sym is.taken)
  where
    same : {balance : ℕ} (account : ℕ) → balance ≡ balances account → after_leg leg (λ a. balance) account ≡ after_leg leg balances account
    same account is = λ i. cond (leg.0 == account) (is i - leg.2) (cond (leg.1 == account) (is i + leg.2) (is i))

module _ (accounts number : ℕ) (job : Job) (holdings : List TakenAccount) (books : Books) (i : ℕ)
    (holds : HoldsJob accounts number job holdings books)
    (stands : StandsBefore i number job holdings books) where
  abbrev last_commit : ℕ → ℕ
  last_commit = last_commit_taken books.held

  abbrev balances : ℕ → ℕ
  balances = stands.balances

  abbrev changes : List Change
  changes = changes_by books

  balance-is : (holding : TakenAccount) (account : ℕ) → Contains holdings holding → holding.taken.account ≡ account
      → holding.balance ≡ balances account
  balance-is holding account has same = All-contains (λ (holding : TakenAccount). holding.balance ≡ balances holding.taken.account)
      holdings holding stands.now has ∙ ap balances same

  -- all legs are made
  pub reaches-done : i ≡ length job.legs → ReachesEnd answer.Done number job holdings books
  reaches-done all = record {
    left = subst (λ (k : ℕ). IsLeft (Commit number k ∷ []) books) all (subst
        (λ legs. IsLeft (planned_from number last_commit balances i legs) books) none stands.left);
    spellable = (holds.allowed.number, (holds.allowed.job.legs.some, holds.allowed.job.legs.few));
    outcome = sym (stands.outcome ∙ ap (λ legs. outcome_from i legs balances) none);
    moved = λ _ k d within. has-moved (get_or holdings k d) (holds.taken k d within) (stands.now k d within)
        (subst (IsAccountOf job.legs) (get_or-map account_of holdings k d 0 within)
        (holds.only k 0 (omega (arith, length-map holdings account_of))));
    uncommitted = stands.uncommitted;
  }
    where
      none : drop i job.legs ≡ []
      none = drop_all i job.legs (omega arith)

      touched : All (TouchesLeg changes) job.legs
      touched = subst (All (TouchesLeg changes)) (take_all i job.legs (omega arith)) stands.touched

      of-leg : (account : ℕ) → IsAccountOf job.legs account → touches account changes ≡ true
      of-leg account (k, leg, within, is, side) = let both = subst (TouchesLeg changes) is (touched k leg within) in
          elim side [
            | inl pays ↦ subst (λ a. touches a changes ≡ true) pays both.0
            | inr receives ↦ subst
                (λ a. touches a changes ≡ true) receives both.1
          ]

      has-moved : (holding : TakenAccount) → HoldsTaken holding.taken books → holding.balance ≡ balances holding.taken.account
          → IsAccountOf job.legs holding.taken.account
          → HasChanged books holding
      has-moved holding taken now only = record {
        sum = omega (arith, now, taken.balance, stands.sums holding.taken.account);
        touched = of-leg holding.taken.account only;
      }

  module _ (legs : List (ℕ × ℕ × ℕ)) (leg : ℕ × ℕ × ℕ) (same : legs ≡ job.legs) (within : i < length legs) (is : leg ≡ get_or legs i leg) where
    abbrev rest : List (ℕ × ℕ × ℕ)
    rest = drop (i + 1) job.legs

    abbrev behind : List Rec
    behind = planned_from number last_commit (after_leg leg balances) (i + 1) rest

    split : drop i job.legs ≡ leg ∷ rest
    split = subst (λ list. drop i list ≡ leg ∷ drop (i + 1) list) same
        (drop_more legs i leg within ∙ ap (λ first. first ∷ drop (i + 1) legs) (sym is))

    left-at : IsLeft (planned_from number last_commit balances i (leg ∷ rest)) books
    left-at = subst (λ legs. IsLeft (planned_from number last_commit balances i legs) books) split stands.left

    outcome-at : outcome_alone (transfer_of job) (balance_taken books.held) ≡ outcome_from i (leg ∷ rest) balances
    outcome-at = stands.outcome ∙ ap (λ legs. outcome_from i legs balances) split

    leg-allowed : IsAllowedLeg accounts leg
    leg-allowed = subst (IsAllowedLeg accounts) (sym is) (subst (All (IsAllowedLeg accounts)) (sym same)
        (All-from_recursion (IsAllowedLeg accounts) job.legs holds.allowed.job.legs.each) i leg within)

    leg-number : IsLeg (i + 1)
    leg-number = (omega arith, omega (arith, ap length same, holds.allowed.job.legs.few))

    pub leg-has_accounts_of : HasAccountsOf (map account_of holdings) leg
    leg-has_accounts_of = subst (HasAccountsOf (map account_of holdings)) (sym is)
        (subst (All (HasAccountsOf (map account_of holdings))) (sym same) holds.all i leg within)

    pub leg_amount-le_most : leg.2 ≤ MOST_AMOUNT
    leg_amount-le_most = leg-allowed.most

    balance-of : (account : ℕ) (Such : ℕ → Type 0) → HasBalance holdings account Such → Such (balances account)
    balance-of account Such of = subst Such (balance-is of.holding account of.contains of.account_is) of.balance

    -- the payer has too little
    reaches-short : HasBalance holdings leg.0 (λ balance. balance < leg.2) → ReachesEnd (answer.Short (i + 1)) number job holdings books
    reaches-short payer = record {
      left = subst (λ records. IsLeft records books) (cond-true (lacks leg balances) _ _ short) left-at;
      spellable = (holds.allowed.number, leg-number);
      outcome = sym (outcome-at ∙ cond-true (lacks leg balances) _ _ short);
      moved = λ is. cc;
      uncommitted = stands.uncommitted;
    }
      where
        short : lacks leg balances ≡ true
        short = lt-ltb (balances leg.0) leg.2 (balance-of leg.0 _ payer)

    module _ (payer : HasBalance holdings leg.0 (λ balance. leg.2 ≤ balance)) where
      covered : leg.2 ≤ balances leg.0
      covered = balance-of leg.0 _ payer

      has : lacks leg balances ≡ false
      has = le-ltb (balances leg.0) leg.2 covered

      -- the payee would have too much
      reaches-over : HasBalance holdings leg.1 (λ balance. MOST_BALANCE - leg.2 < balance)
          → ReachesEnd (answer.Over (i + 1)) number job holdings books
      reaches-over payee = record {
        left = subst (λ records. IsLeft records books) (cond-false (lacks leg balances) _ _ has
            ∙ cond-true (overfills leg balances) _ _ over) left-at;
        spellable = (holds.allowed.number, leg-number);
        outcome = sym (outcome-at ∙ cond-false (lacks leg balances) _ _ has ∙ cond-true (overfills leg balances) _ _ over);
        moved = λ is. cc;
        uncommitted = stands.uncommitted;
      }
        where
          over : overfills leg balances ≡ true
          over = lt-ltb MOST_BALANCE (balances leg.1 + leg.2) (omega (arith, balance-of leg.1 _ payee))

    pub reaches-refused : (answer : Answer) → IsRefused holdings leg (i + 1) answer → ReachesEnd answer number job holdings books
    reaches-refused answer.Done refused = absurd refused
    reaches-refused (answer.Short at) (is, payer) = subst (λ k. ReachesEnd (answer.Short k) number job holdings books) (sym is)
        (reaches-short payer)
    reaches-refused (answer.Over at) (is, payer, payee) = subst (λ k. ReachesEnd (answer.Over k) number job holdings books) (sym is)
        (reaches-over payer payee)

    module _ (can : CanMake holdings leg) where
      room-left : balances leg.1 + leg.2 ≤ MOST_BALANCE
      room-left = omega (arith, balance-of leg.1 _ can.payee, leg-allowed.most)

      fits : overfills leg balances ≡ false
      fits = le-ltb MOST_BALANCE (balances leg.1 + leg.2) room-left

      left-leg : IsLeft (leg_records number last_commit leg ++ behind) books
      left-leg = subst (λ records. IsLeft records books) (cond-false (lacks leg balances) _ _ (has can.payer)
          ∙ cond-false (overfills leg balances) _ _ fits) left-at

      pub CanMake-may_make_leg : MayMakeLeg accounts number leg holdings books
      CanMake-may_make_leg = record {
        some_job = subst (λ (last : TakenJob). 1 ≤ last.number) (sym holds.last) holds.allowed.number.0;
        holds = HoldsJob-holds_accounts accounts number job holdings books holds;
        txn = holds.allowed.number;
        leg_allowed = leg-allowed;
        both = leg-has_accounts_of;
        taken = holds.taken;
        uncommitted = stands.uncommitted;
        rest = behind;
        left = left-leg;
      }

      -- the holdings after the leg, and the books once its Updates are placed
      module _ (holdings' : List TakenAccount) (paid : AllZip (IsAfter leg) holdings holdings') (books' : Books) (added : List Entry)
          (placed : books' ≡ placing_all added books) (records-are : records_of added ≡ leg_records number last_commit leg) where
        held : books'.held ≡ books.held
        held = ap (λ (b : Books). b.held) placed

        records' : recs_of books'.placed ≡ Update number leg.1 (pos leg.2) (last_commit leg.1) ∷ Update number leg.0
            (neg_ℤ (pos leg.2)) (last_commit leg.0) ∷ recs_of books.placed
        records' = ap (λ (b : Books). recs_of b.placed) placed ∙ recs_of-placed_behind added books.placed
            ∙ ap (λ records. in_order records (recs_of books.placed)) records-are

        abbrev less : Change
        less = record { account = leg.0; delta = neg_ℤ (pos leg.2); prev = last_commit leg.0 }

        abbrev more : Change
        more = record { account = leg.1; delta = pos leg.2; prev = last_commit leg.1 }

        changes' : changes_by books' ≡ more ∷ less ∷ changes
        changes' = ap changes_in records'

        pub HoldsJob-after_leg : HoldsJob accounts number job holdings' books'
        HoldsJob-after_leg = holds-same accounts number job holdings holdings' books' (IsAfter-taken_same leg holdings holdings' paid)
            (HoldsJob-placing_all accounts number job holdings books books' added placed holds)

        touched' : All (TouchesLeg (changes_by books')) (take (i + 1) job.legs)
        touched' = subst (λ (p : List (ℕ × ℕ × ℕ) × List Change). All (TouchesLeg p.1) (take (i + 1) p.0))
            (λ k. (same k, sym changes' k))
            (touches-more legs i leg changes less more within is refl refl
            (subst (λ list. All (TouchesLeg changes) (take i list)) (sym same) stands.touched))

        pub StandsBefore-next_leg : StandsBefore (i + 1) number job holdings' books'
        StandsBefore-next_leg = record {
          balances = after_leg leg balances;
          left = subst (λ list. IsLeft (planned_from number (last_commit_taken list) (after_leg leg balances) (i + 1) rest) books') (sym held)
              (IsLeft-placing_all added behind books books' placed (subst (λ records. IsLeft (records ++ behind) books)
              (sym records-are) left-leg));
          outcome = ap (λ list. outcome_alone (transfer_of job) (balance_taken list)) held
              ∙ outcome-at ∙ cond-false (lacks leg balances) _ _ (has can.payer) ∙ cond-false (overfills leg balances) _ _ fits;
          now = paid-now leg balances holdings holdings' paid stands.now;
          sums = λ account. subst (λ (p : List TakenHere × List Change). after_leg leg balances account + moved loss account p.1
              ≡ balance_taken p.0 account + moved gain account p.1)
              (λ i. (sym held i, sym changes' i))
              (leg-sums leg balances (balance_taken books.held) changes (last_commit leg.0)
              (last_commit leg.1) account leg-allowed.two (covered can.payer) (stands.sums account));
          touched = touched';
          uncommitted = uncommitted-placing_all added books books' placed (ap has_commit records-are) stands.uncommitted;
        }
