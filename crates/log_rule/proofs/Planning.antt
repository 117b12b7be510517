-- The records of a plan, one after another: each meets the tests that concern its own transaction alone.
use Rattle.std.proofs.Common.{◌≡◌, ◌≢◌, ◌==◌, ◌||◌, ℕ, ◌+◌, ◌-◌, ◌*◌, ◌≤◌, cond, ℤ, pos, neg_ℤ, Bool, true, false, List, [], ◌∷◌, length, sym, refl, ap, ◌∙◌, subst, arith, ltb-false, eqb-true, ne_eqb}
use Rattle.std.specs.List.{AllByRecursion}
use Rattle.std.specs.Prelude.{MatchBool}
use Rattle.log_record.specs.declared.rec.Rec.{Rec}
use Rattle.log_record.specs.declared.rec.Rec.TheVariants.{Genesis, Update, Commit, Short, Over, Note}
use Rattle.log_record.specs.Spelling.{IsBalance}
use Rattle.lsn_space.specs.declared.opening.TheConstants.{MOST_BALANCE}
use Rattle.lock_core.specs.declared.update.Change.{Change}
use Rattle.lock_core.specs.Records.{lowers, gain, loss}
use Rattle.lock_core.specs.Transactions.{changes_in, has_end, touches, all_without_prev, in_order}
use Rattle.lock_core.specs.Sums.{moved}
use Rattle.lock_core.specs.Tests.{IsPaired, IsOpposite}
use Rattle.lock_core.specs.Alone.{lacks, overfills, after_leg, with_note, leg_updates, planned_from, planned_records}
use Rattle.lock_core.specs.Serial.{NumberedTransfer}
use Rattle.lock_core.proofs.Doing.{gain-negated, loss-negated}
use Rattle.log_rule.proofs.Deltas.{lowers-negated, negated-twice}

-- each record of a list has this, with the records before it, newest first, and those behind it
abbrev pub Walk : (List Rec → Rec → List Rec → Type 0) → List Rec → List Rec → Type 0
Walk T before [] = Unit {0}
Walk T before (rec ∷ rest) = T before rec rest × Walk T (rec ∷ before) rest

pub walk-in_order_rest : (T : List Rec → Rec → List Rec → Type 0) (before rest : List Rec) → Walk T [] (in_order before rest) → Walk T before rest
walk-in_order_rest T [] rest walk = walk
walk-in_order_rest T (rec ∷ before) rest walk = (walk-in_order_rest T before (rec ∷ rest) walk).1

-- the records are a front of the transfer's Note and Updates
pub record IsFront (task : NumberedTransfer) (records : List Rec) : Type 0 where
  pub rest : List Rec
  pub front : in_order (all_without_prev records) rest ≡ with_note task.number task.job.note (leg_updates task.number task.job.legs)

-- a change with the last Commit as taken, of an account that is held
abbrev pub NamesLastCommit : (ℕ → Type 0) → (ℕ → ℕ) → Change → Type 0
NamesLastCommit P last_commit change = (change.prev ≡ last_commit change.account) × P change.account

pub record IsUpdateStep (task : NumberedTransfer) (P : ℕ → Type 0) (last_commit : ℕ → ℕ) (before : List Rec) (txn account : ℕ) (delta : ℤ) (prev : ℕ) : Type 0 where
  pub own : txn ≡ task.number
  pub unended : has_end before ≡ false
  pub legs : length (changes_in before) ≤ 15
  pub paired : IsPaired (changes_in before) (record { account = account; delta = delta; prev = prev })
  pub marked : NamesLastCommit P last_commit (record { account = account; delta = delta; prev = prev })
  pub cut : IsFront task (Update txn account delta prev ∷ before)

-- a balance in its range, which is that of before with what the changes move
pub record HasBalance (balance : ℕ → ℕ) (changes : List Change) (account : ℕ) : Type 0 where
  pub now : ℕ
  pub range : IsBalance now
  pub sum : now + moved loss account changes ≡ balance account + moved gain account changes

pub record IsCommitStep (task : NumberedTransfer) (balance : ℕ → ℕ) (before : List Rec) (txn legs : ℕ) (rest : List Rec) : Type 0 where
  pub own : txn ≡ task.number
  pub unended : has_end before ≡ false
  pub count : length (changes_in before) ≡ 2 * legs
  pub last : rest ≡ []
  pub balances : (account : ℕ) → HasBalance balance (changes_in before) account

pub record IsRefusalStep (task : NumberedTransfer) (before : List Rec) (txn leg : ℕ) (rest : List Rec) : Type 0 where
  pub own : txn ≡ task.number
  pub unended : has_end before ≡ false
  pub count : length (changes_in before) ≡ 2 * (leg - 1)
  pub last : rest ≡ []

pub record IsNoteStep (task : NumberedTransfer) (before : List Rec) (txn : ℕ) (text : List ℕ) : Type 0 where
  pub own : txn ≡ task.number
  pub unended : has_end before ≡ false
  pub cut : IsFront task (Note txn text ∷ before)

-- what is known of a record that comes behind these and before those
abbrev pub Step : NumberedTransfer → (ℕ → Type 0) → (ℕ → ℕ) → (ℕ → ℕ) → List Rec → Rec → List Rec → Type 0
Step task P last_commit balance before (Genesis account amount) rest = ⊥
Step task P last_commit balance before (Update txn account delta prev) rest = IsUpdateStep task P last_commit before txn account delta prev
Step task P last_commit balance before (Commit txn legs) rest = IsCommitStep task balance before txn legs rest
Step task P last_commit balance before (Short txn leg) rest = IsRefusalStep task before txn leg rest
Step task P last_commit balance before (Over txn leg) rest = IsRefusalStep task before txn leg rest
Step task P last_commit balance before (Note txn text) rest = IsNoteStep task before txn text

-- all changes so far have their last Commit as taken
pub walk-last_commits : (task : NumberedTransfer) (P : ℕ → Type 0) (last_commit balance : ℕ → ℕ) (before rest : List Rec)
    → Walk (Step task P last_commit balance) [] (in_order before rest) → AllByRecursion (NamesLastCommit P last_commit) (changes_in before)
walk-last_commits task P last_commit balance [] rest walk = tt
walk-last_commits task P last_commit balance (rec ∷ before) rest walk =
    more rec (walk-in_order_rest (Step task P last_commit balance) before (rec ∷ rest) walk).0 (walk-last_commits task P last_commit balance before (rec ∷ rest) walk)
  where
    more : (rec : Rec) → Step task P last_commit balance before rec rest → AllByRecursion (NamesLastCommit P last_commit) (changes_in before)
        → AllByRecursion (NamesLastCommit P last_commit) (changes_in (rec ∷ before))
    more (Genesis account amount) step all = all
    more (Update txn account delta prev) step all = (step.marked, all)
    more (Commit txn legs) step all = all
    more (Short txn leg) step all = all
    more (Over txn leg) step all = all
    more (Note txn text) step all = all

-- an account that is not held is not changed
pub unheld-not_touched : (P : ℕ → Type 0) (last_commit : ℕ → ℕ) (changes : List Change) (account : ℕ) → (P account → ⊥) → AllByRecursion (NamesLastCommit P last_commit) changes
    → touches account changes ≡ false
unheld-not_touched P last_commit [] account none all = refl
unheld-not_touched P last_commit (change ∷ changes) account none all =
    λ i. ne_eqb change.account account (λ same. none (subst P same all.0.1)) i || unheld-not_touched P last_commit changes account none all.1 i

-- the balances after a leg are those before it with what its Updates move
leg-moves : (payer payee : Bool) (balance amount taken added start less : ℕ) → less ≡ amount → (payer ≡ true → amount ≤ balance)
    → (payer ≡ true → payee ≡ true → ⊥) → balance + taken ≡ start + added
    → cond payer (balance - amount) (cond payee (balance + amount) balance) + (cond payee 0 0 + (cond payer less 0 + taken))
    ≡ start + (cond payee amount 0 + (cond payer 0 0 + added))
leg-moves true true balance amount taken added start less is enough apart sums = absurd (apart refl refl)
leg-moves true false balance amount taken added start less is enough apart sums = let covered = enough refl in omega arith
leg-moves false true balance amount taken added start less is enough apart sums = omega arith
leg-moves false false balance amount taken added start less is enough apart sums = omega arith

pub leg-sums : (leg : ℕ × ℕ × ℕ) (balance start : ℕ → ℕ) (changes : List Change) (prev prev' account : ℕ) → leg.0 ≢ leg.1 → leg.2 ≤ balance leg.0
    → balance account + moved loss account changes ≡ start account + moved gain account changes
    → after_leg leg balance account
    + moved loss account (record { account = leg.1; delta = pos leg.2; prev = prev' } ∷ record { account = leg.0; delta = neg_ℤ (pos leg.2); prev = prev } ∷ changes)
    ≡ start account
    + moved gain account (record { account = leg.1; delta = pos leg.2; prev = prev' } ∷ record { account = leg.0; delta = neg_ℤ (pos leg.2); prev = prev } ∷ changes)
leg-sums leg balance start changes prev prev' account two enough sums =
    subst (λ (amount : ℕ). after_leg leg balance account + (cond (leg.1 == account) 0 0 + (cond (leg.0 == account) (loss (neg_ℤ (pos leg.2))) 0 + moved loss account changes))
    ≡ start account + (cond (leg.1 == account) leg.2 0 + (cond (leg.0 == account) amount 0 + moved gain account changes)))
    (sym (gain-negated leg.2))
    (leg-moves (leg.0 == account) (leg.1 == account) (balance account) leg.2 (moved loss account changes) (moved gain account changes) (start account)
    (loss (neg_ℤ (pos leg.2))) (loss-negated leg.2) (λ is. subst (λ a. leg.2 ≤ balance a) (eqb-true leg.0 account is) enough)
    (λ payer payee. two (eqb-true leg.0 account payer ∙ sym (eqb-true leg.1 account payee))) sums)

leg-range : (payer payee : Bool) (balance amount : ℕ) → balance ≤ MOST_BALANCE → (payee ≡ true → balance + amount ≤ MOST_BALANCE)
    → cond payer (balance - amount) (cond payee (balance + amount) balance) ≤ MOST_BALANCE
leg-range true payee balance amount range fits = omega arith
leg-range false true balance amount range fits = fits refl
leg-range false false balance amount range fits = range

-- the leg moves something between two accounts that are held
abbrev pub IsHeldLeg : (ℕ → Type 0) → ℕ × ℕ × ℕ → Type 0
IsHeldLeg P leg = (leg.0 ≢ leg.1) × (1 ≤ leg.2) × P leg.0 × P leg.1

-- whatever takes may follow
abbrev IsClosed : List Change → Type 0
IsClosed changes = (change : Change) → lowers change.delta ≡ true → IsPaired changes change

module _ (task : NumberedTransfer) (P : ℕ → Type 0) (last_commit start : ℕ → ℕ) where
  abbrev txn : ℕ
  txn = task.number

  abbrev T : List Rec → Rec → List Rec → Type 0
  T = Step task P last_commit start

  abbrev Sums : (ℕ → ℕ) → List Change → Type 0
  Sums balance changes = (account : ℕ) → balance account + moved loss account changes ≡ start account + moved gain account changes

  abbrev Ranges : (ℕ → ℕ) → Type 0
  Ranges balance = (account : ℕ) → balance account ≤ MOST_BALANCE

  abbrev less : ℕ × ℕ × ℕ → Rec
  less leg = Update txn leg.0 (neg_ℤ (pos leg.2)) (last_commit leg.0)

  abbrev more : ℕ × ℕ × ℕ → Rec
  more leg = Update txn leg.1 (pos leg.2) (last_commit leg.1)

  -- the rest of the walk, behind a leg
  abbrev Goes : ℕ × ℕ × ℕ → List (ℕ × ℕ × ℕ) → (ℕ → ℕ) → ℕ → List Rec → Type 0
  Goes leg legs balance k before = Ranges (after_leg leg balance) → Sums (after_leg leg balance) (changes_in (more leg ∷ less leg ∷ before))
      → Walk T (more leg ∷ less leg ∷ before) (planned_from txn last_commit (after_leg leg balance) (k + 1) legs)

  pub planned_from-walk : (legs : List (ℕ × ℕ × ℕ)) (balance : ℕ → ℕ) (k : ℕ) (before : List Rec) → has_end before ≡ false
      → length (changes_in before) ≡ 2 * k → IsClosed (changes_in before) → k + length legs ≤ 8 → AllByRecursion (IsHeldLeg P) legs
      → Ranges balance → Sums balance (changes_in before)
      → in_order (all_without_prev before) (leg_updates txn legs) ≡ with_note txn task.job.note (leg_updates txn task.job.legs)
      → Walk T before (planned_from txn last_commit balance k legs)
  planned_from-walk [] balance k before unended count closed few held range sums front =
      (record { own = refl; unended = unended; count = count; last = refl; balances = λ account. record { now = balance account; range = range account; sum = sums account } }, tt)
  planned_from-walk (leg ∷ legs) balance k before unended count closed few held range sums front = by_short (lacks leg balance) refl
      (λ ranges moves. planned_from-walk legs (after_leg leg balance) (k + 1) (more leg ∷ less leg ∷ before) unended (omega (arith, count)) (λ change down. down)
      (omega (arith, few)) held.1 ranges moves front)
    where
      two : Goes leg legs balance k before → leg.2 ≤ balance leg.0 → balance leg.1 + leg.2 ≤ MOST_BALANCE
          → Walk T before (less leg ∷ more leg ∷ planned_from txn last_commit (after_leg leg balance) (k + 1) legs)
      two go enough fits = (
        record {
          own = refl;
          unended = unended;
          legs = omega (arith, few, count);
          paired = closed _ (lowers-negated leg.2 held.0.1);
          marked = (refl, held.0.2);
          cut = record { rest = Update txn leg.1 (pos leg.2) 0 ∷ leg_updates txn legs; front = front };
        },
        (
          record {
            own = refl;
            unended = unended;
            legs = omega (arith, few, count);
            paired = subst (λ (b : Bool). MatchBool b (IsOpposite (record { account = leg.0; delta = neg_ℤ (pos leg.2); prev = last_commit leg.0 })
                (record { account = leg.1; delta = pos leg.2; prev = last_commit leg.1 })) (lowers (pos leg.2) ≡ true)) (sym (lowers-negated leg.2 held.0.1))
                (negated-twice leg.2, λ same. held.0.0 (sym same));
            marked = (refl, held.0.3);
            cut = record { rest = leg_updates txn legs; front = front };
          },
          go (λ account. leg-range (leg.0 == account) (leg.1 == account) (balance account) leg.2 (range account)
              (λ is. subst (λ a. balance a + leg.2 ≤ MOST_BALANCE) (eqb-true leg.1 account is) fits))
              (λ account. leg-sums leg balance start (changes_in before) (last_commit leg.0) (last_commit leg.1) account held.0.0 enough (sums account)),
        ),
      )

      by_over : Goes leg legs balance k before → (b : Bool) → overfills leg balance ≡ b → leg.2 ≤ balance leg.0
          → Walk T before (cond b (Over txn (k + 1) ∷ []) (less leg ∷ more leg ∷ planned_from txn last_commit (after_leg leg balance) (k + 1) legs))
      by_over go true is enough = (record { own = refl; unended = unended; count = omega (arith, count); last = refl }, tt)
      by_over go false is enough = two go enough (ltb-false MOST_BALANCE (balance leg.1 + leg.2) is)

      by_short : (b : Bool) → lacks leg balance ≡ b → Goes leg legs balance k before
          → Walk T before (cond b (Short txn (k + 1) ∷ []) (cond (overfills leg balance) (Over txn (k + 1) ∷ [])
          (less leg ∷ more leg ∷ planned_from txn last_commit (after_leg leg balance) (k + 1) legs)))
      by_short true is go = (record { own = refl; unended = unended; count = omega (arith, count); last = refl }, tt)
      by_short false is go = by_over go (overfills leg balance) refl (ltb-false (balance leg.0) leg.2 is)

  pub planned_records-walk : length task.job.legs ≤ 8 → AllByRecursion (IsHeldLeg P) task.job.legs → Ranges start
      → Walk T [] (planned_records txn task.job last_commit start)
  planned_records-walk few held range = by_note task.job.note refl
    where
      by_note : (note : List ℕ) → note ≡ task.job.note → Walk T [] (with_note txn note (planned_from txn last_commit start 0 task.job.legs))
      by_note [] is = planned_from-walk task.job.legs start 0 [] refl refl (λ change down. down) (omega (arith, few)) held range (λ account. refl)
          (ap (λ n. with_note txn n (leg_updates txn task.job.legs)) is)
      by_note (byte ∷ bytes) is =
          let front : with_note txn (byte ∷ bytes) (leg_updates txn task.job.legs) ≡ with_note txn task.job.note (leg_updates txn task.job.legs) = ap
          (λ n. with_note txn n (leg_updates txn task.job.legs)) is in (
            record { own = refl; unended = refl; cut = record { rest = leg_updates txn task.job.legs; front = front } },
            planned_from-walk task.job.legs start 0 (Note txn (byte ∷ bytes) ∷ []) refl refl (λ change down. down) (omega (arith, few)) held range (λ account. refl) front,
          )
