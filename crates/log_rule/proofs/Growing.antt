-- A record of a seat's last job enters the log, whatever its kind.
use Rattle.std.proofs.Common.{◌≡◌, ◌≢◌, ◌⊎◌, ℕ, ◌+◌, ◌≤◌, ◌<◌, cond, Bool, true, false, List, ◌∷◌, set, sym, refl, ap, ◌∙◌, subst, arith}
use Rattle.std.specs.List.{AllByRecursion}
use mathlib.Core.Logic.{dite}
use mathlib.Core.Option.{some}
use native.Mathlib.Decide.{ℕ_discrete}
use lib.ListN.{get_elem?}
use Rattle.slot_word.specs.AccountWord.{held_in}
use Rattle.log_record.specs.declared.rec.Placed.{Placed}
use Rattle.lock_core.specs.Records.{txn_of, gain, loss}
use Rattle.lock_core.specs.Transactions.{of_transaction}
use Rattle.lock_core.specs.Sums.{BaseState, as_opening, total, AreInRange, last_commit_of}
use Rattle.lock_core.specs.Lawful.{tests, Passes}
use Rattle.lock_core.specs.Serial.{IsRunWhole, IsCutShort}
use Rattle.lock_core.proofs.OneMore.{of_transaction-first_own, of_transaction-first_other}
use Rattle.lock_core.proofs.SerialFronts.{IsRunPartly, run_partly-other}
use Rattle.lsn_space.proofs.TilingLemmas.{all-weaken, all-both}
use Rattle.lsn_space.proofs.ListLemmas.{summed-set, summed-member_le, summed-two_members_le}
use Rattle.log_rule.specs.declared.view.TakenJob.{TakenJob}
use Rattle.log_rule.specs.declared.view.Taken.{Taken}
use Rattle.log_rule.specs.declared.view.Given.{Given}
use Rattle.log_rule.specs.declared.view.Books.{Books}
use Rattle.log_rule.specs.declared.view.Half.{Half}
use Rattle.log_rule.specs.declared.view.Half.TheVariants.{Neither, Taking, Giving}
use Rattle.log_rule.specs.Books.{task_of, times_half, times_held, times_holding, times_taken}
use Rattle.log_rule.specs.Words.{AccountWords}
use Rattle.log_rule.specs.Accounts.{takers, IsAsTaken, IsHalf, HasOneHolder, HasDistinctJobs, Follows, HalfFollows, WentBack, AccountsFollowList}
use Rattle.log_rule.proofs.Bookings.{everywhere-set_weaken, everywhere-set, all-weaken_if_held, all-weaken_if_taken, distinct_jobs-numbers_differ, cond-one_if_equal}
use Rattle.log_rule.proofs.Taking.{FollowsByHalf, whole-half_follows}

-- the entry leaves the account as it was
pub record IsSameAt (base : BaseState) (h : List Placed) (entry : Placed) (account : ℕ) : Type 0 where
  pub added : total gain account (entry ∷ h) ≡ total gain account h
  pub taken : total loss account (entry ∷ h) ≡ total loss account h
  pub last_commit : last_commit_of base (entry ∷ h) account ≡ last_commit_of base h account

follows-same : (base : BaseState) (h placed : List Placed) (entry : Placed) (held : Taken) → IsSameAt base h entry held.account → Follows base h placed held
    → Follows base (entry ∷ h) placed held
follows-same base h placed entry held same old =
    let added = same.added in let taken = same.taken in let balance = old.balance in record { balance = omega arith; last_commit = same.last_commit ∙ old.last_commit }

-- so of an account that is held by half
half_follows-same : (accounts : ℕ) (words : ℕ → AccountWords) (base : BaseState) (h placed : List Placed) (entry : Placed) (half : Half) → IsHalf accounts words placed half
    → ((account : ℕ) → account < accounts → 1 ≤ times_half account half → IsSameAt base h entry account)
    → HalfFollows base words h placed half → HalfFollows base words (entry ∷ h) placed half
half_follows-same accounts words base h placed entry Neither is same old = tt
half_follows-same accounts words base h placed entry (Taking account last_commit) is same old = follows-same base h placed entry _
    (same account is.known (let one = cond-one_if_equal account account refl in omega arith)) old
half_follows-same accounts words base h placed entry (Giving taken balance) is same old = follows-same base h placed entry taken
    (same taken.account is.0.known (let one = cond-one_if_equal taken.account taken.account refl in omega arith)) old

-- a front of the list stays one
still-back : (base : BaseState) (h : List Placed) (entry : Placed) (given : Given) → WentBack base h given → WentBack base (entry ∷ h) given
still-back base h entry given old uncommitted = let was = old uncommitted in record {
  later = entry ∷ was.later;
  front = was.front;
  whole = ap (λ entries. entry ∷ entries) was.whole;
  balance = was.balance;
  tail = was.tail;
}

-- a held account of one seat is held by no other
pub one_holder-unheld_by_others : (accounts : ℕ) (words : ℕ → AccountWords) (all : List Books) → HasOneHolder accounts words all → (i j : ℕ) (x y : Books) → get_elem? all i ≡ some x
    → get_elem? all j ≡ some y → j ≢ i → (account : ℕ) → account < accounts → 1 ≤ times_holding account y → times_held account x.held ≡ 0
one_holder-unheld_by_others accounts words all holder i j x y here there differ account below has =
    let none = at_most (held_in (words account).word) (holder.counts account below)
    (summed-two_members_le (times_holding account) all i j x y here there differ) has in omega (arith, none)
  where
    at_most : (b : Bool) {n m k : ℕ} → k ≡ cond b 1 0 → n + m ≤ k → 1 ≤ m → n ≡ 0
    at_most true count two has = omega arith
    at_most false count two has = omega arith

-- a free account is held by no seat
pub free-unheld : (accounts : ℕ) (words : ℕ → AccountWords) (all : List Books) → HasOneHolder accounts words all → (i : ℕ) (x : Books) → get_elem? all i ≡ some x
    → (account : ℕ) → account < accounts → held_in (words account).word ≡ false → times_held account x.held ≡ 0
free-unheld accounts words all holder i x here account below free =
    let none : cond {A = ℕ} (held_in (words account).word) 1 0 ≡ 0 = ap (λ b. cond {A = ℕ} b 1 0) free in
    let one = summed-member_le (times_holding account) all i x here in let count = holder.counts account below in omega arith

module _ (base : BaseState) (words : ℕ → AccountWords) (h : List Placed) (all : List Books) (me : ℕ) (mine : Books) (entry : Placed)
    (distinct : HasDistinctJobs all) (holder : HasOneHolder base.accounts words all) (s : AccountsFollowList base words h all)
    (at : get_elem? all me ≡ some mine) (whole : mine.half ≡ Neither) (some_job : 1 ≤ mine.last.number) (own : txn_of entry.rec ≡ mine.last.number) where
  abbrev new : Books
  new = record mine { placed = entry ∷ mine.placed }

  here : 1 ≤ times_taken mine.last.number mine.jobs
  here = (holder.last me mine at some_job).1

  -- the entry is of no other seat's job
  other-job : (j : ℕ) (x : Books) → j ≢ me → get_elem? all j ≡ some x → (number : ℕ) → 1 ≤ times_taken number x.jobs → txn_of entry.rec ≢ number
  other-job j x differ there number has same = distinct_jobs-numbers_differ all me j mine x mine.last.number number distinct at there differ here has (sym own ∙ same)

  takers-same : (number : ℕ) → takers number (set all me new) ≡ takers number all
  takers-same number = let set' = summed-set (λ (books : Books). times_taken number books.jobs) all me mine new at in omega arith

  runs-mine : IsRunPartly base (entry ∷ h) (task_of mine.last)
      → AllByRecursion (λ (taken : TakenJob). IsRunWhole base (entry ∷ h) (task_of taken) ⊎ IsCutShort (entry ∷ h) (task_of taken)) mine.jobs
  runs-mine ran = all-weaken_if_taken _ (λ (taken : TakenJob). IsRunPartly base (entry ∷ h) (task_of taken)) mine.jobs
      (all-both (λ (taken : TakenJob). IsRunPartly base h (task_of taken)) (λ (taken : TakenJob). taken.number ≡ mine.last.number → taken.job ≡ mine.last.job)
      (λ (taken : TakenJob). IsRunPartly base h (task_of taken) × (taken.number ≡ mine.last.number → taken.job ≡ mine.last.job)) mine.jobs
      (λ _ a b. (a, b)) (s.runs me mine at) (s.last me mine at some_job))
      (λ taken has old. dite (ℕ_discrete taken.number mine.last.number)
      (λ same. subst (λ (t : TakenJob). IsRunPartly base (entry ∷ h) (task_of t)) (λ i. record { number = sym same i; job = sym (old.1 same) i }) ran)
      (λ differ. run_partly-other base entry h (task_of taken) (λ is. differ (sym is ∙ own)) old.0))

  abbrev Lasts : Books → Type 0
  Lasts b = 1 ≤ b.last.number → AllByRecursion (λ (taken : TakenJob). taken.number ≡ b.last.number → taken.job ≡ b.last.job) b.jobs

  pub enter_record-accounts_follow : AllByRecursion (Passes (as_opening base) h entry) tests → AreInRange base (entry ∷ h)
      → ((account : ℕ) → times_held account mine.held ≡ 0 → IsSameAt base h entry account)
      → AllByRecursion (Follows base (entry ∷ h) (entry ∷ mine.placed)) mine.held → IsRunPartly base (entry ∷ h) (task_of mine.last)
      → AccountsFollowList base words (entry ∷ h) (set all me new)
  enter_record-accounts_follow passes range same follows ran = record {
    lawful = (passes, s.lawful);
    range = range;
    placed = everywhere-set_weaken (λ (b : Books). 1 ≤ b.last.number → of_transaction b.last.number h ≡ b.placed)
        (λ (b : Books). 1 ≤ b.last.number → of_transaction b.last.number (entry ∷ h) ≡ b.placed) all me new s.placed
        (λ _. of_transaction-first_own mine.last.number entry h own ∙ ap (λ l. entry ∷ l) (s.placed me mine at some_job))
        (λ j x differ there old has. of_transaction-first_other x.last.number entry h (other-job j x differ there x.last.number (holder.last j x there has).1) ∙ old has);
    last = everywhere-set Lasts all me new s.last (s.last me mine at);
    free = λ account below free. let old = s.free account below free in
        let now = same account (free-unheld base.accounts words all holder me mine at account below free) in
        let added = now.added in let taken = now.taken in let balance = old.balance in record { balance = omega arith; last_commit = now.last_commit ∙ old.last_commit };
    held = everywhere-set_weaken (λ (b : Books). AllByRecursion (Follows base h b.placed) b.held)
        (λ (b : Books). AllByRecursion (Follows base (entry ∷ h) b.placed) b.held) all me new s.held
        follows
        (λ j x differ there old. all-weaken_if_held (λ z. IsAsTaken base.accounts words z × Follows base h x.placed z) (Follows base (entry ∷ h) x.placed) x.held
        (all-both (IsAsTaken base.accounts words) (Follows base h x.placed) _ x.held (λ _ a b. (a, b)) (holder.taken j x there) old)
        (λ z has p. follows-same base h x.placed entry z
        (same z.account (one_holder-unheld_by_others base.accounts words all holder me j mine x at there differ z.account p.0.marked.known (omega (arith, has)))) p.1));
    half = everywhere-set_weaken (FollowsByHalf base words h) (FollowsByHalf base words (entry ∷ h)) all me new s.half
        (whole-half_follows base words (entry ∷ h) (entry ∷ mine.placed) mine.half whole)
        (λ j x differ there old. half_follows-same base.accounts words base h x.placed entry x.half (holder.half j x there)
        (λ account below has. same account (one_holder-unheld_by_others base.accounts words all holder me j mine x at there differ account below (omega (arith, has)))) old);
    given = everywhere-set_weaken (λ (b : Books). AllByRecursion (WentBack base h) b.given) (λ (b : Books). AllByRecursion (WentBack base (entry ∷ h)) b.given)
        all me new s.given
        (all-weaken (WentBack base h) (WentBack base (entry ∷ h)) mine.given (still-back base h entry) (s.given me mine at))
        (λ j x _ _. all-weaken (WentBack base h) (WentBack base (entry ∷ h)) x.given (still-back base h entry));
    runs = everywhere-set_weaken (λ (b : Books). AllByRecursion (λ (taken : TakenJob). IsRunPartly base h (task_of taken)) b.jobs)
        (λ (b : Books). AllByRecursion (λ (taken : TakenJob). IsRunPartly base (entry ∷ h) (task_of taken)) b.jobs) all me new s.runs
        (runs-mine ran)
        (λ j x differ there old. all-weaken_if_taken (λ (taken : TakenJob). IsRunPartly base h (task_of taken))
        (λ (taken : TakenJob). IsRunPartly base (entry ∷ h) (task_of taken)) x.jobs old
        (λ taken has. run_partly-other base entry h (task_of taken) (other-job j x differ there taken.number has)));
    others = λ number none. of_transaction-first_other number entry h (λ is.
        let again : 1 ≤ times_taken number mine.jobs = subst (λ n. 1 ≤ times_taken n mine.jobs) (sym own ∙ is) here in
        let one = summed-member_le (λ (books : Books). times_taken number books.jobs) all me mine at in let same' = takers-same number in omega arith)
        ∙ s.others number (sym (takers-same number) ∙ none);
  }
