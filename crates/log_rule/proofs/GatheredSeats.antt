-- Seats are added and joined, and what is known where one seat has all jobs.
use Rattle.std.proofs.Common.{◌≡◌, ◌≢◌, ◌⊎◌, ℕ, ◌+◌, ◌≤◌, ◌<◌, cond, false, List, [], ◌∷◌, ◌++◌, map, set, sym, refl, ap, ◌∙◌, subst, arith}
use Rattle.std.specs.List.{AllByRecursion}
use mathlib.Core.Option.{some}
use lib.ListN.{get_elem?}
use Rattle.atomic_table.proofs.Lists.{set_else}
use Rattle.slot_word.specs.AccountWord.{held_in, last_commit_in, IsAccountWord}
use Rattle.lsn_space.specs.declared.opening.TheConstants.{MOST_ACCOUNTS}
use Rattle.lsn_space.proofs.TilingLemmas.{all-append}
use Rattle.lsn_space.proofs.ListLemmas.{everywhere-singleton, summed-set, summed-push}
use Rattle.lsn_space.specs.Lists.{Everywhere, summed}
use Rattle.log_record.specs.declared.rec.Placed.{Placed}
use Rattle.log_record.specs.Spelling.{IsBalance}
use Rattle.lock_core.specs.Sums.{BaseState}
use Rattle.lock_core.specs.Serial.{NumberedTransfer, IsRunWhole, IsCutShort, IsPartlySerialAfter}
use Rattle.log_rule.specs.declared.view.TakenJob.{TakenJob}
use Rattle.log_rule.specs.declared.view.Books.{Books}
use Rattle.log_rule.specs.declared.view.Half.TheVariants.{Neither}
use Rattle.log_rule.specs.Words.{AccountWords}
use Rattle.log_rule.specs.Books.{no_books, task_of, times_half, times_held, times_holding, times_taken, merging}
use Rattle.log_rule.specs.Accounts.{takers, HasDistinctJobs, WentBack, AccountsFollowList, KeepsAccounts}
use Rattle.log_rule.proofs.Bookings.{everywhere-set, everywhere-push, all-weaken_if_taken, distinct_jobs-numbers_differ, cond-zero_if_unequal, times_taken-append}
use Rattle.log_rule.proofs.Taking.{RunsPartly, Lasts, Ties, FollowsAll, FollowsByHalf, AllTaken, HoldsByHalf, AllWentBack, LastIsOne}

-- a seat that has nothing is added
module _ (base : BaseState) (words : ℕ → AccountWords) (h : List Placed) (all : List Books) where
  pub add_nobody-keeps_accounts : KeepsAccounts base words h all → KeepsAccounts base words h (all ++ no_books ∷ [])
  add_nobody-keeps_accounts s = record {
    holder = record {
      few = s.holder.few;
      counts = λ account below. let sum = summed-push (times_holding account) all no_books in let count = s.holder.counts account below in omega arith;
      words_are = s.holder.words_are;
      taken = everywhere-push (AllTaken base.accounts words) all no_books s.holder.taken tt;
      half = everywhere-push (HoldsByHalf base.accounts words) all no_books s.holder.half tt;
      last = everywhere-push (LastIsOne base.accounts) all no_books s.holder.last (λ some_job. absurd (omega arith));
    };
    follows = λ distinct. let f = s.follows (λ number. let sum = summed-push (λ (books : Books). times_taken number books.jobs) all no_books in let one = distinct number in omega arith) in record {
      lawful = f.lawful;
      range = f.range;
      placed = everywhere-push (Ties h) all no_books f.placed (λ some_job. absurd (omega arith));
      last = everywhere-push Lasts all no_books f.last (λ some_job. absurd (omega arith));
      free = f.free;
      held = everywhere-push (FollowsAll base h) all no_books f.held tt;
      half = everywhere-push (FollowsByHalf base words h) all no_books f.half tt;
      given = everywhere-push (AllWentBack base h) all no_books f.given tt;
      runs = everywhere-push (RunsPartly base h) all no_books f.runs tt;
      others = λ number none. f.others number (let sum = summed-push (λ (books : Books). times_taken number books.jobs) all no_books in omega arith);
    };
  }

  -- the seat at j, which holds nothing, is joined into the one at i
  module _ (i j : ℕ) (x y : Books) (differ : j ≢ i) (here : get_elem? all i ≡ some x) (there : get_elem? all j ≡ some y) where
    abbrev both : Books
    both = merging x y

    abbrev joined : List Books
    joined = set (set all i both) j no_books

    sums : (amount : Books → ℕ) → summed amount joined + amount y + amount x ≡ summed amount all + amount no_books + amount both
    sums amount = let first = summed-set amount all i x both here in
        let second = summed-set amount (set all i both) j y no_books (set_else all i j both differ ∙ there) in omega arith

    takers-joined : (number : ℕ) → takers number joined ≡ takers number all
    takers-joined number = let sum = sums (λ (books : Books). times_taken number books.jobs) in let append = times_taken-append number x.jobs y.jobs in omega arith

    every : (P : Books → Type 0) → Everywhere P all → P both → P no_books → Everywhere P joined
    every P old mine none = everywhere-set P (set all i both) j no_books (everywhere-set P all i both old mine) none

    pub distinct_jobs-before_join : HasDistinctJobs joined → HasDistinctJobs all
    distinct_jobs-before_join distinct number = let same = takers-joined number in let one = distinct number in omega arith

    pub join-keeps_accounts : y.held ≡ [] → y.half ≡ Neither → KeepsAccounts base words h all → KeepsAccounts base words h joined
    join-keeps_accounts none-held whole s = record {
      holder = record {
        few = s.holder.few;
        counts = λ account below. let count = s.holder.counts account below in let sum = sums (times_holding account) in
            let none : times_held account y.held ≡ 0 = ap (times_held account) none-held in
            let none-half : times_half account y.half ≡ 0 = ap (times_half account) whole in omega arith;
        words_are = s.holder.words_are;
        taken = every (AllTaken base.accounts words) s.holder.taken (s.holder.taken i x here) tt;
        half = every (HoldsByHalf base.accounts words) s.holder.half (s.holder.half i x here) tt;
        last = every (LastIsOne base.accounts) s.holder.last
            (λ some_job. let old = s.holder.last i x here some_job in let append = times_taken-append x.last.number x.jobs y.jobs in (old.0, (let has = old.1 in omega arith)))
            (λ some_job. absurd (omega arith));
      };
      follows = λ distinct. let before = distinct_jobs-before_join distinct in let f = s.follows before in record {
        lawful = f.lawful;
        range = f.range;
        placed = every (Ties h) f.placed (f.placed i x here) (λ some_job. absurd (omega arith));
        last = every Lasts f.last
            (λ some_job. all-append (λ (job : TakenJob). job.number ≡ x.last.number → job.job ≡ x.last.job) x.jobs y.jobs (f.last i x here some_job)
            (all-weaken_if_taken (λ _. Unit {0}) (λ (job : TakenJob). job.number ≡ x.last.number → job.job ≡ x.last.job) y.jobs (anything y.jobs)
            (λ job has _ same. absurd (distinct_jobs-numbers_differ all i j x y x.last.number job.number before here there differ (s.holder.last i x here some_job).1 has (sym same)))))
            (λ some_job. absurd (omega arith));
        free = f.free;
        held = every (FollowsAll base h) f.held (f.held i x here) tt;
        half = every (FollowsByHalf base words h) f.half (f.half i x here) tt;
        given = every (AllWentBack base h) f.given (all-append (WentBack base h) x.given y.given (f.given i x here) (f.given j y there)) tt;
        runs = every (RunsPartly base h) f.runs (all-append _ x.jobs y.jobs (f.runs i x here) (f.runs j y there)) tt;
        others = λ number none. f.others number (sym (takers-joined number) ∙ none);
      };
    }
      where
        anything : (list : List TakenJob) → AllByRecursion (λ _. Unit {0}) list
        anything [] = tt
        anything (job ∷ jobs) = (tt, anything jobs)

-- at first nothing is held or taken, and the words are those of the base state
pub start-keeps_accounts : (base : BaseState) (words : ℕ → AccountWords) → base.accounts ≤ MOST_ACCOUNTS
    → ((account : ℕ) → account < base.accounts → (held_in (words account).word ≡ false) × ((words account).balance ≡ base.balance account)
    × (last_commit_in (words account).word ≡ base.last_commit account) × IsBalance (base.balance account) × IsAccountWord (words account).word)
    → KeepsAccounts base words [] (no_books ∷ [])
start-keeps_accounts base words few first = record {
  holder = record {
    few = few;
    counts = λ account below. sym (ap (λ b. cond {A = ℕ} b 1 0) (first account below).0);
    words_are = λ account below. let f = first account below in record { word = f.4; balance = subst IsBalance (sym f.1) f.3 };
    taken = everywhere-singleton (AllTaken base.accounts words) no_books tt;
    half = everywhere-singleton (HoldsByHalf base.accounts words) no_books tt;
    last = everywhere-singleton (LastIsOne base.accounts) no_books (λ some_job. absurd (omega arith));
  };
  follows = λ distinct. record {
    lawful = tt;
    range = λ account below. (base.balance account, (first account below).3, refl);
    placed = everywhere-singleton (Ties []) no_books (λ some_job. absurd (omega arith));
    last = everywhere-singleton Lasts no_books (λ some_job. absurd (omega arith));
    free = λ account below free. let f = first account below in let is = f.1 in record { balance = omega arith; last_commit = sym f.2 };
    held = everywhere-singleton (FollowsAll base []) no_books tt;
    half = everywhere-singleton (FollowsByHalf base words []) no_books tt;
    given = everywhere-singleton (AllWentBack base []) no_books tt;
    runs = everywhere-singleton (RunsPartly base []) no_books tt;
    others = λ number none. refl;
  };
}

-- Where these are all jobs that seats took, they are all that the list has, each run whole or cut short.
pub all_jobs-partly_serial : (base : BaseState) (words : ℕ → AccountWords) (h : List Placed) (all : List Books) (jobs : List TakenJob)
    → AllByRecursion (λ (taken : TakenJob). IsRunWhole base h (task_of taken) ⊎ IsCutShort h (task_of taken)) jobs
    → ((number : ℕ) → takers number all ≡ times_taken number jobs) → AccountsFollowList base words h all
    → IsPartlySerialAfter base (map task_of jobs) h
all_jobs-partly_serial base words h all jobs runs whole s = record {
  each = along jobs runs;
  others = λ txn none. s.others txn (whole txn ∙ untaken txn jobs none);
}
  where
    along : (jobs : List TakenJob) → AllByRecursion (λ (taken : TakenJob). IsRunWhole base h (task_of taken) ⊎ IsCutShort h (task_of taken)) jobs
        → AllByRecursion (λ (task : NumberedTransfer). IsRunWhole base h task ⊎ IsCutShort h task) (map task_of jobs)
    along [] runs = tt
    along (job ∷ jobs) runs = (runs.0, along jobs runs.1)

    untaken : (txn : ℕ) (jobs : List TakenJob) → AllByRecursion (λ (task : NumberedTransfer). task.number ≢ txn) (map task_of jobs) → times_taken txn jobs ≡ 0
    untaken txn [] none = refl
    untaken txn (job ∷ jobs) none = let zero' = cond-zero_if_unequal job.number txn none.0 in let more = untaken txn jobs none.1 in omega arith
