-- The balance is stored with which an account goes back, which is then half given back.
use Rattle.std.proofs.Common.{◌≡◌, ◌≢◌, ℕ, ◌+◌, ◌≤◌, ◌<◌, cond, true, true≢false, List, set, sym, refl, ap, ◌∙◌, subst, arith}
use Rattle.std.specs.List.{AllByRecursion}
use mathlib.Core.Logic.{dite}
use mathlib.Core.Option.{some}
use native.Mathlib.Decide.{ℕ_discrete}
use lib.ListN.{get_elem?}
use Rattle.slot_word.specs.AccountWord.{held_in, last_commit_in}
use Rattle.log_record.specs.declared.rec.Placed.{Placed}
use Rattle.lsn_space.specs.declared.opening.TheConstants.{MOST_BALANCE}
use Rattle.lock_core.specs.Sums.{BaseState}
use Rattle.lsn_space.proofs.ListLemmas.{summed-set, summed-member_le, summed-two_members_le}
use Rattle.log_rule.specs.declared.view.Taken.{Taken}
use Rattle.log_rule.specs.declared.view.Half.TheVariants.{Neither}
use Rattle.log_rule.specs.declared.view.Books.{Books}
use Rattle.log_rule.specs.Books.{times_half, times_held, times_holding, times_taken, balance_taken, last_commit_taken, without, half_giving}
use Rattle.log_rule.specs.Accounts.{holders, IsMarked, IsAsTaken, HasOneHolder, FollowsJobBalance, Follows, AccountsFollowList, KeepsAccounts}
use Rattle.log_rule.specs.Words.{AccountWords, balances_alone, put_balance}
use Rattle.log_rule.proofs.Bookings.{everywhere-set_weaken, everywhere-set, all-weaken_if_held, cond-one_if_equal, cond-zero_if_unequal}
use Rattle.log_rule.proofs.Bookings.{times_held-found, all-without, times_held-without, times_held-without_other}
use Rattle.log_rule.proofs.Taking.{put-at_equal, as_taken-put_balance_other, half-put_balance_other, words-put_balance, half_follows-put_balance}
use Rattle.log_rule.proofs.Taking.{free-put_balance_other, distinct_jobs-before_set, AllTaken, HoldsByHalf, FollowsByHalf, Lasts, Ties, RunsPartly}
use Rattle.log_rule.proofs.Taking.{FollowsAll, AllWentBack, LastIsOne}

module _ (base : BaseState) (words : ℕ → AccountWords) (h : List Placed) (all : List Books) (me : ℕ) (mine : Books) (at : get_elem? all me ≡ some mine)
    (holder : HasOneHolder base.accounts words all) (whole : mine.half ≡ Neither) (account balance : ℕ) (has : 1 ≤ times_held account mine.held)
    (follows : FollowsJobBalance account balance (balance_taken mine.held account) mine.placed) (fits : balance ≤ MOST_BALANCE) where
  abbrev as-taken : Taken
  as-taken = record { account = account; balance = balance_taken mine.held account; last_commit = last_commit_taken mine.held account }

  abbrev new : Books
  new = half_giving as-taken balance mine

  abbrev words' : ℕ → AccountWords
  words' = put_balance words account balance

  marked : IsMarked base.accounts words account (last_commit_taken mine.held account)
  marked = let f = times_held-found (IsAsTaken base.accounts words) account mine.held has (holder.taken me mine at) in
      let old = f.known.marked in record {
        known = subst (λ a. a < base.accounts) f.is old.known;
        taken = subst (λ a. held_in (words a).word ≡ true) f.is old.taken;
        last_commit = ap (λ a. last_commit_in (words a).word) (sym f.is) ∙ (old.last_commit ∙ sym f.last_commit);
      }

  one-holder : holders account all ≡ 1
  one-holder = holder.counts account marked.known ∙ ap (λ b. cond {A = ℕ} b 1 0) marked.taken

  others-taken : (list : List Taken) → times_held account list ≡ 0 → AllByRecursion (IsAsTaken base.accounts words) list
      → AllByRecursion (IsAsTaken base.accounts words') list
  others-taken list none old = all-weaken_if_held _ (IsAsTaken base.accounts words') list old
      (λ z has' t. as_taken-put_balance_other base.accounts words account balance z
      (λ same. let again : 1 ≤ times_held account list = subst (λ a. 1 ≤ times_held a list) same has' in omega arith) t)

  -- no other seat has it
  unheld-others : (j : ℕ) (x : Books) → j ≢ me → get_elem? all j ≡ some x → times_holding account x ≡ 0
  unheld-others j x differ there = let two = summed-two_members_le (times_holding account) all me j mine x at there differ in
      let all-one = one-holder in omega arith

  stored-holder : HasOneHolder base.accounts words' (set all me new)
  stored-holder = record {
    few = holder.few;
    words_are = words-put_balance base.accounts words account balance fits holder.words_are;
    counts = λ other below. let sum = summed-set (times_holding other) all me mine new at in
        let none : times_half other mine.half ≡ 0 = ap (times_half other) whole in
        let count = holder.counts other below in dite (ℕ_discrete other account)
        (λ same. let one = cond-one_if_equal account other (sym same) in
        let less : times_held other (without account mine.held) + 1 ≡ times_held other mine.held
        = subst (λ a. times_held a (without account mine.held) + 1 ≡ times_held a mine.held) (sym same) (times_held-without account mine.held has) in omega arith)
        (λ differ. let zero' = cond-zero_if_unequal account other (λ e. differ (sym e)) in
        let same = times_held-without_other account other mine.held differ in omega arith);
    taken = everywhere-set_weaken (AllTaken base.accounts words) (AllTaken base.accounts words') all me new holder.taken
        (others-taken (without account mine.held)
        (let less = times_held-without account mine.held has in let one = summed-member_le (times_holding account) all me mine at in
        let all-one = one-holder in omega arith)
        (all-without (IsAsTaken base.accounts words) account mine.held (holder.taken me mine at)))
        (λ j x differ there old. others-taken x.held (let none = unheld-others j x differ there in omega arith) old);
    half = everywhere-set_weaken (HoldsByHalf base.accounts words) (HoldsByHalf base.accounts words') all me new holder.half (
      record { known = marked.known; taken = marked.taken; last_commit = marked.last_commit },
      put-at_equal (balances_alone words) account balance account refl,
      follows,
    )
        (λ j x differ there old. half-put_balance_other base.accounts words account balance x.placed x.half
        (let none = unheld-others j x differ there in omega arith) old);
    last = everywhere-set (LastIsOne base.accounts) all me new holder.last (holder.last me mine at);
  }

  module _ (s : AccountsFollowList base words h all) where
    now-follows : Follows base h mine.placed as-taken
    now-follows = let f = times_held-found (Follows base h mine.placed) account mine.held has (s.held me mine at) in
        subst (Follows base h mine.placed) (λ i. record { account = f.is i; balance = sym f.balance i; last_commit = sym f.last_commit i }) f.known

    stored-follows : AccountsFollowList base words' h (set all me new)
    stored-follows = record {
      lawful = s.lawful;
      range = s.range;
      placed = everywhere-set (Ties h) all me new s.placed (s.placed me mine at);
      last = everywhere-set Lasts all me new s.last (s.last me mine at);
      free = λ other below off. dite (ℕ_discrete other account)
          (λ same. absurd (true≢false (sym marked.taken ∙ (ap (λ a. held_in (words a).word) (sym same) ∙ off))))
          (λ differ. free-put_balance_other base h words account balance other differ (s.free other below) off);
      held = everywhere-set (FollowsAll base h) all me new s.held (all-without (Follows base h mine.placed) account mine.held (s.held me mine at));
      half = everywhere-set_weaken (FollowsByHalf base words h) (FollowsByHalf base words' h) all me new s.half now-follows
          (λ j x differ there old. half_follows-put_balance base h words account balance x.placed x.half
          (let none = unheld-others j x differ there in omega arith) old);
      given = everywhere-set (AllWentBack base h) all me new s.given (s.given me mine at);
      runs = everywhere-set (RunsPartly base h) all me new s.runs (s.runs me mine at);
      others = λ number none. s.others number (let sum = summed-set (λ (books : Books). times_taken number books.jobs) all me mine new at in omega arith);
    }

  pub store_balance-keeps_accounts : KeepsAccounts base words h all → KeepsAccounts base words' h (set all me new)
  store_balance-keeps_accounts s = record {
    holder = stored-holder;
    follows = λ distinct. stored-follows (s.follows (distinct_jobs-before_set base words h all me mine at new (λ number. omega arith) distinct));
  }
