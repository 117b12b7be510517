-- The word of an account is given back, whose balance is stored.
use Rattle.std.proofs.Common.{◌≡◌, ◌≢◌, ℕ, ◌+◌, ◌≤◌, cond, false, ℤ, List, [], set, sym, refl, ap, ◌∙◌, subst, arith}
use Rattle.std.specs.List.{AllByRecursion}
use mathlib.Core.Logic.{dite}
use mathlib.Core.Option.{some}
use native.Mathlib.Decide.{ℕ_discrete}
use lib.ListN.{get_elem?}
use Rattle.slot_word.specs.AccountWord.{held_in, last_commit_in, IsAccountWord}
use Rattle.log_record.specs.declared.rec.Placed.{Placed}
use Rattle.lock_core.specs.Records.{gain, loss}
use Rattle.lock_core.specs.History.{end_from}
use Rattle.lock_core.specs.Transactions.{recs_of, changes_in, has_commit}
use Rattle.lock_core.specs.Sums.{BaseState, moved, total}
use Rattle.lsn_space.proofs.ListLemmas.{summed-set, summed-member_le, summed-two_members_le}
use Rattle.log_rule.specs.declared.view.Taken.{Taken}
use Rattle.log_rule.specs.declared.view.Given.{Given}
use Rattle.log_rule.specs.declared.view.Half.TheVariants.{Giving}
use Rattle.log_rule.specs.declared.view.Books.{Books}
use Rattle.log_rule.specs.Books.{times_half, times_held, times_holding, times_taken, giving}
use Rattle.log_rule.specs.Accounts.{holders, IsMarked, IsAsTaken, IsHalf, HasOneHolder, moved_if_committed, commit_in, FollowsJobBalance, Follows}
use Rattle.log_rule.specs.Accounts.{HalfFollows, IsUpToDate, WentBack, AccountsFollowList, KeepsAccounts}
use Rattle.log_rule.specs.Words.{AccountWords, words_alone, put_word}
use Rattle.log_rule.proofs.Bookings.{everywhere-set_weaken, everywhere-set, all-weaken_if_held, cond-one_if_equal, cond-zero_if_unequal}
use Rattle.log_rule.proofs.Taking.{put-at_equal, put-at_unequal, as_taken-put_word_other, half-put_word_other, words-put_word, half_follows-put_word}
use Rattle.log_rule.proofs.Taking.{free-put_word_other, distinct_jobs-before_set, AllTaken, HoldsByHalf, FollowsByHalf, Lasts, Ties, RunsPartly}
use Rattle.log_rule.proofs.Taking.{FollowsAll, AllWentBack, LastIsOne}

-- the account goes back as it was taken, with the tail at or below the end of the list
pub record GoesBack (base : BaseState) (h : List Placed) (mine : Books) (taken : Taken) (given : Given) : Type 0 where
  pub account : given.account ≡ taken.account
  pub balance : given.balance ≡ taken.balance
  pub committed : given.committed ≡ has_commit (recs_of mine.placed)
  pub tail : given.tail ≤ end_from base.end h

module _ (base : BaseState) (words : ℕ → AccountWords) (h : List Placed) (all : List Books) (me : ℕ) (mine : Books) (at : get_elem? all me ≡ some mine)
    (holder : HasOneHolder base.accounts words all) (taken : Taken) (balance : ℕ) (half : mine.half ≡ Giving taken balance)
    (given : Given) (back : GoesBack base h mine taken given) (word : ℕ) (free : held_in word ≡ false) (is-word : IsAccountWord word)
    (last_commit : last_commit_in word ≡ commit_in mine.placed taken.account taken.last_commit) where
  abbrev account : ℕ
  account = taken.account

  abbrev new : Books
  new = giving given mine

  abbrev words' : ℕ → AccountWords
  words' = put_word words account word

  by-half : IsMarked base.accounts words account taken.last_commit × ((words account).balance ≡ balance) × FollowsJobBalance account balance taken.balance mine.placed
  by-half = subst (IsHalf base.accounts words mine.placed) half (holder.half me mine at)

  one-holder : holders account all ≡ 1
  one-holder = holder.counts account by-half.0.known ∙ ap (λ b. cond {A = ℕ} b 1 0) by-half.0.taken

  one-half : times_half account mine.half ≡ 1
  one-half = ap (times_half account) half ∙ cond-one_if_equal account account refl

  others-taken : (list : List Taken) → times_held account list ≡ 0 → AllByRecursion (IsAsTaken base.accounts words) list
      → AllByRecursion (IsAsTaken base.accounts words') list
  others-taken list none old = all-weaken_if_held _ (IsAsTaken base.accounts words') list old
      (λ z has t. as_taken-put_word_other base.accounts words account word z
      (λ same. let again : 1 ≤ times_held account list = subst (λ a. 1 ≤ times_held a list) same has in omega arith) t)

  unheld-others : (j : ℕ) (x : Books) → j ≢ me → get_elem? all j ≡ some x → times_holding account x ≡ 0
  unheld-others j x differ there = let two = summed-two_members_le (times_holding account) all me j mine x at there differ in
      let has = one-half in let all-one = one-holder in omega arith

  given-holder : HasOneHolder base.accounts words' (set all me new)
  given-holder = record {
    few = holder.few;
    words_are = words-put_word base.accounts words account word is-word holder.words_are;
    counts = λ other below. let sum = summed-set (times_holding other) all me mine new at in
        let was = ap (times_half other) half in dite (ℕ_discrete other account)
        (λ same. let one = cond-one_if_equal account other (sym same) in
        let count : holders other all ≡ 1 = ap (λ a. holders a all) same ∙ one-holder in
        let now : cond {A = ℕ} (held_in (words' other).word) 1 0 ≡ 0
        = ap (λ b. cond {A = ℕ} b 1 0) (ap held_in (put-at_equal (words_alone words) account word other same) ∙ free) in omega arith)
        (λ differ. let none = cond-zero_if_unequal account other (λ e. differ (sym e)) in let count = holder.counts other below in
        let now : cond {A = ℕ} (held_in (words' other).word) 1 0 ≡ cond {A = ℕ} (held_in (words other).word) 1 0 =
        ap (λ w. cond {A = ℕ} (held_in w) 1 0) (put-at_unequal (words_alone words) account word other differ) in omega arith);
    taken = everywhere-set_weaken (AllTaken base.accounts words) (AllTaken base.accounts words') all me new holder.taken
        (others-taken mine.held
        (let one = summed-member_le (times_holding account) all me mine at in let has = one-half in let all-one = one-holder in omega arith)
        (holder.taken me mine at))
        (λ j x differ there old. others-taken x.held (let none = unheld-others j x differ there in omega arith) old);
    half = everywhere-set_weaken (HoldsByHalf base.accounts words) (HoldsByHalf base.accounts words') all me new holder.half tt
        (λ j x differ there old. half-put_word_other base.accounts words account word x.placed x.half
        (let none = unheld-others j x differ there in omega arith) old);
    last = everywhere-set (LastIsOne base.accounts) all me new holder.last (holder.last me mine at);
  }

  module _ (s : AccountsFollowList base words h all) where
    followed : Follows base h mine.placed taken
    followed = subst (HalfFollows base words h mine.placed) half (s.half me mine at)

    now-free : IsUpToDate base h account (words' account)
    now-free = let old = followed.balance in let is = by-half.1 in let gives = by-half.2 in record {
      balance = omega arith;
      last_commit = followed.last_commit ∙ (sym last_commit ∙ ap last_commit_in (sym (put-at_equal (words_alone words) account word account refl)));
    }

    -- with no Commit of the job in the log, the balance as it was taken is that of the whole list
    went-back : WentBack base h given
    went-back uncommitted = record {
      later = [];
      front = h;
      whole = refl;
      balance = subst (λ a. given.balance + total loss a h ≡ base.balance a + total gain a h) (sym back.account)
          (let is = followed.balance in let as-taken = back.balance in let up = nothing gain in let down = nothing loss in omega arith);
      tail = back.tail;
    }
      where
        nothing : (side : ℤ → ℕ) → moved_if_committed side account mine.placed ≡ 0
        nothing side = ap (λ b. cond b (moved side account (changes_in (recs_of mine.placed))) 0) (sym back.committed ∙ uncommitted)

    given-follows : AccountsFollowList base words' h (set all me new)
    given-follows = record {
      lawful = s.lawful;
      range = s.range;
      placed = everywhere-set (Ties h) all me new s.placed (s.placed me mine at);
      last = everywhere-set Lasts all me new s.last (s.last me mine at);
      free = λ other below off. dite (ℕ_discrete other account)
          (λ same. subst (λ a. IsUpToDate base h a (words' a)) (sym same) now-free)
          (λ differ. free-put_word_other base h words account word other differ (s.free other below) off);
      held = everywhere-set (FollowsAll base h) all me new s.held (s.held me mine at);
      half = everywhere-set_weaken (FollowsByHalf base words h) (FollowsByHalf base words' h) all me new s.half tt
          (λ _ x _ _. half_follows-put_word base h words account word x.placed x.half);
      given = everywhere-set (AllWentBack base h) all me new s.given (went-back, s.given me mine at);
      runs = everywhere-set (RunsPartly base h) all me new s.runs (s.runs me mine at);
      others = λ number none. s.others number (let sum = summed-set (λ (books : Books). times_taken number books.jobs) all me mine new at in omega arith);
    }

  pub give_back-keeps_accounts : KeepsAccounts base words h all → KeepsAccounts base words' h (set all me new)
  give_back-keeps_accounts s = record {
    holder = given-holder;
    follows = λ distinct. given-follows (s.follows (distinct_jobs-before_set base words h all me mine at new (λ number. omega arith) distinct));
  }
