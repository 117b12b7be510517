-- A job is taken, or the word of a free account.
use Rattle.std.proofs.Common.{◌≡◌, ◌≢◌, ◌⊎◌, inr, ℕ, ◌==◌, ◌&&◌, ◌≤◌, ◌<◌, cond, Bool, true, false, true≢false, List, [], set, sym, refl, ap, ◌∙◌, subst, arith, eq-eqb, ne_eqb}
use Rattle.std.specs.List.{AllByRecursion}
use mathlib.Core.Logic.{dite}
use mathlib.Core.Option.{some}
use native.Mathlib.Decide.{ℕ_discrete}
use lib.ListN.{get_elem?}
use Rattle.slot_word.specs.AccountWord.{held_in, last_commit_in, IsAccountWord}
use Rattle.log_record.specs.declared.rec.Placed.{Placed}
use Rattle.lsn_space.specs.declared.opening.TheConstants.{MOST_BALANCE}
use Rattle.lock_core.specs.Records.{gain, loss}
use Rattle.lock_core.specs.History.{end_from}
use Rattle.lock_core.specs.Transactions.{of_transaction, recs_of, changes_in, has_commit, touches, all_without_prev, in_order}
use Rattle.lock_core.specs.Sums.{BaseState, moved}
use Rattle.lock_core.specs.Alone.{with_note, leg_updates}
use Rattle.lock_core.specs.Serial.{IsRunWhole, IsCutShort}
use Rattle.lsn_space.proofs.ListLemmas.{summed-set, summed-member_le}
use Rattle.log_rule.specs.declared.view.TakenJob.{TakenJob}
use Rattle.log_rule.specs.declared.view.Taken.{Taken}
use Rattle.log_rule.specs.declared.view.Half.{Half}
use Rattle.log_rule.specs.declared.view.Half.TheVariants.{Neither, Taking, Giving}
use Rattle.log_rule.specs.declared.view.Books.{Books}
use Rattle.log_rule.specs.Books.{task_of, times_half, times_holding, times_taken, taking_job, half_taking}
use Rattle.log_rule.specs.Accounts.{IsMarked, IsAsTaken, IsHalf, HasWords, MayBeTaken, HasOneHolder, HasDistinctJobs, moved_if_committed, Follows}
use Rattle.log_rule.specs.Accounts.{HalfFollows, IsUpToDate, WentBack, AccountsFollowList, KeepsAccounts}
use Rattle.log_rule.specs.Words.{AccountWords, put, words_alone, balances_alone, put_word, put_balance}
use Rattle.log_rule.proofs.Bookings.{everywhere-set_weaken, everywhere-set, all-weaken_if_held, all-weaken_if_taken, cond-one_if_equal, cond-zero_if_unequal}

pub put-at_equal : (words : ℕ → ℕ) (account word other : ℕ) → other ≡ account → put words account word other ≡ word
put-at_equal words account word other same = ap (λ (b : Bool). cond b word (words other)) (eq-eqb other account same)

pub put-at_unequal : (words : ℕ → ℕ) (account word other : ℕ) → other ≢ account → put words account word other ≡ words other
put-at_unequal words account word other differ = ap (λ (b : Bool). cond b word (words other)) (ne_eqb other account differ)

-- a number that isn't counted is another
pub uncounted-differs : (a account : ℕ) → cond {A = ℕ} (a == account) 1 0 ≡ 0 → a ≢ account
uncounted-differs a account none same = let one = cond-one_if_equal a account same in absurd (omega arith)

-- ---- what is known of other accounts' words, once one is put

module _ (accounts : ℕ) (words : ℕ → AccountWords) (account value : ℕ) where
  pub marked-put_word_other : (other last_commit : ℕ) → other ≢ account → IsMarked accounts words other last_commit
      → IsMarked accounts (put_word words account value) other last_commit
  marked-put_word_other other last_commit differ old = let same = put-at_unequal (words_alone words) account value other differ in record {
    known = old.known;
    taken = ap held_in same ∙ old.taken;
    last_commit = ap last_commit_in same ∙ old.last_commit;
  }

  pub marked-put_balance : (other last_commit : ℕ) → IsMarked accounts words other last_commit
      → IsMarked accounts (put_balance words account value) other last_commit
  marked-put_balance other last_commit old = record { known = old.known; taken = old.taken; last_commit = old.last_commit }

  pub as_taken-put_word_other : (held : Taken) → held.account ≢ account → IsAsTaken accounts words held → IsAsTaken accounts (put_word words account value) held
  as_taken-put_word_other held differ old = record { marked = marked-put_word_other held.account held.last_commit differ old.marked; balance = old.balance }

  pub as_taken-put_balance_other : (held : Taken) → held.account ≢ account → IsAsTaken accounts words held → IsAsTaken accounts (put_balance words account value) held
  as_taken-put_balance_other held differ old = record {
    marked = marked-put_balance held.account held.last_commit old.marked;
    balance = put-at_unequal (balances_alone words) account value held.account differ ∙ old.balance;
  }

  pub half-put_word_other : (placed : List Placed) (half : Half) → times_half account half ≡ 0 → IsHalf accounts words placed half
      → IsHalf accounts (put_word words account value) placed half
  half-put_word_other placed Neither none old = tt
  half-put_word_other placed (Taking a last_commit) none old = marked-put_word_other a last_commit (uncounted-differs a account none) old
  half-put_word_other placed (Giving taken balance) none old =
      (marked-put_word_other taken.account taken.last_commit (uncounted-differs taken.account account none) old.0, old.1, old.2)

  pub half-put_balance_other : (placed : List Placed) (half : Half) → times_half account half ≡ 0 → IsHalf accounts words placed half
      → IsHalf accounts (put_balance words account value) placed half
  half-put_balance_other placed Neither none old = tt
  half-put_balance_other placed (Taking a last_commit) none old = marked-put_balance a last_commit old
  half-put_balance_other placed (Giving taken balance) none old = (
    marked-put_balance taken.account taken.last_commit old.0,
    put-at_unequal (balances_alone words) account value taken.account (uncounted-differs taken.account account none) ∙ old.1,
    old.2,
  )

  pub words-put_word : IsAccountWord value → ((a : ℕ) → a < accounts → HasWords (words a)) → (a : ℕ) → a < accounts → HasWords (put_word words account value a)
  words-put_word is old a below = dite (ℕ_discrete a account)
      (λ same. record { word = subst IsAccountWord (sym (put-at_equal (words_alone words) account value a same)) is; balance = (old a below).balance })
      (λ differ. record { word = subst IsAccountWord (sym (put-at_unequal (words_alone words) account value a differ)) (old a below).word; balance = (old a below).balance })

  pub words-put_balance : value ≤ MOST_BALANCE → ((a : ℕ) → a < accounts → HasWords (words a)) → (a : ℕ) → a < accounts → HasWords (put_balance words account value a)
  words-put_balance fits old a below = dite (ℕ_discrete a account)
      (λ same. record { word = (old a below).word; balance = subst (λ n. n ≤ MOST_BALANCE) (sym (put-at_equal (balances_alone words) account value a same)) fits })
      (λ differ. record { word = (old a below).word; balance = subst (λ n. n ≤ MOST_BALANCE) (sym (put-at_unequal (balances_alone words) account value a differ)) (old a below).balance })

module _ (base : BaseState) (h : List Placed) (words : ℕ → AccountWords) (account value : ℕ) where
  pub half_follows-put_word : (placed : List Placed) (half : Half) → HalfFollows base words h placed half → HalfFollows base (put_word words account value) h placed half
  half_follows-put_word placed Neither old = tt
  half_follows-put_word placed (Taking a last_commit) old = old
  half_follows-put_word placed (Giving taken balance) old = old

  pub half_follows-put_balance : (placed : List Placed) (half : Half) → times_half account half ≡ 0 → HalfFollows base words h placed half
      → HalfFollows base (put_balance words account value) h placed half
  half_follows-put_balance placed Neither none old = tt
  half_follows-put_balance placed (Taking a last_commit) none old =
      subst (λ (n : ℕ). Follows base h placed (record { account = a; balance = n; last_commit = last_commit }))
      (sym (put-at_unequal (balances_alone words) account value a (uncounted-differs a account none))) old
  half_follows-put_balance placed (Giving taken balance) none old = old

  pub free-put_word_other : (other : ℕ) → other ≢ account → (held_in (words other).word ≡ false → IsUpToDate base h other (words other))
      → held_in (put_word words account value other).word ≡ false → IsUpToDate base h other (put_word words account value other)
  free-put_word_other other differ old off = let same = put-at_unequal (words_alone words) account value other differ in
      let was = old (sym (ap held_in same) ∙ off) in record { balance = was.balance; last_commit = was.last_commit ∙ ap last_commit_in (sym same) }

  pub free-put_balance_other : (other : ℕ) → other ≢ account → (held_in (words other).word ≡ false → IsUpToDate base h other (words other))
      → held_in (words other).word ≡ false → IsUpToDate base h other (put_balance words account value other)
  free-put_balance_other other differ old off = let same = put-at_unequal (balances_alone words) account value other differ in
      let was = old off in let balance = was.balance in record { balance = omega arith; last_commit = was.last_commit }

-- what the parts say of one seat's books
abbrev pub RunsPartly : BaseState → List Placed → Books → Type 0
RunsPartly base h books = AllByRecursion (λ (taken : TakenJob). IsRunWhole base h (task_of taken) ⊎ IsCutShort h (task_of taken)) books.jobs

abbrev pub Lasts : Books → Type 0
Lasts books = 1 ≤ books.last.number → AllByRecursion (λ (taken : TakenJob). taken.number ≡ books.last.number → taken.job ≡ books.last.job) books.jobs

abbrev pub Ties : List Placed → Books → Type 0
Ties h books = 1 ≤ books.last.number → of_transaction books.last.number h ≡ books.placed

abbrev pub FollowsAll : BaseState → List Placed → Books → Type 0
FollowsAll base h books = AllByRecursion (Follows base h books.placed) books.held

abbrev pub FollowsByHalf : BaseState → (ℕ → AccountWords) → List Placed → Books → Type 0
FollowsByHalf base words h books = HalfFollows base words h books.placed books.half

abbrev pub AllTaken : ℕ → (ℕ → AccountWords) → Books → Type 0
AllTaken accounts words books = AllByRecursion (IsAsTaken accounts words) books.held

abbrev pub HoldsByHalf : ℕ → (ℕ → AccountWords) → Books → Type 0
HoldsByHalf accounts words books = IsHalf accounts words books.placed books.half

abbrev pub AllWentBack : BaseState → List Placed → Books → Type 0
AllWentBack base h books = AllByRecursion (WentBack base h) books.given

abbrev pub LastIsOne : ℕ → Books → Type 0
LastIsOne accounts books = 1 ≤ books.last.number → MayBeTaken accounts books.last × (1 ≤ times_taken books.last.number books.jobs)

-- a seat that has no account by half
pub whole-half : (accounts : ℕ) (words : ℕ → AccountWords) (placed : List Placed) (half : Half) → half ≡ Neither → IsHalf accounts words placed half
whole-half accounts words placed half whole = subst (IsHalf accounts words placed) (sym whole) tt

pub whole-half_follows : (base : BaseState) (words : ℕ → AccountWords) (h placed : List Placed) (half : Half) → half ≡ Neither → HalfFollows base words h placed half
whole-half_follows base words h placed half whole = subst (HalfFollows base words h placed) (sym whole) tt

module _ (base : BaseState) (words : ℕ → AccountWords) (h : List Placed) (all : List Books) (me : ℕ) (mine : Books) (at : get_elem? all me ≡ some mine) where
  -- jobs only grow
  pub distinct_jobs-before_set : (new : Books) → ((number : ℕ) → times_taken number mine.jobs ≤ times_taken number new.jobs) → HasDistinctJobs (set all me new)
      → HasDistinctJobs all
  distinct_jobs-before_set new more distinct number =
      let sum = summed-set (λ (books : Books). times_taken number books.jobs) all me mine new at in let one = distinct number in let grow = more number in omega arith

  -- a free account is held by no seat, not by half either
  pub free-unheld_at_all : HasOneHolder base.accounts words all → (account : ℕ) → account < base.accounts → held_in (words account).word ≡ false
      → (j : ℕ) (x : Books) → get_elem? all j ≡ some x → times_holding account x ≡ 0
  free-unheld_at_all holder account below free j x there =
      let none : cond {A = ℕ} (held_in (words account).word) 1 0 ≡ 0 = ap (λ b. cond {A = ℕ} b 1 0) free in
      let one = summed-member_le (times_holding account) all j x there in let count = holder.counts account below in omega arith

  module _ (whole : mine.half ≡ Neither) (taken : TakenJob) (allowed : MayBeTaken base.accounts taken)
      (above : AllByRecursion (λ (job : TakenJob). job.number < taken.number) mine.jobs) (none-held : mine.held ≡ []) where
    abbrev new : Books
    new = taking_job taken mine

    one : cond {A = ℕ} (taken.number == taken.number) 1 0 ≡ 1
    one = cond-one_if_equal taken.number taken.number refl

    job-holder : HasOneHolder base.accounts words all → HasOneHolder base.accounts words (set all me new)
    job-holder s = record {
      few = s.few;
      words_are = s.words_are;
      counts = λ account below. let sum = summed-set (times_holding account) all me mine new at in let count = s.counts account below in omega arith;
      taken = everywhere-set (AllTaken base.accounts words) all me new s.taken (s.taken me mine at);
      half = everywhere-set (HoldsByHalf base.accounts words) all me new s.half (whole-half base.accounts words [] mine.half whole);
      last = everywhere-set (LastIsOne base.accounts) all me new s.last (λ _. (allowed, (let is = one in omega arith)));
    }

    module _ (distinct : HasDistinctJobs (set all me new)) (s : AccountsFollowList base words h all) where
      unknown : of_transaction taken.number h ≡ []
      unknown = s.others taken.number
          (let sum = summed-set (λ (books : Books). times_taken taken.number books.jobs) all me mine new at in let most = distinct taken.number in let is = one in omega arith)

      cut : IsCutShort h (task_of taken)
      cut = record {
        rest = with_note taken.number (task_of taken).job.note (leg_updates taken.number (task_of taken).job.legs);
        front = ap (λ entries. in_order (all_without_prev (recs_of entries)) (with_note taken.number (task_of taken).job.note (leg_updates taken.number (task_of taken).job.legs))) unknown;
      }

      job-follows : AccountsFollowList base words h (set all me new)
      job-follows = record {
        lawful = s.lawful;
        range = s.range;
        placed = everywhere-set (Ties h) all me new s.placed (λ _. unknown);
        last = everywhere-set Lasts all me new s.last
            (λ _. ((λ _. refl), all-weaken_if_taken _ (λ (job : TakenJob). job.number ≡ taken.number → job.job ≡ taken.job) mine.jobs above (λ job _ below same. absurd (omega arith))));
        free = s.free;
        held = everywhere-set (FollowsAll base h) all me new s.held (subst (AllByRecursion (Follows base h [])) (sym none-held) tt);
        half = everywhere-set (FollowsByHalf base words h) all me new s.half (whole-half_follows base words h [] mine.half whole);
        given = everywhere-set (AllWentBack base h) all me new s.given (s.given me mine at);
        runs = everywhere-set (RunsPartly base h) all me new s.runs (inr cut, s.runs me mine at);
        others = λ number none. s.others number
            (let sum = summed-set (λ (books : Books). times_taken number books.jobs) all me mine new at in omega arith);
      }

    pub take_job-keeps_accounts : KeepsAccounts base words h all → KeepsAccounts base words h (set all me new)
    take_job-keeps_accounts s = record {
      holder = job-holder s.holder;
      follows = λ distinct. job-follows distinct (s.follows (distinct_jobs-before_set new (λ number. omega arith) distinct));
    }

  -- the word of a free account, which is then held with the same last Commit; the balance isn't known yet
  module _ (whole : mine.half ≡ Neither) (account last_commit word : ℕ) (known : account < base.accounts) (free : held_in (words account).word ≡ false)
      (last_commit-is : last_commit_in (words account).word ≡ last_commit)
      (is-held : held_in word ≡ true) (last_commit' : last_commit_in word ≡ last_commit) (is-word : IsAccountWord word) where
    abbrev new' : Books
    new' = half_taking account last_commit mine

    abbrev words' : ℕ → AccountWords
    words' = put_word words account word

    others-taken : (books : Books) → AllTaken base.accounts words books → AllTaken base.accounts words' books
    others-taken books old = all-weaken_if_held _ (IsAsTaken base.accounts words') books.held old
        (λ z _ t. as_taken-put_word_other base.accounts words account word z
        (λ same. true≢false (sym t.marked.taken ∙ (ap (λ a. held_in (words a).word) same ∙ free))) t)

    account-holder : HasOneHolder base.accounts words all → HasOneHolder base.accounts words' (set all me new')
    account-holder s = record {
      few = s.few;
      words_are = words-put_word base.accounts words account word is-word s.words_are;
      counts = λ other below. let sum = summed-set (times_holding other) all me mine new' at in
          let none-half : times_half other mine.half ≡ 0 = ap (times_half other) whole in
          let count = s.counts other below in dite (ℕ_discrete other account)
          (λ same. let one' = cond-one_if_equal account other (sym same) in
          let none : cond {A = ℕ} (held_in (words other).word) 1 0 ≡ 0 = ap (λ b. cond {A = ℕ} b 1 0) (ap (λ a. held_in (words a).word) same ∙ free) in
          let now : cond {A = ℕ} (held_in (words' other).word) 1 0 ≡ 1
          = ap (λ b. cond {A = ℕ} b 1 0) (ap held_in (put-at_equal (words_alone words) account word other same) ∙ is-held) in omega arith)
          (λ differ. let none = cond-zero_if_unequal account other (λ e. differ (sym e)) in
          let now : cond {A = ℕ} (held_in (words' other).word) 1 0 ≡ cond {A = ℕ} (held_in (words other).word) 1 0 =
          ap (λ w. cond {A = ℕ} (held_in w) 1 0) (put-at_unequal (words_alone words) account word other differ) in omega arith);
      taken = everywhere-set_weaken (AllTaken base.accounts words) (AllTaken base.accounts words') all me new' s.taken
          (others-taken mine (s.taken me mine at)) (λ _ x _ _. others-taken x);
      half = everywhere-set_weaken (HoldsByHalf base.accounts words) (HoldsByHalf base.accounts words') all me new' s.half
          record {
            known = known;
            taken = ap held_in (put-at_equal (words_alone words) account word account refl) ∙ is-held;
            last_commit = ap last_commit_in (put-at_equal (words_alone words) account word account refl) ∙ last_commit';
          }
          (λ j x _ there old. half-put_word_other base.accounts words account word x.placed x.half
          (let none = free-unheld_at_all s account known free j x there in omega arith) old);
      last = everywhere-set (LastIsOne base.accounts) all me new' s.last (s.last me mine at);
    }

    module _ (uncommitted : has_commit (recs_of mine.placed) ≡ false) (s : AccountsFollowList base words h all) where
      abbrev as-held : Taken
      as-held = record { account = account; balance = (words account).balance; last_commit = last_commit }

      now-follows : Follows base h mine.placed as-held
      now-follows = let old = s.free account known free in let sum = old.balance in
          let up : moved_if_committed gain account mine.placed ≡ 0 = ap (λ b. cond b (moved gain account (changes_in (recs_of mine.placed))) 0) uncommitted in
          let down : moved_if_committed loss account mine.placed ≡ 0 = ap (λ b. cond b (moved loss account (changes_in (recs_of mine.placed))) 0) uncommitted in
          record {
            balance = omega arith;
            last_commit = old.last_commit ∙ (last_commit-is ∙ sym (ap (λ b. cond (b && touches account (changes_in (recs_of mine.placed))) (end_from 0 mine.placed) last_commit) uncommitted));
          }

      account-follows : AccountsFollowList base words' h (set all me new')
      account-follows = record {
        lawful = s.lawful;
        range = s.range;
        placed = everywhere-set (Ties h) all me new' s.placed (s.placed me mine at);
        last = everywhere-set Lasts all me new' s.last (s.last me mine at);
        free = λ other below off. dite (ℕ_discrete other account)
            (λ same. absurd (true≢false (sym (ap held_in (put-at_equal (words_alone words) account word other same) ∙ is-held) ∙ off)))
            (λ differ. free-put_word_other base h words account word other differ (s.free other below) off);
        held = everywhere-set (FollowsAll base h) all me new' s.held (s.held me mine at);
        half = everywhere-set_weaken (FollowsByHalf base words h) (FollowsByHalf base words' h) all me new' s.half now-follows
            (λ _ x _ _. half_follows-put_word base h words account word x.placed x.half);
        given = everywhere-set (AllWentBack base h) all me new' s.given (s.given me mine at);
        runs = everywhere-set (RunsPartly base h) all me new' s.runs (s.runs me mine at);
        others = λ number none. s.others number
            (let sum = summed-set (λ (books : Books). times_taken number books.jobs) all me mine new' at in omega arith);
      }

    pub take_account-keeps_accounts : has_commit (recs_of mine.placed) ≡ false → KeepsAccounts base words h all → KeepsAccounts base words' h (set all me new')
    take_account-keeps_accounts uncommitted s = record {
      holder = account-holder s.holder;
      follows = λ distinct. account-follows uncommitted (s.follows (distinct_jobs-before_set new' (λ number. omega arith) distinct));
    }
