-- The steps on an account's word, and the load of stop with which a seat takes a job.
use Rattle.std.proofs.Common.{◌≡◌, inr, ℕ, ◌+◌, ◌≤◌, ◌<◌, cond, eqb, ◌||◌, ◌^◌, Bool, false, true≢false, List, [], ◌∷◌, length, map, set, sym, refl, ap, ◌∙◌, subst, eq-eqb, ne_eqb}
use Rattle.std.specs.List.{AllByRecursion}
use mathlib.Core.Logic.{dite}
use mathlib.Core.Option.{some}
use native.Mathlib.Decide.{ℕ_discrete}
use lib.ListN.{get_elem?}
use prog.Atomic.{either}
use Rattle.atomic_table.proofs.Lists.{at_map}
use Rattle.slot_word.specs.declared.account_word.AccountWord.{AccountWord}
use Rattle.slot_word.specs.AccountWord.{word_of, held_in, last_commit_in, IsAccountWord}
use Rattle.slot_word.proofs.AccountWordLemmas.{packed-account_word, held_back, last_commit_back}
use Rattle.lsn_space.specs.declared.opening.TheConstants.{MOST_BALANCE}
use Rattle.log_record.specs.declared.rec.Rec.{Rec}
use Rattle.log_record.specs.declared.rec.Rec.TheVariants as rec
use Rattle.log_record.specs.declared.rec.Placed.{Placed}
use Rattle.lock_core.specs.Transactions.{recs_of, has_commit}
use Rattle.lock_core.specs.History.{end_from}
use Rattle.lock_core.specs.Records.{commits}
use Rattle.lock_core.specs.declared.job.Job.{Job}
use Rattle.log_rule.specs.declared.start.Start.{Start}
use Rattle.log_rule.specs.declared.view.Books.{Books}
use Rattle.log_rule.specs.declared.view.Call.TheVariants.{Idle}
use Rattle.log_rule.specs.declared.view.Seen.{Seen}
use Rattle.log_rule.specs.declared.view.TakenJob.{TakenJob}
use Rattle.log_rule.specs.declared.view.View.{View}
use Rattle.log_rule.specs.declared.view.Taken.{Taken}
use Rattle.log_rule.specs.declared.view.Role.TheVariants.{Active}
use Rattle.log_rule.specs.declared.view.Standing.{Standing}
use Rattle.log_rule.proofs.Reading.{put-same_value}
use Rattle.log_rule.specs.Accounts.{IsAsTaken, MayBeTaken, commit_in, KeepsAccounts}
use Rattle.log_rule.specs.Books.{IsNote, taking_job, half_taking, taking, half_giving, giving}
use Rattle.log_rule.specs.Events.{Leads, IsStep, none}
use Rattle.table_layout.specs.Layout.{Stop, Account, Balance}
use Rattle.log_rule.specs.Log.{Log, ranges_of}
use Rattle.log_rule.specs.May.{IsOwnWord, MayTakeJob, MayTake, MayLoadBalance, MayStoreBalance, MayGiveBack}
use Rattle.log_rule.specs.Members.{AwaitsPlace}
use Rattle.log_rule.specs.Sound.{HasSeenBoundaries, StoresStop, HasReadStop, HoldsIfActive, IsSound, base_of, history_in, books_of}
use Rattle.log_rule.specs.Roles.{is_active, may_own}
use Rattle.log_rule.specs.AccountViews.{took_job, seen_account, saw_account, took_account, after_account, loaded_half, loaded_balance, taken_as, stored_balance, half_balance, given_as, gave_account}
use Rattle.log_rule.specs.Views.{counted}
use Rattle.log_rule.specs.Words.{Words, AccountWords, words_alone, balances_alone, put_word, put_balance}
use Rattle.log_rule.proofs.Bookings.{times_held-found}
use Rattle.log_rule.proofs.Lifting.{Tells}
use Rattle.log_rule.proofs.Loads.{see_word-leads}
use Rattle.log_rule.proofs.Members.{KeepsSeen, one_step_more-keeps_seen, keeps_seen-loads_for_group, keeps-view}
use Rattle.log_rule.proofs.Roles.{crew-set_same, rests_if_quiet-set, change_standing-leads}
use Rattle.log_rule.proofs.ViewChanges.{each_view-set}
use Rattle.log_rule.proofs.Taking.{take_job-keeps_accounts, take_account-keeps_accounts}
use Rattle.log_rule.proofs.Loading.{load_balance-keeps_accounts}
use Rattle.log_rule.proofs.Storing.{store_balance-keeps_accounts}
use Rattle.log_rule.proofs.Giving.{give_back-keeps_accounts}
use Rattle.log_rule.proofs.AccountsKept.{books-at, books-set, history-end}
use Rattle.log_rule.proofs.MemberBooks.{held-books_in}

-- the seat's books change, and the accounts' words with them
module _ (key : Start) (words : Words) (account : ℕ → AccountWords) (views : List View) (me : ℕ) (v : View) (log : Log) (seen : Seen) (books : Books)
    (s : IsSound key words views log) (at : get_elem? views me ≡ some v) (idle : v.call ≡ Idle)
    (sees : HasSeenBoundaries key.start words.tail words.exposed words.durable (ranges_of log) seen)
    (read : HasReadStop words.stop (record v { seen = seen })) (keeps : KeepsSeen log.groups v.seen seen) where
  abbrev new : View
  new = record v { seen = seen; books = books }

  books-change : HoldsIfActive new → KeepsAccounts (base_of key) account (history_in key log.parts) (set (map (books_of log.groups) views) me books)
      → Leads key words (record words { account = account }) views (set views me new) log none
  books-change unheld accounts = change_standing-leads key words words.stop words.crew account views me v new log s at refl refl sees (s.constants me v at)
      (s.resting me v at) (s.entries me v at) (crew-set_same words.crew views me v new s.roles at refl) (s.sends me v at)
      (each_view-set (λ _ z. StoresStop words.stop z) views me new s.stops (s.stops me v at))
      (each_view-set (λ _ z. HasReadStop words.stop z) views me new s.read_stop read)
      (rests_if_quiet-set views me v new s.quiet at (λ _ _ _ h. h) (λ _ h. h)) (s.looked me v at) unheld
      (subst (KeepsAccounts (base_of key) account (history_in key log.parts)) (sym (books-set log.groups views me new idle)) accounts)
      (keeps-view key words views me v log s at new refl keeps (keeps_seen-loads_for_group key words views me v log s at seen keeps)
      (subst (λ call. AwaitsPlace call books) (sym idle) tt))

-- one step more, and no LSN seen
sees-same : (start tail exposed durable : ℕ) (log : Log) (old now : Seen) → HasSeenBoundaries start tail exposed durable (ranges_of log) old
    → now.tail ≡ old.tail → now.exposed ≡ old.exposed → now.durable ≡ old.durable → now.lsns ≡ old.lsns
    → HasSeenBoundaries start tail exposed durable (ranges_of log) now
sees-same start tail exposed durable log old now s is-tail is-exposed is-durable is-lsns = record {
  tail_seen = subst (λ n. n ≤ tail) (sym is-tail) s.tail_seen;
  exposed_seen = subst (λ n. n ≤ exposed) (sym is-exposed) s.exposed_seen;
  durable_seen = subst (λ n. n ≤ durable) (sym is-durable) s.durable_seen;
  boundaries = subst (AllByRecursion (Rattle.log_rule.specs.Log.IsRangeBoundary start (ranges_of log))) (sym is-lsns) s.boundaries;
}

-- records that are Notes at most commit nothing
pub only_note-uncommitted : (entries : List Placed) → AllByRecursion (λ (entry : Placed). IsNote entry.rec) entries → has_commit (recs_of entries) ≡ false
only_note-uncommitted [] all = refl
only_note-uncommitted (entry ∷ entries) all = λ i. note-commits_not entry.rec all.0 i || only_note-uncommitted entries all.1 i
  where
    note-commits_not : (r : Rec) → IsNote r → commits r ≡ false
    note-commits_not (rec.Genesis account balance) note = absurd note
    note-commits_not (rec.Update txn account delta prev) note = absurd note
    note-commits_not (rec.Commit txn legs) note = absurd note
    note-commits_not (rec.Short txn leg) note = absurd note
    note-commits_not (rec.Over txn leg) note = absurd note
    note-commits_not (rec.Note txn text) note = refl

-- the mark fits in a word
abbrev pub FitsWord : AccountWord → Type 0
FitsWord word = word.mark < 2 ^ 32

-- what an account's word or its balance holds, put there again, changes nothing
put_word-same : (words : ℕ → AccountWords) (account n : ℕ) → (words account).word ≡ n → put_word words account n ≡ words
put_word-same words account n is i k = record { word = put-same_value (words_alone words) account n k is i; balance = (words k).balance }

put_balance-same : (words : ℕ → AccountWords) (account n : ℕ) → (words account).balance ≡ n → put_balance words account n ≡ words
put_balance-same words account n is i k = record { word = (words k).word; balance = put-same_value (balances_alone words) account n k is i }

module _ (key : Start) (me : ℕ) (v : View) where
  pub job-step : (accounts number : ℕ) (job : Job) → length key.accounts.rows ≡ accounts → MayTakeJob accounts number job v → (n : ℕ)
      → IsStep key me Stop n n v (took_job number job n v) none
  job-step accounts number job same may n = record {
    leads = λ words views log s at is. let taken : TakenJob = record { number = number; job = job } in
        subst (λ x. Leads key words (record words { stop = x }) views (set views me (took_job number job x v)) log none) is
        (books-change key words words.account views me v log (record v.seen { steps = v.seen.steps + 1; stop = words.stop }) (taking_job taken v.books) s at
        may.rests.idle
        (sees-same key.start words.tail words.exposed words.durable log v.seen _ (s.seen me v at) refl refl refl refl) (inr refl)
        (one_step_more-keeps_seen log.groups v.seen _ refl refl refl refl refl refl refl)
        ((λ _. (may.none_held, may.rests.whole)), (λ off. absurd (true≢false (sym (ap may_own may.rests.active) ∙ off))))
        (take_job-keeps_accounts (base_of key) words.account (history_in key log.parts) (map (books_of log.groups) views) me v.books
        (books-at log.groups views me v may.rests.idle at) may.rests.whole taken
        (subst (λ c. MayBeTaken c taken) (sym same) may.allowed) may.above may.none_held s.accounts));
  }

  pub saw_account-step : (account n : ℕ) → IsStep key me (Account account) n n v (saw_account account n v) none
  saw_account-step account n = record {
    leads = λ words views log s at is.
        subst (λ (f : ℕ → AccountWords). Leads key words (record words { account = f }) views (set views me (saw_account account n v)) log none)
        (sym (put_word-same words.account account n is))
        (see_word-leads key words views me v log (seen_account account n v.seen) s at
        (sees-same key.start words.tail words.exposed words.durable log v.seen _ (s.seen me v at) refl refl refl refl) (s.read_stop me v at)
        (one_step_more-keeps_seen log.groups v.seen _ refl refl refl refl refl refl refl));
  }

  -- the word of an account that the seat holds is its own
  pub account-tells_own_word : (account : ℕ) → Tells key me (Account account) v (λ n. IsOwnWord account n v.books)
  account-tells_own_word account words views log s at has =
      let own = times_held-found (IsAsTaken (base_of key).accounts words.account) account v.books.held has
      (subst (AllByRecursion (IsAsTaken (base_of key).accounts words.account)) (held-books_in log.groups v.call v.books)
      (s.accounts.holder.taken me (books_of log.groups v) (at_map (books_of log.groups) views me v at))) in
      let is = sym own.is in (
        ap (λ a. held_in (words.account a).word) is ∙ own.known.marked.taken,
        ap (λ a. last_commit_in (words.account a).word) is ∙ (own.known.marked.last_commit ∙ sym own.last_commit),
      )

  -- it is an account's word
  pub account-tells_account_word : (account : ℕ) → account < length key.accounts.rows → Tells key me (Account account) v IsAccountWord
  account-tells_account_word account below words views log s at = (s.accounts.holder.words_are account below).word

  -- and a balance is in its range
  pub balance-tells_range : (account : ℕ) → account < length key.accounts.rows → Tells key me (Balance account) v (λ n. n ≤ MOST_BALANCE)
  balance-tells_range account below words views log s at = (s.accounts.holder.words_are account below).balance

  pub took_account-step : (accounts account : ℕ) → length key.accounts.rows ≡ accounts → account < accounts → (from to : AccountWord) → FitsWord from → FitsWord to → MayTake account from to v
      → IsStep key me (Account account) (word_of from) (word_of to) v (took_account account (word_of from) v) none
  took_account-step accounts account same below from to from-fits to-fits may = record {
    leads = λ words views log s at is.
        let free : held_in (words.account account).word ≡ false = ap held_in is ∙ (held_back from.held from.mark from-fits ∙ may.free) in
        books-change key words (put_word words.account account (word_of to)) views me v log (seen_account account (word_of from) v.seen)
        (half_taking account (last_commit_in (word_of from)) v.books) s at may.rests.idle
        (sees-same key.start words.tail words.exposed words.durable log v.seen _ (s.seen me v at) refl refl refl refl) (s.read_stop me v at)
        (one_step_more-keeps_seen log.groups v.seen _ refl refl refl refl refl refl refl)
        ((λ off. absurd (true≢false (sym (ap is_active may.rests.active) ∙ off))), (λ off. absurd (true≢false (sym (ap may_own may.rests.active) ∙ off))))
        (take_account-keeps_accounts (base_of key) words.account (history_in key log.parts) (map (books_of log.groups) views) me v.books
        (books-at log.groups views me v may.rests.idle at) may.rests.whole
        account (last_commit_in (word_of from)) (word_of to) (subst (λ c. account < c) (sym same) below) free (ap last_commit_in is)
        (held_back to.held to.mark to-fits ∙ may.taken)
        (last_commit_back to.held to.mark to-fits ∙ (may.last_commit ∙ sym (last_commit_back from.held from.mark from-fits)))
        (packed-account_word to.held to.mark to-fits)
        (only_note-uncommitted v.books.placed may.begins.only_note) s.accounts);
  }

  pub after_account-step : (accounts account : ℕ) → length key.accounts.rows ≡ accounts → account < accounts → (from to : AccountWord) → FitsWord from
      → FitsWord to → MayTake account from to v → (n : ℕ)
      → IsStep key me (Account account) n (either (eqb n (word_of from)) (word_of to) n) v (after_account account (word_of from) n v) none
  after_account-step accounts account same below from to from-fits to-fits may n = dite (ℕ_discrete n (word_of from))
      (λ is. subst (λ (b : Bool). IsStep key me (Account account) n (either b (word_of to) n) v
      (cond b (took_account account (word_of from) v) (saw_account account n v)) none) (sym (eq-eqb n (word_of from) is))
      (subst (λ k. IsStep key me (Account account) k (word_of to) v (took_account account (word_of from) v) none) (sym is)
      (took_account-step accounts account same below from to from-fits to-fits may)))
      (λ differ. subst (λ (b : Bool). IsStep key me (Account account) n (either b (word_of to) n) v
      (cond b (took_account account (word_of from) v) (saw_account account n v)) none) (sym (ne_eqb n (word_of from) differ)) (saw_account-step account n))

  -- the tail as the seat saw it is at or below the end of the list
  sees-front : (words : Words) (views : List View) (log : Log) → IsSound key words views log → get_elem? views me ≡ some v
      → v.seen.tail ≤ end_from key.start (history_in key log.parts)
  sees-front words views log s at = subst (λ n. v.seen.tail ≤ n)
      (sym (history-end key.start key.start words.tail [] log.parts refl s.contiguous.parts s.filled.spelled)) (s.seen me v at).tail_seen

  -- who takes or gives an account is active
  active-holds : (z : View) → z.standing ≡ v.standing → v.standing.role ≡ Active → HoldsIfActive z
  active-holds _ standing active = let is = ap (λ (s : Standing). s.role) standing ∙ active in
      ((λ off. absurd (true≢false (sym (ap is_active is) ∙ off))), (λ off. absurd (true≢false (sym (ap may_own is) ∙ off))))

  pub load_balance-step : (account : ℕ) → MayLoadBalance account v → (n : ℕ) → IsStep key me (Balance account) n n v (loaded_balance n v) none
  load_balance-step account may n = record {
    leads = λ words views log s at is.
        let half : loaded_half n v.books.half ≡ record { account = account; balance = n; last_commit = may.last_commit } = ap (loaded_half n) may.half in
        subst (λ (f : ℕ → AccountWords). Leads key words (record words { account = f }) views (set views me (loaded_balance n v)) log none)
        (sym (put_balance-same words.account account n is))
        (books-change key words words.account views me v log (counted v.seen) (taking (loaded_half n v.books.half) v.books) s at may.idle
        (sees-same key.start words.tail words.exposed words.durable log v.seen _ (s.seen me v at) refl refl refl refl) (s.read_stop me v at)
        (one_step_more-keeps_seen log.groups v.seen _ refl refl refl refl refl refl refl)
        (active-holds (loaded_balance n v) refl may.active)
        (subst (λ (t : Taken). KeepsAccounts (base_of key) words.account (history_in key log.parts) (set (map (books_of log.groups) views) me (taking t v.books))) (sym half)
        (load_balance-keeps_accounts (base_of key) words.account (history_in key log.parts) (map (books_of log.groups) views) me v.books
        (books-at log.groups views me v may.idle at) account may.last_commit n may.half is s.accounts)));
  }

  pub store_balance-step : (account balance : ℕ) → MayStoreBalance account balance v → (n : ℕ)
      → IsStep key me (Balance account) n balance v (stored_balance account balance v) none
  store_balance-step account balance may n = record {
    leads = λ words views log s at is.
        books-change key words (put_balance words.account account balance) views me v log (counted v.seen) (half_giving (taken_as account v) balance v.books) s at
        may.rests.idle
        (sees-same key.start words.tail words.exposed words.durable log v.seen _ (s.seen me v at) refl refl refl refl) (s.read_stop me v at)
        (one_step_more-keeps_seen log.groups v.seen _ refl refl refl refl refl refl refl)
        (active-holds (stored_balance account balance v) refl may.rests.active)
        (store_balance-keeps_accounts (base_of key) words.account (history_in key log.parts) (map (books_of log.groups) views) me v.books
        (books-at log.groups views me v may.rests.idle at) s.accounts.holder may.rests.whole account balance may.has may.follows may.fits s.accounts);
  }

  pub give-step : (account : ℕ) (word : AccountWord) → FitsWord word → MayGiveBack account word v → (n : ℕ)
      → IsStep key me (Account account) n (word_of word) v (gave_account account v) none
  give-step account word word-fits may n = record {
    leads = λ words views log s at is.
        subst (λ a. Leads key words (record words { account = put_word words.account a (word_of word) }) views (set views me (gave_account account v)) log none) may.account_is
        (books-change key words (put_word words.account may.taken.account (word_of word)) views me v log (counted v.seen) (giving (given_as account v) v.books) s at
        may.idle
        (sees-same key.start words.tail words.exposed words.durable log v.seen _ (s.seen me v at) refl refl refl refl) (s.read_stop me v at)
        (one_step_more-keeps_seen log.groups v.seen _ refl refl refl refl refl refl refl)
        (active-holds (gave_account account v) refl may.active)
        (give_back-keeps_accounts (base_of key) words.account (history_in key log.parts) (map (books_of log.groups) views) me v.books
        (books-at log.groups views me v may.idle at) s.accounts.holder may.taken may.balance may.half
        (given_as account v) record {
          account = sym may.account_is;
          balance = ap half_balance may.half;
          committed = refl;
          tail = sees-front words views log s at;
        }
        (word_of word) (held_back word.held word.mark word-fits ∙ may.free) (packed-account_word word.held word.mark word-fits)
        (last_commit_back word.held word.mark word-fits ∙ (may.last_commit ∙ ap (λ a. commit_in v.books.placed a may.taken.last_commit) (sym may.account_is))) s.accounts));
  }
