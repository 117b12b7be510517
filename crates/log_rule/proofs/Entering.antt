-- The next record of a seat's last job enters the log: each kind keeps the account part of the rule.
use Rattle.std.proofs.Common.{◌≡◌, ◌≢◌, ◌⊎◌, inl, inr, ◌&&◌, ◌||◌, ℕ, ◌+◌, ◌≤◌, ◌<◌, cond, ℤ, true, false, true≢false, List, [], ◌∷◌, length, set, sym, refl, ap, ◌∙◌, subst, arith}
use Rattle.std.specs.List.{AllByRecursion}
use mathlib.Core.Logic.{dite}
use mathlib.Core.Option.{some}
use native.Mathlib.Decide.{dec_le}
use lib.ListN.{get_elem?}
use Rattle.log_record.specs.declared.rec.Rec.{Rec}
use Rattle.log_record.specs.declared.rec.Rec.TheVariants.{Genesis, Update, Commit, Short, Over, Note}
use Rattle.log_record.specs.declared.rec.Placed.{Placed}
use Rattle.log_record.specs.Spelling.{IsSpellable}
use Rattle.lsn_space.specs.declared.opening.TheConstants.{MOST_BALANCE}
use Rattle.lock_core.specs.Records.{txn_of, commits, ends, gain, loss}
use Rattle.lock_core.specs.History.{end_from}
use Rattle.lock_core.specs.Transactions.{recs_of, own_records_of, changes_in, has_end, has_commit, is_committed, touches, all_without_prev, in_order}
use Rattle.lock_core.specs.Sums.{BaseState, as_opening, moved, total, AreInRange, balance_of, last_commit_of}
use Rattle.lock_core.specs.Tests.{IsCurrent, IsGenesis}
use Rattle.lock_core.specs.Alone.{with_note, IsAllowedLeg}
use Rattle.lock_core.specs.Serial.{NumberedTransfer, IsRunWhole}
use Rattle.lock_core.specs.Lawful.{tests, Passes}
use Rattle.lock_core.proofs.GoingOn.{meets_opening_state-all_passed}
use Rattle.lock_core.proofs.Meeting.{MeetsTests}
use Rattle.lock_core.proofs.OneMore.{of_transaction-first_own, has_commit-unended, total-uncommitted, total-commit, last_commit_of-no_commit, last_commit_of-commit}
use Rattle.lock_core.proofs.Running.{AgreesOn, planned_from-agrees, planned_records-without_prev, planned_records-outcome, all_without_prev-in_order, no_commit}
use Rattle.lock_core.proofs.SerialFronts.{IsRunPartly}
use Rattle.lock_core.proofs.ChangesLemmas.{moved-untouched}
use Rattle.log_rule.specs.declared.view.Taken.{Taken}
use Rattle.log_rule.specs.declared.view.Books.{Books}
use Rattle.log_rule.specs.declared.view.Half.TheVariants.{Neither}
use Rattle.log_rule.specs.Words.{AccountWords}
use Rattle.log_rule.specs.Books.{task_of, times_held, times_holding, balance_taken, last_commit_taken, plan_of, IsNext, HoldsLeg, HoldsAccounts, IsNote, MayEnter, placing}
use Rattle.lock_core.proofs.JobLemmas.{note-allowed}
use Rattle.log_rule.specs.Accounts.{IsAsTaken, HasOneHolder, HasDistinctJobs, moved_if_committed, Follows, AccountsFollowList, KeepsAccounts, MayBeTaken}
use Rattle.log_rule.proofs.Bookings.{everywhere-set, times_held-found, balance_taken-none, last_commit_taken-all}
use Rattle.log_rule.proofs.Growing.{IsSameAt, enter_record-accounts_follow}
use Rattle.log_rule.proofs.Taking.{LastIsOne, HoldsByHalf, whole-half, distinct_jobs-before_set}
use Rattle.lsn_space.specs.declared.lsn.TheConstants.{LAST}
use Rattle.lsn_space.proofs.TilingLemmas.{all-weaken, all-both}
use Rattle.lsn_space.proofs.ListLemmas.{summed-set}
use Rattle.slot_word.specs.AccountWord.{last_commit_in}
use Rattle.log_rule.proofs.PlanFronts.{IsPlanned, IsSmallLeg, next-planned}
use Rattle.log_rule.proofs.Planning.{Walk, walk-in_order_rest, planned_records-walk, walk-last_commits, unheld-not_touched, IsHeldLeg, NamesLastCommit, IsFront, Step}

module _ (base : BaseState) (words : ℕ → AccountWords) (h : List Placed) (all : List Books) (me : ℕ) (mine : Books) (distinct : HasDistinctJobs all)
    (holder : HasOneHolder base.accounts words all) (s : AccountsFollowList base words h all) (at : get_elem? all me ≡ some mine)
    (whole : mine.half ≡ Neither) (some_job : 1 ≤ mine.last.number) where
  -- the seat holds the account
  abbrev Mine : ℕ → Type 0
  Mine account = 1 ≤ times_held account mine.held

  abbrev task : NumberedTransfer
  task = task_of mine.last

  abbrev before : List Rec
  before = recs_of mine.placed

  -- a leg is allowed, so there is an account
  some_account : 0 < base.accounts
  some_account = by_legs mine.last.job.legs allowed.job.legs.some allowed.job.legs.each
    where
      allowed : MayBeTaken base.accounts mine.last
      allowed = (holder.last me mine at some_job).0

      by_legs : (legs : List (ℕ × ℕ × ℕ)) → 1 ≤ length legs → AllByRecursion (IsAllowedLeg base.accounts) legs → 0 < base.accounts
      by_legs [] least each = absurd (omega arith)
      by_legs (leg ∷ legs) least each = let payer = each.0.payer in omega arith

  -- a record of the job that meets the tests passes them all, behind the table's base
  passes-all : (entry : Placed) → txn_of entry.rec ≡ mine.last.number → (IsGenesis entry.rec → ⊥) → MeetsTests base h entry
      → AllByRecursion (Passes (as_opening base) h entry) tests
  passes-all entry own other meets = meets_opening_state-all_passed (as_opening base) h entry some_account s.lawful other (omega arith) meets

  known : (account : ℕ) → Mine account → account < base.accounts
  known account has = let f = times_held-found (IsAsTaken base.accounts words) account mine.held has (holder.taken me mine at) in
      subst (λ a. a < base.accounts) f.is f.known.marked.known

  tied : own_records_of mine.last.number h ≡ before
  tied = ap recs_of (s.placed me mine at some_job)

  tied-to : (txn : ℕ) → txn ≡ mine.last.number → own_records_of txn h ≡ before
  tied-to txn own = ap (λ n. own_records_of n h) own ∙ tied

  module _ (unended : has_end before ≡ false) where
    uncommitted : has_commit before ≡ false
    uncommitted = has_commit-unended before unended

    nothing : (side : ℤ → ℕ) (account : ℕ) → moved_if_committed side account mine.placed ≡ 0
    nothing side account = ap (λ b. cond b (moved side account (changes_in before)) 0) uncommitted

    -- until the job is committed, the balance as taken is the list's, and so is the last Commit
    balance-taken : (account : ℕ) → Mine account → balance_taken mine.held account + total loss account h ≡ base.balance account + total gain account h
    balance-taken account has =
        let f = times_held-found (Follows base h mine.placed) account mine.held has (s.held me mine at) in
        let old : Follows base h mine.placed f.held = f.known in
        let is : f.held.balance + moved_if_committed gain account mine.placed + total loss account h
        ≡ base.balance account + total gain account h + moved_if_committed loss account mine.placed =
        subst (λ a. f.held.balance + moved_if_committed gain a mine.placed + total loss a h ≡ base.balance a + total gain a h + moved_if_committed loss a mine.placed) f.is old.balance in
        let up = nothing gain account in let down = nothing loss account in let balance = f.balance in omega arith

    last_commit-taken : (account : ℕ) → Mine account → last_commit_taken mine.held account ≡ last_commit_of base h account
    last_commit-taken account has =
        let f = times_held-found (Follows base h mine.placed) account mine.held has (s.held me mine at) in
        let old : Follows base h mine.placed f.held = f.known in
        f.last_commit ∙ (sym (ap (λ b. cond (b && touches f.held.account (changes_in before)) (end_from 0 mine.placed) f.held.last_commit) uncommitted)
        ∙ (sym old.last_commit ∙ ap (last_commit_of base h) f.is))

    in-range : (account : ℕ) → balance_taken mine.held account ≤ MOST_BALANCE
    in-range account = dite (dec_le 1 (times_held account mine.held))
        (λ has. let is = balance-taken account has in let r = s.range account (known account has) in let range = r.1 in let sum = r.2 in omega arith)
        (λ none. let zero' = balance_taken-none account mine.held (omega (arith, none)) in omega arith)

    -- a record that is no Commit
    module _ (entry : Placed) (own : txn_of entry.rec ≡ mine.last.number) (plain : commits entry.rec ≡ false) where
      uncommitted-here : is_committed (txn_of entry.rec) h ≡ false
      uncommitted-here = ap has_commit (tied-to (txn_of entry.rec) own) ∙ uncommitted

      same-plain : (account : ℕ) → IsSameAt base h entry account
      same-plain account = record {
        added = total-uncommitted gain account entry h plain uncommitted-here;
        taken = total-uncommitted loss account entry h plain uncommitted-here;
        last_commit = last_commit_of-no_commit base entry h account plain;
      }

      range-plain : AreInRange base (entry ∷ h)
      range-plain account below = let r = s.range account below in let same = same-plain account in let added = same.added in let taken = same.taken in
          let sum = r.2 in (r.0, r.1, omega arith)

      follows-plain : AllByRecursion (Follows base (entry ∷ h) (entry ∷ mine.placed)) mine.held
      follows-plain = all-weaken (Follows base h mine.placed) (Follows base (entry ∷ h) (entry ∷ mine.placed)) mine.held
          (λ held old. let same = same-plain held.account in let added = same.added in let taken = same.taken in let balance = old.balance in
          let none : has_commit (recs_of (entry ∷ mine.placed)) ≡ false = (λ i. plain i || uncommitted i) in
          let up = nothing gain held.account in let down = nothing loss held.account in
          let up' : moved_if_committed gain held.account (entry ∷ mine.placed) ≡ 0 = ap (λ b. cond b (moved gain held.account (changes_in (recs_of (entry ∷ mine.placed)))) 0) none in
          let down' : moved_if_committed loss held.account (entry ∷ mine.placed) ≡ 0 = ap (λ b. cond b (moved loss held.account (changes_in (recs_of (entry ∷ mine.placed)))) 0) none in
          record {
            balance = omega arith;
            last_commit = same.last_commit ∙ (old.last_commit ∙ (ap (λ b. cond (b && touches held.account (changes_in before)) (end_from 0 mine.placed) held.last_commit) uncommitted
                ∙ sym (ap (λ b. cond (b && touches held.account (changes_in (recs_of (entry ∷ mine.placed)))) entry.end held.last_commit) none)));
          }) (s.held me mine at)

      passes-plain : MeetsTests base h entry → (IsGenesis entry.rec → ⊥) → IsRunPartly base (entry ∷ h) task
          → AccountsFollowList base words (entry ∷ h) (set all me (record mine { placed = entry ∷ mine.placed }))
      passes-plain meets other ran = enter_record-accounts_follow base words h all me mine entry distinct holder s at whole some_job own
          (passes-all entry own other meets) range-plain (λ account _. same-plain account) follows-plain ran

  -- what the log has of the job, once the record is in it
  has-more : (entry : Placed) → txn_of entry.rec ≡ mine.last.number → own_records_of mine.last.number (entry ∷ h) ≡ entry.rec ∷ before
  has-more entry own = ap recs_of (of_transaction-first_own mine.last.number entry h own ∙ ap (λ l. entry ∷ l) (s.placed me mine at some_job))

  cut-more : (entry : Placed) → txn_of entry.rec ≡ mine.last.number → IsFront task (entry.rec ∷ before) → IsRunPartly base (entry ∷ h) task
  cut-more entry own front = inr (record {
    rest = front.rest;
    front = ap (λ l. in_order (all_without_prev l) front.rest) (has-more entry own) ∙ front.front;
  })

  -- a Note needs no account
  pub note-enters : (end txn : ℕ) (text : List ℕ) → txn ≡ mine.last.number → has_end before ≡ false → IsFront task (Note txn text ∷ before)
      → AccountsFollowList base words (record { end = end; rec = Note txn text } ∷ h) (set all me (placing end (Note txn text) mine))
  note-enters end txn text own unended front = let entry : Placed = record { end = end; rec = Note txn text } in
      passes-plain unended entry own refl
      record {
        account = tt;
        ended = ap has_end (tied-to txn own) ∙ unended;
        legs = tt;
        pair = tt;
        prev = tt;
        stale = tt;
        balance = λ on. absurd (true≢false (sym on));
      } (λ g. g) (cut-more entry own front)

  module _ (few : length mine.last.job.legs ≤ 8) (some_amounts : AllByRecursion (λ (leg : ℕ × ℕ × ℕ). (leg.0 ≢ leg.1) × (1 ≤ leg.2)) mine.last.job.legs)
      (holds : HoldsAccounts mine) (unended : has_end before ≡ false) (rec : Rec) (rest : List Rec) (next : in_order before (rec ∷ rest) ≡ plan_of mine) where
    abbrev T : List Rec → Rec → List Rec → Type 0
    T = Step task Mine (last_commit_taken mine.held) (balance_taken mine.held)

    walk : Walk T [] (in_order before (rec ∷ rest))
    walk = subst (Walk T []) (sym next) (planned_records-walk task Mine (last_commit_taken mine.held) (balance_taken mine.held) few
        (all-both (λ (leg : ℕ × ℕ × ℕ). (leg.0 ≢ leg.1) × (1 ≤ leg.2)) (HoldsLeg mine.held) (IsHeldLeg Mine) mine.last.job.legs
        (λ leg a b. (a.0, a.1, b.0, b.1)) some_amounts holds) (in-range unended))

    step : T before rec rest
    step = (walk-in_order_rest T before (rec ∷ rest) walk).0

    marked : AllByRecursion (NamesLastCommit Mine (last_commit_taken mine.held)) (changes_in before)
    marked = walk-last_commits task Mine (last_commit_taken mine.held) (balance_taken mine.held) before (rec ∷ rest) walk

    -- an end record: all of the job, run alone on the balances before it
    run-whole : (entry : Placed) → entry.rec ≡ rec → txn_of rec ≡ mine.last.number → ends rec ≡ true → rest ≡ [] → IsRunWhole base (entry ∷ h) task
    run-whole entry is own end none = record {
      later = [];
      end = entry;
      front = h;
      whole = refl;
      own = ap txn_of is ∙ own;
      ended = ap ends is ∙ end;
      last = refl;
      records = ap (λ l. in_order (all_without_prev l) []) (λ i. is i ∷ tied i)
          ∙ (sym (all_without_prev-in_order (rec ∷ before) [])
          ∙ (ap all_without_prev (ap (λ l. in_order before (rec ∷ l)) (sym none) ∙ next)
          ∙ (planned_records-without_prev mine.last.number task.job (last_commit_taken mine.held) (balance_taken mine.held)
          ∙ (ap (with_note mine.last.number task.job.note) (planned_from-agrees mine.last.number no_commit (balance_taken mine.held) (balance_of base h) 0 mine.last.job.legs
          (all-weaken (HoldsLeg mine.held) (AgreesOn (balance_taken mine.held) (balance_of base h)) mine.last.job.legs (λ leg has. (agrees leg.0 has.0, agrees leg.1 has.1)) holds))
          ∙ planned_records-outcome mine.last.number task.job (balance_of base h)))));
    }
      where
        agrees : (account : ℕ) → Mine account → balance_taken mine.held account ≡ balance_of base h account
        agrees account has = let is' = balance-taken unended account has in omega arith

  module _ (end txn legs : ℕ) (few : length mine.last.job.legs ≤ 8)
      (some_amounts : AllByRecursion (λ (leg : ℕ × ℕ × ℕ). (leg.0 ≢ leg.1) × (1 ≤ leg.2)) mine.last.job.legs)
      (holds : HoldsAccounts mine) (unended : has_end before ≡ false) (rest : List Rec) (next : in_order before (Commit txn legs ∷ rest) ≡ plan_of mine) where
    abbrev commit : Placed
    commit = record { end = end; rec = Commit txn legs }

    is-commit : Step task Mine (last_commit_taken mine.held) (balance_taken mine.held) before (Commit txn legs) rest
    is-commit = step few some_amounts holds unended (Commit txn legs) rest next

    all-marked : AllByRecursion (NamesLastCommit Mine (last_commit_taken mine.held)) (changes_in before)
    all-marked = marked few some_amounts holds unended (Commit txn legs) rest next

    sums : (side : ℤ → ℕ) (account : ℕ) → total side account (commit ∷ h) ≡ total side account h + moved side account (changes_in before)
    sums side account = let list = tied-to txn is-commit.own in
        total-commit side account commit h refl (ap has_commit list ∙ uncommitted unended)
        ∙ ap (λ records. total side account h + moved side account (changes_in records)) list

    last-is : (account : ℕ) → last_commit_of base (commit ∷ h) account ≡ cond (touches account (changes_in before)) end (last_commit_of base h account)
    last-is account = last_commit_of-commit base commit h account refl
        ∙ ap (λ records. cond (touches account (changes_in records)) end (last_commit_of base h account)) (tied-to txn is-commit.own)

    same-commit : (account : ℕ) → (Mine account → ⊥) → IsSameAt base h commit account
    same-commit account none =
        let off = unheld-not_touched Mine (last_commit_taken mine.held) (changes_in before) account none all-marked in
        let added = sums gain account in let taken = sums loss account in
        let up = moved-untouched gain account (changes_in before) off in let down = moved-untouched loss account (changes_in before) off in
        record { added = omega arith; taken = omega arith; last_commit = last-is account ∙ ap (λ b. cond b end (last_commit_of base h account)) off }

    range-commit : AreInRange base (commit ∷ h)
    range-commit account below = dite (dec_le 1 (times_held account mine.held))
        (λ has. let b = is-commit.balances account in let is = balance-taken unended account has in
        let added = sums gain account in let taken = sums loss account in let sum = b.sum in (b.now, b.range, omega arith))
        (λ none. let r = s.range account below in let same = same-commit account none in
        let added = same.added in let taken = same.taken in let sum = r.2 in (r.0, r.1, omega arith))

    follows-commit : AllByRecursion (Follows base (commit ∷ h) (commit ∷ mine.placed)) mine.held
    follows-commit = all-weaken (Follows base h mine.placed) (Follows base (commit ∷ h) (commit ∷ mine.placed)) mine.held
        (λ held old. let added = sums gain held.account in let taken = sums loss held.account in let balance = old.balance in
        let up = nothing unended gain held.account in let down = nothing unended loss held.account in record {
          balance = omega arith;
          last_commit = last-is held.account ∙ ap (λ n. cond (touches held.account (changes_in before)) end n)
              (old.last_commit ∙ ap (λ b. cond (b && touches held.account (changes_in before)) (end_from 0 mine.placed) held.last_commit) (uncommitted unended));
        }) (s.held me mine at)

    pub commit-enters : AccountsFollowList base words (commit ∷ h) (set all me (placing end (Commit txn legs) mine))
    commit-enters = let list = tied-to txn is-commit.own in
        enter_record-accounts_follow base words h all me mine commit distinct holder s at whole some_job is-commit.own
        (passes-all commit is-commit.own (λ g. g) record {
          account = tt;
          ended = ap has_end list ∙ unended;
          legs = ap (λ records. length (changes_in records)) list ∙ is-commit.count;
          pair = tt;
          prev = tt;
          stale = subst (λ records. AllByRecursion (IsCurrent base h) (changes_in records)) (sym list)
              (all-weaken (NamesLastCommit Mine (last_commit_taken mine.held)) (IsCurrent base h) (changes_in before)
              (λ change is. is.0 ∙ last_commit-taken unended change.account is.1) all-marked);
          balance = λ _. range-commit;
        }) range-commit (λ account none. same-commit account (λ has. absurd (omega (arith, none)))) follows-commit
        (inl (run-whole few some_amounts holds unended (Commit txn legs) rest next commit refl is-commit.own refl is-commit.last))

  -- the next record, of whatever kind, once the job's accounts are held
  pub accounts_held-enters : (end : ℕ) (rec : Rec) (rest : List Rec) → length mine.last.job.legs ≤ 8
      → AllByRecursion (λ (leg : ℕ × ℕ × ℕ). (leg.0 ≢ leg.1) × (1 ≤ leg.2)) mine.last.job.legs
      → HoldsAccounts mine → has_end before ≡ false → in_order before (rec ∷ rest) ≡ plan_of mine
      → AccountsFollowList base words (record { end = end; rec = rec } ∷ h) (set all me (placing end rec mine))
  accounts_held-enters end (Genesis account balance) rest few some_amounts holds unended next =
      absurd (step few some_amounts holds unended (Genesis account balance) rest next)
  accounts_held-enters end (Update txn account delta prev) rest few some_amounts holds unended next =
      let is = step few some_amounts holds unended (Update txn account delta prev) rest next in
      let list = tied-to txn is.own in let entry : Placed = record { end = end; rec = Update txn account delta prev } in
      passes-plain unended entry is.own refl
      record {
        account = known account is.marked.1;
        ended = ap has_end list ∙ unended;
        legs = let few_before = subst (λ records. length (changes_in records) ≤ 15) (sym list) is.legs in omega (arith, few_before);
        pair = subst (λ records. Rattle.lock_core.specs.Tests.IsPaired (changes_in records) (record { account = account; delta = delta; prev = prev })) (sym list) is.paired;
        prev = is.marked.0 ∙ last_commit-taken unended account is.marked.1;
        stale = tt;
        balance = λ on. absurd (true≢false (sym on));
      } (λ g. g) (cut-more entry is.own is.cut)
  accounts_held-enters end (Commit txn legs) rest few some_amounts holds unended next = commit-enters end txn legs few some_amounts holds unended rest next
  accounts_held-enters end (Short txn leg) rest few some_amounts holds unended next =
      let is = step few some_amounts holds unended (Short txn leg) rest next in
      let list = tied-to txn is.own in let entry : Placed = record { end = end; rec = Short txn leg } in
      passes-plain unended entry is.own refl
      record {
        account = tt;
        ended = ap has_end list ∙ unended;
        legs = ap (λ records. length (changes_in records)) list ∙ is.count;
        pair = tt;
        prev = tt;
        stale = tt;
        balance = λ on. absurd (true≢false (sym on));
      } (λ g. g) (inl (run-whole few some_amounts holds unended (Short txn leg) rest next entry refl is.own refl is.last))
  accounts_held-enters end (Over txn leg) rest few some_amounts holds unended next =
      let is = step few some_amounts holds unended (Over txn leg) rest next in
      let list = tied-to txn is.own in let entry : Placed = record { end = end; rec = Over txn leg } in
      passes-plain unended entry is.own refl
      record {
        account = tt;
        ended = ap has_end list ∙ unended;
        legs = ap (λ records. length (changes_in records)) list ∙ is.count;
        pair = tt;
        prev = tt;
        stale = tt;
        balance = λ on. absurd (true≢false (sym on));
      } (λ g. g) (inl (run-whole few some_amounts holds unended (Over txn leg) rest next entry refl is.own refl is.last))
  accounts_held-enters end (Note txn text) rest few some_amounts holds unended next =
      let is = step few some_amounts holds unended (Note txn text) rest next in note-enters end txn text is.own unended is.cut

-- what a seat's last job is known to be
module _ (base : BaseState) (words : ℕ → AccountWords) (all : List Books) (me : ℕ) (mine : Books) (holder : HasOneHolder base.accounts words all)
    (at : get_elem? all me ≡ some mine) where
  marks-fit : (account : ℕ) → last_commit_taken mine.held account ≤ LAST
  marks-fit account = last_commit_taken-all (λ m. m ≤ LAST) account mine.held (omega arith)
      (all-weaken (IsAsTaken base.accounts words) (λ (held : Taken). held.last_commit ≤ LAST) mine.held
      (λ held t. subst (λ m. m ≤ LAST) t.marked.last_commit (last_commit-fits (words held.account).word)) (holder.taken me mine at))
    where
      last_commit-fits : (word : ℕ) → last_commit_in word ≤ LAST
      last_commit-fits word = grind (arith)

  module _ (some_job : 1 ≤ mine.last.number) where
    allowed : MayBeTaken base.accounts mine.last
    allowed = (holder.last me mine at some_job).0

    legs-allowed : AllByRecursion (IsAllowedLeg base.accounts) mine.last.job.legs
    legs-allowed = allowed.job.legs.each

    amounts : AllByRecursion (λ (leg : ℕ × ℕ × ℕ). (leg.0 ≢ leg.1) × (1 ≤ leg.2)) mine.last.job.legs
    amounts = all-weaken (IsAllowedLeg base.accounts) (λ (leg : ℕ × ℕ × ℕ). (leg.0 ≢ leg.1) × (1 ≤ leg.2)) mine.last.job.legs
        (λ leg a. (a.two, a.some)) legs-allowed

    planned : (rec : Rec) (next : IsNext rec mine) → IsPlanned (task_of mine.last) (recs_of mine.placed) rec next.rest
    planned rec next = next-planned (task_of mine.last) (last_commit_taken mine.held) allowed.number marks-fit (balance_taken mine.held)
        allowed.job.legs.some allowed.job.legs.few
        (all-weaken (IsAllowedLeg base.accounts) IsSmallLeg mine.last.job.legs (λ leg a. let few = holder.few in let payer = a.payer in let payee = a.payee in
        record { payer = omega arith; payee = omega arith; least = a.some; most = a.most }) legs-allowed)
        (note-allowed mine.last.job.note allowed.job.note) (recs_of mine.placed) rec next.rest next.plan

  -- the next record can be spelled
  pub enters-spellable : (rec : Rec) → MayEnter rec mine → IsSpellable rec
  enters-spellable rec may = (planned may.some_job rec may.next).spellable

  -- placing changes neither what is held nor what was taken
  pub placed-holder : (end : ℕ) (rec : Rec) → mine.half ≡ Neither → HasOneHolder base.accounts words (set all me (placing end rec mine))
  placed-holder end rec whole = record {
    few = holder.few;
    words_are = holder.words_are;
    half = everywhere-set (HoldsByHalf base.accounts words) all me (placing end rec mine) holder.half
        (whole-half base.accounts words (record { end = end; rec = rec } ∷ mine.placed) mine.half whole);
    counts = λ account below. let sum = summed-set (times_holding account) all me mine (placing end rec mine) at in
        let count = holder.counts account below in omega arith;
    taken = everywhere-set (λ (books : Books). AllByRecursion (IsAsTaken base.accounts words) books.held) all me (placing end rec mine) holder.taken (holder.taken me mine at);
    last = everywhere-set (LastIsOne base.accounts) all me (placing end rec mine) holder.last (holder.last me mine at);
  }

-- the next record of a seat's last job enters the log
pub may_enter-keeps_accounts : (base : BaseState) (words : ℕ → AccountWords) (h : List Placed) (all : List Books) (me : ℕ) (mine : Books) → get_elem? all me ≡ some mine → (end : ℕ) (rec : Rec)
    → MayEnter rec mine → KeepsAccounts base words h all
    → KeepsAccounts base words (record { end = end; rec = rec } ∷ h) (set all me (placing end rec mine))
may_enter-keeps_accounts base words h all me mine at end rec may s = record {
  holder = placed-holder base words all me mine s.holder at end rec may.whole;
  follows = λ distinct. let before = distinct_jobs-before_set base words h all me mine at (placing end rec mine) (λ number. omega arith) distinct in
      by_accounts before may.accounts rec refl may.next (planned base words all me mine s.holder at may.some_job rec may.next);
}
  where
    by_accounts : HasDistinctJobs all → IsNote rec ⊎ HoldsAccounts mine → (r : Rec) → rec ≡ r → (next : IsNext r mine) → IsPlanned (task_of mine.last) (recs_of mine.placed) r next.rest
        → AccountsFollowList base words (record { end = end; rec = r } ∷ h) (set all me (placing end r mine))
    by_accounts distinct (inr holds) r same next p = accounts_held-enters base words h all me mine distinct s.holder (s.follows distinct) at may.whole may.some_job end r next.rest
        (allowed base words all me mine s.holder at may.some_job).job.legs.few (amounts base words all me mine s.holder at may.some_job) holds p.unended next.plan
    by_accounts distinct (inl note) (Note txn text) same next p =
        note-enters base words h all me mine distinct s.holder (s.follows distinct) at may.whole may.some_job end txn text p.note.own p.unended p.note.cut
    by_accounts distinct (inl note) (Genesis account balance) same next p = absurd (subst IsNote same note)
    by_accounts distinct (inl note) (Update txn account delta prev) same next p = absurd (subst IsNote same note)
    by_accounts distinct (inl note) (Commit txn legs) same next p = absurd (subst IsNote same note)
    by_accounts distinct (inl note) (Short txn leg) same next p = absurd (subst IsNote same note)
    by_accounts distinct (inl note) (Over txn leg) same next p = absurd (subst IsNote same note)
