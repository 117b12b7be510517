-- Once every worker was merged, the flusher's seat has the whole log, and all of it is released.
use Rattle.std.proofs.Common.{◌≡◌, ◌≢◌, ℕ, zero, suc, ◌+◌, ◌≤◌, ◌<◌, cond, lt-ltb, slice_index, map, Bool, true, false, true≢false, List, [], ◌∷◌}
use Rattle.std.proofs.Common.{◌++◌, get_or, sym, refl, ap, ◌∙◌, subst, append-nil, arith, length, length-append, eq-eqb, ne_eqb}
use Rattle.std.specs.List.{AllByRecursion}
use mathlib.Core.Logic.{dite}
use mathlib.Core.Option.{some, some-injective, some-ne-none}
use native.Mathlib.Decide.{ℕ_discrete}
use lib.ListN.{get_elem?}
use Rattle.atomic_table.specs.Table.{Final, Seen}
use Rattle.lsn_space.specs.Tiling.{IsTiling, IsTilingBoundary}
use Rattle.lsn_space.specs.declared.lsn.TheConstants.{LAST}
use Rattle.lsn_space.proofs.TilingLemmas.{all-weaken, all-both}
use Rattle.lsn_space.specs.Lists.{summed}
use Rattle.table_layout.specs.declared.layout.TheConstants.{TAIL, EXPOSED}
use Rattle.log_rule.specs.declared.start.Start.{Start}
use Rattle.log_rule.specs.declared.view.Call.TheVariants.{Idle}
use Rattle.log_rule.specs.declared.view.Constants.{Constants}
use Rattle.log_rule.specs.declared.view.Entry.{Entry}
use Rattle.log_rule.specs.declared.view.Role.{Role}
use Rattle.log_rule.specs.declared.view.Role.TheVariants.{Flusher, Fresh, Active, Ended, Note, Spent}
use Rattle.log_rule.specs.declared.view.View.{View}
use Rattle.slot_word.specs.AccountWord.{held_in, last_commit_in}
use Rattle.log_record.specs.declared.rec.Placed.{Placed}
use Rattle.log_record.specs.Spelling.{IsBalance}
use Rattle.lock_core.specs.History.{history_from}
use Rattle.lock_core.specs.Records.{loss}
use Rattle.lock_core.specs.AccountRows.{row}
use Rattle.lock_core.specs.Sums.{BaseState, IsBalanceOf, last_commit_of, total}
use Rattle.log_rule.specs.declared.view.Books.{Books}
use Rattle.log_rule.specs.Accounts.{holders, takers, HasDistinctJobs, WentBack, AccountsFollowList}
use Rattle.log_rule.specs.Books.{task_of, times_half, times_held, times_holding, times_taken}
use Rattle.table_layout.specs.AccountWords.{ReadsRows}
use Rattle.table_layout.proofs.Rows.{get_elem-get_or}
use Rattle.log_rule.specs.ClosedLog.{HasHeardOfWorkers, IsGathered, IsLedger, HasLedger, records_of, history_of, in_use}
use Rattle.table_layout.specs.Layout.{Account, Balance, Slot, index_of}
use Rattle.log_rule.proofs.GatheredSeats.{all_jobs-partly_serial}
use Rattle.log_rule.specs.Log.{Part, Log, own, part_of, parts_of, IsSpelled, ranges_of, Laid, IsFull, IsFullIfReleased, AgreesFrom, IsRangeBoundary, IsEntryBoundary, SpellsRecord, records_in}
use Rattle.log_rule.specs.Sends.{IsDrained}
use Rattle.log_rule.specs.May.{MayClose}
use Rattle.log_rule.specs.Sound.{HasWorkingOwner, SendsInsertedUnits, IsSound, Ruled, base_of, history_in, books_of}
use Rattle.log_rule.specs.Roles.{is_active, is_worker, is_spent, may_own}
use Rattle.log_rule.specs.Views.{nobody, entries_in}
use Rattle.log_rule.specs.Words.{Words, words_in}
use Rattle.log_rule.proofs.AgreedUnits.{IsFront, agrees-append, full_part-is_spelled, agrees-front_of_joined, front-equal_if_as_long, joined, joined-entries, joined-length}
use Rattle.log_rule.proofs.Boundaries.{part_size, boundary-entries}
use Rattle.log_rule.proofs.AccountsKept.{books-at}
use Rattle.log_rule.proofs.MemberBooks.{held-books_in, half-books_in, jobs-books_in}
use Rattle.log_rule.proofs.Loads.{ranges_of-part_boundary}
use Rattle.log_rule.proofs.Resting.{at_rest-all_exposed}
use Rattle.log_rule.proofs.Vacancy.{slot_word_zero-at_rest, in_use-all_zero}
use Rattle.log_rule.proofs.ViewChanges.{each_seat-at}

-- what holds of each view and of nobody's holds of each seat
each_seat : (P : ℕ → View → Type 0) (views : List View) → ((j : ℕ) (z : View) → get_elem? views j ≡ some z → P j z) → ((j : ℕ) → P j nobody)
    → (j : ℕ) → P j (get_or views j nobody)
each_seat P [] all none j = none j
each_seat P (x ∷ xs) all none zero = all zero x refl
each_seat P (x ∷ xs) all none (suc j) = each_seat (λ k. P (suc k)) xs (λ k z at. all (suc k) z at) (λ k. none (suc k)) j

-- where no other seat has a part, all parts are the seat's
own-all : (seat : ℕ) (parts : List Part) → ((j : ℕ) → j ≢ seat → own j parts ≡ []) → own seat parts ≡ parts
own-all seat [] none = refl
own-all seat (p ∷ ps) none = ap (λ b. cond b (p ∷ own seat ps) (own seat ps)) (eq-eqb p.owner seat is)
    ∙ ap (λ l. p ∷ l) (own-all seat ps (λ j differ. sym (ap (λ b. cond b (p ∷ own j ps) (own j ps)) (ne_eqb p.owner j (λ e. differ (sym e ∙ is))))
    ∙ none j differ))
  where
    is : p.owner ≡ seat
    is = dite (ℕ_discrete p.owner seat) (λ same. same)
        (λ differ. let some' : p ∷ own p.owner ps ≡ [] = sym
        (ap (λ b. cond b (p ∷ own p.owner ps) (own p.owner ps)) (eq-eqb p.owner p.owner refl)) ∙ none p.owner differ in absurd (cc))

tiles-entries : (seat from to : ℕ) (entries : List Entry) → Laid from (parts_of seat true entries) to
    → IsTiling (λ (e : Entry). e.start) (λ (e : Entry). e.size) from entries to
tiles-entries seat from to [] l = l
tiles-entries seat from to (e ∷ es) l = (l.0, tiles-entries seat (from + e.size) to es l.2)

full-entries : (seat : ℕ) (entries : List Entry) → AllByRecursion IsFullIfReleased (parts_of seat true entries) → AllByRecursion IsFull entries
full-entries seat [] all = tt
full-entries seat (e ∷ es) all = (all.0 refl, full-entries seat es all.1)

full-parts : (seat : ℕ) (entries : List Entry) → AllByRecursion IsFullIfReleased (parts_of seat true entries)
    → AllByRecursion (λ (p : Part). IsFull p.entry) (parts_of seat true entries)
full-parts seat [] all = tt
full-parts seat (e ∷ es) all = (all.0 refl, full-parts seat es all.1)

rests : (role : Role) → is_worker role ≡ false → is_active role ≡ false
rests Flusher e = refl
rests Fresh e = absurd (true≢false e)
rests Active e = absurd (true≢false e)
rests Ended e = refl
rests Note e = refl
rests Spent e = refl

owns-none : (role : Role) → is_worker role ≡ false → (role ≡ Flusher → ⊥) → may_own role ≡ false
owns-none Flusher e other = absurd (other refl)
owns-none Fresh e other = absurd (true≢false e)
owns-none Active e other = absurd (true≢false e)
owns-none Ended e other = absurd (true≢false e)
owns-none Note e other = refl
owns-none Spent e other = refl

-- full entries hold their records whole
spelled-entries : (seat : ℕ) (entries : List Entry) → AllByRecursion SpellsRecord (parts_of seat true entries)
    → AllByRecursion IsFullIfReleased (parts_of seat true entries) → AllByRecursion IsSpelled entries
spelled-entries seat [] spells full = tt
spelled-entries seat (entry ∷ entries) spells full =
    (full_part-is_spelled (part_of seat true entry) spells.0 (full.0 refl), spelled-entries seat entries spells.1 full.1)

records-entries : (seat : ℕ) (entries : List Entry) → records_in (parts_of seat true entries) ≡ records_of entries
records-entries seat [] = refl
records-entries seat (entry ∷ entries) = ap (λ l. entry.rec ∷ l) (records-entries seat entries)

-- a sum over the books of views of which none has anything, or one alone
summed-none : (amount : Books → ℕ) (tell : View → Books) (views : List View) → ((j : ℕ) (z : View) → get_elem? views j ≡ some z → amount (tell z) ≡ 0)
    → summed amount (map tell views) ≡ 0
summed-none amount tell [] none = refl
summed-none amount tell (z ∷ zs) none = let first = none zero z refl in let more = summed-none amount tell zs (λ j x there. none (suc j) x there) in omega arith

summed-only : (amount : Books → ℕ) (tell : View → Books) (views : List View) (me : ℕ) (v : View) → get_elem? views me ≡ some v
    → ((j : ℕ) (z : View) → j ≢ me → get_elem? views j ≡ some z → amount (tell z) ≡ 0) → summed amount (map tell views) ≡ amount (tell v)
summed-only amount tell [] me v at none = absurd (some-ne-none v (sym at))
summed-only amount tell (z ∷ zs) zero v at none =
    let same : amount (tell z) ≡ amount (tell v) = ap (λ x. amount (tell x)) (some-injective z v at) in
    let more = summed-none amount tell zs (λ j x there. none (suc j) x (λ e. absurd (omega arith)) there) in omega arith
summed-only amount tell (z ∷ zs) (suc me) v at none =
    let first = none zero z (λ e. absurd (omega arith)) refl in
    let more = summed-only amount tell zs me v at (λ j x differ there. none (suc j) x (λ e. differ (omega arith)) there) in omega arith

-- the row has what the list says of the account
record IsRow (base : BaseState) (h : List Placed) (account : ℕ) (values : ℕ × ℕ) : Type 0 where
  balance : IsBalanceOf base h account values.0
  last_commit : last_commit_of base h account ≡ values.1

module _ (key : Start) (words : Words) (views : List View) (me : ℕ) (v : View) (log : Log) (s : IsSound key words views log)
    (at : get_elem? views me ≡ some v) (may : MayClose v) where
  -- every worker that was made was merged, so no seat is a worker's
  no-worker : (j : ℕ) (z : View) → get_elem? views j ≡ some z → is_worker z.standing.role ≡ false
  no-worker j z there = by_role (is_worker z.standing.role) refl
    where
      by_role : (b : Bool) → is_worker z.standing.role ≡ b → is_worker z.standing.role ≡ false
      by_role false is = is
      by_role true is = absurd
          (true≢false (sym (may.all_merged z.standing.worker ((s.roles.pairs me v at j z there).made may.flusher is))
          ∙ (s.roles.pairs j z there me v at).unmerged is))

  idle : (j : ℕ) → (get_or views j nobody).call ≡ Idle
  idle = each_seat (λ _ z. z.call ≡ Idle) views (λ j z there. s.resting j z there (rests z.standing.role (no-worker j z there))) (λ _. refl)

  pub all_exposed : words.exposed ≡ words.tail
  all_exposed = at_rest-all_exposed key words views log s idle

  pub all_vacant : (slot : ℕ) → words.slot slot ≡ 0
  all_vacant = slot_word_zero-at_rest key words views log s idle

  no-entries : (j : ℕ) → j ≢ me → own j log.parts ≡ []
  no-entries j differ = (s.owners j).owns ∙ (λ i. parts_of j true (none i) ++ parts_of j false (entries_in log.groups (idle j i)))
    where
      others : (i : ℕ) (z : View) → get_elem? views i ≡ some z → (i ≢ me → z.entries ≡ [])
      others i z there other =
          s.entries i z there (owns-none z.standing.role (no-worker i z there)
          (λ f. other ((s.roles.each i z there).first f ∙ sym ((s.roles.each me v at).first may.flusher))))

      none : (get_or views j nobody).entries ≡ []
      none = each_seat (λ i z. i ≢ me → z.entries ≡ []) views others (λ _ _. refl) j differ

  parts-are : log.parts ≡ parts_of me true v.entries
  parts-are = sym (own-all me log.parts no-entries)
      ∙ ((each_seat-at (HasWorkingOwner log.groups log.parts log.ahead) views me v at s.owners).owns
      ∙ (ap (λ c. parts_of me true v.entries ++ parts_of me false (entries_in log.groups c))
      (s.resting me v at (ap is_active may.flusher)) ∙ append-nil _))

  start-is : v.constants.start ≡ key.start
  start-is = ap (λ (c : Constants). c.start) (s.constants me v at (ap is_spent may.flusher))

  abbrev mine : List Part
  mine = parts_of me true v.entries

  all-mine : (P : Part → Type 0) → AllByRecursion P log.parts → AllByRecursion P mine
  all-mine P = subst (AllByRecursion P) parts-are

  laid : Laid key.start mine words.tail
  laid = subst (λ l. Laid key.start l words.tail) parts-are s.contiguous.parts

  full : AllByRecursion (λ (p : Part). IsFull p.entry) mine
  full = full-parts me v.entries (all-mine IsFullIfReleased s.below.full)

  sends : SendsInsertedUnits key.start words.exposed words.durable log v.sending.exposed v.sending.sent v.sending.read
  sends = s.sends me v at may.flusher

  agrees : AllByRecursion (AgreesFrom key.start (v.sending.sent ++ v.sending.read)) mine
  agrees = all-mine (AgreesFrom key.start (v.sending.sent ++ v.sending.read))
      (all-both (AgreesFrom key.start v.sending.sent) (AgreesFrom words.durable v.sending.read)
      (AgreesFrom key.start (v.sending.sent ++ v.sending.read)) log.parts
      (λ p sent read. agrees-append key.start v.sending.sent v.sending.read p sent
      (subst (λ n. AgreesFrom n v.sending.read p) (sym sends.sent_to) read)) sends.sent_agrees sends.read_agrees)

  first : IsFront (v.sending.sent ++ v.sending.read) (joined mine)
  first = agrees-front_of_joined key.start words.tail mine (v.sending.sent ++ v.sending.read) laid full agrees
      (omega (arith, length-append v.sending.sent v.sending.read, sends.sent_to, sends.read_to, sends.loaded_seen, all_exposed))

  all-sent : IsDrained v → joined mine ≡ v.sending.sent
  all-sent d =
      let end : key.start + length v.sending.sent ≡ words.tail =
      omega (arith, start-is, d.all, s.looked me v at may.flusher d.quiet d.looked, all_exposed) in
      front-equal_if_as_long v.sending.sent (joined mine)
      (agrees-front_of_joined key.start words.tail mine v.sending.sent laid full (all-mine (AgreesFrom key.start v.sending.sent) sends.sent_agrees)
      (omega (arith, end)))
      (omega (arith, end, joined-length key.start words.tail mine laid full))

  seen-between : (x : ℕ) → IsRangeBoundary key.start (ranges_of log) x → IsEntryBoundary v.constants.start v.entries x
  seen-between x b = subst (λ n. IsEntryBoundary n v.entries x) (sym start-is)
      (boundary-entries me key.start x v.entries true
      (subst (λ l. IsTilingBoundary part_size key.start l x) parts-are (ranges_of-part_boundary _ _ _ _ _ log s.contiguous x b)))

  pub may_close-gathered : IsGathered words.tail v
  may_close-gathered = record {
    tiles = subst (λ n. IsTiling (λ (e : Entry). e.start) (λ (e : Entry). e.size) n v.entries words.tail) (sym start-is)
        (tiles-entries me key.start words.tail v.entries laid);
    full = full-entries me v.entries (all-mine IsFullIfReleased s.below.full);
    seen = all-weaken (IsRangeBoundary key.start (ranges_of log)) (IsEntryBoundary v.constants.start v.entries) v.seen.lsns
        seen-between (s.seen me v at).boundaries;
    unsent = first.ahead;
    sent = sym (joined-entries me true v.entries) ∙ first.is;
    drained = λ d. sym (joined-entries me true v.entries) ∙ all-sent d;
    spelled = spelled-entries me v.entries (all-mine SpellsRecord s.filled.spelled) (all-mine IsFullIfReleased s.below.full);
  }

  abbrev bs : List Books
  bs = map (books_of log.groups) views

  -- all accounts are free
  none-held : (account : ℕ) → holders account bs ≡ 0
  none-held account = summed-none (times_holding account) (books_of log.groups) views
      (λ j z there. let none = (s.unheld j z there).0 (rests z.standing.role (no-worker j z there)) in
      let held : times_held account (books_of log.groups z).held ≡ 0 = ap (times_held account) (held-books_in log.groups z.call z.books ∙ none.0) in
      let half : times_half account (books_of log.groups z).half ≡ 0 = ap (times_half account) (half-books_in log.groups z.call z.books ∙ none.1) in omega arith)

  free : (account : ℕ) → account < length key.accounts.rows → held_in (words.account account).word ≡ false
  free account below = by_test (held_in (words.account account).word) (sym (none-held account) ∙ s.accounts.holder.counts account below)
    where
      by_test : (b : Bool) → 0 ≡ cond {A = ℕ} b 1 0 → b ≡ false
      by_test true is = absurd (omega arith)
      by_test false is = refl

  -- all jobs are the flusher's seat's
  all-jobs : (number : ℕ) → takers number bs ≡ times_taken number v.books.jobs
  all-jobs number = summed-only (λ (b : Books). times_taken number b.jobs) (books_of log.groups) views me v at
      (λ j z differ there. ap (times_taken number) (jobs-books_in log.groups z.call z.books
      ∙ (s.unheld j z there).1 (owns-none z.standing.role (no-worker j z there)
      (λ f. differ ((s.roles.each j z there).first f ∙ sym ((s.roles.each me v at).first may.flusher))))))
      ∙ ap (times_taken number) (jobs-books_in log.groups v.call v.books)

  mine-shown : get_elem? bs me ≡ some v.books
  mine-shown = books-at log.groups views me v (s.resting me v at (ap is_active may.flusher)) at

  records-are : history_in key log.parts ≡ history_of (base_of key) v.entries
  records-are = ap (history_from key.start []) (ap records_in parts-are ∙ records-entries me v.entries)

  pub has-ledger : (ws : List ℕ) (old rows : List (ℕ × ℕ)) → words ≡ words_in key ws → length old ≡ length key.accounts.rows → ReadsRows key.ring key.slots (length old) ws old rows
      → HasLedger (base_of key) v rows
  has-ledger ws old rows words-are same reads = record {
    count = reads.count ∙ same;
    ledger = λ distinct. let f = s.accounts.follows (no-job-twice distinct) in
        subst (λ h. IsLedger (base_of key) h (map task_of v.books.jobs) rows) records-are record {
          lawful = f.lawful;
          serial = all_jobs-partly_serial (base_of key) words.account (history_in key log.parts) bs v.books.jobs (f.runs me v.books mine-shown) all-jobs f;
          accounts = record {
            count = reads.count ∙ same;
            range = λ account below. let up = up-to-date f account (omega (arith, reads.count, same)) in
                let r = f.range account (omega (arith, reads.count, same)) in let is = up.balance in let sum = r.2 in
                subst IsBalance (same-balance r.0 (row rows account).0 (total loss account (history_in key log.parts)) _ sum is) r.1;
            balance = λ account below. (up-to-date f account (omega (arith, reads.count, same))).balance;
            last = λ account below. sym (up-to-date f account (omega (arith, reads.count, same))).last_commit;
          };
        };
    given = λ distinct. subst (λ h. AllByRecursion (WentBack (base_of key) h) v.books.given) records-are
        ((s.accounts.follows (no-job-twice distinct)).given me v.books mine-shown);
  }
    where
      no-job-twice : ((number : ℕ) → times_taken number v.books.jobs ≤ 1) → HasDistinctJobs bs
      no-job-twice distinct number = subst (λ n. n ≤ 1) (sym (all-jobs number)) (distinct number)

      same-balance : (x y k n : ℕ) → x + k ≡ n → y + k ≡ n → x ≡ y
      same-balance x y k n a b = omega arith

      up-to-date : AccountsFollowList (base_of key) words.account (history_in key log.parts) bs → (account : ℕ) → account < length key.accounts.rows
          → IsRow (base_of key) (history_in key log.parts) account (row rows account)
      up-to-date f account below =
          let old' = f.free account below (free account below) in
          let word-is : (words.account account).word ≡ slice_index ws (index_of key.ring key.slots (Account account)) =
          ap (λ (w : Words). (w.account account).word) words-are
          ∙ ap (λ t. cond t (slice_index ws (index_of key.ring key.slots (Account account))) 0) (lt-ltb account (length key.accounts.rows) below) in
          let balance-is : (words.account account).balance ≡ slice_index ws (index_of key.ring key.slots (Balance account)) =
          ap (λ (w : Words). (w.account account).balance) words-are
          ∙ ap (λ t. cond t (slice_index ws (index_of key.ring key.slots (Balance account))) 0) (lt-ltb account (length key.accounts.rows) below) in
          let row-is = reads.each account (subst (λ n. account < n) (sym same) below) in
          record {
            balance = subst (IsBalanceOf (base_of key) (history_in key log.parts) account) (balance-is ∙ sym (ap (λ (r : ℕ × ℕ). r.0) row-is)) old'.balance;
            last_commit = old'.last_commit ∙ (ap last_commit_in word-is ∙ sym (ap (λ (r : ℕ × ℕ). r.1) row-is));
          }

-- what the words of a closed table held
pub record IsClosed (key : Start) (ws : List ℕ) (tail exposed : ℕ) (v : View) : Type 0 where
  pub small : tail ≤ LAST
  pub released : exposed ≡ tail
  pub gathered : IsGathered tail v
  pub accounts : (old rows : List (ℕ × ℕ)) → length old ≡ length key.accounts.rows → ReadsRows key.ring key.slots (length old) ws old rows → HasLedger (base_of key) v rows
  pub heard : HasHeardOfWorkers v
  pub empty : in_use key.ring key.slots ws ≡ 0

pub may_close-closed : (key : Start) (me : ℕ) (v : View) (ws : List ℕ) (xs : List (Unit {0})) (tail exposed : ℕ) → Final (Seen (Ruled key) me v) ws xs
    → MayClose v → get_elem? ws TAIL ≡ some tail → get_elem? ws EXPOSED ≡ some exposed → IsClosed key ws tail exposed v
may_close-closed key me v ws xs tail exposed final may tail-at exposed-at =
    let state = final.0 in let log = final.1.0.1.0 in let s = final.1.0.1.1 in let at = final.1.1 in let words = words_in key state.words in
    let tail-is : words.tail ≡ tail = ap (λ l. get_or l TAIL 0) final.2 ∙ get_elem-get_or ws TAIL tail tail-at in
    let exposed-is : words.exposed ≡ exposed = ap (λ l. get_or l EXPOSED 0) final.2 ∙ get_elem-get_or ws EXPOSED exposed exposed-at in record {
      small = subst (λ n. n ≤ LAST) tail-is s.ordered.within_log;
      released = sym exposed-is ∙ (all_exposed key words state.views me v log s at may ∙ tail-is);
      gathered = subst (λ n. IsGathered n v) tail-is (may_close-gathered key words state.views me v log s at may);
      accounts = λ old rows same reads. has-ledger key words state.views me v log s at may ws old rows (ap (words_in key) final.2) same reads;
      heard = s.heard me v at me v at may.flusher;
      empty = in_use-all_zero key.ring key.slots ws (λ slot below.
          sym (ap (λ l. (words_in key l).slot slot) final.2
          ∙ ap (λ t. cond t (slice_index ws (index_of key.ring key.slots (Slot slot))) 0) (lt-ltb slot key.slots below))
          ∙ all_vacant key words state.views me v log s at may slot);
    }
