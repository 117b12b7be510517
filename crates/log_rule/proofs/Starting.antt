-- A table starts at rest: nothing is reserved, and the log ends where it started.
use Rattle.std.proofs.Common.{◌≡◌, ◌≢◌, inl, ℕ, zero, suc, ◌+◌, ◌*◌, ◌%◌, ◌<◌, ◌≤◌, nat_lt, true, true≢false, List, [], ◌∷◌, length, get_or}
use Rattle.std.proofs.Common.{replicate, set, sym, refl, ap, ◌∙◌, subst, le_refl, arith, cond, Bool, false, lt-ltb, ltb-true, length-set}
use Rattle.std.proofs.Common.{get_or-set_same, get_or-set_other}
use Rattle.std.proofs.lemmas.List.{length-replicate, get_or-replicate}
use mathlib.Core.Option.{some-injective, some-ne-none}
use Rattle.atomic_table.specs.Table.{opening}
use Rattle.lsn_space.specs.declared.lsn.TheConstants.{LAST, LEAST_RING, GREATEST_RING}
use Rattle.table_layout.specs.declared.layout.TheConstants.{STRIDE, TAIL, EXPOSED, DURABLE, STOP, CREW, RING}
use Rattle.log_rule.specs.declared.start.Start.{Start}
use Rattle.log_rule.specs.declared.view.View.{View}
use Rattle.log_rule.specs.Groups.{empty_group}
use Rattle.log_rule.specs.Log.{Log}
use Rattle.log_rule.specs.Marks.{HasTrueEnds}
use Rattle.log_rule.specs.Members.{LoadsForGroup, AwaitsPlace, HasTotalOfWorkers, HeardOfWorkers, HasSeenLast}
use Rattle.log_rule.specs.Sound.{EachView, HasSeenBoundaries, SendsIfFlusher, StoresStop, HasReadStop, RestsIfQuiet, LookedIfQuiet, HasWorkingOwner}
use Rattle.log_rule.specs.Sound.{HasConstants, RestsUnlessActive, OwnsIfWorker, HoldsIfActive, base_of, HasSoundRole, HasSoundRoles, IsSound, Ruled}
use Rattle.log_rule.specs.Views.{flusher, nobody}
use Rattle.log_rule.specs.Words.{Words, words_in}
use Rattle.slot_word.specs.AccountWord.{packed, held_in, last_commit_in, IsAccountWord}
use Rattle.slot_word.proofs.AccountWordLemmas.{packed-account_word, held_back, last_commit_back}
use Rattle.log_record.specs.Spelling.{IsBalance}
use Rattle.lock_core.specs.AccountRows.{row}
use Rattle.log_rule.specs.Accounts.{KeepsAccounts}
use Rattle.log_rule.specs.Books.{no_books}
use Rattle.table_layout.specs.Layout.{Mark, Slot, Account, Balance, index_of, word_count}
use Rattle.table_layout.specs.AccountWords.{PutsAccounts}
use Rattle.log_rule.specs.FirstAccounts.{HasAccounts}
use Rattle.log_rule.proofs.GatheredSeats.{start-keeps_accounts}
use Rattle.log_rule.proofs.Lists.{among-first}

-- nothing is reserved, and nobody has joined a group
abbrev empty_log : Log
empty_log = record { parts = []; flushed = []; exposed = []; ahead = []; groups = λ _. empty_group }

module _ (key : Start) (words : Words) (least : LEAST_RING ≤ key.ring) (most : key.ring ≤ GREATEST_RING) (small : key.start ≤ LAST)
    (tail : words.tail ≡ key.start) (exposed : words.exposed ≡ key.start) (durable : words.durable ≡ key.start) (stop : words.stop ≡ 0)
    (crew : words.crew ≡ 0) (marks : (index : ℕ) → words.mark index ≡ 0) (vacant : (slot : ℕ) → words.slot slot ≡ 0)
    (accounts : KeepsAccounts (base_of key) words.account [] (no_books ∷ [])) where
  alone : (P : ℕ → View → Type 0) → P 0 (flusher key) → EachView P (flusher key ∷ [])
  alone P first zero v at = subst (P 0) (some-injective _ _ at) first
  alone P first (suc j) v at = absurd (some-ne-none v (sym at))

  pub start-sound : IsSound key words (flusher key ∷ []) empty_log
  start-sound = record {
    ordered = record { least_ring = least; greatest_ring = most; within_ring = omega arith; within_log = omega arith };
    seen = alone (λ _ z. HasSeenBoundaries key.start words.tail words.exposed words.durable [] z.seen) record {
      tail_seen = omega arith;
      exposed_seen = omega arith;
      durable_seen = omega arith;
      boundaries = (refl, tt);
    };
    contiguous = record {
      to_durable = sym durable;
      to_exposed = durable ∙ sym exposed;
      to_tail = exposed
          ∙ sym tail;
      parts = sym tail;
      remaining = tt;
      aligned = tt;
    };
    filled = record { spelled = tt; stands = tt };
    below = record { full = tt; below = tt; ranges = tt };
    at_work = tt;
    slots = λ slot. record { range = refl; words = record { word_is = vacant slot; nobody = refl } };
    marks = record {
      current = λ place _ _. inl (omega (arith, marks (place % key.ring)));
      true_marks = tt;
      below_tail = λ index. omega (arith, marks index);
    };
    carried = λ first. absurd first;
    ends = alone (λ _ z. HasTrueEnds key.start words.exposed empty_log z.call) tt;
    owners = owners;
    constants = alone (λ _ z. HasConstants key z) (λ _. refl);
    resting = alone (λ _ z. RestsUnlessActive z) (λ _. refl);
    entries = alone (λ _ z. OwnsIfWorker z) (λ _. refl);
    roles = record {
      count = crew;
      each = alone (λ seat z. HasSoundRole seat z.standing) record { small = λ e. absurd (true≢false (sym e)); first = λ _. refl };
      pairs = alone _ (alone
          (λ j z. HasSoundRoles 0 (flusher key).standing j z.standing) record {
            apart = λ _ _ _. refl;
            made = λ _ e. absurd (true≢false (sym e));
            enrolled = λ _ q e. e;
            merged = λ _ q e. e;
            fresh = λ e. absurd (cc);
            unmerged = λ e. absurd (true≢false (sym e));
          });
    };
    sends = alone (λ _ z. SendsIfFlusher key.start words.exposed words.durable empty_log z) (λ _. record {
      sent_to = omega arith;
      read_to = omega arith;
      loaded_seen = omega arith;
      boundary = refl;
      sent_agrees = tt;
      read_agrees = tt;
    });
    stops = alone (λ _ z. StoresStop words.stop z) (λ _. sym stop);
    read_stop = alone (λ _ z. HasReadStop words.stop z) (inl refl);
    quiet = alone _ (alone (λ _ z. RestsIfQuiet (flusher key) z) (λ _ e. absurd (true≢false (sym e))));
    looked = alone (λ _ z. LookedIfQuiet words.exposed z) (λ _ e. absurd (true≢false (sym e)));
    unheld = alone (λ _ z. HoldsIfActive z) ((λ _. (refl, refl)), (λ off. absurd (true≢false off)));
    accounts = accounts;
    in_group = λ _. record { members_seen = tt; outcome = tt };
    loads = alone (λ _ z. LoadsForGroup empty_log.groups z.seen z.call) tt;
    awaits = alone (λ _ z. AwaitsPlace z.call z.books) tt;
    totals = alone (λ _ z. (slot : ℕ) → HasTotalOfWorkers (empty_log.groups slot) z) (λ _ _. tt);
    heard = alone _ (alone (λ _ z. HeardOfWorkers (flusher key) z) (λ _. tt));
    lasts = alone (λ _ z. HasSeenLast z) (λ _. record {
      tail_among = among-first key.start [];
      durable_among = among-first key.start [];
      tail_made = le_refl _;
      durable_made = le_refl _;
    });
  }
    where
      owners : (j : ℕ) → HasWorkingOwner empty_log.groups [] [] j (get_or (flusher key ∷ []) j nobody)
      owners zero = record { owns = refl; owes = refl; joins = λ _. refl; leads = λ _. refl; knows = tt }
      owners (suc j) = record { owns = refl; owes = refl; joins = λ _. refl; leads = λ _. refl; knows = tt }

-- the words of the table before the accounts' are put in
abbrev pub shared_words : List ℕ → ℕ → List ℕ
shared_words zeros n = set (set (set zeros TAIL n) EXPOSED n) DURABLE n

pub start-allowed : (key : Start) (ws zeros : List ℕ) → LEAST_RING ≤ key.ring → key.ring ≤ GREATEST_RING → key.start ≤ LAST → HasAccounts key
    → zeros ≡ replicate (word_count key.ring key.slots (length key.accounts.rows)) 0 → PutsAccounts key.ring key.slots key.accounts.rows (length key.accounts.rows) (shared_words zeros key.start) ws
    → Ruled key (opening ws [] (flusher key))
start-allowed key ws zeros least most small has zero-is puts = (
  puts.count ∙ length-c,
  (
    _,
    start-sound key (words_in key ws) least most small
        (puts.others TAIL (omega arith) ∙ (get_or-set_other b DURABLE TAIL n 0 (λ e. omega arith)
        ∙ (get_or-set_other a EXPOSED TAIL n 0 (λ e. omega arith) ∙ get_or-set_same zeros TAIL n 0 (omega (arith, length-zeros)))))
        (puts.others EXPOSED (omega arith) ∙ (get_or-set_other b DURABLE EXPOSED n 0 (λ e. omega arith) ∙ get_or-set_same a EXPOSED n 0 (omega (arith, length-a))))
        (puts.others DURABLE (omega arith) ∙ get_or-set_same b DURABLE n 0 (omega (arith, length-b)))
        (zero-at STOP (λ e. omega arith) (λ e. omega arith) (λ e. omega arith) (omega arith))
        (zero-at CREW (λ e. omega arith) (λ e. omega arith) (λ e. omega arith) (omega arith))
        no-mark
        no-slot
        (start-keeps_accounts (base_of key) (words_in key ws).account has.few first),
  ),
)
  where
    n : ℕ
    n = key.start

    count : ℕ
    count = length key.accounts.rows

    a : List ℕ
    a = set zeros TAIL n

    b : List ℕ
    b = set a EXPOSED n

    c : List ℕ
    c = set b DURABLE n

    length-zeros : length zeros ≡ word_count key.ring key.slots count
    length-zeros = ap length zero-is ∙ length-replicate (word_count key.ring key.slots count) 0

    length-a : length a ≡ word_count key.ring key.slots count
    length-a = length-set zeros TAIL n ∙ length-zeros

    length-b : length b ≡ word_count key.ring key.slots count
    length-b = length-set a EXPOSED n ∙ length-a

    length-c : length c ≡ word_count key.ring key.slots count
    length-c = length-set b DURABLE n ∙ length-b

    zero-at : (at : ℕ) → at ≢ DURABLE → at ≢ EXPOSED → at ≢ TAIL → at < RING + key.ring + key.ring + STRIDE * (key.slots + key.slots) → get_or ws at 0 ≡ 0
    zero-at at durable exposed tail below = puts.others at below ∙ (get_or-set_other b DURABLE at n 0 durable
        ∙ (get_or-set_other a EXPOSED at n 0 exposed
        ∙ (get_or-set_other zeros TAIL at n 0 tail
        ∙ (ap (λ l. get_or l at 0) zero-is ∙ get_or-replicate (word_count key.ring key.slots count) at 0 0 (omega arith)))))

    no-mark : (index : ℕ) → (words_in key ws).mark index ≡ 0
    no-mark index = by_test (nat_lt index key.ring) refl
      where
        by_test : (b : Bool) → nat_lt index key.ring ≡ b → cond b (get_or ws (index_of key.ring key.slots (Mark index)) 0) 0 ≡ 0
        by_test true is = let below = ltb-true index key.ring is in
            zero-at (RING + key.ring + index) (λ e. omega arith) (λ e. omega arith) (λ e. omega arith) (omega arith)
        by_test false is = refl

    no-slot : (slot : ℕ) → (words_in key ws).slot slot ≡ 0
    no-slot slot = by_test (nat_lt slot key.slots) refl
      where
        by_test : (b : Bool) → nat_lt slot key.slots ≡ b → cond b (get_or ws (index_of key.ring key.slots (Slot slot)) 0) 0 ≡ 0
        by_test true is = let below = ltb-true slot key.slots is in
            zero-at (RING + key.ring + key.ring + STRIDE * slot) (λ e. omega arith) (λ e. omega arith) (λ e. omega arith) (omega arith)
        by_test false is = refl

    first : (account : ℕ) → account < count → (held_in ((words_in key ws).account account).word ≡ false)
        × (((words_in key ws).account account).balance ≡ (base_of key).balance account)
        × (last_commit_in ((words_in key ws).account account).word ≡ (base_of key).last_commit account) × IsBalance ((base_of key).balance account)
        × IsAccountWord ((words_in key ws).account account).word
    first account below = let range = has.balances account below in let last = has.last_commits account below in
        let is : ((words_in key ws).account account).word ≡ packed false (row key.accounts.rows account).1 =
        ap (λ (t : Bool). cond t (get_or ws (index_of key.ring key.slots (Account account)) 0) 0) (lt-ltb account count below) ∙ puts.each account below in
        let is-balance : ((words_in key ws).account account).balance ≡ (row key.accounts.rows account).0 =
        ap (λ (t : Bool). cond t (get_or ws (index_of key.ring key.slots (Balance account)) 0) 0) (lt-ltb account count below) ∙ puts.balances account below in (
          ap held_in is ∙ held_back false _ (omega arith),
          is-balance,
          ap last_commit_in is ∙ last_commit_back false _ (omega arith),
          range,
          subst IsAccountWord (sym is) (packed-account_word false _ (omega arith)),
        )
