-- A write of one word changes that word alone.
use Rattle.std.proofs.Common.{◌≡◌, ◌≢◌, ℕ, ◌<◌, cond, nat_lt, Bool, true, false, List, length, get_or, set, get_or-set_same, get_or-set_other, sym}
use Rattle.std.proofs.Common.{refl, ap, ◌∙◌, arith, eq-eqb, ne_eqb, ltb-true, lt-ltb}
use mathlib.Core.Logic.{dite}
use native.Mathlib.Decide.{ℕ_discrete}
use Rattle.table_layout.specs.Layout.{Word, Tail, Exposed, Durable, Stop, Crew, Ring, Mark, Slot, Base, Account, Balance, index_of, word_count}
use Rattle.table_layout.proofs.WordPlaces.{Fits, shared_tail, shared_exposed, shared_durable, shared_stop, shared_crew, in_ring, in_marks, of_slot, of_base, of_account, of_balance, index-injective}
use Rattle.log_rule.specs.Words.{read, words_of, word_at, put, with_word}

module _ (size slots accounts : ℕ) where
  -- the words of a kind by their index, and 0 beyond them
  abbrev row_in : List ℕ → ℕ → (ℕ → Word) → ℕ → ℕ
  row_in ws count name index = cond (nat_lt index count) (read size slots ws (name index)) 0

  -- a write of one word leaves another
  module _ (ws : List ℕ) (word : Word) (x : ℕ) (fits : Fits size slots accounts word) where
    abbrev after : List ℕ
    after = set ws (index_of size slots word) x

    read-other : (other : Word) → Fits size slots accounts other → word ≢ other → read size slots after other ≡ read size slots ws other
    read-other other fits-other differ = get_or-set_other ws (index_of size slots word) (index_of size slots other) x 0
        (λ e. differ (index-injective size slots accounts word other fits fits-other (sym e)))

    read-same : index_of size slots word < length ws → read size slots after word ≡ x
    read-same below = get_or-set_same ws (index_of size slots word) x 0 below

    row-other : (count : ℕ) (name : ℕ → Word) → ((k : ℕ) → k < count → Fits size slots accounts (name k)) → (index : ℕ) → word ≢ name index
        → row_in after count name index ≡ row_in ws count name index
    row-other count name there index differ = by_test (nat_lt index count) refl
      where
        by_test : (b : Bool) → nat_lt index count ≡ b
            → cond b (read size slots after (name index)) 0 ≡ cond b (read size slots ws (name index)) 0
        by_test true is = read-other (name index) (there index (ltb-true index count is)) differ
        by_test false is = refl

    -- a row that holds the word changes at its index alone
    row-put : (count : ℕ) (name : ℕ → Word) → ((k : ℕ) → k < count → Fits size slots accounts (name k)) → (index : ℕ) → index < count
        → word ≡ name index → ((k : ℕ) → name index ≡ name k → k ≡ index) → index_of size slots word < length ws
        → (k : ℕ) → row_in after count name k ≡ put (row_in ws count name) index x k
    row-put count name there index below is apart within k = dite (ℕ_discrete k index)
        (λ same. ap (row_in after count name) same
        ∙ (ap (λ b. cond b (read size slots after (name index)) 0) (lt-ltb index count below)
        ∙ (ap (read size slots after) (sym is)
        ∙ (read-same within ∙ sym (ap (λ b. cond b x (row_in ws count name k)) (eq-eqb k index same))))))
        (λ differ. row-other count name there k (λ e. differ (apart k (sym is ∙ e)))
        ∙ sym (ap (λ b. cond b x (row_in ws count name k)) (ne_eqb k index differ)))

  ring-fits : (k : ℕ) → k < size → Fits size slots accounts (Ring k)
  ring-fits k below = in_ring k below

  ring-apart : (index k : ℕ) → Ring index ≡ Ring k → k ≡ index
  ring-apart index k e = cc

  mark-fits : (k : ℕ) → k < size → Fits size slots accounts (Mark k)
  mark-fits k below = in_marks k below

  mark-apart : (index k : ℕ) → Mark index ≡ Mark k → k ≡ index
  mark-apart index k e = cc

  slot-fits : (k : ℕ) → k < slots → Fits size slots accounts (Slot k)
  slot-fits k below = of_slot k below

  slot-apart : (slot k : ℕ) → Slot slot ≡ Slot k → k ≡ slot
  slot-apart slot k e = cc

  base-fits : (k : ℕ) → k < slots → Fits size slots accounts (Base k)
  base-fits k below = of_base k below

  base-apart : (slot k : ℕ) → Base slot ≡ Base k → k ≡ slot
  base-apart slot k e = cc

  account-fits : (k : ℕ) → k < accounts → Fits size slots accounts (Account k)
  account-fits k below = of_account k below

  account-apart : (account k : ℕ) → Account account ≡ Account k → k ≡ account
  account-apart account k e = cc

  balance-fits : (k : ℕ) → k < accounts → Fits size slots accounts (Balance k)
  balance-fits k below = of_balance k below

  balance-apart : (account k : ℕ) → Balance account ≡ Balance k → k ≡ account
  balance-apart account k e = cc

  pub words_of-set : (ws : List ℕ) (word : Word) (x : ℕ) → Fits size slots accounts word → length ws ≡ word_count size slots accounts
      → words_of size slots accounts (set ws (index_of size slots word) x) ≡ with_word (words_of size slots accounts ws) word x
  words_of-set ws Tail x fits len i = record {
    tail = read-same ws Tail x fits (omega (arith, len)) i;
    exposed = read-other ws Tail x fits Exposed shared_exposed (λ e. cc) i;
    durable = read-other ws Tail x fits Durable shared_durable (λ e. cc) i;
    stop = read-other ws Tail x fits Stop shared_stop (λ e. cc) i;
    crew = read-other ws Tail x fits Crew shared_crew (λ e. cc) i;
    ring = λ k. row-other ws Tail x fits size Ring ring-fits k (λ e. cc) i;
    mark = λ k. row-other ws Tail x fits size Mark mark-fits k (λ e. cc) i;
    slot = λ k. row-other ws Tail x fits slots Slot slot-fits k (λ e. cc) i;
    base = λ k. row-other ws Tail x fits slots Base base-fits k (λ e. cc) i;
    account = λ k. record {
      word = row-other ws Tail x fits accounts Account account-fits k (λ e. cc) i;
      balance = row-other ws Tail x fits accounts Balance balance-fits k (λ e. cc) i;
    };
  }
  words_of-set ws Exposed x fits len i = record {
    tail = read-other ws Exposed x fits Tail shared_tail (λ e. cc) i;
    exposed = read-same ws Exposed x fits (omega (arith, len)) i;
    durable = read-other ws Exposed x fits Durable shared_durable (λ e. cc) i;
    stop = read-other ws Exposed x fits Stop shared_stop (λ e. cc) i;
    crew = read-other ws Exposed x fits Crew shared_crew (λ e. cc) i;
    ring = λ k. row-other ws Exposed x fits size Ring ring-fits k (λ e. cc) i;
    mark = λ k. row-other ws Exposed x fits size Mark mark-fits k (λ e. cc) i;
    slot = λ k. row-other ws Exposed x fits slots Slot slot-fits k (λ e. cc) i;
    base = λ k. row-other ws Exposed x fits slots Base base-fits k (λ e. cc) i;
    account = λ k. record {
      word = row-other ws Exposed x fits accounts Account account-fits k (λ e. cc) i;
      balance = row-other ws Exposed x fits accounts Balance balance-fits k (λ e. cc) i;
    };
  }
  words_of-set ws Durable x fits len i = record {
    tail = read-other ws Durable x fits Tail shared_tail (λ e. cc) i;
    exposed = read-other ws Durable x fits Exposed shared_exposed (λ e. cc) i;
    durable = read-same ws Durable x fits (omega (arith, len)) i;
    stop = read-other ws Durable x fits Stop shared_stop (λ e. cc) i;
    crew = read-other ws Durable x fits Crew shared_crew (λ e. cc) i;
    ring = λ k. row-other ws Durable x fits size Ring ring-fits k (λ e. cc) i;
    mark = λ k. row-other ws Durable x fits size Mark mark-fits k (λ e. cc) i;
    slot = λ k. row-other ws Durable x fits slots Slot slot-fits k (λ e. cc) i;
    base = λ k. row-other ws Durable x fits slots Base base-fits k (λ e. cc) i;
    account = λ k. record {
      word = row-other ws Durable x fits accounts Account account-fits k (λ e. cc) i;
      balance = row-other ws Durable x fits accounts Balance balance-fits k (λ e. cc) i;
    };
  }
  words_of-set ws Stop x fits len i = record {
    tail = read-other ws Stop x fits Tail shared_tail (λ e. cc) i;
    exposed = read-other ws Stop x fits Exposed shared_exposed (λ e. cc) i;
    durable = read-other ws Stop x fits Durable shared_durable (λ e. cc) i;
    stop = read-same ws Stop x fits (omega (arith, len)) i;
    crew = read-other ws Stop x fits Crew shared_crew (λ e. cc) i;
    ring = λ k. row-other ws Stop x fits size Ring ring-fits k (λ e. cc) i;
    mark = λ k. row-other ws Stop x fits size Mark mark-fits k (λ e. cc) i;
    slot = λ k. row-other ws Stop x fits slots Slot slot-fits k (λ e. cc) i;
    base = λ k. row-other ws Stop x fits slots Base base-fits k (λ e. cc) i;
    account = λ k. record {
      word = row-other ws Stop x fits accounts Account account-fits k (λ e. cc) i;
      balance = row-other ws Stop x fits accounts Balance balance-fits k (λ e. cc) i;
    };
  }
  words_of-set ws Crew x fits len i = record {
    tail = read-other ws Crew x fits Tail shared_tail (λ e. cc) i;
    exposed = read-other ws Crew x fits Exposed shared_exposed (λ e. cc) i;
    durable = read-other ws Crew x fits Durable shared_durable (λ e. cc) i;
    stop = read-other ws Crew x fits Stop shared_stop (λ e. cc) i;
    crew = read-same ws Crew x fits (omega (arith, len)) i;
    ring = λ k. row-other ws Crew x fits size Ring ring-fits k (λ e. cc) i;
    mark = λ k. row-other ws Crew x fits size Mark mark-fits k (λ e. cc) i;
    slot = λ k. row-other ws Crew x fits slots Slot slot-fits k (λ e. cc) i;
    base = λ k. row-other ws Crew x fits slots Base base-fits k (λ e. cc) i;
    account = λ k. record {
      word = row-other ws Crew x fits accounts Account account-fits k (λ e. cc) i;
      balance = row-other ws Crew x fits accounts Balance balance-fits k (λ e. cc) i;
    };
  }
  words_of-set ws (Ring index) x (in_ring _ below) len i = record {
    tail = read-other ws (Ring index) x (in_ring index below) Tail shared_tail (λ e. cc) i;
    exposed = read-other ws (Ring index) x (in_ring index below) Exposed shared_exposed (λ e. cc) i;
    durable = read-other ws (Ring index) x (in_ring index below) Durable shared_durable (λ e. cc) i;
    stop = read-other ws (Ring index) x (in_ring index below) Stop shared_stop (λ e. cc) i;
    crew = read-other ws (Ring index) x (in_ring index below) Crew shared_crew (λ e. cc) i;
    ring = λ k. row-put ws (Ring index) x (in_ring index below) size Ring ring-fits index below refl (ring-apart index) (omega (arith, len, below)) k i;
    mark = λ k. row-other ws (Ring index) x (in_ring index below) size Mark mark-fits k (λ e. cc) i;
    slot = λ k. row-other ws (Ring index) x (in_ring index below) slots Slot slot-fits k (λ e. cc) i;
    base = λ k. row-other ws (Ring index) x (in_ring index below) slots Base base-fits k (λ e. cc) i;
    account = λ k. record {
      word = row-other ws (Ring index) x (in_ring index below) accounts Account account-fits k (λ e. cc) i;
      balance = row-other ws (Ring index) x (in_ring index below) accounts Balance balance-fits k (λ e. cc) i;
    };
  }
  words_of-set ws (Mark index) x (in_marks _ below) len i = record {
    tail = read-other ws (Mark index) x (in_marks index below) Tail shared_tail (λ e. cc) i;
    exposed = read-other ws (Mark index) x (in_marks index below) Exposed shared_exposed (λ e. cc) i;
    durable = read-other ws (Mark index) x (in_marks index below) Durable shared_durable (λ e. cc) i;
    stop = read-other ws (Mark index) x (in_marks index below) Stop shared_stop (λ e. cc) i;
    crew = read-other ws (Mark index) x (in_marks index below) Crew shared_crew (λ e. cc) i;
    ring = λ k. row-other ws (Mark index) x (in_marks index below) size Ring ring-fits k (λ e. cc) i;
    mark = λ k. row-put ws (Mark index) x (in_marks index below) size Mark mark-fits index below refl (mark-apart index) (omega (arith, len, below)) k i;
    slot = λ k. row-other ws (Mark index) x (in_marks index below) slots Slot slot-fits k (λ e. cc) i;
    base = λ k. row-other ws (Mark index) x (in_marks index below) slots Base base-fits k (λ e. cc) i;
    account = λ k. record {
      word = row-other ws (Mark index) x (in_marks index below) accounts Account account-fits k (λ e. cc) i;
      balance = row-other ws (Mark index) x (in_marks index below) accounts Balance balance-fits k (λ e. cc) i;
    };
  }
  words_of-set ws (Slot slot) x (of_slot _ below) len i = record {
    tail = read-other ws (Slot slot) x (of_slot slot below) Tail shared_tail (λ e. cc) i;
    exposed = read-other ws (Slot slot) x (of_slot slot below) Exposed shared_exposed (λ e. cc) i;
    durable = read-other ws (Slot slot) x (of_slot slot below) Durable shared_durable (λ e. cc) i;
    stop = read-other ws (Slot slot) x (of_slot slot below) Stop shared_stop (λ e. cc) i;
    crew = read-other ws (Slot slot) x (of_slot slot below) Crew shared_crew (λ e. cc) i;
    ring = λ k. row-other ws (Slot slot) x (of_slot slot below) size Ring ring-fits k (λ e. cc) i;
    mark = λ k. row-other ws (Slot slot) x (of_slot slot below) size Mark mark-fits k (λ e. cc) i;
    slot = λ k. row-put ws (Slot slot) x (of_slot slot below) slots Slot slot-fits slot below refl (slot-apart slot) (omega (arith, len, below)) k i;
    base = λ k. row-other ws (Slot slot) x (of_slot slot below) slots Base base-fits k (λ e. cc) i;
    account = λ k. record {
      word = row-other ws (Slot slot) x (of_slot slot below) accounts Account account-fits k (λ e. cc) i;
      balance = row-other ws (Slot slot) x (of_slot slot below) accounts Balance balance-fits k (λ e. cc) i;
    };
  }
  words_of-set ws (Base slot) x (of_base _ below) len i = record {
    tail = read-other ws (Base slot) x (of_base slot below) Tail shared_tail (λ e. cc) i;
    exposed = read-other ws (Base slot) x (of_base slot below) Exposed shared_exposed (λ e. cc) i;
    durable = read-other ws (Base slot) x (of_base slot below) Durable shared_durable (λ e. cc) i;
    stop = read-other ws (Base slot) x (of_base slot below) Stop shared_stop (λ e. cc) i;
    crew = read-other ws (Base slot) x (of_base slot below) Crew shared_crew (λ e. cc) i;
    ring = λ k. row-other ws (Base slot) x (of_base slot below) size Ring ring-fits k (λ e. cc) i;
    mark = λ k. row-other ws (Base slot) x (of_base slot below) size Mark mark-fits k (λ e. cc) i;
    slot = λ k. row-other ws (Base slot) x (of_base slot below) slots Slot slot-fits k (λ e. cc) i;
    base = λ k. row-put ws (Base slot) x (of_base slot below) slots Base base-fits slot below refl (base-apart slot) (omega (arith, len, below)) k i;
    account = λ k. record {
      word = row-other ws (Base slot) x (of_base slot below) accounts Account account-fits k (λ e. cc) i;
      balance = row-other ws (Base slot) x (of_base slot below) accounts Balance balance-fits k (λ e. cc) i;
    };
  }
  words_of-set ws (Account account) x (of_account _ below) len i = record {
    tail = read-other ws (Account account) x (of_account account below) Tail shared_tail (λ e. cc) i;
    exposed = read-other ws (Account account) x (of_account account below) Exposed shared_exposed (λ e. cc) i;
    durable = read-other ws (Account account) x (of_account account below) Durable shared_durable (λ e. cc) i;
    stop = read-other ws (Account account) x (of_account account below) Stop shared_stop (λ e. cc) i;
    crew = read-other ws (Account account) x (of_account account below) Crew shared_crew (λ e. cc) i;
    ring = λ k. row-other ws (Account account) x (of_account account below) size Ring ring-fits k (λ e. cc) i;
    mark = λ k. row-other ws (Account account) x (of_account account below) size Mark mark-fits k (λ e. cc) i;
    slot = λ k. row-other ws (Account account) x (of_account account below) slots Slot slot-fits k (λ e. cc) i;
    base = λ k. row-other ws (Account account) x (of_account account below) slots Base base-fits k (λ e. cc) i;
    account = λ k. record {
      word = row-put ws (Account account) x (of_account account below) accounts Account account-fits account below refl (account-apart account) (omega (arith, len, below)) k i;
      balance = row-other ws (Account account) x (of_account account below) accounts Balance balance-fits k (λ e. cc) i;
    };
  }
  words_of-set ws (Balance account) x (of_balance _ below) len i = record {
    tail = read-other ws (Balance account) x (of_balance account below) Tail shared_tail (λ e. cc) i;
    exposed = read-other ws (Balance account) x (of_balance account below) Exposed shared_exposed (λ e. cc) i;
    durable = read-other ws (Balance account) x (of_balance account below) Durable shared_durable (λ e. cc) i;
    stop = read-other ws (Balance account) x (of_balance account below) Stop shared_stop (λ e. cc) i;
    crew = read-other ws (Balance account) x (of_balance account below) Crew shared_crew (λ e. cc) i;
    ring = λ k. row-other ws (Balance account) x (of_balance account below) size Ring ring-fits k (λ e. cc) i;
    mark = λ k. row-other ws (Balance account) x (of_balance account below) size Mark mark-fits k (λ e. cc) i;
    slot = λ k. row-other ws (Balance account) x (of_balance account below) slots Slot slot-fits k (λ e. cc) i;
    base = λ k. row-other ws (Balance account) x (of_balance account below) slots Base base-fits k (λ e. cc) i;
    account = λ k. record {
      word = row-other ws (Balance account) x (of_balance account below) accounts Account account-fits k (λ e. cc) i;
      balance = row-put ws (Balance account) x (of_balance account below) accounts Balance balance-fits account below refl (balance-apart account) (omega (arith, len, below)) k i;
    };
  }

  -- what a list holds at the word's place is what the word holds
  pub get_or-word_at : (ws : List ℕ) (word : Word) → Fits size slots accounts word
      → get_or ws (index_of size slots word) 0 ≡ word_at (words_of size slots accounts ws) word
  get_or-word_at ws Tail fits = refl
  get_or-word_at ws Exposed fits = refl
  get_or-word_at ws Durable fits = refl
  get_or-word_at ws Stop fits = refl
  get_or-word_at ws Crew fits = refl
  get_or-word_at ws (Ring index) (in_ring _ below) = sym (ap (λ b. cond b (read size slots ws (Ring index)) 0) (lt-ltb index size below))
  get_or-word_at ws (Mark index) (in_marks _ below) = sym (ap (λ b. cond b (read size slots ws (Mark index)) 0) (lt-ltb index size below))
  get_or-word_at ws (Slot slot) (of_slot _ below) = sym (ap (λ b. cond b (read size slots ws (Slot slot)) 0) (lt-ltb slot slots below))
  get_or-word_at ws (Base slot) (of_base _ below) = sym (ap (λ b. cond b (read size slots ws (Base slot)) 0) (lt-ltb slot slots below))
  get_or-word_at ws (Account account) (of_account _ below) = sym (ap (λ b. cond b (read size slots ws (Account account)) 0) (lt-ltb account accounts below))
  get_or-word_at ws (Balance account) (of_balance _ below) = sym (ap (λ b. cond b (read size slots ws (Balance account)) 0) (lt-ltb account accounts below))
