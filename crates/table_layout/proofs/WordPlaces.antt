-- No two words share a place.
use Rattle.std.proofs.Common.{◌≡◌, ◌==◌, ℕ, ◌+◌, ◌-◌, ◌*◌, ◌/◌, ◌%◌, ◌<◌, ◌≤◌, cond, nat_lt, Bool, true, false, sym, refl, ap, ◌∙◌, arith, eq-eqb, ne_eqb, ltb-true, lt-ltb}
use Rattle.table_layout.specs.declared.layout.TheConstants.{STRIDE, TAIL, EXPOSED, DURABLE, STOP, CREW, RING}
use Rattle.table_layout.specs.Layout.{Word, Tail, Exposed, Durable, Stop, Crew, Ring, Mark, Slot, Base, Account, Balance, index_of}

-- the word lies in a table whose ring has that many units, and which has so many slots and accounts
pub data Fits (size slots accounts : ℕ) : Word → Type 0 where
  shared_tail : Fits size slots accounts Tail
  shared_exposed : Fits size slots accounts Exposed
  shared_durable : Fits size slots accounts Durable
  shared_stop : Fits size slots accounts Stop
  shared_crew : Fits size slots accounts Crew
  in_ring : (index : ℕ) → index < size → Fits size slots accounts (Ring index)
  in_marks : (index : ℕ) → index < size → Fits size slots accounts (Mark index)
  of_slot : (slot : ℕ) → slot < slots → Fits size slots accounts (Slot slot)
  of_base : (slot : ℕ) → slot < slots → Fits size slots accounts (Base slot)
  of_account : (account : ℕ) → account < accounts → Fits size slots accounts (Account account)
  of_balance : (account : ℕ) → account < accounts → Fits size slots accounts (Balance account)

-- of the words that stand 16 words apart behind the marks, the one by its number: first the slots' states, then their bases, then the
-- accounts
abbrev behind_slots : ℕ → ℕ → Word
behind_slots slots n = cond (nat_lt n slots) (Base n) (Account (n - slots))

abbrev behind_marks : ℕ → ℕ → Word
behind_marks slots n = cond (nat_lt n slots) (Slot n) (behind_slots slots (n - slots))

-- an account's balance lies right behind its word
abbrev spaced : ℕ → ℕ → Word
spaced slots n = cond (n % STRIDE == 1) (Balance (n / STRIDE - slots - slots)) (behind_marks slots (n / STRIDE))

-- the word that lies at a place
abbrev behind_ring : ℕ → ℕ → ℕ → Word
behind_ring size slots n = cond (nat_lt n size) (Mark n) (spaced slots (n - size))

abbrev behind_crew : ℕ → ℕ → ℕ → Word
behind_crew size slots n = cond (nat_lt (n - RING) size) (Ring (n - RING)) (behind_ring size slots (n - RING - size))

abbrev word_of : ℕ → ℕ → ℕ → Word
word_of size slots n = cond (n == TAIL) Tail
    (cond (n == EXPOSED) Exposed (cond (n == DURABLE) Durable (cond (n == STOP) Stop (cond (n == CREW) Crew (behind_crew size slots n)))))

lt_not : (n size : ℕ) → size ≤ n → nat_lt n size ≡ false
lt_not n size least = by_test (nat_lt n size) refl
  where
    by_test : (b : Bool) → nat_lt n size ≡ b → b ≡ false
    by_test true is = let less = ltb-true n size is in absurd (omega arith)
    by_test false is = refl

word_of-behind : (size slots n : ℕ) → RING ≤ n → word_of size slots n ≡ behind_crew size slots n
word_of-behind size slots n least = λ i. cond (other TAIL (omega arith) i) Tail
    (cond (other EXPOSED (omega arith) i) Exposed
    (cond (other DURABLE (omega arith) i) Durable (cond (other STOP (omega arith) i) Stop (cond (other CREW (omega arith) i) Crew (behind_crew size slots n)))))
  where
    other : (place : ℕ) → place < RING → (n == place) ≡ false
    other place below = ne_eqb n place (λ e. omega arith)

module _ (size slots accounts : ℕ) where
  word_of-far : (n : ℕ) → word_of size slots (RING + size + size + n) ≡ spaced slots n
  word_of-far n = word_of-behind size slots (RING + size + size + n) (omega arith)
      ∙ (ap (λ b. cond b (Ring (RING + size + size + n - RING)) (behind_ring size slots (RING + size + size + n - RING - size)))
      (lt_not (RING + size + size + n - RING) size (omega arith))
      ∙ (ap (behind_ring size slots) behind
      ∙ (ap (λ b. cond b (Mark (size + n)) (spaced slots (size + n - size))) (lt_not (size + n) size (omega arith))
      ∙ ap (spaced slots) back)))
    where
      behind : RING + size + size + n - RING - size ≡ size + n
      behind = omega arith

      back : size + n - size ≡ n
      back = omega arith

  word_of-spaced : (n : ℕ) → word_of size slots (RING + size + size + STRIDE * n) ≡ behind_marks slots n
  word_of-spaced n = word_of-far (STRIDE * n)
      ∙ (ap (λ b. cond b (Balance (STRIDE * n / STRIDE - slots - slots)) (behind_marks slots (STRIDE * n / STRIDE)))
      (ne_eqb (STRIDE * n % STRIDE) 1 (λ e. omega arith))
      ∙ ap (behind_marks slots) back)
    where
      back : STRIDE * n / STRIDE ≡ n
      back = omega arith

  word_of-beside : (n : ℕ) → word_of size slots (RING + size + size + STRIDE * n + 1) ≡ Balance (n - slots - slots)
  word_of-beside n = ap (word_of size slots) far
      ∙ (word_of-far (STRIDE * n + 1)
      ∙ (ap (λ b. cond b (Balance ((STRIDE * n + 1) / STRIDE - slots - slots)) (behind_marks slots ((STRIDE * n + 1) / STRIDE)))
      (eq-eqb ((STRIDE * n + 1) % STRIDE) 1 (omega arith))
      ∙ ap (λ m. Balance (m - slots - slots)) back))
    where
      far : RING + size + size + STRIDE * n + 1 ≡ RING + size + size + (STRIDE * n + 1)
      far = omega arith

      back : (STRIDE * n + 1) / STRIDE ≡ n
      back = omega arith

  word_of-index : (word : Word) → Fits size slots accounts word → word_of size slots (index_of size slots word) ≡ word
  word_of-index Tail fits = refl
  word_of-index Exposed fits = refl
  word_of-index Durable fits = refl
  word_of-index Stop fits = refl
  word_of-index Crew fits = refl
  word_of-index (Ring index) (in_ring _ below) = word_of-behind size slots (RING + index) (omega arith)
      ∙ (ap (λ b. cond b (Ring (RING + index - RING)) (behind_ring size slots (RING + index - RING - size))) (lt-ltb (RING + index - RING) size (omega arith))
      ∙ ap Ring back)
    where
      back : RING + index - RING ≡ index
      back = omega arith
  word_of-index (Mark index) (in_marks _ below) = word_of-behind size slots (RING + size + index) (omega arith)
      ∙ (ap (λ b. cond b (Ring (RING + size + index - RING)) (behind_ring size slots (RING + size + index - RING - size)))
      (lt_not (RING + size + index - RING) size (omega arith))
      ∙ (ap (behind_ring size slots) back ∙ ap (λ b. cond b (Mark index) (spaced slots (index - size))) (lt-ltb index size below)))
    where
      back : RING + size + index - RING - size ≡ index
      back = omega arith
  word_of-index (Slot slot) (of_slot _ below) =
      word_of-spaced slot ∙ ap (λ b. cond b (Slot slot) (behind_slots slots (slot - slots))) (lt-ltb slot slots below)
  word_of-index (Base slot) (of_base _ below) = word_of-spaced (slots + slot)
      ∙ (ap (λ b. cond b (Slot (slots + slot)) (behind_slots slots (slots + slot - slots))) (lt_not (slots + slot) slots (omega arith))
      ∙ (ap (behind_slots slots) back ∙ ap (λ b. cond b (Base slot) (Account (slot - slots))) (lt-ltb slot slots below)))
    where
      back : slots + slot - slots ≡ slot
      back = omega arith
  word_of-index (Account account) fits = word_of-spaced (slots + slots + account)
      ∙ (ap (λ b. cond b (Slot (slots + slots + account)) (behind_slots slots (slots + slots + account - slots)))
      (lt_not (slots + slots + account) slots (omega arith))
      ∙ (ap (behind_slots slots) behind
      ∙ (ap (λ b. cond b (Base (slots + account)) (Account (slots + account - slots))) (lt_not (slots + account) slots (omega arith)) ∙ ap Account back)))
    where
      behind : slots + slots + account - slots ≡ slots + account
      behind = omega arith

      back : slots + account - slots ≡ account
      back = omega arith
  word_of-index (Balance account) fits = word_of-beside (slots + slots + account) ∙ ap Balance back
    where
      back : slots + slots + account - slots - slots ≡ account
      back = omega arith

  -- no two words share a place
  pub index-injective : (a b : Word) → Fits size slots accounts a → Fits size slots accounts b → index_of size slots a ≡ index_of size slots b → a ≡ b
  index-injective a b fits-a fits-b e = sym (word_of-index a fits-a) ∙ (ap (word_of size slots) e ∙ word_of-index b fits-b)
