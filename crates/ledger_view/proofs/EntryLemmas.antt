-- What the entries of an account lead to, with one entry more and up to an LSN.
use Rattle.std.proofs.Common.{◌≡◌, ◌≤◌, ◌<◌, ℕ, zero, suc, pos, ◌+ℤ◌, cond, List, [], ◌∷◌, ◌++◌, length, get_or, nat_le, refl, ap, ◌∙◌, sym, subst, arith, le_refl, le_trans, le-leb}
use Rattle.std.proofs.lemmas.Bool.{lt-leb}
use Rattle.std.specs.List.{AllByRecursion}
use Rattle.std.specs.List.Sorted.{IsNonDecreasingBy}
use Rattle.log_record.specs.Spelling.{IsBalance}
use Rattle.ledger_view.specs.declared.entries.Entry.{Entry}
use Rattle.ledger_view.specs.ViewedAccounts.{last_balance, balance_to, AddUp}

pub no_entry : Entry
no_entry = record { end = 0; txn = 0; net = pos 0; balance = 0 }

pub last_balance-append : (first : ℕ) (entries : List Entry) (entry : Entry) → last_balance first (entries ++ entry ∷ []) ≡ entry.balance
last_balance-append first [] entry = refl
last_balance-append first (x ∷ entries) entry = last_balance-append x.balance entries entry

-- an entry that ends behind the LSN
balance_to-past : (first : ℕ) (entry : Entry) (entries : List Entry) (lsn : ℕ) → lsn < entry.end → balance_to first (entry ∷ entries) lsn ≡ first
balance_to-past first entry entries lsn past = ap (λ b. cond b (balance_to entry.balance entries lsn) first) (lt-leb entry.end lsn past)

-- an entry that ends at or below it
balance_to-below : (first : ℕ) (entry : Entry) (entries : List Entry) (lsn : ℕ) → entry.end ≤ lsn
    → balance_to first (entry ∷ entries) lsn ≡ balance_to entry.balance entries lsn
balance_to-below first entry entries lsn below = ap (λ b. cond b (balance_to entry.balance entries lsn) first) (le-leb entry.end lsn below)

-- one entry more changes nothing before its end
pub balance_to-append_behind : (first : ℕ) (entries : List Entry) (entry : Entry) (lsn : ℕ) → lsn < entry.end
    → balance_to first (entries ++ entry ∷ []) lsn ≡ balance_to first entries lsn
balance_to-append_behind first [] entry lsn past = balance_to-past first entry [] lsn past
balance_to-append_behind first (x ∷ entries) entry lsn past = ap (λ n. cond (nat_le x.end lsn) n first) (balance_to-append_behind x.balance entries entry lsn past)

-- where all end at or below the LSN
pub balance_to-all : (first : ℕ) (entries : List Entry) (lsn : ℕ) → AllByRecursion (λ (entry : Entry). entry.end ≤ lsn) entries
    → balance_to first entries lsn ≡ last_balance first entries
balance_to-all first [] lsn all = refl
balance_to-all first (entry ∷ entries) lsn all = balance_to-below first entry entries lsn all.0 ∙ balance_to-all entry.balance entries lsn all.1

pub all_ends_le-weaken : (entries : List Entry) (low high : ℕ) → low ≤ high → AllByRecursion (λ (entry : Entry). entry.end ≤ low) entries
    → AllByRecursion (λ (entry : Entry). entry.end ≤ high) entries
all_ends_le-weaken [] low high more all = tt
all_ends_le-weaken (entry ∷ entries) low high more all = (le_trans all.0 more, all_ends_le-weaken entries low high more all.1)

pub add_up-append : (least first : ℕ) (entries : List Entry) (entry : Entry) → least ≤ entry.end
    → AllByRecursion (λ (x : Entry). x.end ≤ entry.end) entries → IsBalance (last_balance first entries)
    → pos entry.balance ≡ pos (last_balance first entries) +ℤ entry.net → AddUp least first entries → AddUp least first (entries ++ entry ∷ [])
add_up-append least first [] entry above all range net sums = (above, range, net, tt)
add_up-append least first (x ∷ entries) entry above all range net sums =
    (sums.0, sums.1, sums.2, add_up-append x.end x.balance entries entry all.0 all.1 range net sums.3)

least-below : (least first : ℕ) (entries : List Entry) (i : ℕ) (d : Entry) → AddUp least first entries → i < length entries → least ≤ (get_or entries i d).end
least-below least first [] i d sums inside = absurd (omega arith)
least-below least first (entry ∷ entries) zero d sums inside = sums.0
least-below least first (entry ∷ entries) (suc i) d sums inside =
    le_trans sums.0 (least-below entry.end entry.balance entries i d sums.3 (omega arith))

-- the ends don't fall
pub add_up-rises : (least first : ℕ) (entries : List Entry) → AddUp least first entries → IsNonDecreasingBy (λ (entry : Entry). entry.end) entries
add_up-rises least first [] sums i j d before inside = absurd (omega arith)
add_up-rises least first (entry ∷ entries) sums zero zero d before inside = le_refl entry.end
add_up-rises least first (entry ∷ entries) sums zero (suc j) d before inside = least-below entry.end entry.balance entries j d sums.3 (omega arith)
add_up-rises least first (entry ∷ entries) sums (suc i) zero d before inside = absurd (omega arith)
add_up-rises least first (entry ∷ entries) sums (suc i) (suc j) d before inside =
    add_up-rises entry.end entry.balance entries sums.3 i j d (omega arith) (omega arith)

-- the first entry that ends behind an LSN adds its net to the balance up to there
pub first_entry_behind-adds_net : (least first : ℕ) (entries : List Entry) (i lsn : ℕ) (d : Entry) → AddUp least first entries → i < length entries
    → ((k : ℕ) → k < i → (get_or entries k d).end ≤ lsn) → lsn < (get_or entries i d).end
    → IsBalance (balance_to first entries lsn)
    × (pos (get_or entries i d).balance ≡ pos (balance_to first entries lsn) +ℤ (get_or entries i d).net)
first_entry_behind-adds_net least first [] i lsn d sums inside below past = absurd (omega arith)
first_entry_behind-adds_net least first (entry ∷ entries) zero lsn d sums inside below past =
    subst (λ n. IsBalance n × (pos entry.balance ≡ pos n +ℤ entry.net)) (sym (balance_to-past first entry entries lsn past)) (sums.1, sums.2)
first_entry_behind-adds_net least first (entry ∷ entries) (suc i) lsn d sums inside below past =
    subst (λ n. IsBalance n × (pos (get_or entries i d).balance ≡ pos n +ℤ (get_or entries i d).net))
    (sym (balance_to-below first entry entries lsn (below 0 (omega arith))))
    (first_entry_behind-adds_net entry.end entry.balance entries i lsn d sums.3 (omega arith) (λ k before. below (suc k) (omega arith)) past)

-- where none ends behind it, the balance is the last
pub balance_to-none_behind : (first : ℕ) (entries : List Entry) (lsn : ℕ) (d : Entry) → ((k : ℕ) → k < length entries → (get_or entries k d).end ≤ lsn)
    → balance_to first entries lsn ≡ last_balance first entries
balance_to-none_behind first [] lsn d below = refl
balance_to-none_behind first (entry ∷ entries) lsn d below =
    balance_to-below first entry entries lsn (below 0 (omega arith))
    ∙ balance_to-none_behind entry.balance entries lsn d (λ k before. below (suc k) (omega arith))

pub first_entry-adds_net : (first : ℕ) (entries : List Entry) (d : Entry) → AddUp 0 first entries → 0 < length entries
    → pos (get_or entries 0 d).balance ≡ pos first +ℤ (get_or entries 0 d).net
first_entry-adds_net first [] d sums some = absurd (omega arith)
first_entry-adds_net first (entry ∷ entries) d sums some = sums.2

-- where they lead to a balance in its range, each balance on the way is in it
pub add_up-first_in_range : (least first : ℕ) (entries : List Entry) → AddUp least first entries → IsBalance (last_balance first entries) → IsBalance first
add_up-first_in_range least first [] sums last = last
add_up-first_in_range least first (entry ∷ entries) sums last = sums.1
