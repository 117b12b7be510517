-- Accounts that are taken, one after another.
use Rattle.std.proofs.Common.{◌≡◌, ℕ, ◌<◌, List, [], ◌∷◌, ◌++◌, length, get_or, map, take, All, sym, refl, ap, ◌∙◌, subst, arith}
use Rattle.std.specs.List.{AllByRecursion}
use Rattle.std.specs.List.Sorted.{IsStrictlyIncreasing}
use Rattle.std.proofs.lemmas.List.{length-map, length-take, get_or-map, get_or-take, map-append}
use Rattle.std.proofs.lemmas.List.Elements.{All-push, All-from_get_or, recursion_from_All}
use Rattle.log_table.specs.declared.table.Seat.{Seat}
use Rattle.log_rule.specs.declared.view.Books.{Books}
use Rattle.log_rule.specs.declared.view.Half.TheVariants.{Neither}
use Rattle.log_rule.specs.declared.view.Entry.{Entry}
use Rattle.log_rule.specs.declared.view.Taken.{Taken}
use Rattle.log_rule.specs.Books.{taking}
use Rattle.log_rule.specs.May.{Ascends}
use Rattle.log_table.specs.Seats.{view_of}
use Rattle.ring_buffer.specs.Calls.{HasEntries}
use Rattle.txn_parts.specs.declared.taken_account.TakenAccount.{TakenAccount}
use Rattle.early_locks.specs.Locks.{held_of}
use Rattle.txn_making.specs.Holdings.{account_of, held_behind, holding_all, IsKnown, HoldsAll, TakesAll}
use Rattle.txn_making.proofs.Held.{IsStrictlyIncreasing-distinct}
use Rattle.ring_buffer.proofs.TwoCalls.{HasEntries-trans}
use Rattle.txn_jobs.proofs.Listing.{rising-below}

-- what is known of each account is known of each holding
pub IsKnown-all : (accounts : ℕ) (holdings : List TakenAccount) (list : List ℕ) → map account_of holdings ≡ list
    → All (λ account. account < accounts) list
    → All (IsKnown accounts) holdings
IsKnown-all accounts holdings list is known k d within =
    subst (λ account. account < accounts) (ap (λ xs. get_or xs k 0) (sym is) ∙ get_or-map account_of holdings k d 0 within)
    (known k 0 (subst (λ n. k < n) (sym (length-map holdings account_of) ∙ ap length is) within))

held-push : (holdings : List TakenAccount) (holding : TakenAccount) (held : List Taken)
    → held_behind (holdings ++ holding ∷ []) held ≡ held_of holding.taken ∷ held_behind holdings held
held-push [] holding held = refl
held-push (first ∷ holdings) holding held = held-push holdings holding (held_of first.taken ∷ held)

-- accounts below this one are held behind others below it
below-behind : (account : ℕ) (holdings : List TakenAccount) (held : List Taken) → AllByRecursion (IsKnown account) holdings
    → AllByRecursion (λ (held : Taken). held.account < account) held
    → AllByRecursion (λ (held : Taken). held.account < account) (held_behind holdings held)
below-behind account [] held taken before = before
below-behind account (holding ∷ holdings) held taken before =
    below-behind account holdings (held_of holding.taken ∷ held) taken.1 (taken.0, before)

-- of accounts that ascend the next is above those that were taken
pub next-ascends : (accounts : List ℕ) (k : ℕ) (holdings : List TakenAccount) (first second : Seat) → TakesAll (take k accounts) holdings first second
    → IsStrictlyIncreasing accounts → k < length accounts → Ascends (get_or accounts k 0) (view_of second).books
next-ascends accounts k holdings first second before rising within =
    subst (Ascends (get_or accounts k 0)) (sym before.entries.books_are)
    (below-behind (get_or accounts k 0) holdings [] (recursion_from_All (IsKnown (get_or accounts k 0)) holdings
    (IsKnown-all (get_or accounts k 0) holdings (take k accounts) before.accounts_are
    (All-from_get_or (λ account. account < get_or accounts k 0) (take k accounts) 0 earlier))) tt)
  where
    earlier : (i : ℕ) → i < length (take k accounts) → get_or (take k accounts) i 0 < get_or accounts k 0
    earlier i front = let size = length-take k accounts in let here = get_or-take k accounts i 0 (omega arith) in
        let up = rising-below accounts rising i k (omega arith) within in omega arith

module _ (accounts : List ℕ) (holdings : List TakenAccount) (first second third : Seat) (before : TakesAll accounts holdings first second) where
  -- after a call that took no account they may all be given back
  pub TakesAll-holds_all : IsStrictlyIncreasing accounts → HasEntries second third (view_of second).entries (view_of second).books
      → HoldsAll holdings (view_of third).books
  TakesAll-holds_all rising after = record {
    distinct = IsStrictlyIncreasing-distinct holdings (subst IsStrictlyIncreasing (sym before.accounts_are) rising);
    held = ap (λ (books : Books). books.held) (after.books_are ∙ before.entries.books_are);
  }

  -- one more is taken
  pub TakesAll-push : (view_of first).books.half ≡ Neither → (more : List ℕ) (holding : TakenAccount) (all : List TakenAccount) → all ≡ holdings ++ holding ∷ []
      → more ≡ accounts ++ holding.taken.account ∷ []
      → holding.balance ≡ holding.taken.balance
      → HasEntries second third (view_of second).entries (taking (held_of holding.taken) (view_of second).books)
      → (view_of third).seen.stop ≡ 0 → TakesAll more all first third
  TakesAll-push whole more holding all pushed is unchanged after runs = subst (λ list. TakesAll more list first third) (sym pushed) record {
    accounts_are = map-append account_of holdings (holding ∷ []) ∙ (λ i. before.accounts_are i ++ holding.taken.account ∷ []) ∙ sym is;
    unchanged = All-push (λ (holding : TakenAccount). holding.balance ≡ holding.taken.balance) holdings holding before.unchanged unchanged;
    entries = subst (λ (p : List Entry × Books). HasEntries first third p.0 p.1) (λ i. (before.entries.entries_are i, books i))
        (HasEntries-trans _ _ _ _ _ _ _ before.entries after);
    runs = runs;
  }
    where
      books : taking (held_of holding.taken) (view_of second).books ≡ holding_all (holdings ++ holding ∷ []) (view_of first).books
      books = ap (taking (held_of holding.taken)) before.entries.books_are
          ∙ (λ i. record (view_of first).books { held = sym (held-push holdings holding []) i; half = sym whole i })
