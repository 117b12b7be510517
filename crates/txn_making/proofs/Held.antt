-- Accounts that are held, and given back in the order in which they were taken.
use Rattle.std.proofs.Common.{◌≡◌, ◌≢◌, ◌==◌, ℕ, suc, ◌+◌, ◌*◌, ◌<◌, ◌≤◌, inl, inr, cond, true, false, List, [], ◌∷◌, ◌++◌, length, get_or, map, All}
use Rattle.std.proofs.Common.{Contains, sym, refl, ap, ◌∙◌, subst, arith, eq-eqb, ne_eqb, length-append, append_assoc}
use Rattle.std.specs.List.{AllByRecursion}
use Rattle.std.specs.List.Sorted.{IsStrictlyIncreasing}
use Rattle.std.proofs.lemmas.List.{length-map, get_or-map}
use Rattle.std.proofs.lemmas.List.Elements.{recursion_from_All, All-cons, Contains-append_left, Contains-append_right, Contains-append_cases, Contains-push, Contains-push_cases}
use Rattle.log_table.specs.declared.table.Seat.{Seat}
use Rattle.log_rule.specs.declared.view.Books.{Books}
use Rattle.log_rule.specs.declared.view.Half.TheVariants.{Neither}
use Rattle.log_rule.specs.declared.view.Given.{Given}
use Rattle.log_rule.specs.declared.view.Taken.{Taken as TakenHere}
use Rattle.log_rule.specs.declared.view.View.{View}
use Rattle.log_rule.specs.Books.{times_held, balance_taken, last_commit_taken, without}
use Rattle.log_table.specs.Seats.{Becomes, view_of}
use Rattle.log_rule.specs.AccountViews.{stored_balance, gave_account}
use Rattle.early_locks.specs.declared.taken.Taken.{Taken}
use Rattle.early_locks.specs.Locks.{HoldsTaken, held_of, given_at}
use Rattle.txn_parts.specs.declared.taken_account.TakenAccount.{TakenAccount}
use Rattle.txn_making.specs.Holdings.{account_of, taken_of, held_behind, given_behind, Lacks, AreDistinct, with_held, KeepsGiven}
use Rattle.txn_making.specs.Holdings.{account_given}
use Rattle.txn_jobs.proofs.Listing.{rising-below}

-- ascending accounts are distinct
pub IsStrictlyIncreasing-distinct : (holdings : List TakenAccount) → IsStrictlyIncreasing (map account_of holdings) → AreDistinct holdings
IsStrictlyIncreasing-distinct holdings rising = apart holdings (rising-below (map account_of holdings) rising)
  where
    apart : (holdings : List TakenAccount) → ((i j : ℕ) → i < j → j < length (map account_of holdings)
        → get_or (map account_of holdings) i 0 < get_or (map account_of holdings) j 0)
        → AreDistinct holdings
    apart [] less = tt
    apart (holding ∷ holdings) less = (
      recursion_from_All (λ (other : TakenAccount). other.taken.account ≢ holding.taken.account) holdings
          (λ k d within same. let up = less 0 (suc k) (omega arith) (omega (arith, length-map holdings account_of)) in
          let at = get_or-map account_of holdings k d 0 within in omega arith),
      apart holdings (λ i j up within. less (suc i) (suc j) (omega arith) (omega arith)),
    )

-- the account given back is the one that was taken first of all
without-last : (front : List TakenHere) (last : TakenHere) → AllByRecursion (λ (held : TakenHere). held.account ≢ last.account) front
    → without last.account (front ++ last ∷ []) ≡ front
without-last [] last none = λ i. cond (eq-eqb last.account last.account refl i) [] (last ∷ [])
without-last (held ∷ front) last none =
    (λ i. cond (ne_eqb held.account last.account none.0 i) (front ++ last ∷ []) (held ∷ without last.account (front ++ last ∷ [])))
    ∙ ap (λ more. held ∷ more) (without-last front last none.1)

without-behind : (holdings : List TakenAccount) (front : List TakenHere) (last : TakenHere) → Lacks last.account holdings
    → AllByRecursion (λ (held : TakenHere). held.account ≢ last.account) front
    → without last.account (held_behind holdings (front ++ last ∷ [])) ≡ held_behind holdings front
without-behind [] front last lacks none = without-last front last none
without-behind (holding ∷ holdings) front last lacks none = without-behind holdings (held_of holding.taken ∷ front) last lacks.1
    (lacks.0, none)

-- what was taken later doesn't concern the account
pub HoldsTaken-held_behind : (books : Books) (holdings : List TakenAccount) (held : List TakenHere) (taken : Taken) → Lacks taken.account holdings
    → HoldsTaken taken (record books { held = held }) → HoldsTaken taken (record books { held = held_behind holdings held })
HoldsTaken-held_behind books [] held taken lacks holds = holds
HoldsTaken-held_behind books (holding ∷ holdings) held taken lacks holds = HoldsTaken-held_behind books holdings
    (held_of holding.taken ∷ held) taken lacks.1 record {
      has = omega (arith, holds.has);
      balance = (λ i. cond (other i) holding.taken.balance (balance_taken held taken.account)) ∙ holds.balance;
      last_commit = (λ i. cond (other i) holding.taken.mark (last_commit_taken held taken.account)) ∙ holds.last_commit;
    }
  where
    other : (holding.taken.account == taken.account) ≡ false
    other = ne_eqb holding.taken.account taken.account lacks.0

-- the account taken last
pub HoldsTaken-first : (books : Books) (holding : TakenAccount) (held : List TakenHere)
    → HoldsTaken holding.taken (record books { held = held_of holding.taken ∷ held })
HoldsTaken-first books holding held = record {
  has = subst (λ b. 1 ≤ cond b 1 0 + times_held holding.taken.account held) (sym same) (omega arith);
  balance = λ i. cond (same i) holding.taken.balance (balance_taken held holding.taken.account);
  last_commit = λ i. cond (same i) holding.taken.mark (last_commit_taken held holding.taken.account);
}
  where
    same : (holding.taken.account == holding.taken.account) ≡ true
    same = eq-eqb holding.taken.account holding.taken.account refl

module _ (view : View) where
  pub given_behind-push : (holdings : List TakenAccount) (holding : TakenAccount) (given : List Given)
      → given_behind view (holdings ++ holding ∷ []) given
      ≡ given_at view holding.taken ∷ given_behind view holdings given
  given_behind-push [] holding given = refl
  given_behind-push (first ∷ holdings) holding given = given_behind-push holdings holding (given_at view first.taken ∷ given)

  -- what goes back stands before what went back before
  pub given_behind-append : (holdings : List TakenAccount) (given : List Given)
      → given_behind view holdings given ≡ given_behind view holdings [] ++ given
  given_behind-append [] given = refl
  given_behind-append (holding ∷ holdings) given = given_behind-append holdings (given_at view holding.taken ∷ given)
      ∙ sym (ap (λ l. l ++ given) (given_behind-append holdings (given_at view holding.taken ∷ []))
      ∙ append_assoc (given_behind view holdings []) (given_at view holding.taken ∷ []) given)

  -- what went back before stays among what went back
  still-given : (holdings : List TakenAccount) (given : List Given) (account : ℕ) → Contains (map account_given given) account
      → Contains (map account_given (given_behind view holdings given)) account
  still-given [] given account has = has
  still-given (holding ∷ holdings) given account has = still-given holdings (given_at view holding.taken ∷ given) account
      (Contains-append_right (holding.taken.account ∷ []) (map account_given given) account has)

  -- each account went back
  pub given_behind-contains : (holdings : List TakenAccount) (given : List Given) (account : ℕ) → Contains (map account_of holdings) account
      → Contains (map account_given (given_behind view holdings given)) account
  given_behind-contains [] given account has = absurd (omega (arith, has.1))
  given_behind-contains (holding ∷ holdings) given account has =
      elim (Contains-append_cases (holding.taken.account ∷ []) (map account_of holdings) account has) [
        | inl first ↦ still-given holdings (given_at view holding.taken ∷ given) account
            (Contains-append_left (holding.taken.account ∷ []) (map account_given given) account first)
        | inr later ↦ given_behind-contains holdings (given_at view holding.taken ∷ given) account later
      ]

  -- what is said of each account as it goes back is said of all that went back
  pub given_behind-all : (P : Given → Type 0) (holdings : List TakenAccount) (given : List Given)
      → AllByRecursion (λ (holding : TakenAccount). P (given_at view holding.taken)) holdings
      → All P given → All P (given_behind view holdings given)
  given_behind-all P [] given each all = all
  given_behind-all P (holding ∷ holdings) given each all = given_behind-all P holdings (given_at view holding.taken ∷ given) each.1
      (All-cons P (given_at view holding.taken) given each.0 all)

-- the account that went back, of those
pub account_given-found : (back : List Given) (account : ℕ) → Contains (map account_given back) account
    → (one : Given) × Contains back one × (one.account ≡ account)
account_given-found [] account has = absurd (omega (arith, has.1))
account_given-found (first ∷ back) account has = elim (Contains-append_cases (first.account ∷ []) (map account_given back) account has) [
  | inl here ↦ (first, Contains-append_left (first ∷ []) back first (Contains-push [] first), is here)
  | inr later ↦ let more = account_given-found back account later in
      (more.0, Contains-append_right (first ∷ []) back more.0 more.1, more.2)
]
  where
    is : Contains (first.account ∷ []) account → first.account ≡ account
    is here = elim (Contains-push_cases [] first.account account here) [ inl none ↦ absurd (omega (arith, none.1)) | inr same ↦ same ]

-- after these accounts went back
pub KeepsGiven-with_held : (back : List TakenAccount) (held : List TakenHere) (first second : Seat)
    → Becomes first second (with_held held back (view_of first)) → KeepsGiven (view_of first) (view_of second)
KeepsGiven-with_held back held first second becomes = record {
  back = given_behind (view_of first) back [];
  given_are = ap (λ m. m.0.books.given) becomes.me ∙ given_behind-append (view_of first) back (view_of first).books.given;
}

-- the first of the holdings that are left, and the others once it is given back
module _ (first second : Seat) (back holdings rest : List TakenAccount) (holding : TakenAccount) (is : holdings ≡ holding ∷ rest)
    (apart : AreDistinct holdings)
    (before : Becomes first second (with_held (held_behind holdings []) back (view_of first))) where
  abbrev view : View
  view = view_of first

  distinct-both : AreDistinct (holding ∷ rest)
  distinct-both = subst AreDistinct is apart

  pub distinct-rest : AreDistinct rest
  distinct-rest = distinct-both.1

  is-held : second.base.me ≡ (with_held (held_behind (holding ∷ rest) []) back view, first.base.me.1)
  is-held = before.me ∙ (λ i. (with_held (held_behind (is i) []) back view, first.base.me.1))

  abbrev books : Books
  books = record view.books { given = given_behind view back view.books.given }

  held-first : HoldsTaken holding.taken (record books { held = held_behind (holding ∷ rest) [] })
  held-first = HoldsTaken-held_behind books rest (held_of holding.taken ∷ []) holding.taken distinct-both.0 (HoldsTaken-first books holding [])

  pub HoldsTaken-with_held : HoldsTaken holding.taken (view_of second).books
  HoldsTaken-with_held = subst (λ m. HoldsTaken holding.taken m.0.books) (sym is-held) held-first

  pub gave_account-with_held : (third : Seat) (balance : ℕ) → view.books.half ≡ Neither
      → Becomes second third (gave_account holding.taken.account (stored_balance holding.taken.account balance (view_of second)))
      → Becomes first third (with_held (held_behind rest []) (back ++ holding ∷ []) view)
  gave_account-with_held third balance whole after = record {
    table_is = after.table_is ∙ before.table_is;
    number = after.number ∙ before.number;
    me = after.me ∙ ap (λ m. (gave_account holding.taken.account (stored_balance holding.taken.account balance m.0), m.1)) is-held
        ∙ (λ i. (
          record view {
            seen = record view.seen { steps = total i };
            books = record view.books { held = left i; half = sym whole i; given = gone i };
          },
          first.base.me.1,
        ));
    worker = after.worker ∙ before.worker;
  }
    where
      total : view.seen.steps + 2 * length back + 1 + 1 ≡ view.seen.steps + 2 * length (back ++ holding ∷ [])
      total = omega (arith, length-append back (holding ∷ []))

      gone : record (given_at view holding.taken) { balance = balance_taken (held_behind (holding ∷ rest) []) holding.taken.account }
          ∷ given_behind view back view.books.given ≡ given_behind view (back ++ holding ∷ []) view.books.given
      gone = (λ i. record (given_at view holding.taken) { balance = held-first.balance i } ∷ given_behind view back view.books.given)
          ∙ sym (given_behind-push view back holding view.books.given)

      left : without holding.taken.account (held_behind (holding ∷ rest) []) ≡ held_behind rest []
      left = without-behind rest [] (held_of holding.taken) distinct-both.0 tt

lacks-same : (account : ℕ) (old new : List TakenAccount) → map account_of new ≡ map account_of old → Lacks account old → Lacks account new
lacks-same account old [] same lacks = tt
lacks-same account [] (holding ∷ new) same lacks = absurd (omega (arith, ap length same))
lacks-same account (first ∷ old) (holding ∷ new) same lacks =
    let here : holding.taken.account ≡ first.taken.account = cc in
    let rest : map account_of new ≡ map account_of old = cc in
    (λ is. lacks.0 (sym here ∙ is), lacks-same account old new rest lacks.1)

distinct-same : (old new : List TakenAccount) → map account_of new ≡ map account_of old → AreDistinct old → AreDistinct new
distinct-same old [] same apart = tt
distinct-same [] (holding ∷ new) same apart = absurd (omega (arith, ap length same))
distinct-same (first ∷ old) (holding ∷ new) same apart =
    let here : holding.taken.account ≡ first.taken.account = cc in
    let rest : map account_of new ≡ map account_of old = cc in
    (subst (λ account. Lacks account new) (sym here) (lacks-same first.taken.account old new rest apart.0), distinct-same old new rest apart.1)

-- holdings of the same accounts, taken with the same values
module _ (old new : List TakenAccount) (same : map taken_of new ≡ map taken_of old) where
  same-length : length new ≡ length old
  same-length = sym (length-map new taken_of) ∙ ap length same ∙ length-map old taken_of

  same-taken : (k : ℕ) (d : TakenAccount) → k < length new → (get_or new k d).taken ≡ (get_or old k d).taken
  same-taken k d within = sym (get_or-map taken_of new k d d.taken within) ∙ ap (λ list. get_or list k d.taken) same
      ∙ get_or-map taken_of old k d d.taken (omega (arith, same-length))

  pub map_account_of-same : map account_of new ≡ map account_of old
  map_account_of-same = accounts new ∙ ap (map (λ (taken : Taken). taken.account)) same ∙ sym (accounts old)
    where
      accounts : (holdings : List TakenAccount) → map account_of holdings ≡ map (λ (taken : Taken). taken.account) (map taken_of holdings)
      accounts [] = refl
      accounts (holding ∷ holdings) = ap (λ list. holding.taken.account ∷ list) (accounts holdings)

  pub all_taken-same : (P : Taken → Type 0) → All (λ (holding : TakenAccount). P holding.taken) old → All (λ (holding : TakenAccount). P holding.taken) new
  all_taken-same P all k d within = subst P (sym (same-taken k d within)) (all k d (omega (arith, same-length)))

  pub AreDistinct-same : AreDistinct old → AreDistinct new
  AreDistinct-same = distinct-same old new map_account_of-same
