-- Entries that are sorted in among others: what holds of all, what is among them, and the records of one number.
use Rattle.std.proofs.Common.{◌≡◌, ◌≢◌, ◌⊎◌, ◌∙◌, ℕ, ◌+◌, ◌≤◌, ◌<◌, ◌==◌, nat_lt, cond, Bool, true, false, List, [], ◌∷◌, ◌++◌, sym, refl, ap, subst, inl, inr, arith, ltb-false, ne_eqb, Contains}
use Rattle.std.specs.List.{AllByRecursion}
use Rattle.std.proofs.lemmas.List.Elements.{All-contains, All-contains_itself, All-from_recursion, recursion_from_All, Contains-append_left, Contains-append_right, Contains-append_cases}
use Rattle.lock_core.specs.Records.{txn_of}
use Rattle.log_rule.specs.declared.view.Entry.{Entry}
use Rattle.log_rule.specs.CrewViews.{inserted, merged_entries}
use Rattle.txn_runner.specs.Running.{LieInOrder}
use Rattle.txn_runner.specs.Working.{own_records}
use Rattle.txn_runner.proofs.EntryLemmas.{own_records-none}

-- where the entry stands among the others
record StandsIn (entry : Entry) (entries : List Entry) : Type 0 where
  before : List Entry
  after : List Entry
  others : entries ≡ before ++ after
  all : inserted entry entries ≡ before ++ entry ∷ after

stands-in : (entry : Entry) (entries : List Entry) → StandsIn entry entries
stands-in entry [] = record { before = []; after = []; others = refl; all = refl }
stands-in entry (other ∷ others) = by_test (nat_lt entry.start other.start) refl (stands-in entry others)
  where
    by_test : (b : Bool) → nat_lt entry.start other.start ≡ b → StandsIn entry others → StandsIn entry (other ∷ others)
    by_test true is rest = record {
      before = [];
      after = other ∷ others;
      others = refl;
      all = ap (λ b. cond b (entry ∷ other ∷ others) (other ∷ inserted entry others)) is;
    }
    by_test false is rest = record {
      before = other ∷ rest.before;
      after = rest.after;
      others = ap (λ l. other ∷ l) rest.others;
      all = ap (λ b. cond b (entry ∷ other ∷ others) (other ∷ inserted entry others)) is ∙ ap (λ l. other ∷ l) rest.all;
    }

module _ (P : Entry → Type 0) where
  all-between : (before after : List Entry) (entry : Entry) → P entry → AllByRecursion P (before ++ after) → AllByRecursion P (before ++ entry ∷ after)
  all-between [] after entry one all = (one, all)
  all-between (x ∷ before) after entry one all = (all.0, all-between before after entry one all.1)

  between-all : (before after : List Entry) (entry : Entry) → AllByRecursion P (before ++ entry ∷ after) → P entry × AllByRecursion P (before ++ after)
  between-all [] after entry all = all
  between-all (x ∷ before) after entry all = let rest = between-all before after entry all.1 in (rest.0, (all.0, rest.1))

  all-inserted : (entry : Entry) (entries : List Entry) → P entry → AllByRecursion P entries → AllByRecursion P (inserted entry entries)
  all-inserted entry entries one all =
      let s = stands-in entry entries in
      subst (AllByRecursion P) (sym s.all) (all-between s.before s.after entry one (subst (AllByRecursion P) s.others all))

  inserted-all : (entry : Entry) (entries : List Entry) → AllByRecursion P (inserted entry entries) → P entry × AllByRecursion P entries
  inserted-all entry entries all =
      let s = stands-in entry entries in
      let both = between-all s.before s.after entry (subst (AllByRecursion P) s.all all) in (both.0, subst (AllByRecursion P) (sym s.others) both.1)

  pub all-merged : (xs ys : List Entry) → AllByRecursion P xs → AllByRecursion P ys → AllByRecursion P (merged_entries xs ys)
  all-merged xs [] first second = first
  all-merged xs (y ∷ ys) first second = all-inserted y (merged_entries xs ys) second.0 (all-merged xs ys first second.1)

  pub merged_entries-all_split : (xs ys : List Entry) → AllByRecursion P (merged_entries xs ys) → AllByRecursion P xs × AllByRecursion P ys
  merged_entries-all_split xs [] all = (all, tt)
  merged_entries-all_split xs (y ∷ ys) all =
      let both = inserted-all y (merged_entries xs ys) all in
      let rest = merged_entries-all_split xs ys both.1 in (rest.0, (both.0, rest.1))

-- what is in the one list or in the other is in both
inserted-contains : (entry : Entry) (entries : List Entry) (e : Entry) → Contains (entry ∷ []) e ⊎ Contains entries e → Contains (inserted entry entries) e
inserted-contains entry entries e has =
    let s = stands-in entry entries in subst (λ l. Contains l e) (sym s.all) (by_cases s has)
  where
    by_cases : (s : StandsIn entry entries) → Contains (entry ∷ []) e ⊎ Contains entries e → Contains (s.before ++ entry ∷ s.after) e
    by_cases s (inl here) =
        Contains-append_right s.before (entry ∷ s.after) e (Contains-append_left (entry ∷ []) s.after e here)
    by_cases s (inr there) = by_place s (Contains-append_cases s.before s.after e (subst (λ l. Contains l e) s.others there))
      where
        by_place : (s : StandsIn entry entries) → Contains s.before e ⊎ Contains s.after e → Contains (s.before ++ entry ∷ s.after) e
        by_place s (inl first) = Contains-append_left s.before (entry ∷ s.after) e first
        by_place s (inr second) =
            Contains-append_right s.before (entry ∷ s.after) e (Contains-append_right (entry ∷ []) s.after e second)

pub contains-merged_left : (xs ys : List Entry) (e : Entry) → Contains xs e → Contains (merged_entries xs ys) e
contains-merged_left xs [] e has = has
contains-merged_left xs (y ∷ ys) e has = inserted-contains y (merged_entries xs ys) e (inr (contains-merged_left xs ys e has))

pub contains-merged_right : (xs ys : List Entry) (e : Entry) → Contains ys e → Contains (merged_entries xs ys) e
contains-merged_right xs [] e has = absurd (omega (arith, has.1))
contains-merged_right xs (y ∷ ys) e has =
    inserted-contains y (merged_entries xs ys) e (by_cases (Contains-append_cases (y ∷ []) ys e has) (contains-merged_right xs ys e))
  where
    by_cases : Contains (y ∷ []) e ⊎ Contains ys e → (Contains ys e → Contains (merged_entries xs ys) e)
        → Contains (y ∷ []) e ⊎ Contains (merged_entries xs ys) e
    by_cases (inl here) more = inl here
    by_cases (inr there) more = inr (more there)

-- what is in both is in the one list or in the other
pub contains-merged_either : (xs ys : List Entry) (e : Entry) → Contains (merged_entries xs ys) e → Contains xs e ⊎ Contains ys e
contains-merged_either xs ys e = All-contains IsInOne (merged_entries xs ys) e (All-from_recursion IsInOne (merged_entries xs ys)
    (all-merged IsInOne xs ys (among xs (λ entry has. inl has) xs (recursion_from_All (Contains xs) xs (All-contains_itself xs)))
    (among ys (λ entry has. inr has) ys (recursion_from_All (Contains ys) ys (All-contains_itself ys)))))
  where
    IsInOne : Entry → Type 0
    IsInOne entry = Contains xs entry ⊎ Contains ys entry

    among : (whole : List Entry) → ((entry : Entry) → Contains whole entry → IsInOne entry) → (entries : List Entry)
        → AllByRecursion (Contains whole) entries → AllByRecursion IsInOne entries
    among whole is [] all = tt
    among whole is (entry ∷ entries) all = (is entry all.0, among whole is entries all.1)

-- each starts above those before it
abbrev pub Rises : List Entry → Type 0
Rises [] = Unit {0}
Rises (entry ∷ entries) = AllByRecursion (λ (other : Entry). entry.start < other.start) entries × Rises entries

above-in_order : (from least to : ℕ) (entries : List Entry) → least < from → LieInOrder from to entries
    → AllByRecursion (λ (other : Entry). least < other.start) entries
above-in_order from least to [] below order = tt
above-in_order from least to (entry ∷ entries) below order =
    (omega (arith, below, order.0), above-in_order (entry.start + entry.size) least to entries (omega (arith, below, order.0)) order.1)

-- entries that have units and lie in order rise
pub LieInOrder-rises : (from to : ℕ) (entries : List Entry) → LieInOrder from to entries → AllByRecursion (λ (entry : Entry). 1 ≤ entry.size) entries
    → Rises entries
LieInOrder-rises from to [] order some = tt
LieInOrder-rises from to (entry ∷ entries) order some = (
  above-in_order (entry.start + entry.size) entry.start to entries (omega (arith, some.0)) order.1,
  LieInOrder-rises (entry.start + entry.size) to entries order.1 some.1,
)

module _ (number : ℕ) where
  abbrev IsOther : Entry → Type 0
  IsOther entry = txn_of entry.rec ≢ number

  own-skip : (entry : Entry) (entries : List Entry) → IsOther entry → own_records number (entry ∷ entries) ≡ own_records number entries
  own-skip entry entries other =
      ap (λ b. cond b (entry.rec ∷ own_records number entries) (own_records number entries)) (ne_eqb (txn_of entry.rec) number other)

  own-behind : (entry : Entry) (xs ys : List Entry) → own_records number xs ≡ own_records number ys
      → own_records number (entry ∷ xs) ≡ own_records number (entry ∷ ys)
  own-behind entry xs ys same = ap (λ l. cond (txn_of entry.rec == number) (entry.rec ∷ l) l) same

  -- an entry that starts below all of the number stands before them
  inserted-own : (entry : Entry) (entries : List Entry)
      → AllByRecursion (λ (other : Entry). txn_of other.rec ≡ number → entry.start < other.start) entries
      → own_records number (inserted entry entries) ≡ own_records number (entry ∷ entries)
  inserted-own entry [] below = refl
  inserted-own entry (other ∷ others) below = by_test (nat_lt entry.start other.start) refl (inserted-own entry others below.1)
    where
      by_test : (b : Bool) → nat_lt entry.start other.start ≡ b
          → own_records number (inserted entry others) ≡ own_records number (entry ∷ others)
          → own_records number (cond b (entry ∷ other ∷ others) (other ∷ inserted entry others)) ≡ own_records number (entry ∷ other ∷ others)
      by_test true is rest = refl
      by_test false is rest =
          let above : IsOther other = λ same. absurd (omega (arith, below.0 same, ltb-false entry.start other.start is)) in
          own-skip other (inserted entry others) above ∙ rest
          ∙ own-behind entry others (other ∷ others) (sym (own-skip other others above))

  -- an entry of another number leaves those of the number
  inserted-others : (entry : Entry) (entries : List Entry) → IsOther entry → own_records number (inserted entry entries) ≡ own_records number entries
  inserted-others entry [] other = own-skip entry [] other
  inserted-others entry (x ∷ xs) other = by_test (nat_lt entry.start x.start) (inserted-others entry xs other)
    where
      by_test : (b : Bool) → own_records number (inserted entry xs) ≡ own_records number xs → own_records number (cond b (entry ∷ x ∷ xs) (x ∷ inserted entry xs)) ≡ own_records number (x ∷ xs)
      by_test true rest = own-skip entry (x ∷ xs) other
      by_test false rest = own-behind x (inserted entry xs) xs rest

  pub own_records-merged_left : (xs ys : List Entry) → AllByRecursion IsOther ys → own_records number (merged_entries xs ys) ≡ own_records number xs
  own_records-merged_left xs [] others = refl
  own_records-merged_left xs (y ∷ ys) others = inserted-others y (merged_entries xs ys) others.0 ∙ own_records-merged_left xs ys others.1

  -- those of a list that rises stand in its order, where no other has the number
  pub own_records-merged_right : (xs ys : List Entry) → AllByRecursion IsOther xs → Rises ys → own_records number (merged_entries xs ys) ≡ own_records number ys
  own_records-merged_right xs [] others rises = own_records-none number xs others
  own_records-merged_right xs (y ∷ ys) others rises =
      inserted-own y (merged_entries xs ys)
      (all-merged (λ (other : Entry). txn_of other.rec ≡ number → y.start < other.start) xs ys (none-of xs others) (above ys rises.0))
      ∙ own-behind y (merged_entries xs ys) ys (own_records-merged_right xs ys others rises.1)
    where
      none-of : (entries : List Entry) → AllByRecursion IsOther entries
          → AllByRecursion (λ (other : Entry). txn_of other.rec ≡ number → y.start < other.start) entries
      none-of [] others = tt
      none-of (x ∷ more) others = ((λ same. absurd (others.0 same)), none-of more others.1)

      above : (entries : List Entry) → AllByRecursion (λ (other : Entry). y.start < other.start) entries
          → AllByRecursion (λ (other : Entry). txn_of other.rec ≡ number → y.start < other.start) entries
      above [] below = tt
      above (x ∷ more) below = ((λ same. below.0), above more below.1)
