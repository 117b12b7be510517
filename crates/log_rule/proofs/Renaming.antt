-- One seat's parts become another's.
use Rattle.std.proofs.Common.{◌≡◌, ◌≢◌, ◌⊎◌, inl, inr, ⊎_elim, ℕ, ◌==◌, ◌+◌, ◌<◌, ◌≤◌, cond, nat_lt, lt-ltb, le-ltb, Bool, true, false, List, [], ◌∷◌}
use Rattle.std.proofs.Common.{◌++◌, sym, refl, ap, ◌∙◌, subst, arith, eq-eqb, ne_eqb}
use Rattle.std.specs.List.{AllByRecursion}
use mathlib.Core.Logic.{dite}
use native.Mathlib.Decide.{ℕ_discrete}
use Rattle.lsn_space.specs.Tiling.{IsTilingBoundary}
use Rattle.lsn_space.proofs.TilingLemmas.{all-weaken}
use Rattle.log_rule.specs.declared.view.Entry.{Entry}
use Rattle.log_rule.specs.Log.{Part, picked, own, is_by, parts_of, Laid, unreleased_in, records_in}
use Rattle.log_rule.specs.CrewViews.{inserted, merged_entries}
use Rattle.log_rule.proofs.Boundaries.{part_size}

abbrev pub rename_one : ℕ → ℕ → Part → Part
rename_one from to p = record { owner = cond (p.owner == from) to p.owner; entry = p.entry; released = p.released }

abbrev pub rename : ℕ → ℕ → List Part → List Part
rename from to [] = []
rename from to (x ∷ xs) = rename_one from to x ∷ rename from to xs

pub records-renamed : (from to : ℕ) (parts : List Part) → records_in (rename from to parts) ≡ records_in parts
records-renamed from to [] = refl
records-renamed from to (part ∷ parts) = ap (λ records. part.entry.rec ∷ records) (records-renamed from to parts)

abbrev its_entry : Part → Entry
its_entry p = p.entry

abbrev its : ℕ → List Part → List Entry
its j xs = picked (is_by j) its_entry xs

abbrev all_entries : List Part → List Entry
all_entries [] = []
all_entries (x ∷ xs) = x.entry ∷ all_entries xs

its-own : (j : ℕ) (xs : List Part) → its j xs ≡ all_entries (own j xs)
its-own j [] = refl
its-own j (x ∷ xs) = by_test (x.owner == j) (its-own j xs)
  where
    by_test : (b : Bool) → its j xs ≡ all_entries (own j xs) → cond b (x.entry ∷ its j xs) (its j xs) ≡ all_entries (cond b (x ∷ own j xs) (own j xs))
    by_test true e = ap (λ l. x.entry ∷ l) e
    by_test false e = e

entries-of : (j : ℕ) (f : Bool) (ps : List Entry) → all_entries (parts_of j f ps) ≡ ps
entries-of j f [] = refl
entries-of j f (p ∷ ps) = ap (λ l. p ∷ l) (entries-of j f ps)

abbrev Is : ℕ → Bool → Part → Type 0
Is j f p = (p.owner ≡ j) × (p.released ≡ f)

all-are : (j : ℕ) (f : Bool) (ps : List Entry) → AllByRecursion (λ (p : Part). p.released ≡ f) (parts_of j f ps)
all-are j f [] = tt
all-are j f (p ∷ ps) = (refl, all-are j f ps)

-- freed parts of one seat are told by their pieces
are-parts : (j : ℕ) (f : Bool) (xs : List Part) → AllByRecursion (Is j f) xs → xs ≡ parts_of j f (all_entries xs)
are-parts j f [] h = refl
are-parts j f (x ∷ xs) h = λ i. record { owner = h.0.0 i; entry = x.entry; released = h.0.1 i } ∷ are-parts j f xs h.1 i

renamed-are : (from to : ℕ) (f : Bool) (xs : List Part) → AllByRecursion (λ (p : Part). p.released ≡ f) (own to xs)
    → AllByRecursion (λ (p : Part). p.released ≡ f) (own from xs) → AllByRecursion (Is to f) (own to (rename from to xs))
renamed-are from to f [] a b = tt
renamed-are from to f (x ∷ xs) a b = by_test (x.owner == from) (x.owner == to) refl a b (λ a b. renamed-are from to f xs a b)
  where
    by_test : (c e : Bool) → (x.owner == to) ≡ e → AllByRecursion (λ (p : Part). p.released ≡ f) (cond e (x ∷ own to xs) (own to xs))
        → AllByRecursion (λ (p : Part). p.released ≡ f) (cond c (x ∷ own from xs) (own from xs))
        → (AllByRecursion (λ (p : Part). p.released ≡ f) (own to xs) → AllByRecursion (λ (p : Part). p.released ≡ f) (own from xs)
        → AllByRecursion (Is to f) (own to (rename from to xs)))
        → AllByRecursion (Is to f)
        (cond (cond c to x.owner == to)
        (record { owner = cond c to x.owner; entry = x.entry; released = x.released } ∷ own to (rename from to xs)) (own to (rename from to xs)))
    by_test true true h a b go =
        subst (λ z. AllByRecursion (Is to f)
        (cond z (record { owner = to; entry = x.entry; released = x.released } ∷ own to (rename from to xs)) (own to (rename from to xs))))
        (sym (eq-eqb to to refl)) ((refl, a.0), go a.1 b.1)
    by_test true false h a b go =
        subst (λ z. AllByRecursion (Is to f)
        (cond z (record { owner = to; entry = x.entry; released = x.released } ∷ own to (rename from to xs)) (own to (rename from to xs))))
        (sym (eq-eqb to to refl)) ((refl, b.0), go a b.1)
    by_test false true h a b go =
        subst (λ z. AllByRecursion (Is to f) (cond z (x ∷ own to (rename from to xs)) (own to (rename from to xs)))) (sym h)
        ((Rattle.std.proofs.Common.eqb-true x.owner to h, a.0), go a.1 b)
    by_test false false h a b go =
        subst (λ z. AllByRecursion (Is to f) (cond z (x ∷ own to (rename from to xs)) (own to (rename from to xs)))) (sym h) (go a b)

abbrev Above : ℕ → List Entry → Type 0
Above a xs = AllByRecursion (λ (p : Entry). a ≤ p.start) xs

its-above : (j a b : ℕ) (xs : List Part) → Laid a xs b → Above a (its j xs)
its-above j a b [] t = tt
its-above j a b (x ∷ xs) t =
    by_test (x.owner == j)
    (all-weaken (λ (p : Entry). a + x.entry.size ≤ p.start) (λ (p : Entry). a ≤ p.start) (its j xs) (λ p h. omega arith)
    (its-above j (a + x.entry.size) b xs t.2))
  where
    by_test : (c : Bool) → Above a (its j xs) → Above a (cond c (x.entry ∷ its j xs) (its j xs))
    by_test true h = (omega (arith, t.0), h)
    by_test false h = h

above-insert : (a : ℕ) (p : Entry) (qs : List Entry) → a ≤ p.start → Above a qs → Above a (inserted p qs)
above-insert a p [] h t = (h, tt)
above-insert a p (q ∷ qs) h t = by_test (nat_lt p.start q.start) (above-insert a p qs h t.1)
  where
    by_test : (b : Bool) → Above a (inserted p qs) → Above a (cond b (p ∷ q ∷ qs) (q ∷ inserted p qs))
    by_test true k = (h, t)
    by_test false k = (t.0, k)

above-merged : (a : ℕ) (xs ys : List Entry) → Above a xs → Above a ys → Above a (merged_entries xs ys)
above-merged a xs [] s t = s
above-merged a xs (y ∷ ys) s t = above-insert a y (merged_entries xs ys) t.0 (above-merged a xs ys s t.1)

insert-first : (a : ℕ) (p : Entry) (qs : List Entry) → p.start < a → Above a qs → inserted p qs ≡ p ∷ qs
insert-first a p [] h t = refl
insert-first a p (q ∷ qs) h t = ap (λ b. cond b (p ∷ q ∷ qs) (q ∷ inserted p qs)) (lt-ltb p.start q.start (let k = t.0 in omega arith))

merged-first : (a : ℕ) (r : Entry) (xs ys : List Entry) → r.start < a → Above a ys → merged_entries (r ∷ xs) ys ≡ r ∷ merged_entries xs ys
merged-first a r xs [] h t = refl
merged-first a r xs (y ∷ ys) h t = ap (inserted y) (merged-first a r xs ys h t.1)
    ∙ ap (λ b. cond b (y ∷ r ∷ merged_entries xs ys) (r ∷ inserted y (merged_entries xs ys))) (le-ltb y.start r.start (let k = t.0 in omega arith))

its-here : (j : ℕ) (x : Part) (xs : List Part) → x.owner ≡ j → its j (x ∷ xs) ≡ x.entry ∷ its j xs
its-here j x xs e = ap (λ b. cond b (x.entry ∷ its j xs) (its j xs)) (eq-eqb x.owner j e)

its-else : (j : ℕ) (x : Part) (xs : List Part) → x.owner ≢ j → its j (x ∷ xs) ≡ its j xs
its-else j x xs e = ap (λ b. cond b (x.entry ∷ its j xs) (its j xs)) (ne_eqb x.owner j e)

its-renamed : (from to a b : ℕ) (xs : List Part) → Laid a xs b → from ≢ to → its to (rename from to xs) ≡ merged_entries (its to xs) (its from xs)
its-renamed from to a b [] t n = refl
its-renamed from to a b (x ∷ xs) t n = let a' : ℕ = a + x.entry.size in let ih = its-renamed from to a' b xs t.2 n in
    let first : x.entry.start < a' = omega (arith, t.0, t.1) in
    let y : Part = rename_one from to x in
    dite (ℕ_discrete x.owner from)
    (λ e. let is : y.owner ≡ to = ap (λ (b : Bool). cond b to x.owner) (eq-eqb x.owner from e) in
    its-here to y (rename from to xs) is ∙ ap (λ l. x.entry ∷ l) ih
    ∙ sym (insert-first a' x.entry (merged_entries (its to xs) (its from xs)) first
    (above-merged a' (its to xs) (its from xs) (its-above to a' b xs t.2) (its-above from a' b xs t.2)))
    ∙ sym (λ i. merged_entries (its-else to x xs (λ h. n (sym e ∙ h)) i) (its-here from x xs e i)))
    (λ f. let is : y.owner ≡ x.owner = ap (λ (b : Bool). cond b to x.owner) (ne_eqb x.owner from f) in dite (ℕ_discrete x.owner to)
    (λ h. its-here to y (rename from to xs) (is ∙ h) ∙ ap (λ l. x.entry ∷ l) ih
    ∙ sym (merged-first a' x.entry (its to xs) (its from xs) first (its-above from a' b xs t.2))
    ∙ sym (λ i. merged_entries (its-here to x xs h i) (its-else from x xs f i)))
    (λ h. its-else to y (rename from to xs) (λ g. h (sym is ∙ g)) ∙ ih ∙ sym (λ i. merged_entries (its-else to x xs h i) (its-else from x xs f i))))

-- two seats with freed parts alone: the one that takes in has both, by starts
pub own-renamed_merged : (from to a b : ℕ) (xs : List Part) (es fs : List Entry) → Laid a xs b → from ≢ to → own to xs ≡ parts_of to true es
    → own from xs ≡ parts_of from true fs → own to (rename from to xs) ≡ parts_of to true (merged_entries es fs)
own-renamed_merged from to a b xs es fs t n e f =
    are-parts to true (own to (rename from to xs))
    (renamed-are from to true xs (subst (AllByRecursion (λ (p : Part). p.released ≡ true)) (sym e) (all-are to true es))
    (subst (AllByRecursion (λ (p : Part). p.released ≡ true)) (sym f) (all-are from true fs)))
    ∙ ap (parts_of to true)
    (sym (its-own to (rename from to xs))
    ∙ (its-renamed from to a b xs t n
    ∙ (λ i. merged_entries ((its-own to xs ∙ (ap all_entries e ∙ entries-of to true es)) i)
    ((its-own from xs ∙ (ap all_entries f ∙ entries-of from true fs)) i))))

pub own-renamed-from : (from to : ℕ) (xs : List Part) → from ≢ to → own from (rename from to xs) ≡ []
own-renamed-from from to [] n = refl
own-renamed-from from to (x ∷ xs) n =
    ap (λ c. cond c (rename_one from to x ∷ own from (rename from to xs)) (own from (rename from to xs)))
    (ne_eqb (cond (x.owner == from) to x.owner) from
    (dite (ℕ_discrete x.owner from) (λ e h. n (sym h ∙ ap (λ (b : Bool). cond b to x.owner) (eq-eqb x.owner from e)))
    (λ f h. f (sym (ap (λ (b : Bool). cond b to x.owner) (ne_eqb x.owner from f)) ∙ h))))
    ∙ own-renamed-from from to xs n

pub own-renamed-else : (from to j : ℕ) (xs : List Part) → j ≢ from → j ≢ to → own j (rename from to xs) ≡ own j xs
own-renamed-else from to j [] n o = refl
own-renamed-else from to j (x ∷ xs) n o = dite (ℕ_discrete x.owner from)
    (λ e. (λ i. cond ((ap (λ (b : Bool). cond b to x.owner == j) (eq-eqb x.owner from e) ∙ ne_eqb to j (λ h. o (sym h))) i)
    (rename_one from to x ∷ own j (rename from to xs)) (own-renamed-else from to j xs n o i))
    ∙ sym (ap (λ b. cond b (x ∷ own j xs) (own j xs)) (ne_eqb x.owner j (λ h. n (sym h ∙ e)))))
    (λ f. λ i. cond (cond (ne_eqb x.owner from f i) to x.owner == j)
    (record {
      owner = cond (ne_eqb x.owner from f i) to x.owner;
      entry = x.entry;
      released = x.released;
    } ∷ own-renamed-else from to j xs n o i) (own-renamed-else from to j xs n o i))

pub all-renamed : (P : Part → Type 0) (from to : ℕ) (xs : List Part) → ((p : Part) → P p → P (rename_one from to p)) → AllByRecursion P xs
    → AllByRecursion P (rename from to xs)
all-renamed P from to [] f h = tt
all-renamed P from to (x ∷ xs) f h = (f x h.0, all-renamed P from to xs f h.1)

pub laid-renamed : (from to a b : ℕ) (xs : List Part) → Laid a xs b → Laid a (rename from to xs) b
laid-renamed from to a b [] t = t
laid-renamed from to a b (x ∷ xs) t = (t.0, t.1, laid-renamed from to (a + x.entry.size) b xs t.2)

pub unreleased_in-renamed : (from to c n : ℕ) (xs : List Part) → unreleased_in c n (rename from to xs) ≡ unreleased_in c n xs
unreleased_in-renamed from to c n [] = refl
unreleased_in-renamed from to c n (x ∷ xs) = let h = unreleased_in-renamed from to c n xs in omega arith

pub boundary-renamed : (from to start at : ℕ) (xs : List Part) → IsTilingBoundary part_size start xs at → IsTilingBoundary part_size start (rename from to xs) at
boundary-renamed from to start at [] b = b
boundary-renamed from to start at (x ∷ xs) b =
    ⊎_elim (λ here. inl here) (λ later. inr (boundary-renamed from to (start + x.entry.size) at xs later)) b
