-- The next records of several seats' last jobs enter the log at once, one behind another.
use Rattle.std.proofs.Common.{◌≡◌, ◌≢◌, ◌⊎◌, inl, inr, ⊎_elim, ℕ, zero, suc, ◌<◌, List, [], ◌∷◌, length, map, set, sym, refl, ap, ◌∙◌, subst, arith, length-set}
use Rattle.std.specs.List.{AllByRecursion}
use Rattle.std.proofs.lemmas.List.{length-map}
use mathlib.Core.Option.{some, some-injective}
use lib.ListN.{get_elem?}
use Rattle.atomic_table.proofs.Lists.{set_else, set_here, at_map}
use Rattle.log_record.specs.declared.rec.Rec.{Rec}
use Rattle.log_record.specs.declared.rec.Placed.{Placed}
use Rattle.lock_core.specs.Sums.{BaseState}
use Rattle.log_rule.specs.declared.view.Books.{Books}
use Rattle.log_rule.specs.Accounts.{KeepsAccounts}
use Rattle.log_rule.specs.Books.{MayEnter, placing}
use Rattle.log_rule.specs.Words.{AccountWords}
use Rattle.log_rule.proofs.Entering.{may_enter-keeps_accounts}

-- a seat whose record enters, with its books, and where the record ends
pub record Entrant : Type 0 where
  pub seat : ℕ
  pub books : Books
  pub rec : Rec
  pub end : ℕ

-- the list behind them
abbrev pub history_with : List Entrant → List Placed → List Placed
history_with [] h = h
history_with (e ∷ es) h = history_with es (record { end = e.end; rec = e.rec } ∷ h)

-- and the books
abbrev pub books_with : List Entrant → List Books → List Books
books_with [] all = all
books_with (e ∷ es) all = books_with es (set all e.seat (placing e.end e.rec e.books))

-- these are the seat's books, and it may place the record
pub record MayEnterAs (all : List Books) (e : Entrant) : Type 0 where
  pub at : get_elem? all e.seat ≡ some e.books
  pub may : MayEnter e.rec e.books

-- the seat is none of theirs
abbrev pub EntersNot : ℕ → List Entrant → Type 0
EntersNot seat es = AllByRecursion (λ (e : Entrant). e.seat ≢ seat) es

-- no seat stands twice
abbrev pub AreApart : List Entrant → Type 0
AreApart [] = Unit {0}
AreApart (e ∷ es) = EntersNot e.seat es × AreApart es

-- it is one of theirs, and enters so
abbrev pub EntersAs : ℕ → Entrant → List Entrant → Type 0
EntersAs seat e [] = ⊥
EntersAs seat e (k ∷ ks) = ((k ≡ e) × (e.seat ≡ seat)) ⊎ EntersAs seat e ks

still-may : (all : List Books) (seat : ℕ) (new : Books) (es : List Entrant) → EntersNot seat es → AllByRecursion (MayEnterAs all) es
    → AllByRecursion (MayEnterAs (set all seat new)) es
still-may all seat new [] apart may = tt
still-may all seat new (e ∷ es) apart may =
    (record { at = set_else all seat e.seat new apart.0 ∙ may.0.at; may = may.0.may }, still-may all seat new es apart.1 may.1)

pub enter_all-keeps_accounts : (base : BaseState) (words : ℕ → AccountWords) (h : List Placed) (all : List Books) (es : List Entrant) → AreApart es
    → AllByRecursion (MayEnterAs all) es → KeepsAccounts base words h all → KeepsAccounts base words (history_with es h) (books_with es all)
enter_all-keeps_accounts base words h all [] apart may s = s
enter_all-keeps_accounts base words h all (e ∷ es) apart may s =
    enter_all-keeps_accounts base words (record { end = e.end; rec = e.rec } ∷ h) (set all e.seat (placing e.end e.rec e.books)) es apart.1
    (still-may all e.seat (placing e.end e.rec e.books) es apart.0 may.1)
    (may_enter-keeps_accounts base words h all e.seat e.books may.0.at e.end e.rec may.0.may s)

-- ---- what views show of books behind them

-- two lists of one length are one, where they have the same at each place
same-lists : {A : Type 0} (xs ys : List A) → length xs ≡ length ys → ((i : ℕ) → i < length xs → get_elem? xs i ≡ get_elem? ys i) → xs ≡ ys
same-lists [] [] long same = refl
same-lists [] (y ∷ ys) long same = absurd (omega (arith, long))
same-lists (x ∷ xs) [] long same = absurd (omega (arith, long))
same-lists (x ∷ xs) (y ∷ ys) long same =
    λ i. some-injective x y (same 0 (omega arith)) i ∷ same-lists xs ys (omega (arith, long))
    (λ k below. same (suc k) (omega (arith, below))) i

there-is : {A : Type 0} (l : List A) (i : ℕ) → i < length l → (a : A) × (get_elem? l i ≡ some a)
there-is [] i below = absurd (omega (arith, below))
there-is (x ∷ xs) zero below = (x, refl)
there-is (x ∷ xs) (suc i) below = there-is xs i (omega (arith, below))

length-with : (es : List Entrant) (all : List Books) → length (books_with es all) ≡ length all
length-with [] all = refl
length-with (e ∷ es) all = length-with es (set all e.seat (placing e.end e.rec e.books))
    ∙ length-set all e.seat (placing e.end e.rec e.books)

with-others : (seat : ℕ) (es : List Entrant) (all : List Books) → EntersNot seat es
    → get_elem? (books_with es all) seat ≡ get_elem? all seat
with-others seat [] all apart = refl
with-others seat (e ∷ es) all apart = with-others seat es (set all e.seat (placing e.end e.rec e.books)) apart.1
    ∙ set_else all e.seat seat (placing e.end e.rec e.books) (λ same. apart.0 (sym same))

apart-not : (seat : ℕ) (k : Entrant) (es : List Entrant) → EntersNot k.seat es → k.seat ≡ seat → EntersNot seat es
apart-not seat k es apart is = subst (λ n. EntersNot n es) is apart

with-entered : (seat : ℕ) (e : Entrant) (es : List Entrant) (all : List Books) → seat < length all → AreApart es → EntersAs seat e es
    → get_elem? (books_with es all) seat ≡ some (placing e.end e.rec e.books)
with-entered seat e [] all below apart enters_as = absurd enters_as
with-entered seat e (k ∷ ks) all below apart (inl t) =
    let is : k.seat ≡ seat = ap (λ (l : Entrant). l.seat) t.0 ∙ t.1 in
    with-others seat ks (set all k.seat (placing k.end k.rec k.books)) (apart-not seat k ks apart.0 is)
    ∙ (ap (λ n. get_elem? (set all n (placing k.end k.rec k.books)) seat) is
    ∙ (set_here all seat (placing k.end k.rec k.books) below ∙ ap (λ (l : Entrant). some (placing l.end l.rec l.books)) t.0))
with-entered seat e (k ∷ ks) all below apart (inr later) =
    with-entered seat e ks (set all k.seat (placing k.end k.rec k.books))
    (subst (λ n. seat < n) (sym (length-set all k.seat (placing k.end k.rec k.books))) below) apart.1 later

-- What views show of books once the records have entered, is what they showed before, but that each of the seats has its record placed.
pub books_with-map_views : {V : Type 0} (old new : V → Books) (views : List V) (es : List Entrant) → AreApart es
    → ((seat : ℕ) (v : V) → get_elem? views seat ≡ some v
    → ((e : Entrant) × EntersAs seat e es × (new v ≡ placing e.end e.rec e.books)) ⊎ (EntersNot seat es × (new v ≡ old v)))
    → books_with es (map old views) ≡ map new views
books_with-map_views old new views es apart each = same-lists (books_with es (map old views)) (map new views)
    (length-with es (map old views) ∙ (length-map views old ∙ sym (length-map views new)))
    (λ i below. at-each i (subst (λ n. i < n) (length-with es (map old views) ∙ length-map views old) below))
  where
    at-each : (i : ℕ) → i < length views → get_elem? (books_with es (map old views)) i ≡ get_elem? (map new views) i
    at-each i below = let t = there-is views i below in let shown = at_map new views i t.0 t.1 in ⊎_elim
        (λ enters_as. with-entered i enters_as.0 es (map old views)
        (subst (λ n. i < n) (sym (length-map views old)) below) apart enters_as.1
        ∙ (ap some (sym enters_as.2) ∙ sym shown))
        (λ not. with-others i es (map old views) not.0 ∙ (at_map old views i t.0 t.1 ∙ (ap some (sym not.1) ∙ sym shown)))
        (each i t.0 t.1)
