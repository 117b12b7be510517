-- What holds of each view, or of each two, after one of them changes.
use Rattle.std.proofs.Common.{◌≡◌, ◌≢◌, ◌⊎◌, inl, inr, ⊎_elim, ℕ, zero, suc, ◌+◌, ◌<◌, cond, Bool, List, [], ◌∷◌, ◌++◌, length, get_or, set}
use Rattle.std.proofs.Common.{get_or-set_same, get_or-set_other, sym, refl, ap, ◌∙◌, subst, arith}
use Rattle.std.specs.Prelude.{count_by}
use Rattle.std.proofs.lemmas.List.Sums.{sum_by-set}
use mathlib.Core.Logic.{dite}
use mathlib.Core.Option.{some, some-injective, some-ne-none}
use native.Mathlib.Decide.{ℕ_discrete}
use lib.ListN.{get_elem?}
use Rattle.atomic_table.proofs.Lists.{at_set}
use Rattle.log_rule.specs.declared.view.View.{View}
use Rattle.log_rule.specs.Views.{nobody}
use Rattle.log_rule.specs.Sound.{EachView, EachSeat, EachPair}

pub each_view-set_weaken : (P Q : ℕ → View → Type 0) (views : List View) (me : ℕ) (new : View) → EachView P views → Q me new
    → ((j : ℕ) (v : View) → j ≢ me → get_elem? views j ≡ some v → P j v → Q j v) → EachView Q (set views me new)
each_view-set_weaken P Q views me new all mine others j v at = ⊎_elim
    (λ (t : (j ≡ me) × (new ≡ v)). subst (λ (x : ℕ × View). Q x.0 x.1) (λ i. (sym t.0 i, t.1 i)) mine)
    (λ (t : (j ≢ me) × (get_elem? views j ≡ some v)). others j v t.0 t.1 (all j v t.1))
    (at_set views me j new v at)

pub each_view-set : (P : ℕ → View → Type 0) (views : List View) (me : ℕ) (new : View) → EachView P views → P me new → EachView P (set views me new)
each_view-set P views me new all mine = each_view-set_weaken P P views me new all mine (λ _ _ _ _ p. p)

pub get_elem-below_length : (views : List View) (i : ℕ) (v : View) → get_elem? views i ≡ some v → i < length views
get_elem-below_length [] i v at = absurd (some-ne-none v (sym at))
get_elem-below_length (x ∷ xs) zero v at = omega arith
get_elem-below_length (x ∷ xs) (suc i) v at = omega (arith, get_elem-below_length xs i v at)

pub get_elem-get_or_nobody : (views : List View) (i : ℕ) (v : View) → get_elem? views i ≡ some v → get_or views i nobody ≡ v
get_elem-get_or_nobody [] i v at = absurd (some-ne-none v (sym at))
get_elem-get_or_nobody (x ∷ xs) zero v at = some-injective x v at
get_elem-get_or_nobody (x ∷ xs) (suc i) v at = get_elem-get_or_nobody xs i v at

pub each_seat-at : (P : ℕ → View → Type 0) (views : List View) (me : ℕ) (v : View) → get_elem? views me ≡ some v → EachSeat P views → P me v
each_seat-at P views me v at all = subst (P me) (get_elem-get_or_nobody views me v at) (all me)

pub each_seat-set_weaken : (P Q : ℕ → View → Type 0) (views : List View) (me : ℕ) (v new : View) → get_elem? views me ≡ some v → EachSeat P views → Q me new
    → ((j : ℕ) (z : View) → j ≢ me → P j z → Q j z) → EachSeat Q (set views me new)
each_seat-set_weaken P Q views me v new at all mine others j = dite (ℕ_discrete j me)
    (λ same. subst (λ i. Q i (get_or (set views me new) i nobody)) (sym same)
    (subst (Q me) (sym (get_or-set_same views me new nobody (get_elem-below_length views me v at))) mine))
    (λ differ. subst (Q j) (sym (get_or-set_other views me j new nobody differ)) (others j (get_or views j nobody) differ (all j)))

pub each_seat-set : (P : ℕ → View → Type 0) (views : List View) (me : ℕ) (v new : View) → get_elem? views me ≡ some v → EachSeat P views → P me new
    → EachSeat P (set views me new)
each_seat-set P views me v new at all mine = each_seat-set_weaken P P views me v new at all mine (λ _ _ _ p. p)

-- the changed view with itself, and with each other on either side
pub each_pair-set : (R : ℕ → View → ℕ → View → Type 0) (views : List View) (me : ℕ) (v new : View) → get_elem? views me ≡ some v → EachPair R views
    → R me new me new
    → ((j : ℕ) (z : View) → j ≢ me → get_elem? views j ≡ some z → R me new j z × R j z me new) → EachPair R (set views me new)
each_pair-set R views me v new at all alone others =
    each_view-set_weaken (λ seat view. EachView (R seat view) views) (λ seat view. EachView (R seat view) (set views me new)) views me new all
    (each_view-set_weaken (λ j z. R me v j z) (λ j z. R me new j z) views me new (all me v at) alone (λ j z differ there _. (others j z differ there).0))
    (λ i y differ here each. each_view-set_weaken (R i y) (R i y) views me new each (others i y differ here).1 (λ _ _ _ _ r. r))

-- a seat is added: the last view, or one that was there
pub get_elem-push : (views : List View) (new v : View) (j : ℕ) → get_elem? (views ++ new ∷ []) j ≡ some v
    → (get_elem? views j ≡ some v) ⊎ ((j ≡ length views) × (new ≡ v))
get_elem-push [] new v zero at = inr (refl, some-injective new v at)
get_elem-push [] new v (suc j) at = absurd (some-ne-none v (sym at))
get_elem-push (x ∷ xs) new v zero at = inl at
get_elem-push (x ∷ xs) new v (suc j) at = ⊎_elim (λ there. inl there) (λ last. inr (ap suc last.0, last.1)) (get_elem-push xs new v j at)

pub each_view-push : (P Q : ℕ → View → Type 0) (views : List View) (new : View) → EachView P views → Q (length views) new
    → ((j : ℕ) (v : View) → get_elem? views j ≡ some v → P j v → Q j v) → EachView Q (views ++ new ∷ [])
each_view-push P Q views new all mine others j v at = ⊎_elim (λ there. others j v there (all j v there))
    (λ (last : (j ≡ length views) × (new ≡ v)). subst (λ (x : ℕ × View). Q x.0 x.1) (λ i. (sym last.0 i, last.1 i)) mine) (get_elem-push views new v j at)

pub each_pair-push : (R : ℕ → View → ℕ → View → Type 0) (views : List View) (new : View) → EachPair R views → R (length views) new (length views) new
    → ((j : ℕ) (z : View) → get_elem? views j ≡ some z → R (length views) new j z × R j z (length views) new) → EachPair R (views ++ new ∷ [])
each_pair-push R views new all alone others =
    each_view-push (λ seat view. EachView (R seat view) views) (λ seat view. EachView (R seat view) (views ++ new ∷ [])) views new all
    (each_view-push (λ _ _. Unit {0}) (R (length views) new) views new (λ _ _ _. tt) alone (λ j z there _. (others j z there).0))
    (λ i y here each. each_view-push (R i y) (R i y) views new each (others i y here).1 (λ _ _ _ r. r))

-- what is counted changes by what the two views count
pub count-set : (test : View → Bool) (views : List View) (me : ℕ) (v new : View) → get_elem? views me ≡ some v
    → count_by test (set views me new) + cond (test v) 1 0 ≡ count_by test views + cond (test new) 1 0
count-set test views me v new at = ap (λ (x : View). count_by test (set views me new) + cond (test x) 1 0) (sym (get_elem-get_or_nobody views me v at))
    ∙ sum_by-set (λ x. cond (test x) 1 0) views me new nobody (get_elem-below_length views me v at)
