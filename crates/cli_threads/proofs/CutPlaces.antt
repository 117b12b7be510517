-- Of the places that workers took, those of the jobs that were cut off.
use Rattle.std.proofs.Common.{◌≡◌, ◌≤◌, ℕ, zero, suc, List, [], ◌∷◌, ◌++◌, length, map, refl, sym, subst, arith, length-append}
use Rattle.std.specs.List.{AllByRecursion, concat}
use mathlib.Core.Logic.{dite}
use mathlib.Core.Option.{some, some-injective, some-ne-none}
use native.Mathlib.Decide.{dec_lt}
use lib.ListN.{get_elem?}
use Rattle.lock_core.proofs.ListLemmas.{all-split}
use Rattle.job_queue.specs.Takings.{times}
use Rattle.job_queue.proofs.Counting.{times-append}
use Rattle.lsn_space.proofs.TilingLemmas.{all-append}

-- Of the jobs at these places, which so many workers took, those at the places `cut` were cut off, at most one of each worker, and all
-- others ended. Where jobs are left, each worker was cut off.
pub record HasCuts (WasCut Ends : ℕ → Type 0) (left : Type 0) (workers : ℕ) (taken cut : List ℕ) : Type 0 where
  pub most : length cut ≤ workers
  pub just : left → length cut ≡ workers
  pub within : (place : ℕ) → times place cut ≤ times place taken
  pub all_cut : AllByRecursion WasCut cut
  pub ended : (place : ℕ) → 1 ≤ times place taken → times place cut ≡ 0 → Ends place

-- and this one is the first of them
pub record HasFirstCut (WasCut Ends : ℕ → Type 0) (left : Type 0) (workers : ℕ) (taken : List ℕ) (First : ℕ → Type 0) : Type 0 where
  pub cut : ℕ
  pub others : List ℕ
  pub cuts : HasCuts WasCut Ends left workers taken (cut ∷ others)
  pub first : First cut

module _ (WasCut Ends : ℕ → Type 0) (left : Type 0) where
  abbrev Cuts : ℕ → List ℕ → List ℕ → Type 0
  Cuts workers taken cut = HasCuts WasCut Ends left workers taken cut

  cuts-none : Cuts 0 [] []
  cuts-none = record {
    most = omega arith;
    just = λ is. refl;
    within = λ place. omega arith;
    all_cut = tt;
    ended = λ place has none. absurd (omega (arith, has));
  }

  -- of one worker and others
  cuts-joined : (n : ℕ) (xs ys cs ds : List ℕ) → Cuts 1 xs cs → Cuts n ys ds → Cuts (suc n) (xs ++ ys) (cs ++ ds)
  cuts-joined n xs ys cs ds one more = record {
    most = omega (arith, length-append cs ds, one.most, more.most);
    just = λ is. omega (arith, length-append cs ds, one.just is, more.just is);
    within = λ place. omega (arith, times-append place cs ds, times-append place xs ys, one.within place, more.within place);
    all_cut = all-append WasCut cs ds one.all_cut more.all_cut;
    ended = λ place has none.
        let cut = times-append place cs ds in let taken = times-append place xs ys in
        dite (dec_lt 0 (times place xs))
        (λ here. one.ended place here (omega (arith, none, cut)))
        (λ there. more.ended place (omega (arith, has, taken, there)) (omega (arith, none, cut)));
  }

  -- in another order
  cuts-turned : (n x : ℕ) (taken cs ds : List ℕ) → Cuts n taken (cs ++ x ∷ ds) → Cuts n taken (x ∷ (cs ++ ds))
  cuts-turned n x taken cs ds cuts = record {
    most = omega (arith, long, cuts.most);
    just = λ is. omega (arith, long, cuts.just is);
    within = λ place. omega (arith, as-often place, cuts.within place);
    all_cut = let parts = all-split WasCut cs (x ∷ ds) cuts.all_cut in (parts.1.0, all-append WasCut cs ds parts.0 parts.1.1);
    ended = λ place has none. cuts.ended place has (omega (arith, none, as-often place));
  }
    where
      long : length (cs ++ x ∷ ds) ≡ length (x ∷ (cs ++ ds))
      long = omega (arith, length-append cs (x ∷ ds), length-append cs ds)

      as-often : (place : ℕ) → times place (cs ++ x ∷ ds) ≡ times place (x ∷ (cs ++ ds))
      as-often place = omega (arith, times-append place cs (x ∷ ds), times-append place cs ds)

  module _ {A : Type 0} (places_of : A → List ℕ) where
    abbrev EachCuts : List A → Type 0
    EachCuts list = (i : ℕ) (one : A) → get_elem? list i ≡ some one → (own : List ℕ) × Cuts 1 (places_of one) own

    -- of all workers
    cuts-all : (list : List A) → EachCuts list → (cut : List ℕ) × Cuts (length list) (concat (map places_of list)) cut
    cuts-all [] each = ([], cuts-none)
    cuts-all (one ∷ list) each =
        let own = each 0 one refl in
        let rest = cuts-all list (λ i other at. each (suc i) other at) in
        (own.0 ++ rest.0, cuts-joined (length list) (places_of one) (concat (map places_of list)) own.0 rest.0 own.1 rest.1)

    -- that of one worker first
    pub EachCuts-has_first_cut : (First : ℕ → Type 0) (list : List A) → EachCuts list → (i : ℕ) (one : A) → get_elem? list i ≡ some one
        → (x : ℕ) → Cuts 1 (places_of one) (x ∷ []) → First x
        → HasFirstCut WasCut Ends left (length list) (concat (map places_of list)) First
    EachCuts-has_first_cut First [] each i one at x own first = absurd (some-ne-none one (sym at))
    EachCuts-has_first_cut First (other ∷ list) each zero one at x own first =
        let rest = cuts-all list (λ i another at. each (suc i) another at) in
        let here : Cuts 1 (places_of other) (x ∷ []) = subst (λ a. Cuts 1 (places_of a) (x ∷ [])) (sym (some-injective other one at)) own in
        record {
          cut = x;
          others = rest.0;
          cuts = cuts-joined (length list) (places_of other) (concat (map places_of list)) (x ∷ []) rest.0 here rest.1;
          first = first;
        }
    EachCuts-has_first_cut First (other ∷ list) each (suc i) one at x own first =
        let before = each 0 other refl in
        let rest = EachCuts-has_first_cut First list (λ i another at. each (suc i) another at) i one at x own first in
        let more = concat (map places_of list) in
        record {
          cut = rest.cut;
          others = before.0 ++ rest.others;
          cuts = cuts-turned (suc (length list)) rest.cut (places_of other ++ more) before.0 rest.others
              (cuts-joined (length list) (places_of other) more before.0 (rest.cut ∷ rest.others) before.1 rest.cuts);
          first = rest.first;
        }
