-- The row of an actor, by its index.
use Rattle.std.proofs.Common.{◌≡◌, ℕ, ◌<◌, cond, true, false, List, [], ◌∷◌, ◌++◌, length, get_or, set, Some, zero, suc, refl, ap, ◌∙◌, arith}
use Rattle.std.specs.List.{AllByRecursion, position}
use Rattle.std.proofs.lemmas.List.Quantifiers.{position-Some}
use Rattle.std.proofs.lemmas.List.Recursion.{found_at}
use Rattle.ring_core.specs.State.{Stage, Idle, Hand, row_of, stage_of, with_stage}
use Rattle.ring_core.specs.Rows.{is_of}

-- an actor with a row
pub stage_of-at : (actor : ℕ) (hands : List Hand) (i : ℕ) (d : Hand) → position (is_of actor) hands ≡ Some i → stage_of actor hands ≡ (get_or hands i d).stage
stage_of-at actor hands i d is = let at = position-Some (is_of actor) hands i d is in
    found_at (stage_of actor) (is_of actor) (λ (h : Hand). h.stage) Idle refl (λ _ _. refl) hands i d at.0 at.2 at.1

with_stage-index : (actor : ℕ) (stage : Stage) (hands : List Hand) (i : ℕ) (d : Hand) → i < length hands → is_of actor (get_or hands i d) ≡ true →
    ((k : ℕ) → k < i → is_of actor (get_or hands k d) ≡ false) → with_stage actor stage hands ≡ set hands i (row_of actor stage)
with_stage-index actor stage [] i d within is before = absurd (omega (arith, within))
with_stage-index actor stage (hand ∷ hands) zero d within is before = ap (λ b. cond b (row_of actor stage ∷ hands) (hand ∷ with_stage actor stage hands)) is
with_stage-index actor stage (hand ∷ hands) (suc i) d within is before =
    ap (λ b. cond b (row_of actor stage ∷ hands) (hand ∷ with_stage actor stage hands)) (before zero (omega arith))
    ∙ ap (λ l. hand ∷ l) (with_stage-index actor stage hands i d (omega (arith, within)) is (λ k below. before (suc k) (omega (arith, below))))

pub with_stage-at : (actor : ℕ) (stage : Stage) (hands : List Hand) (i : ℕ) → position (is_of actor) hands ≡ Some i → with_stage actor stage hands ≡ set hands i (row_of actor stage)
with_stage-at actor stage hands i is = let at = position-Some (is_of actor) hands i (row_of actor stage) is in
    with_stage-index actor stage hands i (row_of actor stage) at.0 at.1 at.2

-- an actor with no row
pub stage_of-absent : (actor : ℕ) (hands : List Hand) → AllByRecursion (λ h. is_of actor h ≡ false) hands → stage_of actor hands ≡ Idle
stage_of-absent actor [] all = refl
stage_of-absent actor (hand ∷ hands) all = ap (λ b. cond b hand.stage (stage_of actor hands)) all.0 ∙ stage_of-absent actor hands all.1

pub with_stage-absent : (actor : ℕ) (stage : Stage) (hands : List Hand) → AllByRecursion (λ h. is_of actor h ≡ false) hands → with_stage actor stage hands ≡ hands ++ row_of actor stage ∷ []
with_stage-absent actor stage [] all = refl
with_stage-absent actor stage (hand ∷ hands) all =
    ap (λ b. cond b (row_of actor stage ∷ hands) (hand ∷ with_stage actor stage hands)) all.0 ∙ ap (λ l. hand ∷ l) (with_stage-absent actor stage hands all.1)
