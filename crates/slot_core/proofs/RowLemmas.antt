-- The row of an actor, by its index.
use Rattle.std.proofs.Common.{◌≡◌, ℕ, ◌<◌, cond, true, false, List, [], ◌∷◌, ◌++◌, length, get_or, set, Some, zero, suc, refl, sym, ap, ◌∙◌, arith}
use Rattle.std.specs.List.{AllByRecursion, position, remove}
use Rattle.std.proofs.lemmas.List.Quantifiers.{position-Some}
use Rattle.std.proofs.lemmas.List.Recursion.{found_at}
use Rattle.slot_core.specs.State.{Task, nothing, Hand, Member, Group, row_of, task_of, with_task, group_at, without}
use Rattle.slot_core.specs.Rows.{is_row_of}
use Rattle.slot_core.specs.Members.{is_of}

-- an actor with a row
pub task_of-at : (actor : ℕ) (hands : List Hand) (i : ℕ) (d : Hand) → position (is_row_of actor) hands ≡ Some i → task_of actor hands ≡ (get_or hands i d).task
task_of-at actor hands i d is = let at = position-Some (is_row_of actor) hands i d is in
    found_at (task_of actor) (is_row_of actor) (λ (h : Hand). h.task) nothing refl (λ _ _. refl) hands i d at.0 at.2 at.1

with_task-index : (actor : ℕ) (task : Task) (hands : List Hand) (i : ℕ) (d : Hand) → i < length hands → is_row_of actor (get_or hands i d) ≡ true →
    ((k : ℕ) → k < i → is_row_of actor (get_or hands k d) ≡ false) → with_task actor task hands ≡ set hands i (row_of actor task)
with_task-index actor task [] i d within is before = absurd (omega (arith, within))
with_task-index actor task (h ∷ hands) zero d within is before = ap (λ b. cond b (row_of actor task ∷ hands) (h ∷ with_task actor task hands)) is
with_task-index actor task (h ∷ hands) (suc i) d within is before =
    ap (λ b. cond b (row_of actor task ∷ hands) (h ∷ with_task actor task hands)) (before zero (omega arith))
    ∙ ap (λ l. h ∷ l) (with_task-index actor task hands i d (omega (arith, within)) is (λ k below. before (suc k) (omega (arith, below))))

pub with_task-at : (actor : ℕ) (task : Task) (hands : List Hand) (i : ℕ) → position (is_row_of actor) hands ≡ Some i → with_task actor task hands ≡ set hands i (row_of actor task)
with_task-at actor task hands i is = let at = position-Some (is_row_of actor) hands i (row_of actor task) is in
    with_task-index actor task hands i (row_of actor task) at.0 at.1 at.2

-- the actor's row is written over
pub set_row-with_task : (actor : ℕ) (task : Task) (hands : List Hand) (i : ℕ) (row : Hand) → row ≡ row_of actor task
    → position (is_row_of actor) hands ≡ Some i → set hands i row ≡ with_task actor task hands
set_row-with_task actor task hands i row new at = ap (set hands i) new ∙ sym (with_task-at actor task hands i at)

-- an actor with no row
pub task_of-absent : (actor : ℕ) (hands : List Hand) → AllByRecursion (λ h. is_row_of actor h ≡ false) hands → task_of actor hands ≡ nothing
task_of-absent actor [] all = refl
task_of-absent actor (h ∷ hands) all = ap (λ b. cond b h.task (task_of actor hands)) all.0 ∙ task_of-absent actor hands all.1

pub with_task-absent : (actor : ℕ) (task : Task) (hands : List Hand) → AllByRecursion (λ h. is_row_of actor h ≡ false) hands → with_task actor task hands ≡ hands ++ row_of actor task ∷ []
with_task-absent actor task [] all = refl
with_task-absent actor task (h ∷ hands) all =
    ap (λ b. cond b (row_of actor task ∷ hands) (h ∷ with_task actor task hands)) all.0 ∙ ap (λ l. h ∷ l) (with_task-absent actor task hands all.1)

-- a member, by the index of its entry
without-index : (actor : ℕ) (ms : List Member) (i : ℕ) (d : Member) → i < length ms → is_of actor (get_or ms i d) ≡ true → ((k : ℕ) → k < i
    → is_of actor (get_or ms k d) ≡ false) → without actor ms ≡ remove ms i
without-index actor [] i d within is before = absurd (omega (arith, within))
without-index actor (m ∷ ms) zero d within is before = ap (λ b. cond b ms (m ∷ without actor ms)) is
without-index actor (m ∷ ms) (suc i) d within is before =
    ap (λ b. cond b ms (m ∷ without actor ms)) (before zero (omega arith))
    ∙ ap (λ l. m ∷ l) (without-index actor ms i d (omega (arith, within)) is (λ k below. before (suc k) (omega (arith, below))))

pub without-at : (actor : ℕ) (ms : List Member) (i : ℕ) (d : Member) → position (is_of actor) ms ≡ Some i → without actor ms ≡ remove ms i
without-at actor ms i d is = let at = position-Some (is_of actor) ms i d is in without-index actor ms i d at.0 at.1 at.2

pub without-absent : (actor : ℕ) (ms : List Member) → AllByRecursion (λ m. is_of actor m ≡ false) ms → without actor ms ≡ ms
without-absent actor [] all = refl
without-absent actor (m ∷ ms) all = ap (λ b. cond b ms (m ∷ without actor ms)) all.0 ∙ ap (λ l. m ∷ l) (without-absent actor ms all.1)

-- what is read at a slot of the machine's is its group
pub group-read : (groups : List Group) (k : ℕ) (d : Group) → k < length groups → get_or groups k d ≡ group_at k groups
group-read [] k d within = absurd (omega (arith, within))
group-read (g ∷ groups) zero d within = refl
group-read (g ∷ groups) (suc k) d within = group-read groups k d (omega (arith, within))
