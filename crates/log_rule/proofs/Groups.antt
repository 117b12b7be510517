-- One group changes: what the others are, what its members see of it, and what the machine is shown.
use Rattle.std.proofs.Common.{◌≡◌, ◌≢◌, ⊎_elim, inl, inr, ℕ, zero, suc, ◌+◌, ◌<◌, ◌==◌, cond, Bool, true, false, List, [], ◌∷◌, map, set, sym, refl, ap, ◌∙◌, subst, arith, eq-eqb, eqb-true, ne_eqb}
use Rattle.std.specs.List.{AllByRecursion}
use mathlib.Core.Logic.{dite}
use mathlib.Core.Option.{some, some-injective}
use native.Mathlib.Decide.{ℕ_discrete}
use lib.ListN.{get_elem?}
use Rattle.slot_core.specs.State.{group_at}
use Rattle.lsn_space.proofs.TilingLemmas.{all-both}
use Rattle.log_rule.specs.declared.group_view.MemberStep.{MemberStep}
use Rattle.log_rule.specs.declared.group_view.MemberStep.TheVariants.{Closes, Waits, Hears, Places, Stores, Tells, Fills, Leaves}
use Rattle.log_rule.specs.declared.view.Books.{Books}
use Rattle.log_rule.specs.declared.view.Call.{Call}
use Rattle.log_rule.specs.declared.view.Call.TheVariants.{Idle, Filling, Joined, Emptying, Marked, Holding, Raising, Reopening}
use Rattle.log_rule.specs.Events.{group_shown, groups_from}
use Rattle.log_rule.specs.Groups.{Outcome, GroupPhase, Vacant, Gathering, Closed, Placed, Ready, Told, Emptied, Piece, Member, Group, put_group}
use Rattle.log_rule.specs.GroupViews.{unheard_entry, unheard_books, member_entry, member_books}
use Rattle.log_rule.specs.Log.{LogRange, Shared, claim_of, IsSharedByMembers, IsAtWork}
use Rattle.log_rule.specs.Slots.{own_pieces, pieces_at, is_led_by, known_phase, led_phase, phase_led, phase_at, KnowsPhase, KnowsGroup, is_shared_at}
use Rattle.log_rule.specs.Slots.{shares, shared, range_of, sum_of, HasRemaining, IsAtPhase}
use Rattle.log_rule.specs.Views.{entries_in, books_in}

-- ---- the groups but one

pub put_group-at : (groups : ℕ → Group) (slot : ℕ) (g : Group) → put_group groups slot g slot ≡ g
put_group-at groups slot g = ap (λ b. cond b g (groups slot)) (eq-eqb slot slot refl)

pub put_group-at_equal : (groups : ℕ → Group) (slot other : ℕ) (g : Group) → other ≡ slot → put_group groups slot g other ≡ g
put_group-at_equal groups slot other g same = ap (λ b. cond b g (groups other)) (eq-eqb other slot same)

pub put_group-other : (groups : ℕ → Group) (slot other : ℕ) (g : Group) → other ≢ slot → put_group groups slot g other ≡ groups other
put_group-other groups slot other g differ = ap (λ b. cond b g (groups other)) (ne_eqb other slot differ)

-- what holds of the one and of all others
pub put_group-all : (P : Group → Type 0) (groups : ℕ → Group) (slot other : ℕ) (g : Group) → (other ≡ slot → P g) → P (groups other) → P (put_group groups slot g other)
put_group-all P groups slot other g here there = by_test (other == slot) refl
  where
    by_test : (b : Bool) → (other == slot) ≡ b → P (cond b g (groups other))
    by_test true is = here (eqb-true other slot is)
    by_test false is = there

-- ---- members of a group whose phase changes

-- what the change leaves to a member at this step
pub record Keeps (old new : GroupPhase) (piece : Piece) (step : MemberStep) : Type 0 where
  pub entry : member_entry new piece step ≡ member_entry old piece step
  pub books : (books : Books) → member_books new piece step books ≡ member_books old piece step books
  pub knows : KnowsPhase step old → KnowsPhase step new

-- the change places no record, and takes none back
pub record SameUnheard (old new : GroupPhase) : Type 0 where
  pub entry : (piece : Piece) → unheard_entry new piece ≡ unheard_entry old piece
  pub books : (piece : Piece) (books : Books) → unheard_books new piece books ≡ unheard_books old piece books

pub same_unheard-keeps : (old new : GroupPhase) → SameUnheard old new → ((step : MemberStep) → KnowsPhase step old → KnowsPhase step new)
    → (piece : Piece) (step : MemberStep) → Keeps old new piece step
same_unheard-keeps old new same knows piece Closes = record { entry = same.entry piece; books = same.books piece; knows = knows Closes }
same_unheard-keeps old new same knows piece Waits = record { entry = same.entry piece; books = same.books piece; knows = knows Waits }
same_unheard-keeps old new same knows piece (Hears refused total) = record { entry = same.entry piece; books = same.books piece; knows = knows (Hears refused total) }
same_unheard-keeps old new same knows piece (Places total closed) = record { entry = same.entry piece; books = same.books piece; knows = knows (Places total closed) }
same_unheard-keeps old new same knows piece (Stores total base) = record { entry = same.entry piece; books = same.books piece; knows = knows (Stores total base) }
same_unheard-keeps old new same knows piece (Tells total outcome) = record { entry = same.entry piece; books = same.books piece; knows = knows (Tells total outcome) }
same_unheard-keeps old new same knows piece (Fills base units) = record { entry = refl; books = λ _. refl; knows = knows (Fills base units) }
same_unheard-keeps old new same knows piece (Leaves tail durable) = record { entry = refl; books = λ _. refl; knows = knows (Leaves tail durable) }

-- a group at this phase is not told
abbrev pub IsUntold : GroupPhase → Type 0
IsUntold phase = (total : ℕ) (outcome : Outcome) (remaining : ℕ) → phase ≡ Told total outcome remaining → ⊥

pub untold-knows_any_phase : (old new : GroupPhase) → IsUntold old → (step : MemberStep) → KnowsPhase step old → KnowsPhase step new
untold-knows_any_phase old new untold Closes known = tt
untold-knows_any_phase old new untold Waits known = tt
untold-knows_any_phase old new untold (Hears refused total) known = absurd (untold total known.outcome known.remaining known.told)
untold-knows_any_phase old new untold (Places total closed) known = tt
untold-knows_any_phase old new untold (Stores total base) known = tt
untold-knows_any_phase old new untold (Tells total outcome) known = tt
untold-knows_any_phase old new untold (Fills base units) known = absurd (untold known.total _ known.remaining known.told)
untold-knows_any_phase old new untold (Leaves tail durable) known = absurd (untold known.total _ known.remaining known.told)

pub untold-vacant : IsUntold Vacant
untold-vacant total outcome remaining is = cc

pub untold-gathering : (leader units : ℕ) → IsUntold (Gathering leader units)
untold-gathering leader units total outcome remaining is = cc

pub untold-closed : (leader units : ℕ) → IsUntold (Closed leader units)
untold-closed leader units total outcome remaining is = cc

pub untold-placed : (leader units : ℕ) (o : Outcome) → IsUntold (Placed leader units o)
untold-placed leader units o total outcome remaining is = cc

pub untold-ready : (leader units : ℕ) (o : Outcome) → IsUntold (Ready leader units o)
untold-ready leader units o total outcome remaining is = cc

-- what the seat knows of the phase that it leads is so
pub led_phase-known_phase : (seat : ℕ) (p q : GroupPhase) → led_phase seat p ≡ q ∷ [] → known_phase p ≡ q
led_phase-known_phase seat p q is = by_test (is_led_by seat p) is
  where
    by_test : (b : Bool) → cond b (known_phase p ∷ []) [] ≡ q ∷ [] → known_phase p ≡ q
    by_test true is = cc
    by_test false is = absurd (cc)

-- but for a group that gathers, it knows all of it
abbrev pub IsWhole : GroupPhase → Type 0
IsWhole Vacant = Unit {0}
IsWhole (Gathering leader total) = ⊥
IsWhole (Closed leader total) = Unit {0}
IsWhole (Placed leader total outcome) = Unit {0}
IsWhole (Ready leader total outcome) = Unit {0}
IsWhole (Told total outcome remaining) = Unit {0}
IsWhole (Emptied last) = Unit {0}

pub known_phase-equal_if_whole : (p q : GroupPhase) → known_phase p ≡ q → IsWhole q → p ≡ q
known_phase-equal_if_whole Vacant q is whole = is
known_phase-equal_if_whole (Gathering leader total) q is whole = absurd (subst IsWhole (sym is) whole)
known_phase-equal_if_whole (Closed leader total) q is whole = is
known_phase-equal_if_whole (Placed leader total outcome) q is whole = is
known_phase-equal_if_whole (Ready leader total outcome) q is whole = is
known_phase-equal_if_whole (Told total outcome remaining) q is whole = is
known_phase-equal_if_whole (Emptied last) q is whole = is

-- what another seat sees of the change
pub record Others (old g : Group) (seat : ℕ) : Type 0 where
  pub joins : own_pieces seat g.members ≡ own_pieces seat old.members
  pub leads : led_phase seat g.phase ≡ led_phase seat old.phase
  pub keep : (piece : Piece) (step : MemberStep) → own_pieces seat old.members ≡ piece ∷ [] → led_phase seat old.phase ≡ phase_led seat step
      → Keeps old.phase g.phase piece step

-- its call has what it had
pub record HasAsBefore (groups after : ℕ → Group) (call : Call) : Type 0 where
  pub entries : entries_in after call ≡ entries_in groups call
  pub books : (books : Books) → books_in after call books ≡ books_in groups call books
  pub knows : KnowsGroup groups call → KnowsGroup after call

module _ (groups : ℕ → Group) (slot : ℕ) (g : Group) (seat : ℕ) (o : Others (groups slot) g seat) where
  abbrev after : ℕ → Group
  after = put_group groups slot g

  member-as-before : (other : ℕ) (piece : Piece) (step : MemberStep) → ((q : ℕ) → own_pieces seat (groups q).members ≡ pieces_at q (Joined other piece step))
      → ((q : ℕ) → led_phase seat (groups q).phase ≡ phase_at seat q (Joined other piece step)) → HasAsBefore groups after (Joined other piece step)
  member-as-before other piece step joins leads = dite (ℕ_discrete other slot)
      (λ same.
      let here : (after other).phase ≡ g.phase = ap (λ (x : Group). x.phase) (put_group-at_equal groups slot other g same) in
      let old : (groups other).phase ≡ (groups slot).phase = ap (λ n. (groups n).phase) same in
      let k : Keeps (groups slot).phase g.phase piece step =
      o.keep piece step (joins slot ∙ ap (λ b. cond {A = List Piece} b (piece ∷ []) []) (eq-eqb other slot same))
      (leads slot ∙ ap (λ b. cond {A = List GroupPhase} b (phase_led seat step) []) (eq-eqb other slot same)) in record {
        entries = ap (λ p. member_entry p piece step) here ∙ (k.entry ∙ ap (λ p. member_entry p piece step) (sym old));
        books = λ books. ap (λ p. member_books p piece step books) here ∙ (k.books books ∙ ap (λ p. member_books p piece step books) (sym old));
        knows = λ known. subst (KnowsPhase step) (sym here) (k.knows (subst (KnowsPhase step) old known));
      })
      (λ differ. let there : after other ≡ groups other = put_group-other groups slot other g differ in record {
        entries = ap (λ (x : Group). member_entry x.phase piece step) there;
        books = λ books. ap (λ (x : Group). member_books x.phase piece step books) there;
        knows = subst (λ (x : Group). KnowsPhase step x.phase) (sym there);
      })

  pub as-before : (call : Call) → ((q : ℕ) → own_pieces seat (groups q).members ≡ pieces_at q call)
      → ((q : ℕ) → led_phase seat (groups q).phase ≡ phase_at seat q call) → HasAsBefore groups after call
  as-before Idle joins leads = record { entries = refl; books = λ _. refl; knows = λ known. known }
  as-before (Filling entry) joins leads = record { entries = refl; books = λ _. refl; knows = λ known. known }
  as-before (Joined other piece step) joins leads = member-as-before other piece step joins leads
  as-before (Emptying other base total) joins leads = record { entries = refl; books = λ _. refl; knows = λ known. known }
  as-before (Marked next) joins leads = record { entries = refl; books = λ _. refl; knows = λ known. known }
  as-before (Holding at next) joins leads = record { entries = refl; books = λ _. refl; knows = λ known. known }
  as-before (Raising from to next) joins leads = record { entries = refl; books = λ _. refl; knows = λ known. known }
  as-before (Reopening other) joins leads = record { entries = refl; books = λ _. refl; knows = λ known. known }

-- ---- a shared range has members

some-left : (most total remaining : ℕ) (members : List Member) → HasRemaining most total remaining members → members ≢ []
some-left most total remaining members h none =
    let zero' : sum_of members ≡ 0 = ap sum_of none in let sum = h.sum in let some_units = h.some_units in omega arith

pub range_of-some_members : (most word base : ℕ) (members : List Member) (phase : GroupPhase) → IsAtPhase most word base members phase → range_of phase ≢ []
    → members ≢ []
range_of-some_members most word base members Vacant is some_range = absurd (some_range refl)
range_of-some_members most word base members (Gathering leader total) is some_range = absurd (some_range refl)
range_of-some_members most word base members (Closed leader total) is some_range = absurd (some_range refl)
range_of-some_members most word base members (Placed leader total outcome) is some_range = some-left most total total members is.remains
range_of-some_members most word base members (Ready leader total outcome) is some_range = some-left most total total members is.remains
range_of-some_members most word base members (Told total outcome remaining) is some_range = some-left most total remaining members is.remains
range_of-some_members most word base members (Emptied last) is some_range = absurd (some_range refl)

each-shared : (slot : ℕ) (ranges : List LogRange) (Q : Type 0) → (shared slot ranges ≢ [] → Q) → AllByRecursion (λ (r : LogRange). r.duty ≡ Shared slot → Q) ranges
each-shared slot [] Q some_shared = tt
each-shared slot (r ∷ rs) Q some_shared = (
  λ duty. some_shared (here duty),
  each-shared slot rs Q (λ more. some_shared (λ none. more (behind (shares slot r) none))),
)
  where
    here : r.duty ≡ Shared slot → cond (shares slot r) (claim_of r ∷ shared slot rs) (shared slot rs) ≡ [] → ⊥
    here duty none = let one : claim_of r ∷ shared slot rs ≡ [] =
        sym (ap (λ b. cond b (claim_of r ∷ shared slot rs) (shared slot rs)) (ap (is_shared_at slot) duty ∙ eq-eqb slot slot refl)) ∙ none in cc

    behind : (b : Bool) → cond b (claim_of r ∷ shared slot rs) (shared slot rs) ≡ [] → shared slot rs ≡ []
    behind true none = absurd (cc)
    behind false none = none

pub at_work-put_group : (groups : ℕ → Group) (slot : ℕ) (g : Group) (ahead : List LogRange) → (shared slot ahead ≢ [] → g.members ≢ [])
    → AllByRecursion (IsAtWork groups) ahead → AllByRecursion (IsAtWork (put_group groups slot g)) ahead
at_work-put_group groups slot g ahead some_members work =
    all-both (IsAtWork groups) (λ (r : LogRange). r.duty ≡ Shared slot → g.members ≢ []) (IsAtWork (put_group groups slot g)) ahead
    (λ r at some_here. ⊎_elim (λ released. inl released)
    (λ owed. inr (⊎_elim (λ by_seat. inl by_seat) (λ by_members. inr (moved r by_members some_here)) owed)) at)
    work (each-shared slot ahead (g.members ≢ []) some_members)
  where
    moved : (r : LogRange) → IsSharedByMembers groups r → (r.duty ≡ Shared slot → g.members ≢ []) → IsSharedByMembers (put_group groups slot g) r
    moved r by some_here = record {
      slot = by.slot;
      duty = by.duty;
      members = dite (ℕ_discrete by.slot slot)
          (λ same. subst (λ (x : Group). x.members ≢ []) (sym (put_group-at_equal groups slot by.slot g same)) (some_here (by.duty ∙ ap Shared same)))
          (λ differ. subst (λ (x : Group). x.members ≢ []) (sym (put_group-other groups slot by.slot g differ)) by.members);
    }

-- ---- one of a list changes, and no other is told otherwise

module _ {A : Type 0} {B : Type 0} (tell tell' : A → B) where
  all-told : (list : List A) → ((j : ℕ) (x : A) → get_elem? list j ≡ some x → tell' x ≡ tell x) → map tell' list ≡ map tell list
  all-told [] same = refl
  all-told (x ∷ xs) same = λ i. same 0 x refl i ∷ all-told xs (λ j y there. same (suc j) y there) i

  pub map-set_agreeing : (list : List A) (me : ℕ) (old new : A) → get_elem? list me ≡ some old → tell' new ≡ tell old
      → ((j : ℕ) (x : A) → j ≢ me → get_elem? list j ≡ some x → tell' x ≡ tell x) → map tell' (set list me new) ≡ map tell list
  map-set_agreeing [] me old new at mine others = refl
  map-set_agreeing (x ∷ xs) zero old new at mine others = let is : x ≡ old = some-injective x old at in
      λ i. (mine ∙ ap tell (sym is)) i ∷ all-told xs (λ j y there. others (suc j) y (λ e. omega arith) there) i
  map-set_agreeing (x ∷ xs) (suc me) old new at mine others =
      λ i. others zero x (λ e. omega arith) refl i ∷ map-set_agreeing xs me old new at mine (λ j y differ there. others (suc j) y (λ e. differ (omega arith)) there) i

-- ---- the groups that the machine is shown

shown-before : (first count at : ℕ) (groups : ℕ → Group) (g : Group) → at < first
    → groups_from first count (put_group groups at g) ≡ groups_from first count groups
shown-before first zero at groups g before = refl
shown-before first (suc more) at groups g before =
    λ i. group_shown (put_group-other groups at first g (λ e. omega arith) i) ∷ shown-before (first + 1) more at groups g (omega arith) i

pub groups_from-put_group : (first count slot at : ℕ) (groups : ℕ → Group) (g : Group) → at ≡ first + slot
    → groups_from first count (put_group groups at g) ≡ set (groups_from first count groups) slot (group_shown g)
groups_from-put_group first zero slot at groups g is = refl
groups_from-put_group first (suc more) zero at groups g is =
    λ i. group_shown (put_group-at_equal groups at first g (omega arith) i) ∷ shown-before (first + 1) more at groups g (omega arith) i
groups_from-put_group first (suc more) (suc slot) at groups g is =
    λ i. group_shown (put_group-other groups at first g (λ e. omega arith) i) ∷ groups_from-put_group (first + 1) more slot at groups g (omega arith) i

pub group_at-groups_from : (first count slot at : ℕ) (groups : ℕ → Group) → at ≡ first + slot → slot < count
    → group_at slot (groups_from first count groups) ≡ group_shown (groups at)
group_at-groups_from first zero slot at groups is below = absurd (omega arith)
group_at-groups_from first (suc more) zero at groups is below = let here : first ≡ at = omega arith in ap (λ n. group_shown (groups n)) here
group_at-groups_from first (suc more) (suc slot) at groups is below = group_at-groups_from (first + 1) more slot at groups (omega arith) (omega arith)
