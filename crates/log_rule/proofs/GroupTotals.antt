-- A group that gathers has a total of at most a member's size and 26 units for each further worker that was made.
use Rattle.std.proofs.Common.{◌≡◌, ◌≢◌, ◌⊎◌, inl, inr, ⊎_elim, ℕ, ◌==◌, ◌+◌, ◌*◌, ◌/◌, ◌≤◌, ◌||◌, zero, suc, eqb, cond, Bool, true, false, true≢false}
use Rattle.std.proofs.Common.{List, [], ◌∷◌, length, map, get_or, sym, refl, ap, ◌∙◌, subst, arith, eqb-true, eq-eqb}
use Rattle.std.specs.List.{AllByRecursion, list_any}
use mathlib.Core.Option.{some}
use lib.ListN.{get_elem?}
use Rattle.atomic_table.proofs.Lists.{at_map}
use Rattle.log_record.proofs.BoundLemmas.{length-spelling}
use Rattle.lsn_space.proofs.TilingLemmas.{all-weaken, all-both}
use Rattle.log_rule.specs.declared.group_view.MemberStep.{MemberStep}
use Rattle.log_rule.specs.declared.group_view.MemberStep.TheVariants.{Closes, Waits, Hears, Places, Stores, Tells, Fills, Leaves}
use Rattle.log_rule.specs.declared.start.Start.{Start}
use Rattle.log_rule.specs.declared.view.Books.{Books}
use Rattle.log_rule.specs.declared.view.Call.{Call}
use Rattle.log_rule.specs.declared.view.Call.TheVariants.{Idle, Filling, Joined, Emptying, Marked, Holding, Raising, Reopening}
use Rattle.log_rule.specs.declared.view.Role.TheVariants.{Flusher, Active}
use Rattle.log_rule.specs.declared.view.View.{View}
use Rattle.log_rule.specs.Groups.{GroupPhase, Gathering, Piece, Member}
use Rattle.log_rule.specs.GroupViews.{member_books}
use Rattle.log_rule.specs.Log.{Log}
use Rattle.log_rule.specs.Members.{IsForNextRecord, AwaitsAtStep, AwaitsPlace, IsTotalOf, IsTotalOfEach}
use Rattle.log_rule.specs.Roles.{is_worker}
use Rattle.log_rule.specs.Slots.{own_pieces, pieces_at, KnowsPhase, KnowsGroup, sum_of, HasJoined}
use Rattle.log_rule.specs.Sound.{Knows, IsSound, base_of, books_of}
use Rattle.log_rule.specs.Views.{nobody, books_in}
use Rattle.log_rule.specs.Words.{Words}
use Rattle.log_rule.proofs.Entering.{enters-spellable}
use Rattle.log_rule.proofs.Groups.{IsUntold, untold-gathering}
use Rattle.log_rule.proofs.SlotLeading.{is_active-role_active}
use Rattle.log_rule.proofs.SlotStoring.{pieces_tile-sum_within}

-- ---- members are seats apart, each with its one piece

-- no two of the members are of one seat
abbrev AreApart : List Member → Type 0
AreApart [] = Unit {0}
AreApart (m ∷ ms) = AllByRecursion (λ (k : Member). k.seat ≢ m.seat) ms × AreApart ms

none-own : (seat : ℕ) (ms : List Member) → own_pieces seat ms ≡ [] → AllByRecursion (λ (k : Member). k.seat ≢ seat) ms
none-own seat [] none = tt
none-own seat (m ∷ ms) none = by_test (m.seat == seat) refl none (none-own seat ms)
  where
    by_test : (b : Bool) → (m.seat == seat) ≡ b → cond b (m.piece ∷ own_pieces seat ms) (own_pieces seat ms) ≡ []
        → (own_pieces seat ms ≡ [] → AllByRecursion (λ (k : Member). k.seat ≢ seat) ms) → AllByRecursion (λ (k : Member). k.seat ≢ seat) (m ∷ ms)
    by_test true is none rest = absurd (cc)
    by_test false is none rest = ((λ same. true≢false (sym (eq-eqb m.seat seat same) ∙ is)), rest none)

-- the piece alone, where there is one
abbrev IsFew : List Piece → Type 0
IsFew pieces = (pieces ≡ []) ⊎ ((piece : Piece) × (pieces ≡ piece ∷ []))

few-at : (slot : ℕ) (call : Call) → IsFew (pieces_at slot call)
few-at slot Idle = inl refl
few-at slot (Filling entry) = inl refl
few-at slot (Joined other piece step) = by_slot (other == slot)
  where
    by_slot : (b : Bool) → IsFew (cond b (piece ∷ []) [])
    by_slot true = inr (piece, refl)
    by_slot false = inl refl
few-at slot (Emptying other base total) = inl refl
few-at slot (Marked after) = inl refl
few-at slot (Holding at after) = inl refl
few-at slot (Raising from to after) = inl refl
few-at slot (Reopening other) = inl refl

module _ (pieces : ℕ → List Piece) (few : (seat : ℕ) → IsFew (pieces seat)) where
  abbrev HasOwn : List Member → Type 0
  HasOwn ms = (seat : ℕ) → (own_pieces seat ms ≡ []) ⊎ (own_pieces seat ms ≡ pieces seat)

  -- the first has its seat's piece, and none behind it has one
  first-own : (m : Member) (ms : List Member) → HasOwn (m ∷ ms) → (own_pieces m.seat ms ≡ []) × (pieces m.seat ≡ m.piece ∷ [])
  first-own m ms own = ⊎_elim
      (λ none. let no : m.piece ∷ own_pieces m.seat ms ≡ [] = sym here ∙ none in absurd (cc))
      (λ is. ⊎_elim
      (λ none. let no : m.piece ∷ own_pieces m.seat ms ≡ [] = sym here ∙ (is ∙ none) in absurd (cc))
      (λ (one : (piece : Piece) × (pieces m.seat ≡ piece ∷ [])). let both : m.piece ∷ own_pieces m.seat ms ≡ one.0 ∷ [] = sym here ∙ (is ∙ one.1) in
      let none : own_pieces m.seat ms ≡ [] = cc in (none, sym (sym here ∙ is) ∙ ap (λ l. m.piece ∷ l) none))
      (few m.seat)) (own m.seat)
    where
      here : own_pieces m.seat (m ∷ ms) ≡ m.piece ∷ own_pieces m.seat ms
      here = ap (λ b. cond b (m.piece ∷ own_pieces m.seat ms) (own_pieces m.seat ms)) (eq-eqb m.seat m.seat refl)

  own-once : (ms : List Member) → HasOwn ms → AreApart ms × AllByRecursion (λ (m : Member). pieces m.seat ≡ m.piece ∷ []) ms
  own-once [] own = (tt, tt)
  own-once (m ∷ ms) own = let first = first-own m ms own in let more = own-once ms (λ seat. rest seat first.0 (m.seat == seat) refl (own seat)) in
      ((none-own m.seat ms first.0, more.0), (first.1, more.1))
    where
      rest : (seat : ℕ) → own_pieces m.seat ms ≡ [] → (b : Bool) → (m.seat == seat) ≡ b
          → (cond b (m.piece ∷ own_pieces seat ms) (own_pieces seat ms) ≡ []) ⊎ (cond b (m.piece ∷ own_pieces seat ms) (own_pieces seat ms) ≡ pieces seat)
          → (own_pieces seat ms ≡ []) ⊎ (own_pieces seat ms ≡ pieces seat)
      rest seat none true is old = inl (subst (λ n. own_pieces n ms ≡ []) (eqb-true m.seat seat is) none)
      rest seat none false is old = old

-- ---- as many members as workers were made, at most

-- the numbers without the first that is this one
abbrev without : ℕ → List ℕ → List ℕ
without n [] = []
without n (x ∷ xs) = cond (eqb n x) xs (x ∷ without n xs)

without-length : (n : ℕ) (made : List ℕ) → Knows n made → length (without n made) + 1 ≡ length made
without-length n [] known = absurd (true≢false (sym known))
without-length n (x ∷ xs) known = by_test (without-length n xs) (eqb n x) known
  where
    by_test : (Knows n xs → length (without n xs) + 1 ≡ length xs) → (b : Bool) → (b || list_any (eqb n) xs) ≡ true
        → length (cond b xs (x ∷ without n xs)) + 1 ≡ length (x ∷ xs)
    by_test f true k = omega arith
    by_test f false k = let rest = f k in omega (arith, rest)

without-knows : (n k : ℕ) (made : List ℕ) → k ≢ n → Knows k made → Knows k (without n made)
without-knows n k [] differ known = known
without-knows n k (x ∷ xs) differ known = by_test (without-knows n k xs differ) (eqb n x) refl (eqb k x) refl known
  where
    by_test : (Knows k xs → Knows k (without n xs)) → (b : Bool) → eqb n x ≡ b → (c : Bool) → eqb k x ≡ c → (c || list_any (eqb k) xs) ≡ true
        → Knows k (cond b xs (x ∷ without n xs))
    by_test f true is true same both = absurd (differ (eqb-true k x same ∙ sym (eqb-true n x is)))
    by_test f true is false same both = both
    by_test f false is true same both = ap (λ b. b || list_any (eqb k) (without n xs)) same
    by_test f false is false same both = ap (λ b. b || list_any (eqb k) (without n xs)) same ∙ f both

module _ (number : ℕ → ℕ) where
  -- no two of the members are of one worker
  abbrev AreOfOthers : List Member → Type 0
  AreOfOthers [] = Unit {0}
  AreOfOthers (m ∷ ms) = AllByRecursion (λ (k : Member). number k.seat ≢ number m.seat) ms × AreOfOthers ms

  -- each of them is of a worker that was made
  abbrev AreMade : List ℕ → List Member → Type 0
  AreMade made ms = AllByRecursion (λ (k : Member). Knows (number k.seat) made) ms

  members-fit : (ms : List Member) (made : List ℕ) → AreOfOthers ms → AreMade made ms → length ms ≤ length made
  members-fit [] made apart known = omega arith
  members-fit (m ∷ ms) made apart known =
      let left = all-both (λ (k : Member). number k.seat ≢ number m.seat) (λ (k : Member). Knows (number k.seat) made)
      (λ (k : Member). Knows (number k.seat) (without (number m.seat) made)) ms
      (λ k differ is. without-knows (number m.seat) (number k.seat) made differ is) apart.0 known.1 in
      let rest = members-fit ms (without (number m.seat) made) apart.1 left in
      let one = without-length (number m.seat) made known.0 in omega (arith, rest, one)

-- ---- no size is above 26

abbrev AreShort : List Member → Type 0
AreShort ms = AllByRecursion (λ (k : Member). k.piece.size ≤ 26) ms

sum-least : (ms : List Member) → AreShort ms → sum_of ms ≤ 26 * length ms
sum-least [] short = omega arith
sum-least (m ∷ ms) short = let rest = sum-least ms short.1 in let mine = short.0 in omega (arith, rest, mine)

sum-each : (ms : List Member) → AreShort ms → AllByRecursion (λ (k : Member). sum_of ms + 26 ≤ k.piece.size + 26 * length ms) ms
sum-each [] short = tt
sum-each (m ∷ ms) short = let least = sum-least ms short.1 in let mine = short.0 in (
  omega (arith, least),
  all-weaken (λ (k : Member). sum_of ms + 26 ≤ k.piece.size + 26 * length ms) (λ (k : Member). sum_of (m ∷ ms) + 26 ≤ k.piece.size + 26 * length (m ∷ ms)) ms
      (λ k is. omega (arith, is, mine)) (sum-each ms short.1),
)

-- ---- the members of a group that gathers

-- a member that has not heard has its record to place
awaits-untold : (step : MemberStep) (piece : Piece) (books : Books) (p : GroupPhase) → IsUntold p → KnowsPhase step p → AwaitsAtStep step piece books
    → IsForNextRecord piece books
awaits-untold Closes piece books p untold known awaits = awaits
awaits-untold Waits piece books p untold known awaits = awaits
awaits-untold (Hears refused total) piece books p untold known awaits = awaits
awaits-untold (Places total closed) piece books p untold known awaits = awaits
awaits-untold (Stores total base) piece books p untold known awaits = awaits
awaits-untold (Tells total outcome) piece books p untold known awaits = awaits
awaits-untold (Fills base units) piece books p untold known awaits = absurd (untold known.total _ known.remaining known.told)
awaits-untold (Leaves tail durable) piece books p untold known awaits = absurd (untold known.total _ known.remaining known.told)

-- nothing is placed while the group gathers
gathering-books : (leader total : ℕ) (piece : Piece) (step : MemberStep) (books : Books) → member_books (Gathering leader total) piece step books ≡ books
gathering-books leader total piece Closes books = refl
gathering-books leader total piece Waits books = refl
gathering-books leader total piece (Hears refused told) books = refl
gathering-books leader total piece (Places told closed) books = refl
gathering-books leader total piece (Stores told base) books = refl
gathering-books leader total piece (Tells told outcome) books = refl
gathering-books leader total piece (Fills base units) books = refl
gathering-books leader total piece (Leaves tail durable) books = refl

-- the call is a member's at the slot, with this piece
record IsJoined (slot : ℕ) (piece : Piece) (call : Call) : Type 0 where
  step : MemberStep
  is : call ≡ Joined slot piece step

joined-at : (slot : ℕ) (call : Call) (piece : Piece) → pieces_at slot call ≡ piece ∷ [] → IsJoined slot piece call
joined-at slot Idle piece is = absurd (cc)
joined-at slot (Filling entry) piece is = absurd (cc)
joined-at slot (Joined other own step) piece is = by_slot (other == slot) refl is
  where
    by_slot : (b : Bool) → (other == slot) ≡ b → cond b (own ∷ []) [] ≡ piece ∷ [] → IsJoined slot piece (Joined other own step)
    by_slot true here is = let same : own ≡ piece = cc in record { step = step; is = λ i. Joined (eqb-true other slot here i) (same i) step }
    by_slot false elsewhere is = absurd (cc)
joined-at slot (Emptying other base total) piece is = absurd (cc)
joined-at slot (Marked after) piece is = absurd (cc)
joined-at slot (Holding at after) piece is = absurd (cc)
joined-at slot (Raising from to after) piece is = absurd (cc)
joined-at slot (Reopening other) piece is = absurd (cc)

made-or_nobody : (views : List View) (seat : ℕ) → (get_elem? views seat ≡ some (get_or views seat nobody)) ⊎ (get_or views seat nobody ≡ nobody)
made-or_nobody [] seat = inr refl
made-or_nobody (x ∷ xs) zero = inl refl
made-or_nobody (x ∷ xs) (suc seat) = made-or_nobody xs seat

module _ (key : Start) (words : Words) (views : List View) (log : Log) (s : IsSound key words views log) (slot leader total : ℕ)
    (gathers : (log.groups slot).phase ≡ Gathering leader total) where
  abbrev view_at : ℕ → View
  view_at seat = get_or views seat nobody

  abbrev number : ℕ → ℕ
  number seat = (view_at seat).standing.worker

  -- a member is an active worker's seat, and its record is spelled by 26 units at most
  record IsWorkers (m : Member) : Type 0 where
    there : get_elem? views m.seat ≡ some (view_at m.seat)
    active : (view_at m.seat).standing.role ≡ Active
    short : m.piece.size ≤ 26

  module _ (m : Member) (own : pieces_at slot (view_at m.seat).call ≡ m.piece ∷ []) where
    abbrev y : View
    y = view_at m.seat

    call : IsJoined slot m.piece y.call
    call = joined-at slot y.call m.piece own

    there : get_elem? views m.seat ≡ some y
    there = ⊎_elim (λ is. is)
        (λ none. let no : [] ≡ m.piece ∷ [] = sym (ap (λ (z : View). pieces_at slot z.call) none) ∙ own in absurd (cc)) (made-or_nobody views m.seat)

    books : get_elem? (map (books_of log.groups) views) m.seat ≡ some y.books
    books = at_map (books_of log.groups) views m.seat y there
        ∙ ap some (ap (λ c. books_in log.groups c y.books) call.is
        ∙ (ap (λ p. member_books p m.piece call.step y.books) gathers ∙ gathering-books leader total m.piece call.step y.books))

    next : IsForNextRecord m.piece y.books
    next = awaits-untold call.step m.piece y.books (Gathering leader total) (untold-gathering leader total)
        (subst (KnowsPhase call.step) gathers (subst (KnowsGroup log.groups) call.is (s.owners m.seat).knows))
        (subst (λ c. AwaitsPlace c y.books) call.is (s.awaits m.seat y there))

    short : m.piece.size ≤ 26
    short = let few = length-spelling m.piece.rec (enters-spellable (base_of key) words.account (map (books_of log.groups) views) m.seat y.books
        s.accounts.holder books m.piece.rec next.enters) in omega (arith, few, next.size_is)

    is-workers : IsWorkers m
    is-workers = record {
      there = there;
      active = is_active-role_active y.standing.role (λ off. let no : Joined slot m.piece call.step ≡ Idle = sym call.is ∙ s.resting m.seat y there off in cc);
      short = short;
    }

  -- of seats apart the workers' numbers are apart
  numbers-apart : (ms : List Member) → AreApart ms → AllByRecursion IsWorkers ms → AreOfOthers number ms
  numbers-apart [] apart all = tt
  numbers-apart (m ∷ ms) apart all = (
    all-both (λ (k : Member). k.seat ≢ m.seat) IsWorkers (λ (k : Member). number k.seat ≢ number m.seat) ms
        (λ k differ is same. differ ((s.roles.pairs k.seat (view_at k.seat) is.there m.seat (view_at m.seat) all.0.there).apart
        (ap is_worker is.active) (ap is_worker all.0.active) same)) apart.0 all.1,
    numbers-apart ms apart.1 all.1,
  )

  module _ (joined : HasJoined (key.ring / 4) total (log.groups slot).members) where
    abbrev members : List Member
    members = (log.groups slot).members

    once : AreApart members × AllByRecursion (λ (m : Member). pieces_at slot (view_at m.seat).call ≡ m.piece ∷ []) members
    once = own-once (λ seat. pieces_at slot (view_at seat).call) (λ seat. few-at slot (view_at seat).call) members (λ seat. inr ((s.owners seat).joins slot))

    workers : AllByRecursion IsWorkers members
    workers = all-weaken (λ (m : Member). pieces_at slot (view_at m.seat).call ≡ m.piece ∷ []) IsWorkers members is-workers once.1

    pub gathering-total_of_each : (j : ℕ) (z : View) → get_elem? views j ≡ some z → z.standing.role ≡ Flusher → IsTotalOfEach (length z.standing.made) total members
    gathering-total_of_each j z at flusher =
        let made = all-weaken IsWorkers (λ (k : Member). Knows (number k.seat) z.standing.made) members
        (λ k is. (s.roles.pairs j z at k.seat (view_at k.seat) is.there).made flusher (ap is_worker is.active)) workers in
        let fit = members-fit number members z.standing.made (numbers-apart members once.0 workers) made in
        let sum = (pieces_tile-sum_within 0 total total members joined.tiles (omega arith)).0 in
        all-weaken (λ (k : Member). sum_of members + 26 ≤ k.piece.size + 26 * length members)
        (λ (k : Member). IsTotalOf (length z.standing.made) k.piece.size total) members (λ k is. omega (arith, is, fit, sum))
        (sum-each members (all-weaken IsWorkers (λ (k : Member). k.piece.size ≤ 26) members (λ k is. is.short) workers))
