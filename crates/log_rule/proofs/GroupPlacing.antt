-- The members of a group, whose pieces enter the log at once: what the log has then, what each member's call has, and the list of records.
use Rattle.std.proofs.Common.{◌≡◌, ◌≢◌, ◌⊎◌, inl, inr, ⊎_elim, ℕ, zero, suc, ◌==◌, ◌+◌, cond, Bool, true, false, true≢false, List, [], ◌∷◌, ◌++◌}
use Rattle.std.proofs.Common.{length, get_or, sym, refl, ap, ◌∙◌, subst, arith, eq-eqb, ne_eqb, eqb-true, append-nil, add_assoc}
use Rattle.std.specs.List.{AllByRecursion}
use mathlib.Core.Logic.{dite}
use mathlib.Core.Option.{some}
use native.Mathlib.Decide.{ℕ_discrete}
use lib.ListN.{get_elem?}
use Rattle.log_record.specs.declared.rec.Placed.{Placed as PlacedRecord}
use Rattle.log_record.specs.Spelling.{spelling}
use Rattle.lock_core.specs.History.{end_from, history_from}
use Rattle.log_rule.specs.declared.group_view.MemberStep.{MemberStep}
use Rattle.log_rule.specs.declared.group_view.MemberStep.TheVariants.{Closes, Waits, Hears, Places, Stores, Tells, Fills, Leaves}
use Rattle.log_rule.specs.declared.view.Books.{Books}
use Rattle.log_rule.specs.declared.view.Call.{Call}
use Rattle.log_rule.specs.declared.view.Call.TheVariants.{Idle, Filling, Joined, Emptying, Marked, Holding, Raising, Reopening}
use Rattle.log_rule.specs.declared.view.Entry.{Entry}
use Rattle.log_rule.specs.declared.view.View.{View}
use Rattle.log_rule.specs.Books.{placing}
use Rattle.log_rule.specs.Groups.{Granted, Closed, Placed, Piece, Member, Group, put_group}
use Rattle.log_rule.specs.GroupViews.{placed_piece, member_entry, member_books}
use Rattle.log_rule.specs.Log.{Part, own, part_of, parts_of, unreleased_in, Laid, records_in}
use Rattle.log_rule.specs.Members.{IsForNextRecord, AwaitsAtStep}
use Rattle.log_rule.specs.Slots.{own_pieces, pieces_at, KnowsPhase, KnowsGroup, PiecesTile, LiesWithin, sum_of}
use Rattle.log_rule.specs.Views.{nobody, entries_in, books_in}
use Rattle.log_rule.proofs.GroupEntering.{Entrant, history_with, EntersNot, EntersAs, AreApart}
use Rattle.log_rule.proofs.Groups.{put_group-at_equal, put_group-other, untold-closed}
use Rattle.log_rule.proofs.RangeLists.{inside-starting_within}
use Rattle.log_rule.proofs.TailMoving.{IsEmptyPart}

-- ---- the parts

-- the members' parts, in the range that begins there, with no unit filled
abbrev pub placed_parts : ℕ → List Member → List Part
placed_parts base [] = []
placed_parts base (m ∷ ms) = part_of m.seat false (placed_piece base [] m.piece) ∷ placed_parts base ms

-- pieces as entries there
abbrev pub entries_at : ℕ → List Piece → List Entry
entries_at base [] = []
entries_at base (piece ∷ pieces) = placed_piece base [] piece ∷ entries_at base pieces

pub own-placed : (seat base : ℕ) (ms : List Member)
    → own seat (placed_parts base ms) ≡ parts_of seat false (entries_at base (own_pieces seat ms))
own-placed seat base [] = refl
own-placed seat base (m ∷ ms) = by_test (m.seat == seat) refl (own-placed seat base ms)
  where
    by_test : (b : Bool) → (m.seat == seat) ≡ b
        → own seat (placed_parts base ms) ≡ parts_of seat false (entries_at base (own_pieces seat ms))
        → cond b (part_of m.seat false (placed_piece base [] m.piece) ∷ own seat (placed_parts base ms)) (own seat (placed_parts base ms))
        ≡ parts_of seat false (entries_at base (cond {A = List Piece} b (m.piece ∷ own_pieces seat ms) (own_pieces seat ms)))
    by_test true is rest = λ i. part_of (eqb-true m.seat seat is i) false (placed_piece base [] m.piece) ∷ rest i
    by_test false is rest = rest

pub parts_of-append : (seat : ℕ) (flag : Bool) (xs ys : List Entry)
    → parts_of seat flag (xs ++ ys) ≡ parts_of seat flag xs ++ parts_of seat flag ys
parts_of-append seat flag [] ys = refl
parts_of-append seat flag (x ∷ xs) ys = ap (λ l. part_of seat flag x ∷ l) (parts_of-append seat flag xs ys)

pub laid-placed : (base from to : ℕ) (ms : List Member) → PiecesTile from ms to → Laid (base + from) (placed_parts base ms) (base + to)
laid-placed base from to [] tiles = ap (λ n. base + n) tiles
laid-placed base from to (m ∷ ms) tiles = (
  ap (λ n. base + n) tiles.0,
  tiles.1,
  subst (λ n. Laid n (placed_parts base ms) (base + to)) (sym (add_assoc base from m.piece.size))
      (laid-placed base (from + m.piece.size) to ms tiles.2),
)

pub empty-placed : (base : ℕ) (ms : List Member) → AllByRecursion IsEmptyPart (placed_parts base ms)
empty-placed base [] = tt
empty-placed base (m ∷ ms) = (record { unreleased = refl; no_units = refl }, empty-placed base ms)

pub unreleased-placed : (base total : ℕ) (ms : List Member) → AllByRecursion (LiesWithin total) ms
    → unreleased_in base total (placed_parts base ms) ≡ sum_of ms
unreleased-placed base total [] within = refl
unreleased-placed base total (m ∷ ms) within =
    let here = inside-starting_within base total (placed_piece base [] m.piece) (omega arith) (omega (arith, within.0.0, within.0.1)) in
    omega (arith, here, unreleased-placed base total ms within.1)

-- what holds of the part of each member, and of its record as it enters
module _ (P : Member → Type 0) where
  pub all-placed : (Q : Part → Type 0) (base : ℕ) (ms : List Member)
      → ((m : Member) → P m → Q (part_of m.seat false (placed_piece base [] m.piece)))
      → AllByRecursion P ms → AllByRecursion Q (placed_parts base ms)
  all-placed Q base [] each all = tt
  all-placed Q base (m ∷ ms) each all = (each m all.0, all-placed Q base ms each all.1)

-- ---- the members

-- one of the pieces is this
abbrev pub IsAmong : Piece → List Piece → Type 0
IsAmong piece [] = ⊥
IsAmong piece (other ∷ others) = (other ≡ piece) ⊎ IsAmong piece others

-- what holds of each piece that a seat has, holds of each member's
pub own_pieces-all_members : (Q : ℕ → Piece → Type 0) (ms : List Member)
    → ((seat : ℕ) (piece : Piece) → IsAmong piece (own_pieces seat ms) → Q seat piece)
    → AllByRecursion (λ (m : Member). Q m.seat m.piece) ms
own_pieces-all_members Q [] all = tt
own_pieces-all_members Q (m ∷ ms) all = (
  all m.seat m.piece (subst (IsAmong m.piece) (sym here) (inl refl)),
  own_pieces-all_members Q ms (λ seat piece among. all seat piece (later seat piece (m.seat == seat) among)),
)
  where
    here : own_pieces m.seat (m ∷ ms) ≡ m.piece ∷ own_pieces m.seat ms
    here = ap (λ b. cond {A = List Piece} b (m.piece ∷ own_pieces m.seat ms) (own_pieces m.seat ms)) (eq-eqb m.seat m.seat refl)

    later : (seat : ℕ) (piece : Piece) (b : Bool) → IsAmong piece (own_pieces seat ms)
        → IsAmong piece (cond {A = List Piece} b (m.piece ∷ own_pieces seat ms) (own_pieces seat ms))
    later seat piece true among = inr among
    later seat piece false among = among

abbrev pub IsOneAtMost : List Piece → Type 0
IsOneAtMost [] = Unit {0}
IsOneAtMost (piece ∷ pieces) = pieces ≡ []

-- a seat is a member of a slot once at most
pub pieces_at-one_at_most : (slot : ℕ) (call : Call) → IsOneAtMost (pieces_at slot call)
pieces_at-one_at_most slot Idle = tt
pieces_at-one_at_most slot (Filling entry) = tt
pieces_at-one_at_most slot (Joined other piece step) = by_test (other == slot)
  where
    by_test : (b : Bool) → IsOneAtMost (cond {A = List Piece} b (piece ∷ []) [])
    by_test true = refl
    by_test false = tt
pieces_at-one_at_most slot (Emptying other base total) = tt
pieces_at-one_at_most slot (Marked after) = tt
pieces_at-one_at_most slot (Holding at after) = tt
pieces_at-one_at_most slot (Raising from to after) = tt
pieces_at-one_at_most slot (Reopening other) = tt

-- the call is that of the member with the piece
pub record IsMemberAt (slot : ℕ) (piece : Piece) (call : Call) : Type 0 where
  pub step : MemberStep
  pub is : call ≡ Joined slot piece step

pub member-at : (slot : ℕ) (piece : Piece) (call : Call) → IsAmong piece (pieces_at slot call) → IsMemberAt slot piece call
member-at slot piece Idle among = absurd among
member-at slot piece (Filling entry) among = absurd among
member-at slot piece (Joined other own step) among = by_test (other == slot) refl among
  where
    by_test : (b : Bool) → (other == slot) ≡ b → IsAmong piece (cond {A = List Piece} b (own ∷ []) [])
        → IsMemberAt slot piece (Joined other own step)
    by_test true is among =
        ⊎_elim (λ same. record { step = step; is = λ i. Joined (eqb-true other slot is i) (same i) step }) (λ none. absurd none) among
    by_test false is among = absurd among
member-at slot piece (Emptying other base total) among = absurd among
member-at slot piece (Marked after) among = absurd among
member-at slot piece (Holding at after) among = absurd among
member-at slot piece (Raising from to after) among = absurd among
member-at slot piece (Reopening other) among = absurd among

-- a seat that was made has its view, and any other is nobody's
pub seat-view_or_nobody : (views : List View) (seat : ℕ)
    → (get_elem? views seat ≡ some (get_or views seat nobody)) ⊎ (get_or views seat nobody ≡ nobody)
seat-view_or_nobody [] seat = inr refl
seat-view_or_nobody (x ∷ xs) zero = inl refl
seat-view_or_nobody (x ∷ xs) (suc seat) = seat-view_or_nobody xs seat

-- ---- what a member's call has

-- what a member at this step has of a closed group, and of the group once it is placed at this base
pub record IsPlacedAt (leader total base : ℕ) (piece : Piece) (step : MemberStep) : Type 0 where
  pub entries : member_entry (Closed leader total) piece step ++ placed_piece base [] piece ∷ []
      ≡ member_entry (Placed leader total (Granted base)) piece step
  pub before : (books : Books) → member_books (Closed leader total) piece step books ≡ books
  pub books : (books : Books) → member_books (Placed leader total (Granted base)) piece step books
      ≡ placing (base + piece.offset + piece.size) piece.rec books
  pub awaits : (books : Books) → AwaitsAtStep step piece books → IsForNextRecord piece books
  pub knows : KnowsPhase step (Placed leader total (Granted base))

pub knows_closed-placed_at : (leader total base : ℕ) (piece : Piece) (step : MemberStep) → KnowsPhase step (Closed leader total)
    → IsPlacedAt leader total base piece step
knows_closed-placed_at leader total base piece Closes known =
    record { entries = refl; before = λ _. refl; books = λ _. refl; awaits = λ _ a. a; knows = tt }
knows_closed-placed_at leader total base piece Waits known =
    record { entries = refl; before = λ _. refl; books = λ _. refl; awaits = λ _ a. a; knows = tt }
knows_closed-placed_at leader total base piece (Hears refused told) known = absurd
    (untold-closed leader total told known.outcome known.remaining known.told)
knows_closed-placed_at leader total base piece (Places units closed) known =
    record { entries = refl; before = λ _. refl; books = λ _. refl; awaits = λ _ a. a; knows = tt }
knows_closed-placed_at leader total base piece (Stores units old) known =
    record { entries = refl; before = λ _. refl; books = λ _. refl; awaits = λ _ a. a; knows = tt }
knows_closed-placed_at leader total base piece (Tells units outcome) known =
    record { entries = refl; before = λ _. refl; books = λ _. refl; awaits = λ _ a. a; knows = tt }
knows_closed-placed_at leader total base piece (Fills old units) known = absurd (untold-closed leader total known.total _ known.remaining known.told)
knows_closed-placed_at leader total base piece (Leaves tail durable) known = absurd
    (untold-closed leader total known.total _ known.remaining known.told)

-- the call is a member's, whose record enters
pub record PlacesPiece (after : ℕ → Group) (base : ℕ) (call : Call) (pieces : List Piece) : Type 0 where
  pub piece : Piece
  pub one : pieces ≡ piece ∷ []
  pub books : (books : Books) → books_in after call books ≡ placing (base + piece.offset + piece.size) piece.rec books

-- the call is not a member's
pub record PlacesNone (groups after : ℕ → Group) (call : Call) (pieces : List Piece) : Type 0 where
  pub none : pieces ≡ []
  pub books : (books : Books) → books_in after call books ≡ books_in groups call books

-- what a call has once the group at the slot is placed at this base
pub record OncePlaced (groups after : ℕ → Group) (base slot : ℕ) (call : Call) : Type 0 where
  pub entries : entries_in groups call ++ entries_at base (pieces_at slot call) ≡ entries_in after call
  pub books : PlacesPiece after base call (pieces_at slot call) ⊎ PlacesNone groups after call (pieces_at slot call)
  pub knows : KnowsGroup after call

module _ (groups : ℕ → Group) (slot : ℕ) (g : Group) (leader total base : ℕ) (was : (groups slot).phase ≡ Closed leader total)
    (is : g.phase ≡ Placed leader total (Granted base)) where
  abbrev after : ℕ → Group
  after = put_group groups slot g

  member-here : (other : ℕ) (piece : Piece) (step : MemberStep) → other ≡ slot → KnowsPhase step (groups other).phase
      → OncePlaced groups after base slot (Joined other piece step)
  member-here other piece step same known =
      let old : (groups other).phase ≡ Closed leader total = ap (λ n. (groups n).phase) same ∙ was in
      let now : (after other).phase ≡ Placed leader total (Granted base) =
      ap (λ (x : Group). x.phase) (put_group-at_equal groups slot other g same) ∙ is in
      let one : pieces_at slot (Joined other piece step) ≡ piece ∷ [] =
      ap (λ b. cond {A = List Piece} b (piece ∷ []) []) (eq-eqb other slot same) in
      let p : IsPlacedAt leader total base piece step = knows_closed-placed_at leader total base piece step (subst (KnowsPhase step) old known) in
      record {
        entries = (λ i. member_entry (old i) piece step ++ entries_at base (one i))
            ∙ (p.entries ∙ sym (ap (λ q. member_entry q piece step) now));
        books = inl record { piece = piece; one = one; books = λ books. ap (λ q. member_books q piece step books) now ∙ p.books books };
        knows = subst (KnowsPhase step) (sym now) p.knows;
      }

  member-else : (other : ℕ) (piece : Piece) (step : MemberStep) → other ≢ slot → KnowsPhase step (groups other).phase
      → OncePlaced groups after base slot (Joined other piece step)
  member-else other piece step differ known =
      let there : after other ≡ groups other = put_group-other groups slot other g differ in
      let none : pieces_at slot (Joined other piece step) ≡ [] =
      ap (λ b. cond {A = List Piece} b (piece ∷ []) []) (ne_eqb other slot differ) in record {
        entries = (λ i. member_entry (groups other).phase piece step ++ entries_at base (none i))
            ∙ (append-nil _ ∙ sym (ap (λ (x : Group). member_entry x.phase piece step) there));
        books = inr record { none = none; books = λ books. ap (λ (x : Group). member_books x.phase piece step books) there };
        knows = subst (λ (x : Group). KnowsPhase step x.phase) (sym there) known;
      }

  pub once-placed : (call : Call) → KnowsGroup groups call → OncePlaced groups after base slot call
  once-placed Idle known = record { entries = refl; books = inr record { none = refl; books = λ _. refl }; knows = tt }
  once-placed (Filling entry) known = record { entries = refl; books = inr record { none = refl; books = λ _. refl }; knows = tt }
  once-placed (Joined other piece step) known = dite (ℕ_discrete other slot)
      (λ same. member-here other piece step same known) (λ differ. member-else other piece step differ known)
  once-placed (Emptying other from units) known = record { entries = refl; books = inr record { none = refl; books = λ _. refl }; knows = tt }
  once-placed (Marked next) known = record { entries = refl; books = inr record { none = refl; books = λ _. refl }; knows = tt }
  once-placed (Holding at next) known = record { entries = refl; books = inr record { none = refl; books = λ _. refl }; knows = tt }
  once-placed (Raising from to next) known = record { entries = refl; books = inr record { none = refl; books = λ _. refl }; knows = tt }
  once-placed (Reopening other) known = record { entries = refl; books = inr record { none = refl; books = λ _. refl }; knows = tt }

-- ---- the records that enter

module _ (views : List View) (base : ℕ) where
  -- the seat's piece as it enters
  abbrev pub entrant : ℕ → Piece → Entrant
  entrant seat piece =
      record { seat = seat; books = (get_or views seat nobody).books; rec = piece.rec; end = base + piece.offset + piece.size }

  abbrev pub entrants : List Member → List Entrant
  entrants [] = []
  entrants (m ∷ ms) = entrant m.seat m.piece ∷ entrants ms

  pub all-entrants : (P : Member → Type 0) (Q : Entrant → Type 0) (ms : List Member) → ((m : Member) → P m → Q (entrant m.seat m.piece))
      → AllByRecursion P ms → AllByRecursion Q (entrants ms)
  all-entrants P Q [] each all = tt
  all-entrants P Q (m ∷ ms) each all = (each m all.0, all-entrants P Q ms each all.1)

  pub enters-not : (seat : ℕ) (ms : List Member) → own_pieces seat ms ≡ [] → EntersNot seat (entrants ms)
  enters-not seat [] none = tt
  enters-not seat (m ∷ ms) none = by_test (m.seat == seat) refl none (λ rest. enters-not seat ms rest)
    where
      by_test : (b : Bool) → (m.seat == seat) ≡ b → cond {A = List Piece} b (m.piece ∷ own_pieces seat ms) (own_pieces seat ms) ≡ []
          → (own_pieces seat ms ≡ [] → EntersNot seat (entrants ms)) → (m.seat ≢ seat) × EntersNot seat (entrants ms)
      by_test true is none rest = absurd (cc)
      by_test false is none rest = ((λ same. true≢false (sym (eq-eqb m.seat seat same) ∙ is)), rest none)

  pub enters-as : (seat : ℕ) (piece : Piece) (ms : List Member) → own_pieces seat ms ≡ piece ∷ []
      → EntersAs seat (entrant seat piece) (entrants ms)
  enters-as seat piece [] one = absurd (cc)
  enters-as seat piece (m ∷ ms) one = by_test (m.seat == seat) refl one (λ rest. enters-as seat piece ms rest)
    where
      by_test : (b : Bool) → (m.seat == seat) ≡ b → cond {A = List Piece} b (m.piece ∷ own_pieces seat ms) (own_pieces seat ms) ≡ piece ∷ []
          → (own_pieces seat ms ≡ piece ∷ [] → EntersAs seat (entrant seat piece) (entrants ms))
          → ((entrant m.seat m.piece ≡ entrant seat piece) × (seat ≡ seat)) ⊎ EntersAs seat (entrant seat piece) (entrants ms)
      by_test true is one rest = let same : m.piece ≡ piece = cc in inl ((λ i. entrant (eqb-true m.seat seat is i) (same i)), refl)
      by_test false is one rest = inr (rest one)

  pub entrants-are_apart : (ms : List Member) → ((seat : ℕ) → IsOneAtMost (own_pieces seat ms)) → AreApart (entrants ms)
  entrants-are_apart [] one = tt
  entrants-are_apart (m ∷ ms) one = (
    enters-not m.seat ms (subst IsOneAtMost here (one m.seat)),
    entrants-are_apart ms (λ seat. fewer (m.seat == seat) (own_pieces seat ms) (one seat)),
  )
    where
      here : own_pieces m.seat (m ∷ ms) ≡ m.piece ∷ own_pieces m.seat ms
      here = ap (λ b. cond {A = List Piece} b (m.piece ∷ own_pieces m.seat ms) (own_pieces m.seat ms)) (eq-eqb m.seat m.seat refl)

      fewer : (b : Bool) (pieces : List Piece) → IsOneAtMost (cond {A = List Piece} b (m.piece ∷ pieces) pieces) → IsOneAtMost pieces
      fewer true pieces none = subst IsOneAtMost (sym none) tt
      fewer false pieces one = one

  -- each record ends where its piece does
  pub history-placed : (start from to : ℕ) (h : List PlacedRecord) (ms : List Member) → end_from start h ≡ base + from
      → PiecesTile from ms to
      → AllByRecursion (λ (m : Member). m.piece.size ≡ length (spelling m.piece.rec)) ms
      → history_from start h (records_in (placed_parts base ms)) ≡ history_with (entrants ms) h
  history-placed start from to h [] ends tiles sizes = refl
  history-placed start from to h (m ∷ ms) ends tiles sizes =
      ap (λ (e : PlacedRecord). history_from start (e ∷ h) (records_in (placed_parts base ms)))
      (λ i. record { end = end i; rec = m.piece.rec })
      ∙ history-placed start (from + m.piece.size) to (record { end = base + m.piece.offset + m.piece.size; rec = m.piece.rec } ∷ h) ms
      (omega (arith, tiles.0)) tiles.2 sizes.1
    where
      end : end_from start h + length (spelling m.piece.rec) ≡ base + m.piece.offset + m.piece.size
      end = omega (arith, ends, tiles.0, sizes.0)

pub records-append : (xs ys : List Part) → records_in (xs ++ ys) ≡ records_in xs ++ records_in ys
records-append [] ys = refl
records-append (x ∷ xs) ys = ap (λ records. x.entry.rec ∷ records) (records-append xs ys)
