-- A member of a group that is told leaves it, as it releases its piece: what is left of the members and of the group.
use Rattle.std.proofs.Common.{◌≡◌, ◌≢◌, ℕ, ◌+◌, ◌-◌, ◌/◌, ◌^◌, ◌<◌, ◌≤◌, cond, Bool, true, false, List, [], ◌∷◌, ◌++◌, length, map, sym, refl, ap, ◌∙◌, subst, arith, eq-eqb, ne_eqb, eqb-true}
use Rattle.std.specs.List.{AllByRecursion}
use mathlib.Core.Option.{some}
use lib.ListN.{get_elem?}
use Rattle.slot_parts.specs.Phases.{phase_released, task_released}
use Rattle.slot_parts.specs.Tasks.{task_emptying}
use Rattle.slot_core.specs.State.{Task, Group as MachineGroup, nothing, without, group}
use Rattle.slot_word.specs.declared.phase.Phase.TheVariants as kind
use Rattle.slot_word.specs.SlotWord.{total_in, remaining_in, subtracted}
use Rattle.slot_word.proofs.SlotWordLemmas.{remaining_back, subtracted-packed}
use Rattle.log_rule.specs.declared.group_view.MemberStep.{MemberStep}
use Rattle.log_rule.specs.declared.group_view.MemberStep.TheVariants.{Closes, Waits, Hears, Places, Stores, Tells, Fills, Leaves}
use Rattle.log_rule.specs.declared.start.Start.{Start}
use Rattle.log_rule.specs.declared.view.Books.{Books}
use Rattle.log_rule.specs.declared.view.Call.{Call}
use Rattle.log_rule.specs.declared.view.Call.TheVariants.{Idle, Joined}
use Rattle.log_rule.specs.declared.view.Role.TheVariants.{Active}
use Rattle.log_rule.specs.declared.view.Seen.{Seen}
use Rattle.log_rule.specs.declared.view.View.{View}
use Rattle.log_rule.specs.Events.{task_in, member_shown, group_shown}
use Rattle.log_rule.specs.Groups.{Outcome, Granted, Refused, GroupPhase, Closed, Told, Emptied, Piece, Member, Group, put_group}
use Rattle.log_rule.specs.Log.{LogRange, Log, ranges_of, picked}
use Rattle.log_rule.specs.Marks.{HasTrueEnds}
use Rattle.log_rule.specs.Members.{HadSeenUpTo, HadSeenUnder, HasPhaseOutcome, LoadsForGroup, AwaitsPlace, IsTotalOf, HasTotalAtPhase}
use Rattle.log_rule.specs.Roles.{is_spent}
use Rattle.log_rule.specs.SlotViews.{seen_slot}
use Rattle.log_rule.specs.Slots.{is_member, piece_of, own_pieces, pieces_at, led_phase, phase_at, KnowsPhase, KnowsGroup, IsToldOf, sum_of, LiesWithin, told_word, IsTold, IsAtPhase}
use Rattle.log_rule.specs.Sound.{HasWorkingOwner, IsSound}
use Rattle.log_rule.specs.Views.{entries_in, books_in}
use Rattle.log_rule.specs.Words.{Words}
use Rattle.log_rule.proofs.Groups.{Keeps, same_unheard-keeps}
use Rattle.log_rule.proofs.Lists.{Last, picked-append, picked-last, all-middle}
use Rattle.log_rule.proofs.Members.{KeepsMembers, one_step_more-keeps_seen}
use Rattle.log_rule.proofs.SlotLooks.{quarter_ring-fits_31_bits}
use Rattle.log_rule.proofs.SlotWords.{told-total}
use Rattle.log_rule.proofs.SlotChanges.{cond-same_slot, cond-other_slot}
use Rattle.log_rule.proofs.ViewChanges.{each_seat-at}

-- ---- lists from which one is taken

module _ {A : Type 0} {B : Type 0} (test : A → Bool) (tell : A → B) where
  -- one that is not picked
  pub picked-remove_unpicked : (ls rs : List A) (x : A) → test x ≡ false → picked test tell (ls ++ rs) ≡ picked test tell (ls ++ x ∷ rs)
  picked-remove_unpicked [] rs x off = ap (λ b. cond b (tell x ∷ picked test tell rs) (picked test tell rs)) (sym off)
  picked-remove_unpicked (l ∷ ls) rs x off = λ i. cond (test l) (tell l ∷ picked-remove_unpicked ls rs x off i) (picked-remove_unpicked ls rs x off i)

  -- the only one that is picked
  pub picked-append_none : (ls rs : List A) → picked test tell ls ≡ [] → picked test tell rs ≡ [] → picked test tell (ls ++ rs) ≡ []
  picked-append_none ls rs before behind = picked-append test tell ls rs ∙ (λ i. before i ++ behind i)

  -- or it is exchanged for another
  pub picked-none_around : (ls rs : List A) (x : A) → picked test tell ls ≡ [] → picked test tell rs ≡ []
      → picked test tell (ls ++ x ∷ rs) ≡ cond (test x) (tell x ∷ []) []
  picked-none_around ls rs x before behind = picked-append test tell ls (x ∷ rs) ∙ (λ i. before i ++ cond (test x) (tell x ∷ behind i) (behind i))

  -- where none is picked
  pub picked-none_front : (ls rs : List A) → picked test tell (ls ++ rs) ≡ [] → picked test tell ls ≡ []
  picked-none_front [] rs none = refl
  picked-none_front (l ∷ ls) rs none = by_test (test l) none (picked-none_front ls rs)
    where
      by_test : (b : Bool) → cond b (tell l ∷ picked test tell (ls ++ rs)) (picked test tell (ls ++ rs)) ≡ []
          → (picked test tell (ls ++ rs) ≡ [] → picked test tell ls ≡ []) → cond b (tell l ∷ picked test tell ls) (picked test tell ls) ≡ []
      by_test true none more = absurd (cc)
      by_test false none more = more none

  pub picked-none_behind : (ls rs : List A) → picked test tell (ls ++ rs) ≡ [] → picked test tell rs ≡ []
  picked-none_behind [] rs none = none
  picked-none_behind (l ∷ ls) rs none = picked-none_behind ls rs (by_test (test l) none)
    where
      by_test : (b : Bool) → cond b (tell l ∷ picked test tell (ls ++ rs)) (picked test tell (ls ++ rs)) ≡ [] → picked test tell (ls ++ rs) ≡ []
      by_test true none = absurd (cc)
      by_test false none = none

pub all-remove : {A : Type 0} → (P : A → Type 0) (ls rs : List A) (x : A) → AllByRecursion P (ls ++ x ∷ rs) → AllByRecursion P (ls ++ rs)
all-remove P [] rs x all = all.1
all-remove P (l ∷ ls) rs x all = (all.0, all-remove P ls rs x all.1)

-- ---- members

sum-gone : (ls rs : List Member) (m : Member) → sum_of (ls ++ m ∷ rs) ≡ m.piece.size + sum_of (ls ++ rs)
sum-gone [] rs m = refl
sum-gone (l ∷ ls) rs m = let rest = sum-gone ls rs m in omega arith

-- where no unit remains there is no member
none-remain : (total : ℕ) (members : List Member) → AllByRecursion (LiesWithin total) members → sum_of members ≡ 0 → members ≡ []
none-remain total [] each sum = refl
none-remain total (m ∷ ms) each sum = let some_units = each.0.0 in absurd (omega arith)

-- the machine takes the actor out of its members
pub without-member : (me : ℕ) (ls rs : List Member) (m : Member) → own_pieces me ls ≡ [] → is_member me m ≡ true
    → without me (map member_shown (ls ++ m ∷ rs)) ≡ map member_shown (ls ++ rs)
without-member me [] rs m none is = ap (λ b. cond b (map member_shown rs) (member_shown m ∷ without me (map member_shown rs))) is
without-member me (l ∷ ls) rs m none is = by_test (is_member me l) none (without-member me ls rs m)
  where
    by_test : (b : Bool) → cond b (l.piece ∷ own_pieces me ls) (own_pieces me ls) ≡ []
        → (own_pieces me ls ≡ [] → is_member me m ≡ true → without me (map member_shown (ls ++ m ∷ rs)) ≡ map member_shown (ls ++ rs))
        → cond b (map member_shown (ls ++ m ∷ rs)) (member_shown l ∷ without me (map member_shown (ls ++ m ∷ rs)))
        ≡ member_shown l ∷ map member_shown (ls ++ rs)
    by_test true none rest = absurd (cc)
    by_test false none rest = ap (λ list. member_shown l ∷ list) (rest none is)

-- what a member knows of its group stays so while others release
knows-less : (total old now : ℕ) (outcome : Outcome) (step : MemberStep) → KnowsPhase step (Told total outcome old)
    → KnowsPhase step (Told total outcome now)
knows-less total old now outcome Closes known = tt
knows-less total old now outcome Waits known = tt
knows-less total old now outcome (Hears refused units) known = let is = known.told in
    let same : total ≡ units = cc in let became : outcome ≡ known.outcome = cc in
    record { outcome = known.outcome; remaining = now; told = λ i. Told (same i) (became i) now; refused_is = known.refused_is }
knows-less total old now outcome (Places units closed) known = tt
knows-less total old now outcome (Stores units base) known = tt
knows-less total old now outcome (Tells units became) known = tt
knows-less total old now outcome (Fills base units) known = let is = known.told in let became : outcome ≡ Granted base = cc in
    record { total = total; remaining = now; told = ap (λ o. Told total o now) became }
knows-less total old now outcome (Leaves tail durable) known = let is = known.told in let became : outcome ≡ Refused tail durable = cc in
    record { total = total; remaining = now; told = ap (λ o. Told total o now) became }

-- ---- the word

pub told_word-minus : (outcome : Outcome) (total remaining n : ℕ) → n ≤ remaining
    → told_word outcome total remaining - n ≡ told_word outcome total (remaining - n)
told_word-minus (Granted base) total remaining n within = omega arith
told_word-minus (Refused tail durable) total remaining n within = omega arith

pub told-subtracted : (outcome : Outcome) (total remaining n : ℕ) → total < 2 ^ 31 → remaining < 2 ^ 31 → n ≤ remaining
    → subtracted n (told_word outcome total remaining) ≡ told_word outcome total (remaining - n)
told-subtracted (Granted base) total remaining n fits fits' within = subtracted-packed kind.Published total remaining n fits fits' within
told-subtracted (Refused tail durable) total remaining n fits fits' within = subtracted-packed kind.Refused total remaining n fits fits' within

told-remaining : (outcome : Outcome) (total remaining : ℕ) → total < 2 ^ 31 → remaining < 2 ^ 31
    → remaining_in (told_word outcome total remaining) ≡ remaining
told-remaining (Granted base) total remaining fits fits' = remaining_back kind.Published total remaining fits fits'
told-remaining (Refused tail durable) total remaining fits fits' = remaining_back kind.Refused total remaining fits fits'

-- ---- a member of a group that is told

-- what the slot with these words has of the member, and what is left of the group without it
pub record ToldMember (most word base me : ℕ) (piece : Piece) (outcome : Outcome) (g : Group) : Type 0 where
  pub total : ℕ
  pub remaining : ℕ
  pub told : g.phase ≡ Told total outcome remaining
  pub is : IsTold most word base total outcome remaining g.members
  pub before : List Member
  pub gone : Member
  pub behind : List Member
  pub split : g.members ≡ before ++ gone ∷ behind
  pub positive : 1 ≤ piece.size
  pub within : piece.offset + piece.size ≤ total
  pub enough : piece.size ≤ remaining
  pub sum : sum_of (before ++ behind) ≡ remaining - piece.size
  pub own : own_pieces me (before ++ behind) ≡ []
  pub others : (j : ℕ) → j ≢ me → own_pieces j (before ++ behind) ≡ own_pieces j g.members
  pub shown : without me (map member_shown g.members) ≡ map member_shown (before ++ behind)
  pub total_fits : total < 2 ^ 31
  pub remaining_fits : remaining < 2 ^ 31

module _ (most word base me : ℕ) (piece : Piece) (outcome : Outcome) (g : Group) (small : most < 2 ^ 31) (told : IsToldOf outcome g.phase)
    (is : IsTold most word base told.total outcome told.remaining g.members) (joins : own_pieces me g.members ≡ piece ∷ []) where
  at : Last (is_member me) piece_of g.members [] piece
  at = picked-last (is_member me) piece_of g.members [] piece joins

  offset-is : at.here.piece.offset ≡ piece.offset
  offset-is = ap (λ (p : Piece). p.offset) at.is

  size-is : at.here.piece.size ≡ piece.size
  size-is = ap (λ (p : Piece). p.size) at.is

  lies : LiesWithin told.total at.here
  lies = all-middle (LiesWithin told.total) at.before at.behind at.here (subst (AllByRecursion (LiesWithin told.total)) at.split is.remains.each)

  whole : piece.size + sum_of (at.before ++ at.behind) ≡ told.remaining
  whole = let sum = sum-gone at.before at.behind at.here in
      let all : sum_of (at.before ++ at.here ∷ at.behind) ≡ told.remaining =
      ap sum_of (sym at.split) ∙ is.remains.sum in omega (arith, sum, all, size-is)

  others : (j : ℕ) → j ≢ me → own_pieces j (at.before ++ at.behind) ≡ own_pieces j g.members
  others j differ = picked-remove_unpicked (is_member j) piece_of at.before at.behind at.here
      (ne_eqb at.here.seat j (λ e. differ (sym e ∙ eqb-true at.here.seat me at.passes))) ∙ ap (own_pieces j) (sym at.split)

  fits : told.total < 2 ^ 31
  fits = let few = is.remains.few in omega (arith, few, small)

  member-is_told : ToldMember most word base me piece outcome g
  member-is_told = record {
    total = told.total;
    remaining = told.remaining;
    told = told.told;
    is = is;
    before = at.before;
    gone = at.here;
    behind = at.behind;
    split = at.split;
    positive = omega (arith, lies.0, size-is);
    within = omega (arith, lies.1, offset-is, size-is);
    enough = omega (arith, whole);
    sum = omega (arith, whole);
    own = picked-append_none (is_member me) piece_of at.before at.behind at.told_before at.none_behind;
    others = others;
    shown = ap (λ list. without me (map member_shown list)) at.split ∙ without-member me at.before at.behind at.here at.told_before at.passes;
    total_fits = fits;
    remaining_fits = let within = is.remains.within in omega (arith, within, fits);
  }

-- a member that has heard is one of a group that is told
pub told-member : (key : Start) (words : Words) (views : List View) (me : ℕ) (v : View) (slot : ℕ) (piece : Piece)
    (step : MemberStep) (outcome : Outcome) (log : Log) (s : IsSound key words views log) → get_elem? views me ≡ some v → v.call ≡ Joined slot piece step
    → (KnowsPhase step (log.groups slot).phase → IsToldOf outcome (log.groups slot).phase)
    → ToldMember (key.ring / 4) (words.slot slot) (words.base slot) me piece outcome (log.groups slot)
told-member key words views me v slot piece step outcome log s at call hears =
    let mine = each_seat-at (HasWorkingOwner log.groups log.parts log.ahead) views me v at s.owners in
    let told = hears (subst (KnowsGroup log.groups) call mine.knows) in
    member-is_told (key.ring / 4) (words.slot slot) (words.base slot) me piece outcome (log.groups slot)
    (quarter_ring-fits_31_bits key words views me v slot (words.slot slot) log s at refl) told
    (subst (IsAtPhase (key.ring / 4) (words.slot slot) (words.base slot) (log.groups slot).members) told.told (s.slots slot).words)
    (mine.joins slot ∙ (ap (pieces_at slot) call ∙ cond-same_slot slot (piece ∷ [])))

module _ (most word base me : ℕ) (piece : Piece) (outcome : Outcome) (g : Group) (m : ToldMember most word base me piece outcome g) where
  pub word-total : total_in word ≡ m.total
  word-total = ap total_in m.is.word_is ∙ told-total outcome m.total m.remaining m.total_fits m.remaining_fits

  pub word-remaining : remaining_in word ≡ m.remaining
  word-remaining = ap remaining_in m.is.word_is ∙ told-remaining outcome m.total m.remaining m.total_fits m.remaining_fits

  pub members_left-all : (P : Member → Type 0) → AllByRecursion P g.members → AllByRecursion P (m.before ++ m.behind)
  members_left-all P all = all-remove P m.before m.behind m.gone (subst (AllByRecursion P) m.split all)

  pub members_left-lie_within : AllByRecursion (LiesWithin m.total) (m.before ++ m.behind)
  members_left-lie_within = members_left-all (LiesWithin m.total) m.is.remains.each

  -- once the member has released its piece the group is at this phase, and the seat turns to this call
  pub record Left (slot : ℕ) (phase : GroupPhase) (call : Call) : Type 0 where
    pub is : IsAtPhase most (told_word outcome m.total (m.remaining - piece.size)) base (m.before ++ m.behind) phase
    pub leads : led_phase me phase ≡ phase_at me slot call
    pub others : (j : ℕ) → j ≢ me → led_phase j phase ≡ []
    pub else : (q : ℕ) → q ≢ slot → phase_at me q call ≡ []
    pub pieces : (q : ℕ) → pieces_at q call ≡ []
    pub entries : (groups : ℕ → Group) → entries_in groups call ≡ []
    pub books : (groups : ℕ → Group) (books : Books) → books_in groups call books ≡ books
    pub knows : (groups : ℕ → Group) → KnowsGroup groups call
    pub ends : (start exposed : ℕ) (log : Log) → HasTrueEnds start exposed log call
    pub keep : (j : ℕ) (p : Piece) (step : MemberStep) → own_pieces j (m.before ++ m.behind) ≡ p ∷ []
        → Keeps (Told m.total outcome m.remaining) phase p step
    pub seen : (start ring tail durable : ℕ) (ranges : List LogRange)
        → HasPhaseOutcome start ring tail durable ranges g.members (Told m.total outcome m.remaining)
        → HasPhaseOutcome start ring tail durable ranges (m.before ++ m.behind) phase
    pub totals : (workers : ℕ) → HasTotalAtPhase workers g.members (Told m.total outcome m.remaining)
        → HasTotalAtPhase workers (m.before ++ m.behind) phase
    pub loads : (groups : ℕ → Group) (seen : Seen) → LoadsForGroup groups seen call
    pub awaits : (books : Books) → AwaitsPlace call books
    pub phase_is : phase ≡ phase_released me piece.size (Told m.total outcome m.remaining)
    pub task_is : task_in call ≡ task_released slot piece.size (Told m.total outcome m.remaining)

  -- others are still there
  pub left-if_some_remain : (slot : ℕ) → m.remaining ≢ piece.size → Left slot (Told m.total outcome (m.remaining - piece.size)) Idle
  left-if_some_remain slot more = record {
    is = record {
      word_is = refl;
      remains = record {
        sum = m.sum;
        some_units = let enough = m.enough in omega (arith, more, enough);
        within = let within = m.is.remains.within in omega (arith, within);
        few = m.is.remains.few;
        each = members_left-lie_within;
      };
      base_is = m.is.base_is;
    };
    leads = refl;
    others = λ j differ. refl;
    else = λ q differ. refl;
    pieces = λ q. refl;
    entries = λ groups. refl;
    books = λ groups books. refl;
    knows = λ groups. tt;
    ends = λ start exposed log. tt;
    keep = λ j p step one. same_unheard-keeps (Told m.total outcome m.remaining) (Told m.total outcome (m.remaining - piece.size))
        record { entry = λ _. refl; books = λ _ _. refl } (knows-less m.total m.remaining (m.remaining - piece.size) outcome) p step;
    seen = λ start ring tail durable ranges o.
        record { members_seen = members_left-all (HadSeenUnder outcome) o.members_seen; is_true = o.is_true; no_room = o.no_room };
    totals = λ workers. members_left-all (λ (member : Member). IsTotalOf workers member.piece.size m.total);
    loads = λ groups seen. tt;
    awaits = λ books. tt;
    phase_is = ap (λ b. cond b (Emptied me) (Told m.total outcome (m.remaining - piece.size))) (sym (ne_eqb m.remaining piece.size more));
    task_is = ap (λ b. cond {A = Task} b (task_emptying slot outcome) nothing) (sym (ne_eqb m.remaining piece.size more));
  }

  module _ (all : m.remaining ≡ piece.size) where
    nobody : (m.before ++ m.behind) ≡ []
    nobody = let sum = m.sum in none-remain m.total (m.before ++ m.behind) members_left-lie_within (omega (arith, sum, all))

    emptied : IsAtPhase most (told_word outcome m.total (m.remaining - piece.size)) base (m.before ++ m.behind) (Emptied me)
    emptied = record {
      outcome = outcome;
      total = m.total;
      few = m.is.remains.few;
      word_is = let none : m.remaining - piece.size ≡ 0 = omega (arith, all) in ap (told_word outcome m.total) none;
      nobody = nobody;
    }

    keep : (j : ℕ) (p : Piece) (step : MemberStep) → own_pieces j (m.before ++ m.behind) ≡ p ∷ []
        → Keeps (Told m.total outcome m.remaining) (Emptied me) p step
    keep j p step one = let gone : [] ≡ p ∷ [] = sym (ap (own_pieces j) nobody) ∙ one in absurd (cc)

    -- the seat was the last, and has the slot to itself
    pub left-if_none_remain : (slot : ℕ) (call : Call) → phase_at me slot call ≡ Emptied me ∷ [] → ((q : ℕ) → q ≢ slot → phase_at me q call ≡ [])
        → ((q : ℕ) → pieces_at q call ≡ []) → ((groups : ℕ → Group) → entries_in groups call ≡ [])
        → ((groups : ℕ → Group) (books : Books) → books_in groups call books ≡ books) → ((groups : ℕ → Group) → KnowsGroup groups call)
        → ((start exposed : ℕ) (log : Log) → HasTrueEnds start exposed log call)
        → ((groups : ℕ → Group) (seen : Seen) → LoadsForGroup groups seen call) → ((books : Books) → AwaitsPlace call books)
        → task_in call ≡ task_emptying slot outcome
        → Left slot (Emptied me) call
    left-if_none_remain slot call leads else pieces entries books knows ends loads awaits task = record {
      is = emptied;
      leads = cond-same_slot me (Emptied me ∷ []) ∙ sym leads;
      others = λ j differ. cond-other_slot me j (Emptied me ∷ []) differ;
      else = else;
      pieces = pieces;
      entries = entries;
      books = books;
      knows = knows;
      ends = ends;
      keep = keep;
      seen = λ start ring tail durable ranges o. tt;
      totals = λ workers is. tt;
      loads = loads;
      awaits = awaits;
      phase_is = ap (λ b. cond b (Emptied me) (Told m.total outcome (m.remaining - piece.size))) (sym (eq-eqb m.remaining piece.size all));
      task_is = task ∙ ap (λ b. cond {A = Task} b (task_emptying slot outcome) nothing) (sym (eq-eqb m.remaining piece.size all));
    }

  -- what the machine is shown of what is left
  module _ (slot : ℕ) (phase : GroupPhase) (call : Call) (l : Left slot phase call) (shown : MachineGroup) (is : shown ≡ group_shown g) where
    pub group_shown-left : group_shown (record { members = m.before ++ m.behind; phase = phase })
        ≡ group (without me shown.members) (phase_released me piece.size shown.phase)
    group_shown-left = (λ i. group (sym m.shown i) ((l.phase_is ∙ ap (phase_released me piece.size) (sym m.told)) i))
        ∙ ap (λ (x : MachineGroup). group (without me x.members) (phase_released me piece.size x.phase)) (sym is)

    pub task_in-left : task_in call ≡ task_released slot piece.size shown.phase
    task_in-left = l.task_is ∙ (ap (task_released slot piece.size) (sym m.told) ∙ ap (λ (x : MachineGroup). task_released slot piece.size x.phase) (sym is))

-- what the rule says of groups is so of what is left
pub left-keeps_members : (key : Start) (words : Words) (views : List View) (me : ℕ) (v : View) (slot : ℕ) (piece : Piece) (outcome : Outcome) (log : Log)
    → IsSound key words views log → get_elem? views me ≡ some v → v.standing.role ≡ Active
    → (m : ToldMember (key.ring / 4) (words.slot slot) (words.base slot) me piece outcome (log.groups slot)) (phase : GroupPhase) (call : Call)
    → Left (key.ring / 4) (words.slot slot) (words.base slot) me piece outcome (log.groups slot) m slot phase call
    → KeepsMembers key words views v log slot (record { members = m.before ++ m.behind; phase = phase })
    (seen_slot slot (words.slot slot) v.seen) call v.books
left-keeps_members key words views me v slot piece outcome log s at active m phase call l =
    let all = members_left-all (key.ring / 4) (words.slot slot) (words.base slot) me piece outcome (log.groups slot) m in record {
      in_group = record {
        members_seen = all (HadSeenUpTo words.tail words.durable) (s.in_group slot).members_seen;
        outcome = l.seen key.start key.ring words.tail words.durable (ranges_of log)
            (subst (HasPhaseOutcome key.start key.ring words.tail words.durable (ranges_of log) (log.groups slot).members) m.told
            (s.in_group slot).outcome);
      };
      loads = l.loads (put_group log.groups slot (record { members = m.before ++ m.behind; phase = phase }))
          (seen_slot slot (words.slot slot) v.seen);
      awaits = l.awaits v.books;
      totals = λ j z there flusher. l.totals (length z.standing.made)
          (subst (HasTotalAtPhase (length z.standing.made) (log.groups slot).members) m.told (s.totals j z there slot flusher));
      heard = λ j z there. s.heard j z there me v at;
      last = (one_step_more-keeps_seen log.groups v.seen (seen_slot slot (words.slot slot) v.seen) refl refl refl refl refl refl refl).last
          (s.lasts me v at (ap is_spent active));
      others = λ seat total is old closed loaded. let both : Told m.total outcome m.remaining ≡ Closed seat total = sym m.told ∙ is in absurd (cc);
    }
