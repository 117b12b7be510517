-- The steps by which members of placed and of refused groups release their pieces, and what they find.
use Rattle.std.proofs.Common.{◌≡◌, ⊎_elim, ℕ, ◌+◌, ◌-◌, ◌*◌, ◌/◌, ◌^◌, ◌<◌, ◌≤◌, ◌==◌, cond, List, [], ◌∷◌, ◌++◌, set, sym, refl, ap, ◌∙◌, subst, arith, append-nil, eq-eqb, ne_eqb}
use mathlib.Core.Logic.{dite}
use mathlib.Core.Option.{some}
use native.Mathlib.Decide.{ℕ_discrete}
use lib.ListN.{get_elem?}
use Rattle.atomic_table.specs.Table.{Me, Allows}
use Rattle.slot_word.specs.declared.phase.Phase.TheVariants as kind
use Rattle.slot_word.specs.SlotWord.{total_in, remaining_in, phase_in, subtracted}
use Rattle.slot_word.proofs.SlotWordLemmas.{phase_back}
use Rattle.table_layout.specs.declared.layout.TheConstants.{STRIDE, RING}
use Rattle.log_rule.specs.declared.group_view.MemberStep.{MemberStep}
use Rattle.log_rule.specs.declared.group_view.MemberStep.TheVariants.{Fills, Leaves}
use Rattle.log_rule.specs.declared.start.Start.{Start}
use Rattle.log_rule.specs.declared.view.Call.{Call}
use Rattle.log_rule.specs.declared.view.Call.TheVariants.{Idle, Joined, Emptying, Reopening}
use Rattle.log_rule.specs.declared.view.Constants.{Constants}
use Rattle.log_rule.specs.declared.view.Entry.{Entry}
use Rattle.log_rule.specs.declared.view.View.{View}
use Rattle.log_rule.specs.Events.{Leads, IsStep, releases}
use Rattle.log_rule.specs.GroupViews.{placed_piece}
use Rattle.log_rule.specs.Groups.{Outcome, Granted, Refused, Piece, Told, Emptied}
use Rattle.table_layout.specs.Layout.{Slot}
use Rattle.log_rule.specs.Log.{Log, Shared, Owed}
use Rattle.log_rule.specs.May.{MayReleaseSlot, MayReleaseFilled, MayReleaseRefused}
use Rattle.log_rule.specs.Roles.{is_spent}
use Rattle.log_rule.specs.Slots.{told_word}
use Rattle.log_rule.specs.SlotViews.{slot_in, seen_slot, call_emptying, call_released, piece_in, released_piece, IsAsHeard, IsAsHeardIn, HasToRelease}
use Rattle.log_rule.specs.Sound.{IsSound, Ruled}
use Rattle.log_rule.specs.Words.{Words, put}
use Rattle.log_rule.proofs.GroupLeaving.{ToldMember, told-member, left-if_some_remain, left-if_none_remain, told_word-minus, told-subtracted, word-total, word-remaining}
use Rattle.log_rule.proofs.Lifting.{Tells, allowed-if_step}
use Rattle.log_rule.proofs.RefusedReleasing.{refused_release-leads}
use Rattle.log_rule.proofs.SlotAllowing.{fits-slot, allows-at_slot_place}
use Rattle.log_rule.proofs.SlotLeading.{joined-active}
use Rattle.log_rule.proofs.SlotLooks.{quarter_ring-fits_31_bits}
use Rattle.log_rule.proofs.SlotReleasing.{left_range-shared, left_range-owed, group_range-within_tail, piece_release-leads}
use Rattle.log_rule.proofs.SlotWords.{at_phase-slot_word}
use Rattle.log_rule.proofs.SlotChanges.{cond-same_slot, cond-other_slot}

-- the one word is the other with n units less that remain
abbrev pub IsLess : ℕ → ℕ → ℕ → Type 0
IsLess n found left = (outcome : Outcome) (total remaining : ℕ) → total < 2 ^ 31 → remaining < 2 ^ 31 → n ≤ remaining
    → found ≡ told_word outcome total remaining → left ≡ told_word outcome total (remaining - n)

pub less-minus : (n found : ℕ) → IsLess n found (found - n)
less-minus n found outcome total remaining fits fits' within is = ap (λ word. word - n) is ∙ told_word-minus outcome total remaining n within

pub less-subtracted : (n found : ℕ) → IsLess n found (subtracted n found)
less-subtracted n found outcome total remaining fits fits' within is =
    ap (subtracted n) is ∙ told-subtracted outcome total remaining n fits fits' within

module _ (key : Start) (words : Words) (views : List View) (me : ℕ) (v : View) (slot n : ℕ) (piece : Piece) (step : MemberStep) (outcome : Outcome)
    (log : Log) (s : IsSound key words views log) (at : get_elem? views me ≡ some v) (call : v.call ≡ Joined slot piece step)
    (m : ToldMember (key.ring / 4) (words.slot slot) (words.base slot) me piece outcome (log.groups slot)) (size : n ≡ piece.size) where
  sums : total_in (words.slot slot) ≡ m.total
  sums = word-total (key.ring / 4) (words.slot slot) (words.base slot) me piece outcome (log.groups slot) m

  remains : remaining_in (words.slot slot) ≡ m.remaining
  remains = word-remaining (key.ring / 4) (words.slot slot) (words.base slot) me piece outcome (log.groups slot) m

  -- what the word becomes
  left-is : (found left : ℕ) → words.slot slot ≡ found → IsLess n found left → left ≡ told_word outcome m.total (m.remaining - piece.size)
  left-is found left is less = subst (λ k. IsLess k found left) size less outcome m.total m.remaining m.total_fits m.remaining_fits m.enough
      (sym is ∙ m.is.word_is)

  -- what the seat turns to
  call-is : (found : ℕ) → words.slot slot ≡ found
      → cond (m.remaining == piece.size) (call_emptying slot m.total step) Idle ≡ call_released found v.call
  call-is found is = (λ i. cond ((sym remains ∙ ap remaining_in is) i == piece.size) (call_emptying slot ((sym sums ∙ ap total_in is) i) step) Idle)
      ∙ sym (ap (call_released found) call)

  -- what it finds
  finds : IsAsHeard step (words.slot slot) → HasToRelease (v.constants.ring / 4) n v.call (words.slot slot)
  finds heard =
      let ring : v.constants.ring ≡ key.ring = ap (λ (c : Constants). c.ring)
      (s.constants me v at (ap is_spent (joined-active key words views me v slot piece step log s at call))) in record {
        slot_word = at_phase-slot_word (key.ring / 4) (words.slot slot) (words.base slot) (log.groups slot).members (log.groups slot).phase
            (quarter_ring-fits_31_bits key words views me v slot (words.slot slot) log s at refl) (s.slots slot).words;
        heard = subst (λ c. IsAsHeardIn c (words.slot slot)) (sym call) heard;
        remain = omega (arith, size, remains, m.enough);
        within = omega (arith, sums, remains, m.is.remains.within);
        few = subst (λ r. total_in (words.slot slot) ≤ r / 4) (sym ring) (omega (arith, sums, m.is.remains.few));
      }

module _ (key : Start) (words : Words) (views : List View) (me : ℕ) (v : View) (slot n : ℕ) (log : Log) (s : IsSound key words views log)
    (at : get_elem? views me ≡ some v) where
  abbrev most : ℕ
  most = key.ring / 4

  -- the table, and the view with this call, once the word is this
  abbrev Releases : ℕ → List Entry → Call → Type 0
  Releases word entries call = Leads key words (record words { slot = put words.slot slot word }) views
      (set views me (record v { seen = seen_slot slot (words.slot slot) v.seen; entries = entries; call = call })) log (releases me)

  releases-as : (found left : ℕ) (entries : List Entry) (call : Call) → words.slot slot ≡ found → slot_in v.call ≡ slot
      → entries ≡ v.entries ++ piece_in v.call → call ≡ call_released found v.call → Releases left entries call
      → Leads key words (record words { slot = put words.slot slot left }) views (set views me (released_piece found v)) log (releases me)
  releases-as found left entries call is there entries-are call-is =
      subst (λ (p : ℕ × ℕ × List Entry × Call). Leads key words (record words { slot = put words.slot slot left }) views
      (set views me (record v { seen = seen_slot p.0 p.1 v.seen; entries = p.2; call = p.3 })) log (releases me))
      (λ i. (sym there i, is i, entries-are i, call-is i))

  module _ (may : MayReleaseFilled slot n v) where
    abbrev step : MemberStep
    step = Fills may.base may.units

    abbrev piece : Piece
    piece = may.piece

    m : ToldMember most (words.slot slot) (words.base slot) me piece (Granted may.base) (log.groups slot)
    m = told-member key words views me v slot piece step (Granted may.base) log s at may.fills (λ told. told)

    abbrev after : List Entry
    after = v.entries ++ placed_piece may.base may.units piece ∷ []

    filled-releases : (word : ℕ) → word ≡ told_word (Granted may.base) m.total (m.remaining - piece.size) → slot < key.slots
        → Releases word after (cond (m.remaining == piece.size) (Emptying slot may.base m.total) Idle)
    filled-releases word word-is below = dite (ℕ_discrete m.remaining piece.size)
        (λ all. subst (λ b. Releases word after (cond b (Emptying slot may.base m.total) Idle)) (sym (eq-eqb m.remaining piece.size all))
        (piece_release-leads key words views me v slot piece may.base may.units log s at may.fills may.full m (Emptied me) (Owed me)
        (Emptying slot may.base m.total) word word-is
        (left-if_none_remain most (words.slot slot) (words.base slot) me piece (Granted may.base) (log.groups slot) m all slot (Emptying slot may.base m.total)
        (cond-same_slot slot (Emptied me ∷ [])) (λ q differ. cond-other_slot slot q (Emptied me ∷ []) differ) (λ _. refl) (λ _. refl) (λ _ _. refl) (λ _. tt)
        (λ _ _ _. tt) (λ _ _. tt) (λ _. tt) refl)
        (left_range-owed me slot may.base m.total (m.remaining - piece.size) (omega (arith, all))) below))
        (λ more. subst (λ b. Releases word after (cond b (Emptying slot may.base m.total) Idle)) (sym (ne_eqb m.remaining piece.size more))
        (piece_release-leads key words views me v slot piece may.base may.units log s at may.fills may.full m
        (Told m.total (Granted may.base) (m.remaining - piece.size)) (Shared slot) Idle word word-is
        (left-if_some_remain most (words.slot slot) (words.base slot) me piece (Granted may.base) (log.groups slot) m slot more)
        (left_range-shared me slot may.base m.total (m.remaining - piece.size)) below))

    filled-finds : HasToRelease (v.constants.ring / 4) n v.call (words.slot slot)
    filled-finds = finds key words views me v slot n piece step (Granted may.base) log s at may.fills m may.size (
      ap phase_in m.is.word_is ∙ phase_back kind.Published m.total m.remaining m.total_fits m.remaining_fits,
      omega (
        arith,
        sums key words views me v slot n piece step (Granted may.base) log s at may.fills m may.size,
        group_range-within_tail key words views me v slot piece may.base may.units log s at may.fills may.full m,
        s.ordered.within_log,
      ),
    )

    filled-leads : (found left : ℕ) → words.slot slot ≡ found → IsLess n found left → slot < key.slots
        → Leads key words (record words { slot = put words.slot slot left }) views (set views me (released_piece found v)) log (releases me)
    filled-leads found left is less below = releases-as found left after (cond (m.remaining == piece.size) (Emptying slot may.base m.total) Idle) is
        (ap slot_in may.fills) (ap (λ c. v.entries ++ piece_in c) (sym may.fills))
        (call-is key words views me v slot n piece step (Granted may.base) log s at may.fills m may.size found is)
        (filled-releases left (left-is key words views me v slot n piece step (Granted may.base) log s at may.fills m may.size found left is less) below)

  module _ (may : MayReleaseRefused slot n v) where
    abbrev outcome : Outcome
    outcome = Refused may.tail may.durable

    abbrev leaving : MemberStep
    leaving = Leaves may.tail may.durable

    abbrev own : Piece
    own = may.piece

    r : ToldMember most (words.slot slot) (words.base slot) me own outcome (log.groups slot)
    r = told-member key words views me v slot own leaving outcome log s at may.leaves (λ told. told)

    refused-releases : (word : ℕ) → word ≡ told_word outcome r.total (r.remaining - own.size) → slot < key.slots
        → Releases word v.entries (cond (r.remaining == own.size) (Reopening slot) Idle)
    refused-releases word word-is below = dite (ℕ_discrete r.remaining own.size)
        (λ all. subst (λ b. Releases word v.entries (cond b (Reopening slot) Idle)) (sym (eq-eqb r.remaining own.size all))
        (refused_release-leads key words views me v slot own may.tail may.durable log s at may.leaves r (Emptied me) (Reopening slot) word word-is
        (left-if_none_remain most (words.slot slot) (words.base slot) me own outcome (log.groups slot) r all slot (Reopening slot) (cond-same_slot slot (Emptied me ∷ []))
        (λ q differ. cond-other_slot slot q (Emptied me ∷ []) differ) (λ _. refl) (λ _. refl) (λ _ _. refl) (λ _. tt)
        (λ _ _ _. tt) (λ _ _. tt) (λ _. tt) refl) refl refl below))
        (λ more. subst (λ b. Releases word v.entries (cond b (Reopening slot) Idle)) (sym (ne_eqb r.remaining own.size more))
        (refused_release-leads key words views me v slot own may.tail may.durable log s at may.leaves r
        (Told r.total outcome (r.remaining - own.size)) Idle word word-is
        (left-if_some_remain most (words.slot slot) (words.base slot) me own outcome (log.groups slot) r slot more) refl refl below))

    refused-finds : HasToRelease (v.constants.ring / 4) n v.call (words.slot slot)
    refused-finds = finds key words views me v slot n own leaving outcome log s at may.leaves r may.size
        (ap phase_in r.is.word_is ∙ phase_back kind.Refused r.total r.remaining r.total_fits r.remaining_fits)

    refused-leads : (found left : ℕ) → words.slot slot ≡ found → IsLess n found left → slot < key.slots
        → Leads key words (record words { slot = put words.slot slot left }) views (set views me (released_piece found v)) log (releases me)
    refused-leads found left is less below = releases-as found left v.entries (cond (r.remaining == own.size) (Reopening slot) Idle) is
        (ap slot_in may.leaves) (sym (append-nil v.entries) ∙ ap (λ c. v.entries ++ piece_in c) (sym may.leaves))
        (call-is key words views me v slot n own leaving outcome log s at may.leaves r may.size found is)
        (refused-releases left (left-is key words views me v slot n own leaving outcome log s at may.leaves r may.size found left is less) below)

module _ (key : Start) (me : ℕ) (v : View) (slot number n : ℕ) (slotted : key.slots ≡ number) (below : slot < number)
    (may : MayReleaseSlot slot n v) where
  pub release-step : (found left : ℕ) → IsLess n found left → IsStep key me (Slot slot) found left v (released_piece found v) (releases me)
  release-step found left less = record {
    leads = λ words views log s at is. let there : slot < key.slots = subst (λ k. slot < k) (sym slotted) below in ⊎_elim
        (λ (filled : MayReleaseFilled slot n v). filled-leads key words views me v slot n log s at filled found left is less there)
        (λ (leaves : MayReleaseRefused slot n v). refused-leads key words views me v slot n log s at leaves found left is less there) may;
  }

  pub release-tells_has_to_release : Tells key me (Slot slot) v (HasToRelease (v.constants.ring / 4) n v.call)
  release-tells_has_to_release words views log s at = ⊎_elim
      (λ (filled : MayReleaseFilled slot n v). filled-finds key words views me v slot n log s at filled)
      (λ (leaves : MayReleaseRefused slot n v). refused-finds key words views me v slot n log s at leaves) may

module _ (key : Start) (slots seat : ℕ) (me : Me (Unit {0}) View) (place ring number slot n : ℕ) (at : place ≡ RING + ring + ring + STRIDE * slot)
    (same : key.ring ≡ ring) (slotted : key.slots ≡ number) (below : slot < number) (may : MayReleaseSlot slot n me.0) where
  pub release_slot-allowed : Allows (Ruled key) slots seat me place (subtracted n)
      (λ w new. (new ≡ (released_piece w me.0, me.1)) × HasToRelease (me.0.constants.ring / 4) n me.0.call w)
  release_slot-allowed = allows-at_slot_place key slots seat me place ring number slot slot at same slotted below refl (subtracted n)
      (λ _ w new. (new ≡ (released_piece w me.0, me.1)) × HasToRelease (me.0.constants.ring / 4) n me.0.call w)
      (allowed-if_step key slots seat me (Slot slot) (fits-slot key slots seat me place ring number slot slot at same slotted below refl)
      (subtracted n) (λ w. released_piece w me.0) (λ _. releases seat) (HasToRelease (me.0.constants.ring / 4) n me.0.call)
      (release-tells_has_to_release key seat me.0 slot number n slotted below may)
      (λ w _. release-step key seat me.0 slot number n slotted below may w (subtracted n w) (less-subtracted n w)))
