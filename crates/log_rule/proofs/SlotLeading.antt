-- A leader makes its group's next step, and the group comes to its next phase.
use Rattle.std.proofs.Common.{◌≡◌, ◌≢◌, ℕ, ◌/◌, ◌<◌, false, List, [], ◌∷◌, set, sym, refl, ap, ◌∙◌, subst}
use mathlib.Core.Option.{some}
use lib.ListN.{get_elem?}
use Rattle.slot_core.specs.State.{SlotState, membership, task_of}
use Rattle.slot_core.specs.Machine.{GroupEvent, IsMemberAt, IsEnabled, state_after, after_lead, next_stage, next_phase}
use Rattle.log_rule.specs.declared.group_view.MemberStep.{MemberStep}
use Rattle.log_rule.specs.declared.start.Start.{Start}
use Rattle.log_rule.specs.declared.view.Books.{Books}
use Rattle.log_rule.specs.declared.view.Call.TheVariants.{Idle, Joined}
use Rattle.log_rule.specs.declared.view.Role.{Role}
use Rattle.log_rule.specs.declared.view.Role.TheVariants.{Flusher, Fresh, Active, Ended, Note, Spent}
use Rattle.log_rule.specs.declared.view.Seen.{Seen}
use Rattle.log_rule.specs.declared.view.View.{View}
use Rattle.log_rule.specs.Events.{One, slots_of, Leads}
use Rattle.log_rule.specs.Groups.{GroupPhase, Piece, Group, put_group}
use Rattle.log_rule.specs.GroupViews.{member_entry, member_books, stage_of}
use Rattle.log_rule.specs.Log.{Log, ranges_of}
use Rattle.log_rule.specs.Roles.{is_active}
use Rattle.log_rule.specs.Slots.{known_phase, led_phase, phase_led, phase_at, KnowsPhase, range_of, IsAtPhase}
use Rattle.log_rule.specs.Sound.{HasSeenBoundaries, HasWorkingOwner, IsSound}
use Rattle.log_rule.specs.Words.{Words}
use Rattle.log_rule.proofs.Groups.{Keeps, Others, SameUnheard, IsUntold, same_unheard-keeps, untold-knows_any_phase}
pub use Rattle.log_rule.proofs.Groups.{led_phase-known_phase, IsWhole, known_phase-equal_if_whole}
use Rattle.log_rule.proofs.Members.{KeepsMembers}
use Rattle.log_rule.proofs.SlotShowing.{task_of-joined, slots_of-after_lead}
use Rattle.log_rule.proofs.SlotChanges.{cond-same_slot, member_step-mine, books_in-member_step_same, slot-sound}
use Rattle.log_rule.proofs.ViewChanges.{each_seat-at}

-- who has something under way is active
pub is_active-role_active : (role : Role) → (is_active role ≡ false → ⊥) → role ≡ Active
is_active-role_active Flusher on = absurd (on refl)
is_active-role_active Fresh on = absurd (on refl)
is_active-role_active Active on = refl
is_active-role_active Ended on = absurd (on refl)
is_active-role_active Note on = absurd (on refl)
is_active-role_active Spent on = absurd (on refl)

-- the two phases of a step that the leader makes, and its steps before and after
pub record Leading (seat : ℕ) (piece : Piece) (step step' : MemberStep) (p p' : GroupPhase) : Type 0 where
  pub entry : member_entry p' piece step' ≡ member_entry p piece step
  pub books : (books : Books) → member_books p' piece step' books ≡ member_books p piece step books
  pub leads : led_phase seat p' ≡ phase_led seat step'
  pub knows : KnowsPhase step' p'
  pub others : (j : ℕ) → j ≢ seat → led_phase j p' ≡ led_phase j p
  pub same : SameUnheard p p'
  pub untold : IsUntold p
  pub range : range_of p' ≡ range_of p

module _ (key : Start) (words : Words) (views : List View) (me : ℕ) (v : View) (slot : ℕ) (piece : Piece) (step : MemberStep) (log : Log)
    (s : IsSound key words views log) (at : get_elem? views me ≡ some v) (call : v.call ≡ Joined slot piece step) where
  mine : HasWorkingOwner log.groups log.parts log.ahead me v
  mine = each_seat-at (HasWorkingOwner log.groups log.parts log.ahead) views me v at s.owners

  pub joined-active : v.standing.role ≡ Active
  joined-active = is_active-role_active v.standing.role (λ off. let gone : Joined slot piece step ≡ Idle = sym call ∙ s.resting me v at off in cc)

  pub phase_led-known_phase : (q : GroupPhase) → phase_led me step ≡ q ∷ [] → known_phase (log.groups slot).phase ≡ q
  phase_led-known_phase q is = led_phase-known_phase me (log.groups slot).phase q (mine.leads slot ∙ (ap (phase_at me slot) call ∙ (cond-same_slot slot (phase_led me step) ∙ is)))

  pub phase_led-whole_phase : (q : GroupPhase) → phase_led me step ≡ q ∷ [] → IsWhole q → (log.groups slot).phase ≡ q
  phase_led-whole_phase q is whole = known_phase-equal_if_whole (log.groups slot).phase q (phase_led-known_phase q is) whole

  pub slot-is_at_phase : (p : GroupPhase) → (log.groups slot).phase ≡ p
      → IsAtPhase (key.ring / 4) (words.slot slot) (words.base slot) (log.groups slot).members p
  slot-is_at_phase p was = subst (IsAtPhase (key.ring / 4) (words.slot slot) (words.base slot) (log.groups slot).members) was (s.slots slot).words

  module _ (step' : MemberStep) (p p' : GroupPhase) (was : (log.groups slot).phase ≡ p) (l : Leading me piece step step' p p') (seen : Seen)
      (states bases : ℕ → ℕ) (is : IsAtPhase (key.ring / 4) (states slot) (bases slot) (log.groups slot).members p')
      (else : (q : ℕ) → q ≢ slot → (states q ≡ words.slot q) × (bases q ≡ words.base q))
      (sees : HasSeenBoundaries key.start words.tail words.exposed words.durable (ranges_of log) seen) (read : seen.stop ≡ v.seen.stop)
      (kept : KeepsMembers key words views v log slot (record { members = (log.groups slot).members; phase = p' }) seen (Joined slot piece step') v.books) where
    abbrev pub next_view : View
    next_view = record v { seen = seen; call = Joined slot piece step' }

    abbrev g : Group
    g = record { members = (log.groups slot).members; phase = p' }

    abbrev after : Log
    after = record { parts = log.parts; flushed = log.flushed; exposed = log.exposed; ahead = log.ahead; groups = put_group log.groups slot g }

    entry : member_entry p' piece step' ≡ member_entry (log.groups slot).phase piece step
    entry = l.entry ∙ sym (ap (λ q. member_entry q piece step) was)

    keep : (other : Piece) (st : MemberStep) → Keeps (log.groups slot).phase p' other st
    keep other st = subst (λ q. Keeps q p' other st) (sym was) (same_unheard-keeps p p' l.same (untold-knows_any_phase p p' l.untold) other st)

    others : (j : ℕ) → j ≢ me → Others (log.groups slot) g j
    others j differ = record { joins = refl; leads = l.others j differ ∙ sym (ap (led_phase j) was); keep = λ other st _ _. keep other st }

    pub leader_step-sound : IsSound key (record words { slot = states; base = bases }) (set views me next_view) after
    leader_step-sound = slot-sound key words views me v log s at joined-active slot g states bases seen (Joined slot piece step') v.books v.contended
        (member_step-mine log.groups me slot piece step step' v.call call p' entry l.leads l.knows (mine.joins slot))
        (books_in-member_step_same log.groups me slot piece step step' v.call call p' entry l.leads l.knows (mine.joins slot) v.books
        (λ books. l.books books ∙ sym (ap (λ q. member_books q piece step books) was)))
        others (l.range ∙ sym (ap range_of was)) is else sees read kept

    -- and the event is that of this stage
    pub leader_step-leads : (event : GroupEvent) → slot < key.slots → p' ≡ next_phase p → stage_of step' ≡ next_stage (stage_of step)
        → ((state : SlotState) → IsEnabled state event ≡ IsMemberAt (stage_of step) (task_of me state.hands))
        → ((state : SlotState) → state_after state event ≡ after_lead state me (membership (task_of me state.hands)))
        → Leads key words (record words { slot = states; base = bases }) views (set views me next_view) log (One event)
    leader_step-leads event below next stage enabled leads = record {
      after = after;
      sound = leader_step-sound;
      shows = (
        subst (λ (E : Type 0). E) (sym (enabled (slots_of key words views log)))
            (subst (IsMemberAt (stage_of step))
            (sym (task_of-joined key words states bases views me v next_view log slot g at below piece step step' call refl stage refl (next ∙ sym (ap next_phase was)))) refl),
        slots_of-after_lead key words states bases views me v next_view log slot g at below piece step step' call refl stage refl (next ∙ sym (ap next_phase was))
            ∙ sym (leads (slots_of key words views log)),
      );
    }
