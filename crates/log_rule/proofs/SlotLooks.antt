-- A slot's state is loaded: a member that waits sees whether its group is told.
use Rattle.std.proofs.Common.{◌≡◌, ◌==◌, ℕ, ◌/◌, ◌^◌, ◌<◌, nat_lt, cond, Bool, true, false, List, [], ◌∷◌, set, sym, refl, ap, ◌∙◌, subst, arith, eq-eqb, eqb-true}
use Rattle.std.proofs.Math.Nat.{div-le_self}
use mathlib.Core.Option.{some}
use lib.ListN.{get_elem?}
use Rattle.slot_word.specs.SlotWord.{total_in, IsSlotWord}
use Rattle.slot_core.specs.State.{MemberStage, joined}
use Rattle.log_rule.specs.declared.group_view.MemberStep.{MemberStep}
use Rattle.log_rule.specs.declared.group_view.MemberStep.TheVariants.{Closes, Waits, Hears, Places, Stores, Tells, Fills, Leaves}
use Rattle.log_rule.specs.declared.start.Start.{Start}
use Rattle.log_rule.specs.declared.view.Call.{Call}
use Rattle.log_rule.specs.declared.view.Call.TheVariants.{Idle, Filling, Joined, Emptying, Marked, Holding, Raising, Reopening}
use Rattle.log_rule.specs.declared.view.View.{View}
use Rattle.log_rule.specs.Events.{task_in, slots_of, Leads, IsStep, none}
use Rattle.log_rule.specs.Groups.{Piece, Group}
use Rattle.log_rule.specs.GroupViews.{stage_of}
use Rattle.table_layout.specs.Layout.{Slot}
use Rattle.log_rule.specs.Log.{Log}
use Rattle.log_rule.specs.Marks.{Carries, HasTrueEnds}
use Rattle.log_rule.specs.Members.{LoadsForGroup, AwaitsPlace}
use Rattle.log_rule.specs.Slots.{own_pieces, pieces_at, IsToldAs}
use Rattle.log_rule.specs.SlotViews.{seen_slot, tells_refusal, step_seeing, call_seeing, contended_seeing, saw_slot}
use Rattle.log_rule.specs.Sound.{StoresStop, HasReadStop, HasWorkingOwner, IsSound}
use Rattle.log_rule.specs.Words.{Words}
use Rattle.log_rule.proofs.AccountsKept.{same_books-keeps_accounts}
use Rattle.log_rule.proofs.Lifting.{Tells as RuleTells}
use Rattle.log_rule.proofs.Members.{KeepsSeen, one_step_more-keeps_seen, keeps_seen-loads_for_group, keeps-view}
use Rattle.log_rule.proofs.Reading.{put-same_value}
use Rattle.log_rule.proofs.Roles.{HasSame, crew-set_same, rests_if_quiet-set, change_view-sound}
use Rattle.log_rule.proofs.MachineShown.{hands_of-set_same}
use Rattle.log_rule.proofs.SlotWords.{at_phase-slot_word, at_phase-told_as}
use Rattle.log_rule.proofs.ViewChanges.{each_view-set, each_seat-at}

-- a seat that carries, or has an LSN in hand, is no member
carries-seeing : (place slot word : ℕ) (call : Call) → Carries place call → Carries place (call_seeing slot word call)
carries-seeing place slot word Idle carries = carries
carries-seeing place slot word (Filling entry) carries = carries
carries-seeing place slot word (Joined other piece step) carries = carries
carries-seeing place slot word (Emptying other base total) carries = carries
carries-seeing place slot word (Marked after) carries = carries
carries-seeing place slot word (Holding at after) carries = carries
carries-seeing place slot word (Raising from to after) carries = carries
carries-seeing place slot word (Reopening other) carries = carries

ends-seeing : (start exposed slot word : ℕ) (log : Log) (call : Call) → HasTrueEnds start exposed log call
    → HasTrueEnds start exposed log (call_seeing slot word call)
ends-seeing start exposed slot word log Idle ends = ends
ends-seeing start exposed slot word log (Filling entry) ends = ends
ends-seeing start exposed slot word log (Joined other piece step) ends = ends
ends-seeing start exposed slot word log (Emptying other base total) ends = ends
ends-seeing start exposed slot word log (Marked after) ends = ends
ends-seeing start exposed slot word log (Holding at after) ends = ends
ends-seeing start exposed slot word log (Raising from to after) ends = ends
ends-seeing start exposed slot word log (Reopening other) ends = ends

-- what a member that waits has it has when it sees its group told
step-seeing_keeps : (P : MemberStep → Type 0) (word : ℕ) → ((refused : Bool) (total : ℕ) → P Waits → P (Hears refused total)) → (step : MemberStep) → P step
    → P (step_seeing word step)
step-seeing_keeps P word told Closes has = has
step-seeing_keeps P word told Waits has = by_test (nat_lt word (2 ^ 63))
  where
    by_test : (b : Bool) → P (cond b Waits (Hears (tells_refusal word) (total_in word)))
    by_test true = has
    by_test false = told (tells_refusal word) (total_in word) has
step-seeing_keeps P word told (Hears refused total) has = has
step-seeing_keeps P word told (Places total closed) has = has
step-seeing_keeps P word told (Stores total base) has = has
step-seeing_keeps P word told (Tells total outcome) has = has
step-seeing_keeps P word told (Fills base units) has = has
step-seeing_keeps P word told (Leaves tail durable) has = has

call-seeing_keeps : (P : Call → Type 0) (slot word : ℕ)
    → ((other : ℕ) (piece : Piece) (refused : Bool) (total : ℕ) → P (Joined other piece Waits) → P (Joined other piece (Hears refused total)))
    → (call : Call) → P call → P (call_seeing slot word call)
call-seeing_keeps P slot word told Idle has = has
call-seeing_keeps P slot word told (Filling entry) has = has
call-seeing_keeps P slot word told (Joined other piece step) has = by_slot (other == slot)
  where
    by_slot : (b : Bool) → P (Joined other piece (cond b (step_seeing word step) step))
    by_slot true = step-seeing_keeps (λ st. P (Joined other piece st)) word (told other piece) step has
    by_slot false = has
call-seeing_keeps P slot word told (Emptying other base total) has = has
call-seeing_keeps P slot word told (Marked after) has = has
call-seeing_keeps P slot word told (Holding at after) has = has
call-seeing_keeps P slot word told (Raising from to after) has = has
call-seeing_keeps P slot word told (Reopening other) has = has

-- to the machine a member that saw its group told still waits
stage-seeing : (word : ℕ) (step : MemberStep) → stage_of (step_seeing word step) ≡ stage_of step
stage-seeing word Closes = refl
stage-seeing word Waits = by_test (nat_lt word (2 ^ 63))
  where
    by_test : (b : Bool) → stage_of (cond b Waits (Hears (tells_refusal word) (total_in word))) ≡ stage_of Waits
    by_test true = refl
    by_test false = refl
stage-seeing word (Hears refused total) = refl
stage-seeing word (Places total closed) = refl
stage-seeing word (Stores total base) = refl
stage-seeing word (Tells total outcome) = refl
stage-seeing word (Fills base units) = refl
stage-seeing word (Leaves tail durable) = refl

task-seeing : (slot word : ℕ) (call : Call) → task_in (call_seeing slot word call) ≡ task_in call
task-seeing slot word Idle = refl
task-seeing slot word (Filling entry) = refl
task-seeing slot word (Joined other piece step) = by_slot (other == slot)
  where
    by_slot : (b : Bool) → task_in (Joined other piece (cond b (step_seeing word step) step)) ≡ task_in (Joined other piece step)
    by_slot true = ap (λ (stage : MemberStage). joined other piece.offset piece.size stage) (stage-seeing word step)
    by_slot false = refl
task-seeing slot word (Emptying other base total) = refl
task-seeing slot word (Marked after) = refl
task-seeing slot word (Holding at after) = refl
task-seeing slot word (Raising from to after) = refl
task-seeing slot word (Reopening other) = refl

module _ (groups : ℕ → Group) (seat slot word : ℕ) where
  unchanged : (call : Call) → HasSame groups seat call call
  unchanged call = record { entries = refl; claims = refl; books = λ _. refl; pieces = λ _. refl; phases = λ _. refl; knows = λ known. known }

  -- a member that waits is told no more than is so
  step-same : (other : ℕ) (piece : Piece) (step : MemberStep)
      → (step ≡ Waits → nat_lt word (2 ^ 63) ≡ false → IsToldAs (tells_refusal word) (total_in word) (groups other).phase)
      → HasSame groups seat (Joined other piece step) (Joined other piece (step_seeing word step))
  step-same other piece Closes told = unchanged (Joined other piece Closes)
  step-same other piece Waits told = by_test (nat_lt word (2 ^ 63)) (told refl)
    where
      by_test : (b : Bool) → (b ≡ false → IsToldAs (tells_refusal word) (total_in word) (groups other).phase)
          → HasSame groups seat (Joined other piece Waits) (Joined other piece (cond b Waits (Hears (tells_refusal word) (total_in word))))
      by_test true told' = unchanged (Joined other piece Waits)
      by_test false told' =
          record { entries = refl; claims = refl; books = λ _. refl; pieces = λ _. refl; phases = λ _. refl; knows = λ _. told' refl }
  step-same other piece (Hears refused total) told = unchanged (Joined other piece (Hears refused total))
  step-same other piece (Places total closed) told = unchanged (Joined other piece (Places total closed))
  step-same other piece (Stores total base) told = unchanged (Joined other piece (Stores total base))
  step-same other piece (Tells total outcome) told = unchanged (Joined other piece (Tells total outcome))
  step-same other piece (Fills base units) told = unchanged (Joined other piece (Fills base units))
  step-same other piece (Leaves tail durable) told = unchanged (Joined other piece (Leaves tail durable))

  call-same : (call : Call)
      → ((other : ℕ) (piece : Piece) → call ≡ Joined other piece Waits → other ≡ slot → nat_lt word (2 ^ 63) ≡ false
      → IsToldAs (tells_refusal word) (total_in word) (groups other).phase)
      → HasSame groups seat call (call_seeing slot word call)
  call-same Idle told = unchanged Idle
  call-same (Filling entry) told = unchanged (Filling entry)
  call-same (Joined other piece step) told = by_slot (other == slot) refl
    where
      by_slot : (b : Bool) → (other == slot) ≡ b → HasSame groups seat (Joined other piece step) (Joined other piece (cond b (step_seeing word step) step))
      by_slot true here = step-same other piece step (λ waits. told other piece (ap (Joined other piece) waits) (eqb-true other slot here))
      by_slot false elsewhere = unchanged (Joined other piece step)
  call-same (Emptying other base total) told = unchanged (Emptying other base total)
  call-same (Marked after) told = unchanged (Marked after)
  call-same (Holding at after) told = unchanged (Holding at after)
  call-same (Raising from to after) told = unchanged (Raising from to after)
  call-same (Reopening other) told = unchanged (Reopening other)

module _ (key : Start) (words : Words) (views : List View) (me : ℕ) (v : View) (slot word : ℕ) (log : Log) (s : IsSound key words views log)
    (at : get_elem? views me ≡ some v) (is : words.slot slot ≡ word) where
  pub quarter_ring-fits_31_bits : key.ring / 4 < 2 ^ 31
  quarter_ring-fits_31_bits = let quarter = div-le_self key.ring 4 in let greatest = s.ordered.greatest_ring in omega arith

  -- the seat is a member where its call says so
  pub joined-some_members : (other : ℕ) (piece : Piece) (step : MemberStep) → v.call ≡ Joined other piece step → (log.groups other).members ≡ [] → ⊥
  joined-some_members other piece step call none =
      let one : [] ≡ piece ∷ [] = sym (ap (own_pieces me) none)
      ∙ ((each_seat-at (HasWorkingOwner log.groups log.parts log.ahead) views me v at s.owners).joins other
      ∙ (ap (pieces_at other) call ∙ ap (λ b. cond {A = List Piece} b (piece ∷ []) []) (eq-eqb other other refl))) in absurd (cc)

  same : HasSame log.groups me v.call (call_seeing slot word v.call)
  same = call-same log.groups me slot word v.call (λ other piece call here high.
      let holds : words.slot other ≡ word = ap words.slot here ∙ is in
      subst (λ w. IsToldAs (tells_refusal w) (total_in w) (log.groups other).phase) holds
      (at_phase-told_as (key.ring / 4) (words.slot other) (words.base other) (log.groups other).members (log.groups other).phase quarter_ring-fits_31_bits (s.slots other).words
      (joined-some_members other piece Waits call) (subst (λ w. nat_lt w (2 ^ 63) ≡ false) (sym holds) high)))

  -- whether the seat is contended is nothing to the rule
  module _ (contended : Bool) where
    abbrev new : View
    new = record v { seen = seen_slot slot word v.seen; call = call_seeing slot word v.call; contended = contended }

    keeps : KeepsSeen log.groups v.seen new.seen
    keeps = one_step_more-keeps_seen log.groups v.seen new.seen refl refl refl refl refl refl refl

    pub see_slot-leads : Leads key words words views (set views me new) log none
    see_slot-leads = record {
      after = log;
      sound = change_view-sound key words words.stop words.crew words.account views me v new log s at same
          (λ _. carries-seeing words.exposed slot word v.call) (ends-seeing key.start words.exposed slot word log v.call (s.ends me v at)) refl
          (let old = s.seen me v at in
          record { tail_seen = old.tail_seen; exposed_seen = old.exposed_seen; durable_seen = old.durable_seen; boundaries = old.boundaries })
          (s.constants me v at) (λ off. ap (call_seeing slot word) (s.resting me v at off)) (s.entries me v at)
          (crew-set_same words.crew views me v new s.roles at refl) (s.sends me v at)
          (each_view-set (λ _ z. StoresStop words.stop z) views me new s.stops (s.stops me v at))
          (each_view-set (λ _ z. HasReadStop words.stop z) views me new s.read_stop (s.read_stop me v at))
          (rests_if_quiet-set views me v new s.quiet at (λ _ _ _ h. h) (λ _ h. h)) (s.looked me v at) (s.unheld me v at)
          (same_books-keeps_accounts key words.account log.parts log.groups views me v new at (same.books v.books) s.accounts)
          (keeps-view key words views me v log s at new refl keeps
          (call-seeing_keeps (LoadsForGroup log.groups new.seen) slot word (λ _ _ _ _ loads. loads) v.call
          (keeps_seen-loads_for_group key words views me v log s at new.seen keeps))
          (call-seeing_keeps (λ call. AwaitsPlace call v.books) slot word (λ _ _ _ _ awaits. awaits) v.call (s.awaits me v at)));
      shows = λ i. record (slots_of key words views log) { hands = hands_of-set_same 0 me views v new at (task-seeing slot word v.call) i };
    }

module _ (key : Start) (me : ℕ) (v : View) (slot : ℕ) where
  -- the state is seen, by a load or by an exchange that was lost
  pub saw_slot_contended-step : (contended : Bool) (n : ℕ)
      → IsStep key me (Slot slot) n n v (record v { seen = seen_slot slot n v.seen; call = call_seeing slot n v.call; contended = contended }) none
  saw_slot_contended-step contended n = record {
    leads = λ words views log s at is. subst (λ (f : ℕ → ℕ). Leads key words (record words { slot = f }) views
        (set views me (record v { seen = seen_slot slot n v.seen; call = call_seeing slot n v.call; contended = contended })) log none)
        (λ i k. sym (put-same_value words.slot slot n k is) i) (see_slot-leads key words views me v slot n log s at is contended);
  }

  pub saw_slot-step : (n : ℕ) → IsStep key me (Slot slot) n n v (saw_slot slot n v) none
  saw_slot-step n = saw_slot_contended-step (contended_seeing slot n v) n

  pub slot-tells_slot_word : RuleTells key me (Slot slot) v IsSlotWord
  slot-tells_slot_word words views log s at = at_phase-slot_word (key.ring / 4) (words.slot slot) (words.base slot) (log.groups slot).members (log.groups slot).phase
      (quarter_ring-fits_31_bits key words views me v slot (words.slot slot) log s at refl) (s.slots slot).words
