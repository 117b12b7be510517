-- The flusher's seat stores the stop word, is told what it and others have read of it, and sees the crew.
use Rattle.std.proofs.Common.{◌≡◌, ◌⊎◌, inl, ⊎_elim, ℕ, ◌==◌, ◌&&◌, ◌||◌, ◌+◌, cond, eqb, Bool, true, false, true≢false, List, [], ◌∷◌, set, None, sym, refl, ap, ◌∙◌, subst, arith, eqb-true}
use Rattle.std.specs.Prelude.{count_by}
use Rattle.std.specs.List.{list_all, list_any}
use Rattle.std.proofs.lemmas.List.Sums.{sum_by-cons}
use mathlib.Core.Option.{some, some-injective, some-ne-none}
use lib.ListN.{get_elem?}
use Rattle.log_rule.specs.declared.start.Start.{Start}
use Rattle.log_rule.specs.declared.view.Role.{Role}
use Rattle.log_rule.specs.declared.view.Role.TheVariants.{Flusher, Fresh, Active, Ended, Note, Spent}
use Rattle.log_rule.specs.declared.view.View.{View}
use Rattle.log_rule.specs.Events.{IsStep, Leads, none}
use Rattle.table_layout.specs.Layout.{Stop, Crew}
use Rattle.log_rule.specs.Log.{Log}
use Rattle.log_rule.specs.May.{MayStop}
use Rattle.log_rule.specs.Sound.{EachView, StoresStop, HasReadStop, IsSound, Knows, is_active_view}
use Rattle.log_rule.specs.Roles.{is_active, is_working}
use Rattle.log_rule.specs.Views.{counted, knows_all_enrolled, has_stopped, saw_crew}
use Rattle.log_rule.specs.Words.{Words}
use Rattle.log_rule.proofs.Lifting.{Tells}
use Rattle.log_rule.proofs.Loads.{change_sending-leads, see_word-leads}
use Rattle.log_rule.proofs.Members.{keeps_seen-refl, one_step_more-keeps_seen}
use Rattle.log_rule.proofs.Roles.{sole-flusher}
use Rattle.log_rule.proofs.ViewChanges.{each_view-set_weaken, each_view-set}

both-true : (a b : Bool) → (a && b) ≡ true → (a ≡ true) × (b ≡ true)
both-true true b e = (refl, e)
both-true false b e = absurd (true≢false (sym e))

-- none is counted where the count is 0
none-counted : (test : View → Bool) (views : List View) → count_by test views ≡ 0 → EachView (λ _ z. test z ≡ false) views
none-counted test [] none j z there = absurd (some-ne-none z (sym there))
none-counted test (x ∷ xs) none Rattle.std.proofs.Common.zero z there =
    ap test (sym (some-injective x z there)) ∙ off (test x) (omega (arith, none, sum_by-cons (λ (y : View). cond (test y) 1 0) x xs))
  where
    off : (b : Bool) → cond {A = ℕ} b 1 0 ≡ 0 → b ≡ false
    off true e = absurd (omega (arith, e))
    off false e = refl
none-counted test (x ∷ xs) none (Rattle.std.proofs.Common.suc j) z there =
    none-counted test xs (omega (arith, none, sum_by-cons (λ (y : View). cond (test y) 1 0) x xs)) j z there

-- who is made is known as enrolled, where all are
enrolled-if_made : (enrolled made : List ℕ) (n : ℕ) → list_all (λ worker. list_any (eqb worker) enrolled) made ≡ true → Knows n made
    → Knows n enrolled
enrolled-if_made enrolled [] n all knows = absurd (true≢false (sym knows))
enrolled-if_made enrolled (m ∷ ms) n all knows =
    let both = both-true (list_any (eqb m) enrolled) _ all in by_test (eqb n m) refl knows both.0 (enrolled-if_made enrolled ms n both.1)
  where
    by_test : (b : Bool) → eqb n m ≡ b → (b || list_any (eqb n) ms) ≡ true → Knows m enrolled → (Knows n ms → Knows n enrolled) → Knows n enrolled
    by_test true same is here later = subst (λ k. Knows k enrolled) (sym (eqb-true n m same)) here
    by_test false same is here later = later is

-- while stop was 0, nothing else was read in it
not-read : (stop word : ℕ) (z : View) → stop ≡ 0 → HasReadStop stop z → HasReadStop word z
not-read stop word z zero-stop read = ⊎_elim inl (λ is. inl (is ∙ zero-stop)) read

-- where each of two seats has read a stop word or 0, so has whichever is taken
pub cond-zero_or_stop : (stop mine his : ℕ) (b : Bool) → (mine ≡ 0) ⊎ (mine ≡ stop) → (his ≡ 0) ⊎ (his ≡ stop)
    → (cond b mine his ≡ 0) ⊎ (cond b mine his ≡ stop)
cond-zero_or_stop stop mine his true mine-read his-read = mine-read
cond-zero_or_stop stop mine his false mine-read his-read = his-read

module _ (key : Start) (me : ℕ) (v : View) where
  -- a step that changes nothing
  pub stop_unchanged-step : (n : ℕ) → IsStep key me Stop n n v v none
  stop_unchanged-step n = record {
    leads = λ words views log s at is.
        subst (λ x. Leads key words (record words { stop = x }) views (set views me v) log none) is
        (see_word-leads key words views me v log v.seen s at (s.seen me v at) (s.read_stop me v at) (keeps_seen-refl log.groups v.seen));
  }

  -- what the flusher's seat has read is what it stored
  pub stop-tells_read_stop : Tells key me Stop v (λ _. v.standing.role ≡ Flusher → HasReadStop v.sending.stop v)
  stop-tells_read_stop words views log s at flusher = subst (λ n. HasReadStop n v) (sym (s.stops me v at flusher)) (s.read_stop me v at)

  pub stop-step : (word : ℕ) → MayStop word v → (n : ℕ) → IsStep key me Stop n word v (has_stopped word v) none
  stop-step word may n = record {
    leads = λ words views log s at is. let old = s.seen me v at in let running : words.stop ≡ 0 = sym (s.stops me v at may.flusher) ∙ may.running in
        change_sending-leads key words word views me v log (counted v.seen) (record v.sending { stop = word }) s at record {
          tail_seen = old.tail_seen;
          exposed_seen = old.exposed_seen;
          durable_seen = old.durable_seen;
          boundaries = old.boundaries;
        } (s.sends me v at)
        (each_view-set_weaken (λ _ z. StoresStop words.stop z) (λ _ z. StoresStop word z) views me (has_stopped word v) s.stops (λ _. refl)
        (λ j z differ there _ f. absurd (differ (sole-flusher words.crew views me v s.roles at may.flusher j z there f))))
        (each_view-set_weaken (λ _ z. HasReadStop words.stop z) (λ _ z. HasReadStop word z) views me (has_stopped word v) s.read_stop
        (not-read words.stop word v running (s.read_stop me v at)) (λ _ z _ _. not-read words.stop word z running))
        (λ _ _ _ h. h) (s.looked me v at) (one_step_more-keeps_seen log.groups v.seen _ refl refl refl refl refl refl refl);
  }

  -- where no worker is active and all that were made were enrolled, none is at work
  rests : (words : Words) (views : List View) (log : Log) → IsSound key words views log → get_elem? views me ≡ some v → v.standing.role ≡ Flusher
      → words.crew ≡ 0 → knows_all_enrolled v.standing ≡ true → EachView (λ _ z. is_working z.standing.role ≡ false) views
  rests words views log s at flusher zero-crew all j z there = by_role z.standing.role refl
    where
      active : is_active z.standing.role ≡ false
      active = none-counted is_active_view views (sym s.roles.count ∙ zero-crew) j z there

      fresh : z.standing.role ≡ Fresh → ⊥
      fresh is =
          let made : Knows z.standing.worker v.standing.made =
          (s.roles.pairs me v at j z there).made flusher (ap Rattle.log_rule.specs.Roles.is_worker is) in
          true≢false (sym (enrolled-if_made v.standing.enrolled v.standing.made z.standing.worker all made)
          ∙ (s.roles.pairs j z there me v at).fresh is)

      by_role : (role : Role) → z.standing.role ≡ role → is_working z.standing.role ≡ false
      by_role Flusher is = ap is_working is
      by_role Fresh is = absurd (fresh is)
      by_role Active is = absurd (true≢false (sym (ap is_active is) ∙ active))
      by_role Ended is = ap is_working is
      by_role Note is = ap is_working is
      by_role Spent is = ap is_working is

  pub saw_crew-step : (n : ℕ) → IsStep key me Crew n n v (saw_crew n v) none
  saw_crew-step n = record {
    leads = λ words views log s at is. let old = s.seen me v at in
        subst (λ x. Leads key words (record words { crew = x }) views (set views me (saw_crew x v)) log none) is
        (change_sending-leads key words words.stop views me v log (record v.seen { steps = v.seen.steps + 1; crew = words.crew })
        (record v.sending { quiet = words.crew == 0 && knows_all_enrolled v.standing; looked = false }) s at record {
          tail_seen = old.tail_seen;
          exposed_seen = old.exposed_seen;
          durable_seen = old.durable_seen;
          boundaries = old.boundaries;
        } (s.sends me v at) (each_view-set (λ _ z. StoresStop words.stop z) views me (saw_crew words.crew v) s.stops (s.stops me v at))
        (each_view-set (λ _ z. HasReadStop words.stop z) views me (saw_crew words.crew v) s.read_stop (s.read_stop me v at))
        (λ j z there _ f q. let both = both-true (words.crew == 0) (knows_all_enrolled v.standing) q in
        rests words views log s at f (eqb-true words.crew 0 both.0) both.1 j z there)
        (λ _ _ l. absurd (true≢false (sym l))) (one_step_more-keeps_seen log.groups v.seen _ refl refl refl refl refl refl refl));
  }
