-- The roles and the crew, once the flusher's seat has taken in a worker's that has ended, or a note.
use Rattle.std.proofs.Common.{◌≡◌, ◌≢◌, ◌⊎◌, inl, inr, ⊎_elim, ℕ, eqb, ◌||◌, ◌+◌, cond, Bool, true, false, true≢false, List, ◌∷◌, set, sym, refl, ap, ◌∙◌, subst, arith, ne_eqb, eqb-true}
use Rattle.std.proofs.lemmas.List.Folds.{list_any-append}
use mathlib.Core.Option.{some}
use lib.ListN.{get_elem?}
use Rattle.atomic_table.proofs.Lists.{at_set, set_else}
use Rattle.log_rule.specs.declared.view.Role.{Role}
use Rattle.log_rule.specs.declared.view.Role.TheVariants.{Flusher, Fresh, Active, Ended, Note, Spent}
use Rattle.log_rule.specs.declared.view.View.{View}
use Rattle.log_rule.specs.May.{MayMerge}
use Rattle.log_rule.specs.Sound.{EachView, HasSoundRole, HasSoundRoles, HasSoundCrew, Knows, Lacks, is_active_view, HasSeenBoundaries, SendsIfFlusher}
use Rattle.log_rule.specs.Sound.{StoresStop, LookedIfQuiet, HasWorkingOwner, HasConstants, RestsUnlessActive, OwnsIfWorker, IsSound, Ruled}
use Rattle.log_rule.specs.Roles.{has_ended, is_active, is_worker, is_spent}
use Rattle.log_rule.specs.Views.{nobody}
use Rattle.log_rule.specs.CrewViews.{takes_in}
use Rattle.log_rule.proofs.Roles.{not_flusher_nor_worker-sound_roles}
use Rattle.log_rule.proofs.ViewChanges.{each_view-set, each_pair-set, count-set}

or-false : (a b : Bool) → a ≡ false → b ≡ false → (a || b) ≡ false
or-false a b p q = ap (λ c. c || b) p ∙ q

pub has_ended-not_active : (role : Role) → has_ended role ≡ true → is_active role ≡ false
has_ended-not_active Flusher e = refl
has_ended-not_active Fresh e = refl
has_ended-not_active Active e = absurd (true≢false (sym e))
has_ended-not_active Ended e = refl
has_ended-not_active Note e = refl
has_ended-not_active Spent e = refl

pub ended-unspent : (role : Role) → has_ended role ≡ true → is_spent role ≡ false
ended-unspent Flusher e = refl
ended-unspent Fresh e = refl
ended-unspent Active e = refl
ended-unspent Ended e = refl
ended-unspent Note e = refl
ended-unspent Spent e = absurd (true≢false (sym e))

or-cases : (a b : Bool) → (a || b) ≡ true → (a ≡ true) ⊎ (b ≡ true)
or-cases true b e = inl refl
or-cases false b e = inr e

-- the views once the worker's seat is spent
abbrev pub without : List View → ℕ → List View
without views other = set views other nobody

pub at-without : (views : List View) (me other : ℕ) (v : View) → get_elem? views me ≡ some v → other ≢ me → get_elem? (without views other) me ≡ some v
at-without views me other v at apart = set_else views other me nobody (λ e. apart (sym e)) ∙ at

pub each-merged : (views : List View) (me other : ℕ) (new : View) (P : ℕ → View → Type 0) → EachView P views → P other nobody → P me new
    → EachView P (set (without views other) me new)
each-merged views me other new P all none mine = each_view-set P (without views other) me new (each_view-set P views other nobody all none) mine

module _ (crew : ℕ) (views : List View) (me other : ℕ) (v o : View) (roles : HasSoundCrew crew views) (at : get_elem? views me ≡ some v)
    (there : get_elem? views other ≡ some o) (apart : other ≢ me) (may : MayMerge v o) where
  abbrev new : View
  new = takes_in v o

  kept : get_elem? (without views other) me ≡ some v
  kept = at-without views me other v at apart

  no_worker : {A : Type 0} → is_worker v.standing.role ≡ true → A
  no_worker e = absurd (true≢false (sym e ∙ ap is_worker may.flusher))

  pairs-without : Rattle.log_rule.specs.Sound.EachPair (λ i y j z. HasSoundRoles i y.standing j z.standing) (without views other)
  pairs-without = each_pair-set (λ i y j z. HasSoundRoles i y.standing j z.standing) views other o nobody there roles.pairs
      (not_flusher_nor_worker-sound_roles other nobody.standing other nobody.standing refl (λ e. absurd (cc)))
      (λ j z differ here. (
        not_flusher_nor_worker-sound_roles other nobody.standing j z.standing refl (λ e. absurd (cc)),
        record {
          apart = λ _ e. absurd (true≢false (sym e));
          made = λ _ e. absurd (true≢false (sym e));
          enrolled = λ _ q e. absurd (true≢false (sym e));
          merged = λ _ q e. absurd (true≢false (sym e));
          fresh = λ _. refl;
          unmerged = λ _. refl;
        },
      ))

  -- the worker's number is no other's
  others-number : is_worker o.standing.role ≡ true → (j : ℕ) (z : View) → get_elem? (without views other) j ≡ some z → is_worker z.standing.role ≡ true
      → eqb z.standing.worker o.standing.worker ≡ false
  others-number worker j z here w = ⊎_elim
      (λ (t : (j ≡ other) × (nobody ≡ z)). absurd (true≢false (sym w ∙ ap (λ (y : View). is_worker y.standing.role) (sym t.1))))
      (λ (t : (j ≢ other) × (get_elem? views j ≡ some z)). ne_eqb z.standing.worker o.standing.worker
      (λ same. t.0 ((roles.pairs j z t.1 other o there).apart w worker same)))
      (at_set views other j nobody z here)

  lacks-merged : (j : ℕ) (z : View) → get_elem? (without views other) j ≡ some z → is_worker z.standing.role ≡ true → Lacks z.standing.worker v.standing.merged
      → Lacks z.standing.worker new.standing.merged
  lacks-merged j z here w lacks = by_role (is_worker o.standing.role) refl
    where
      by_role : (b : Bool) → is_worker o.standing.role ≡ b
          → Lacks z.standing.worker (cond b (o.standing.worker ∷ v.standing.merged) v.standing.merged)
      by_role true worker = or-false _ _ (others-number worker j z here w) lacks
      by_role false note = lacks

  fresh-lacks : (j : ℕ) (z : View) → get_elem? (without views other) j ≡ some z → z.standing.role ≡ Fresh → Lacks z.standing.worker new.standing.enrolled
  fresh-lacks j z here f = ⊎_elim
      (λ (t : (j ≡ other) × (nobody ≡ z)). absurd (true≢false (sym (ap is_worker f) ∙ ap (λ (y : View). is_worker y.standing.role) (sym t.1))))
      (λ (t : (j ≢ other) × (get_elem? views j ≡ some z)). list_any-append (eqb z.standing.worker) v.standing.enrolled o.standing.enrolled
      ∙ or-false _ _ ((roles.pairs j z t.1 me v at).fresh f) ((roles.pairs j z t.1 other o there).fresh f))
      (at_set views other j nobody z here)

  known-made : (q : ℕ) → Knows q new.standing.enrolled → Knows q v.standing.made
  known-made q knows = ⊎_elim (λ own. (roles.pairs me v at me v at).enrolled may.flusher q own)
      (λ his. (roles.pairs me v at other o there).enrolled may.flusher q his)
      (or-cases _ _ (sym (list_any-append (eqb q) v.standing.enrolled o.standing.enrolled) ∙ knows))

  merged-made : (q : ℕ) → Knows q new.standing.merged → Knows q v.standing.made
  merged-made q knows = by_role (is_worker o.standing.role) refl knows
    where
      before : Knows q v.standing.merged → Knows q v.standing.made
      before = (roles.pairs me v at me v at).merged may.flusher q

      by_role : (b : Bool) → is_worker o.standing.role ≡ b → Knows q (cond b (o.standing.worker ∷ v.standing.merged) v.standing.merged)
          → Knows q v.standing.made
      by_role true worker knows = ⊎_elim
          (λ same. subst (λ n. Knows n v.standing.made) (sym (eqb-true q o.standing.worker same))
          ((roles.pairs me v at other o there).made may.flusher worker)) before (or-cases (eqb q o.standing.worker) _ knows)
      by_role false note knows = before knows

  -- the flusher's seat is the first
  pub other_seat-not_flusher : {A : Type 0} (j : ℕ) (z : View) → j ≢ me → get_elem? (without views other) j ≡ some z → z.standing.role ≡ Flusher → A
  other_seat-not_flusher j z differ here f = absurd (differ (each_view-set (λ seat y. y.standing.role ≡ Flusher → seat ≡ 0) views other nobody (λ i y h. (roles.each i y h).first)
      (λ e. absurd (cc)) j z here f ∙ sym ((roles.each me v at).first may.flusher)))

  pub merge-sound_crew : HasSoundCrew crew (set (without views other) me new)
  merge-sound_crew = record {
    count = roles.count
        ∙ sym (same _ _ _ _ _ (count-set is_active_view views other o nobody there) (has_ended-not_active o.standing.role may.ended)
        (count-set is_active_view (without views other) me v new kept));
    each = each-merged views me other new (λ seat z. HasSoundRole seat z.standing) roles.each record {
      small = λ e. absurd (true≢false (sym e));
      first = λ e. absurd (cc);
    }
        record { small = (roles.each me v at).small; first = (roles.each me v at).first };
    pairs = each_pair-set (λ i y j z. HasSoundRoles i y.standing j z.standing) (without views other) me v new kept pairs-without
        record {
          apart = λ _ _ _. refl;
          made = λ _ w. no_worker w;
          enrolled = λ _ q knows. known-made q knows;
          merged = λ _ q knows. merged-made q knows;
          fresh = λ f. no_worker (ap is_worker f);
          unmerged = λ w. no_worker w;
        }
        (λ j z differ here. let to = pairs-without me v kept j z here in let by = pairs-without j z here me v kept in (
          record {
            apart = λ w. no_worker w;
            made = to.made;
            enrolled = to.enrolled;
            merged = to.merged;
            fresh = λ f. no_worker (ap is_worker f);
            unmerged = λ w. no_worker w;
          },
          record {
            apart = λ _ w. no_worker w;
            made = λ _ w. no_worker w;
            enrolled = λ f _ _. other_seat-not_flusher j z differ here f;
            merged = λ f _ _. other_seat-not_flusher j z differ here f;
            fresh = λ f. fresh-lacks j z here f;
            unmerged = λ w. lacks-merged j z here w (by.unmerged w);
          },
        ));
  }
    where
      same : (a b c : ℕ) (p : Bool) (k : ℕ) → b + cond p 1 0 ≡ a + 0 → p ≡ false → c + k ≡ b + k → c ≡ a
      same a b c p k spent off took = let none : cond {A = ℕ} p 1 0 ≡ 0 = ap (λ x. cond {A = ℕ} x 1 0) off in omega arith
