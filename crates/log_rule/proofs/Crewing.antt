-- A worker is counted as active, and no more.
use Rattle.std.proofs.Common.{◌≡◌, ◌≢◌, ◌⊎◌, inl, inr, ⊎_elim, ℕ, zero, suc, eqb, ◌||◌, ◌+◌, ◌-◌, ◌%◌, ◌^◌, ◌≤◌, ◌<◌, cond, Bool, true, false}
use Rattle.std.proofs.Common.{true≢false, List, [], ◌∷◌, length, set, sym, refl, ap, ◌∙◌, subst, arith, mod-eq_of_lt, eqb-true, ne_eqb}
use Rattle.std.proofs.Math.Nat.{add-mod_right}
use Rattle.std.specs.Prelude.{count_by}
use Rattle.std.specs.List.{IsDistinct, AllByRecursion, list_any}
use Rattle.std.proofs.lemmas.Map.Steps.{length-le_from_distinct_below}
use Rattle.std.proofs.lemmas.List.Sums.{sum_by-cons}
use mathlib.Core.Option.{some}
use lib.ListN.{get_elem?}
use Rattle.log_rule.specs.declared.start.Start.{Start}
use Rattle.log_rule.specs.declared.view.Call.TheVariants.{Idle}
use Rattle.log_rule.specs.declared.view.Half.TheVariants.{Neither}
use Rattle.log_rule.specs.declared.view.Role.{Role}
use Rattle.log_rule.specs.declared.view.Role.TheVariants.{Flusher, Fresh, Active, Ended, Note, Spent}
use Rattle.log_rule.specs.declared.view.View.{View}
use Rattle.log_rule.specs.Events.{Leads, IsStep, none}
use Rattle.table_layout.specs.Layout.{Crew}
use Rattle.log_rule.specs.Log.{Log}
use Rattle.log_rule.specs.May.{MayLeave}
use Rattle.log_rule.specs.Sound.{EachView, StoresStop, HasReadStop, HasSoundRole, HasSoundRoles, HasSoundCrew, IsSound, Knows, Lacks, is_active_view}
use Rattle.log_rule.specs.Roles.{is_active, is_worker, is_working, is_spent, may_own}
use Rattle.log_rule.specs.Views.{counted}
use Rattle.log_rule.specs.CrewViews.{enrolled, retired}
use Rattle.log_rule.specs.Words.{Words}
use Rattle.log_rule.proofs.AccountsKept.{same_books-keeps_accounts}
use Rattle.log_rule.proofs.Lists.{all-among}
use Rattle.log_rule.proofs.Members.{KeepsSeen, one_step_more-keeps_seen, keeps_seen-loads_for_group, heard_of_workers-set}
use Rattle.log_rule.proofs.Roles.{rests_if_quiet-set, change_standing-leads}
use Rattle.log_rule.proofs.ViewChanges.{each_view-set, each_pair-set, count-set}

-- the numbers of the workers among these
abbrev worker_numbers : List View → List ℕ
worker_numbers [] = []
worker_numbers (v ∷ vs) = cond (is_worker v.standing.role) (v.standing.worker ∷ worker_numbers vs) (worker_numbers vs)

all-numbers : (P : ℕ → Type 0) (views : List View) → EachView (λ _ v. is_worker v.standing.role ≡ true → P v.standing.worker) views
    → AllByRecursion P (worker_numbers views)
all-numbers P [] all = tt
all-numbers P (v ∷ vs) all = by_role (is_worker v.standing.role) refl (all-numbers P vs (λ j z at. all (suc j) z at))
  where
    by_role : (b : Bool) → is_worker v.standing.role ≡ b → AllByRecursion P (worker_numbers vs)
        → AllByRecursion P (cond b (v.standing.worker ∷ worker_numbers vs) (worker_numbers vs))
    by_role true is rest = (all zero v refl is, rest)
    by_role false is rest = rest

abbrev AreApart : List View → Type 0
AreApart views = (i j : ℕ) (v z : View) → get_elem? views i ≡ some v → get_elem? views j ≡ some z → is_worker v.standing.role ≡ true
    → is_worker z.standing.role ≡ true → v.standing.worker ≡ z.standing.worker → i ≡ j

distinct-numbers : (views : List View) → AreApart views → IsDistinct eqb (worker_numbers views)
unfolding IsDistinct
distinct-numbers [] apart = tt
distinct-numbers (v ∷ vs) apart =
    by_role (is_worker v.standing.role) refl
    (distinct-numbers vs (λ i j y z at there is too same. let e = apart (suc i) (suc j) y z at there is too same in omega arith))
  where
    by_role : (b : Bool) → is_worker v.standing.role ≡ b → IsDistinct eqb (worker_numbers vs)
        → IsDistinct eqb (cond b (v.standing.worker ∷ worker_numbers vs) (worker_numbers vs))
    by_role true is rest = (
      all-numbers (λ n. eqb v.standing.worker n ≡ false) vs
          (λ j z at too. ne_eqb v.standing.worker z.standing.worker
          (λ same. let e = apart zero (suc j) v z refl at is too same in absurd (omega arith))),
      rest,
    )
    by_role false is rest = rest

active-le-numbers : (views : List View) → count_by is_active_view views ≤ length (worker_numbers views)
active-le-numbers [] = omega arith
active-le-numbers (v ∷ vs) = by_role v.standing.role (sum_by-cons (λ (x : View). cond (is_active_view x) 1 0) v vs) (active-le-numbers vs)
  where
    by_role : {a b : ℕ} (role : Role) → a ≡ cond (is_active role) 1 0 + b → b ≤ length (worker_numbers vs)
        → a ≤ length (cond (is_worker role) (v.standing.worker ∷ worker_numbers vs) (worker_numbers vs))
    by_role Flusher c h = omega arith
    by_role Fresh c h = omega arith
    by_role Active c h = omega arith
    by_role Ended c h = omega arith
    by_role Note c h = omega arith
    by_role Spent c h = omega arith

-- the crew word is far from its end
pub crew-small : (crew : ℕ) (views : List View) → HasSoundCrew crew views → crew ≤ 4294967296
crew-small crew views s =
    let distinct = distinct-numbers views (λ i j v z at there is too same. (s.pairs i v at j z there).apart is too same) in
    let below = all-numbers (λ n. n < 4294967296) views (λ j v at is. (s.each j v at).small is) in
    let small : (n : ℕ) → list_any (eqb n) (worker_numbers views) ≡ true → n < 4294967296 =
    λ n. all-among (λ k. k < 4294967296) n (worker_numbers views) below in
    let few : length (worker_numbers views) ≤ 4294967296 = length-le_from_distinct_below (worker_numbers views) 4294967296 distinct small in
    omega (arith, s.count, active-le-numbers views)

-- a worker's role becomes another of a worker that has begun
record IsNextRole (old role : Role) : Type 0 where
  was_worker : is_worker old ≡ true
  was_unspent : is_spent old ≡ false
  worker : is_worker role ≡ true
  owner : may_own role ≡ true
  begun : role ≡ Fresh → ⊥
  works : is_working old ≡ false → is_working role ≡ false

-- the role of a worker's seat changes; what it then knows as enrolled it knew before, but for its own number at most
module _ (key : Start) (words : Words) (views : List View) (me : ℕ) (v : View) (log : Log) (s : IsSound key words views log)
    (at : get_elem? views me ≡ some v) (old role : Role) (was : v.standing.role ≡ old) (next : IsNextRole old role) (known : List ℕ)
    (learns : (n : ℕ) → Knows n known → (n ≡ v.standing.worker) ⊎ Knows n v.standing.enrolled) (crew : ℕ)
    (counts : crew + cond {A = ℕ} (is_active old) 1 0 ≡ words.crew + cond {A = ℕ} (is_active role) 1 0)
    (rests : is_active role ≡ false → (v.call ≡ Idle) × ((v.books.held ≡ []) × (v.books.half ≡ Neither))) where
  abbrev new : View
  new = record v { standing = record v.standing { role = role; enrolled = known }; seen = counted v.seen }

  worker : is_worker v.standing.role ≡ true
  worker = ap is_worker was ∙ next.was_worker

  no-flusher : {A : Type 0} → role ≡ Flusher → A
  no-flusher f = absurd (true≢false (sym next.worker ∙ ap is_worker f))

  lacks : (n : ℕ) → n ≢ v.standing.worker → Lacks n v.standing.enrolled → Lacks n known
  lacks n differ none = by_test (list_any (eqb n) known) refl
    where
      by_test : (b : Bool) → list_any (eqb n) known ≡ b → Lacks n known
      by_test true knows = absurd (⊎_elim differ (λ before. true≢false (sym before ∙ none)) (learns n knows))
      by_test false is = is

  crew-turns : HasSoundCrew crew (set views me new)
  crew-turns = record {
    count = let was : cond {A = ℕ} (is_active v.standing.role) 1 0 ≡ cond {A = ℕ} (is_active old) 1 0 = ap (λ (r : Role). cond {A = ℕ} (is_active r) 1 0) was in
        omega (arith, count-set is_active_view views me v new at, s.roles.count, was, counts);
    each = each_view-set (λ seat z. HasSoundRole seat z.standing) views me new s.roles.each
        record { small = λ _. (s.roles.each me v at).small worker; first = λ f. no-flusher f };
    pairs = each_pair-set (λ i y j z. HasSoundRoles i y.standing j z.standing) views me v new at s.roles.pairs
        record {
          apart = λ _ _ _. refl;
          made = λ f. no-flusher f;
          enrolled = λ f. no-flusher f;
          merged = λ f. no-flusher f;
          fresh = λ f. absurd (next.begun f);
          unmerged = λ _. (s.roles.pairs me v at me v at).unmerged worker;
        }
        (λ j z differ there. let to = s.roles.pairs me v at j z there in let by = s.roles.pairs j z there me v at in (
          record {
            apart = λ _ is same. to.apart worker is same;
            made = λ f. no-flusher f;
            enrolled = λ f. no-flusher f;
            merged = λ f. no-flusher f;
            fresh = λ f. absurd (next.begun f);
            unmerged = λ _. to.unmerged worker;
          },
          record {
            apart = λ is _ same. by.apart is worker same;
            made = λ f _. by.made f worker;
            enrolled = λ f n knows. ⊎_elim (λ (same : n ≡ v.standing.worker). subst (λ k. Knows k z.standing.made) (sym same) (by.made f worker))
                (λ (before : Knows n v.standing.enrolled). by.enrolled f n before) (learns n knows);
            merged = by.merged;
            fresh = λ f. lacks z.standing.worker (λ same. differ (by.apart (ap is_worker f) worker same)) (by.fresh f);
            unmerged = by.unmerged;
          },
        ));
  }

  turns : Leads key words (record words { crew = crew }) views (set views me new) log none
  turns = change_standing-leads key words words.stop crew words.account views me v new log s at refl refl
      (let old = s.seen me v at in
      record { tail_seen = old.tail_seen; exposed_seen = old.exposed_seen; durable_seen = old.durable_seen; boundaries = old.boundaries })
      (λ _. s.constants me v at (ap is_spent was ∙ next.was_unspent)) (λ off. (rests off).0) (λ off. absurd (true≢false (sym next.owner ∙ off)))
      crew-turns (λ f. no-flusher f) (each_view-set (λ _ z. StoresStop words.stop z) views me new s.stops (λ f. no-flusher f))
      (each_view-set (λ _ z. HasReadStop words.stop z) views me new s.read_stop (s.read_stop me v at))
      (rests_if_quiet-set views me v new s.quiet at (λ _ _ _ _ f. no-flusher f) (λ z h f q. next.works (sym (ap is_working was) ∙ h f q)))
      (λ f. no-flusher f) ((λ off. (rests off).1), (λ off. absurd (true≢false (sym next.owner ∙ off))))
      (same_books-keeps_accounts key words.account log.parts log.groups views me v new at refl s.accounts)
      record {
        loads = keeps_seen-loads_for_group key words views me v log s at (counted v.seen) keeps;
        awaits = s.awaits me v at;
        totals = λ slot f. no-flusher f;
        heard = heard_of_workers-set views me v new s.heard at (λ z h f. no-flusher f) (λ z h. h);
        last = λ _. keeps.last (s.lasts me v at (ap is_spent was ∙ next.was_unspent));
      }
    where
      keeps : KeepsSeen log.groups v.seen (counted v.seen)
      keeps = one_step_more-keeps_seen log.groups v.seen (counted v.seen) refl refl refl refl refl refl refl

pub enrolled-leads : (key : Start) (words : Words) (views : List View) (me : ℕ) (v : View) (log : Log) → IsSound key words views log
    → get_elem? views me ≡ some v → v.standing.role ≡ Fresh
    → Leads key words (record words { crew = words.crew + 1 }) views (set views me (enrolled v)) log none
enrolled-leads key words views me v log s at fresh =
    turns key words views me v log s at Fresh Active fresh
    record { was_worker = refl; was_unspent = refl; worker = refl; owner = refl; begun = λ f. absurd (cc); works = λ off. absurd (true≢false off) }
    (v.standing.worker ∷ v.standing.enrolled) (λ n knows. by_test n (eqb n v.standing.worker) refl knows)
    (words.crew + 1) (omega arith) (λ off. absurd (true≢false off))
  where
    by_test : (n : ℕ) (b : Bool) → eqb n v.standing.worker ≡ b → (b || list_any (eqb n) v.standing.enrolled) ≡ true
        → (n ≡ v.standing.worker) ⊎ Knows n v.standing.enrolled
    by_test n true same is = inl (eqb-true n v.standing.worker same)
    by_test n false same is = inr is

pub retired-leads : (key : Start) (words : Words) (views : List View) (me : ℕ) (v : View) (log : Log) → IsSound key words views log
    → get_elem? views me ≡ some v → MayLeave v → Leads key words (record words { crew = words.crew - 1 }) views (set views me (retired v)) log none
retired-leads key words views me v log s at may =
    turns key words views me v log s at Active Ended may.rests.active
    record { was_worker = refl; was_unspent = refl; worker = refl; owner = refl; begun = λ f. absurd (cc); works = λ _. refl }
    v.standing.enrolled (λ n knows. inr knows) (words.crew - 1)
    (let was : cond {A = ℕ} (is_active v.standing.role) 1 0 ≡ 1 = ap (λ (r : Role). cond {A = ℕ} (is_active r) 1 0) may.rests.active in
    omega (arith, count-set is_active_view views me v (retired v) at, s.roles.count, was)) (λ _. (may.rests.idle, (may.none_held, may.rests.whole)))

module _ (key : Start) (me : ℕ) (v : View) where
  pub enroll-step : v.standing.role ≡ Fresh → (n : ℕ) → IsStep key me Crew n (n + 1) v (enrolled v) none
  enroll-step fresh n =
      record {
        leads = λ words views log s at is. subst
            (λ x. Leads key words (record words { crew = x + 1 }) views (set views me (enrolled v)) log none) is
            (enrolled-leads key words views me v log s at fresh);
      }

  pub leave-step : MayLeave v → (n : ℕ) → IsStep key me Crew n (n - 1) v (retired v) none
  leave-step may n = record {
    leads = λ words views log s at is. subst
        (λ x. Leads key words (record words { crew = x - 1 }) views (set views me (retired v)) log none) is
        (retired-leads key words views me v log s at may);
  }

  -- the machine's sum and difference of words are those of numbers
  pub enroll-step_modulo : v.standing.role ≡ Fresh → (n : ℕ) → IsStep key me Crew n ((n + 1) % 2 ^ 64) v (enrolled v) none
  enroll-step_modulo fresh n = record {
    leads = λ words views log s at is. let small = crew-small words.crew views s.roles in
        subst (λ x. Leads key words (record words { crew = x }) views (set views me (enrolled v)) log none) (sym (mod-eq_of_lt (omega arith)))
        ((enroll-step fresh n).leads words views log s at is);
  }

  pub leave-step_modulo : MayLeave v → (n : ℕ) → IsStep key me Crew n ((n + (2 ^ 64 - 1)) % 2 ^ 64) v (retired v) none
  leave-step_modulo may n = record {
    leads = λ words views log s at is.
        let was : cond {A = ℕ} (is_active v.standing.role) 1 0 ≡ 1 = ap (λ (r : Role). cond {A = ℕ} (is_active r) 1 0) may.rests.active in
        let some : 1 ≤ n = omega (arith, count-set is_active_view views me v (retired v) at, s.roles.count, was, is) in
        let small = crew-small words.crew views s.roles in
        let whole : (n + (2 ^ 64 - 1)) % 2 ^ 64 ≡ n - 1 = ap (λ (x : ℕ). x % 2 ^ 64) (wraps n some)
        ∙ (add-mod_right (n - 1) (2 ^ 64) ∙ mod-eq_of_lt (omega arith)) in
        subst (λ x. Leads key words (record words { crew = x }) views (set views me (retired v)) log none) (sym whole)
        ((leave-step may n).leads words views log s at is);
  }
    where
      wraps : (n : ℕ) → 1 ≤ n → n + (2 ^ 64 - 1) ≡ (n - 1) + 2 ^ 64
      wraps n h = omega arith
