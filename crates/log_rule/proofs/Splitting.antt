-- The flusher's seat makes a worker.
use Rattle.std.proofs.Common.{◌≡◌, ◌≢◌, ⊎_elim, ℕ, eqb, ◌||◌, ◌+◌, ◌<◌, cond, Bool, true, false, true≢false, List, [], ◌∷◌, ◌++◌, length, set, sym, refl, ap, ◌∙◌, subst, le_refl, arith, eq-eqb}
use Rattle.std.specs.List.{list_any}
use Rattle.std.proofs.lemmas.List.Sums.{sum_by_push}
use mathlib.Core.Option.{some}
use lib.ListN.{get_elem?}
use Rattle.atomic_table.specs.Table.{Splits}
use Rattle.atomic_table.proofs.Lists.{set_here}
use Rattle.log_rule.specs.declared.start.Start.{Start}
use Rattle.log_rule.specs.declared.view.Role.TheVariants.{Flusher}
use Rattle.log_rule.specs.declared.view.View.{View}
use Rattle.log_rule.specs.Log.{Log}
use Rattle.log_rule.specs.May.{MaySplit}
use Rattle.log_rule.specs.Sound.{StoresStop, HasReadStop, RestsIfQuiet, HasSoundRole, HasSoundRoles, HasSoundCrew, IsSound, Knows, Lacks, Ruled, is_active_view}
use Rattle.log_rule.specs.Roles.{is_worker, is_spent}
use Rattle.log_rule.specs.CrewViews.{hires, hired}
use Rattle.log_rule.specs.Words.{Words, words_in}
use Rattle.log_rule.proofs.Adding.{add_seat-sound}
use Rattle.log_rule.proofs.AccountsKept.{same_books-keeps_accounts}
use Rattle.log_rule.proofs.Lists.{or-true_right}
use Rattle.log_rule.proofs.Members.{total_at_phase-more_workers, refusals-more_workers, heard_of_workers-set}
use Rattle.log_rule.proofs.Roles.{rests_if_quiet-set, change_standing-sound}
use Rattle.log_rule.proofs.ViewChanges.{get_elem-below_length, each_view-set, each_view-push, each_pair-set, each_pair-push, count-set}

lacks-all : (n : ℕ) (known made : List ℕ) → ((q : ℕ) → Knows q known → Knows q made) → Lacks n made → Lacks n known
lacks-all n known made sub lacks = by_test (list_any (eqb n) known) refl
  where
    by_test : (b : Bool) → list_any (eqb n) known ≡ b → Lacks n known
    by_test true is = absurd (true≢false (sym (sub n is) ∙ lacks))
    by_test false is = is

module _ (key : Start) (words : Words) (views : List View) (me : ℕ) (v : View) (n : ℕ) (log : Log) (s : IsSound key words views log)
    (at : get_elem? views me ≡ some v) (may : MaySplit n v) (small : n < 4294967296) where
  abbrev flusher_view : View
  flusher_view = hires n v

  abbrev worker : View
  worker = hired n v

  more : (q : ℕ) → Knows q v.standing.made → Knows q flusher_view.standing.made
  more q knows = or-true_right (eqb q n) _ knows

  first : me ≡ 0
  first = (s.roles.each me v at).first may.flusher

  -- the flusher's seat knows one more number
  crew-hires : HasSoundCrew words.crew (set views me flusher_view)
  crew-hires = record {
    count = s.roles.count ∙ sym (same _ (count-set is_active_view views me v flusher_view at));
    each = each_view-set (λ seat z. HasSoundRole seat z.standing) views me flusher_view s.roles.each
        (let old = s.roles.each me v at in record { small = old.small; first = old.first });
    pairs = each_pair-set (λ i y j z. HasSoundRoles i y.standing j z.standing) views me v flusher_view at s.roles.pairs
        (let old = s.roles.pairs me v at me v at in
        record {
          apart = old.apart;
          made = λ f w. more v.standing.worker (old.made f w);
          enrolled = λ f q knows. more q (old.enrolled f q knows);
          merged = λ f q knows. more q (old.merged f q knows);
          fresh =
              old.fresh;
          unmerged = old.unmerged;
        })
        (λ j z differ there. let to = s.roles.pairs me v at j z there in let by = s.roles.pairs j z there me v at in (
          record {
            apart = to.apart;
            made = λ f w. more z.standing.worker (to.made f w);
            enrolled = λ f q knows. more q (to.enrolled f q knows);
            merged = λ f q knows. more q (to.merged f q knows);
            fresh = to.fresh;
            unmerged = to.unmerged;
          },
          record { apart = by.apart; made = by.made; enrolled = by.enrolled; merged = by.merged; fresh = by.fresh; unmerged = by.unmerged },
        ));
  }
    where
      same : {a b : ℕ} (k : ℕ) → a + k ≡ b + k → a ≡ b
      same k e = omega arith

  hired-sound : IsSound key words (set views me flusher_view) log
  hired-sound = change_standing-sound key words words.stop words.crew words.account views me v flusher_view log s at refl refl (s.seen me v at) (s.constants me v at)
      (s.resting me v at) (s.entries me v at) crew-hires (s.sends me v at)
      (each_view-set (λ _ z. StoresStop words.stop z) views me flusher_view s.stops (s.stops me v at))
      (each_view-set (λ _ z. HasReadStop words.stop z) views me flusher_view s.read_stop (s.read_stop me v at))
      (rests_if_quiet-set views me v flusher_view s.quiet at (λ _ _ _ _ _ q. absurd (true≢false (sym q))) (λ _ h. h)) (λ _ q. absurd (true≢false (sym q))) (s.unheld me v at)
      (same_books-keeps_accounts key words.account log.parts log.groups views me v flusher_view at refl s.accounts)
      record {
        loads = s.loads me v at;
        awaits = s.awaits me v at;
        totals = λ slot f. total_at_phase-more_workers (length v.standing.made) (log.groups slot).members (log.groups slot).phase (s.totals me v at slot f);
        heard = heard_of_workers-set views me v flusher_view s.heard at (λ z h f. refusals-more_workers (length v.standing.made) z.seen.refusals (h f)) (λ z h. h);
        last = s.lasts me v at;
      }

  abbrev made : List View
  made = set views me flusher_view

  -- whoever the flusher's seat is, it knows the new number as made
  flusher-knows : (j : ℕ) (z : View) → get_elem? made j ≡ some z → z.standing.role ≡ Flusher → Knows n z.standing.made
  flusher-knows j z there f = ⊎_elim
      (λ (t : (j ≡ me) × (flusher_view ≡ z)). subst (λ (y : View). Knows n y.standing.made) t.1
      (ap (λ b. b || list_any (eqb n) v.standing.made) (eq-eqb n n refl)))
      (λ (t : (j ≢ me) × (get_elem? views j ≡ some z)). absurd (t.0 ((s.roles.each j z t.1).first f ∙ sym first)))
      (Rattle.atomic_table.proofs.Lists.at_set views me j flusher_view z there)

  -- and it is not quiet any more
  flusher_view-busy : (j : ℕ) (z : View) → get_elem? made j ≡ some z → z.standing.role ≡ Flusher → z.sending.quiet ≡ true → ⊥
  flusher_view-busy j z there f = ⊎_elim
      (λ (t : (j ≡ me) × (flusher_view ≡ z)). subst (λ (y : View). y.sending.quiet ≡ true → ⊥) t.1 (λ q. true≢false (sym q)))
      (λ (t : (j ≢ me) × (get_elem? views j ≡ some z)). absurd (t.0 ((s.roles.each j z t.1).first f ∙ sym first)))
      (Rattle.atomic_table.proofs.Lists.at_set views me j flusher_view z there)

  abbrev IsNewTo : View → Type 0
  IsNewTo y = (is_worker y.standing.role ≡ true → y.standing.worker ≡ n → ⊥) × Lacks n y.standing.merged × Lacks n y.standing.enrolled

  -- no worker had the number, and nobody knew it as enrolled or merged
  new-number : (j : ℕ) (z : View) → get_elem? made j ≡ some z → IsNewTo z
  new-number j z there = ⊎_elim
      (λ (t : (j ≡ me) × (flusher_view ≡ z)). subst (λ (y : View). IsNewTo y) t.1 (of-old me v at))
      (λ (t : (j ≢ me) × (get_elem? views j ≡ some z)). of-old j z t.1)
      (Rattle.atomic_table.proofs.Lists.at_set views me j flusher_view z there)
    where
      of-old : (i : ℕ) (y : View) → get_elem? views i ≡ some y → IsNewTo y
      of-old i y here = let pair = s.roles.pairs me v at i y here in (
        (λ w same. absurd (true≢false (sym (subst (λ q. Knows q v.standing.made) same (pair.made may.flusher w)) ∙ may.new))),
        lacks-all n y.standing.merged v.standing.made (pair.merged may.flusher) may.new,
        lacks-all n y.standing.enrolled v.standing.made (pair.enrolled may.flusher) may.new,
      )

  crew-splits : HasSoundCrew words.crew (made ++ worker ∷ [])
  crew-splits = record {
    count = hired-sound.roles.count ∙ sym (sum_by_push (λ (z : View). cond (is_active_view z) 1 0) made worker ∙ none _);
    each = each_view-push (λ seat z. HasSoundRole seat z.standing)
        (λ seat z. HasSoundRole seat z.standing) made worker hired-sound.roles.each record { small = λ _. small; first = λ e. absurd (cc) }
        (λ _ _ _ p. p);
    pairs = each_pair-push (λ i y j z. HasSoundRoles i y.standing j z.standing) made worker hired-sound.roles.pairs
        record {
          apart = λ _ _ _. refl;
          made = λ e. absurd (cc);
          enrolled = λ e. absurd (cc);
          merged = λ e. absurd (cc);
          fresh = λ _. refl;
          unmerged = λ _. refl;
        }
        (λ j z there. let new = new-number j z there in (
          record {
            apart = λ _ w same. absurd (new.0 w (sym same));
            made = λ e. absurd (cc);
            enrolled = λ e. absurd (cc);
            merged = λ e. absurd (cc);
            fresh = λ _. new.2;
            unmerged = λ _. new.1;
          },
          record {
            apart = λ w _ same. absurd (new.0 w same);
            made = λ f _. flusher-knows j z there f;
            enrolled = λ f q e. absurd (true≢false (sym e));
            merged = λ f q e. absurd (true≢false (sym e));
            fresh = λ _. refl;
            unmerged =
                λ _. refl;
          },
        ));
  }
    where
      none : (k : ℕ) → k + 0 ≡ k
      none k = omega arith

  pub split-sound : IsSound key words (made ++ worker ∷ []) log
  split-sound = add_seat-sound key words made log hired-sound worker refl refl (λ f. absurd (cc))
      (let old = s.seen me v at in
      record { tail_seen = old.tail_seen; exposed_seen = old.exposed_seen; durable_seen = old.durable_seen; boundaries = old.boundaries })
      (s.read_stop me v at) (λ _. s.constants me v at (ap is_spent may.flusher)) crew-splits (each_pair-push (λ _ y _ z. RestsIfQuiet y z) made worker hired-sound.quiet
      (λ f. absurd (cc)) (λ j z there. ((λ f. absurd (cc)), (λ f q. absurd (flusher_view-busy j z there f q))))) refl
      (λ j z there. hired-sound.heard j z there me flusher_view (set_here views me flusher_view (get_elem-below_length views me v at)))
      (λ _. let old = s.lasts me v at (ap is_spent may.flusher) in record {
        tail_among = old.tail_among;
        durable_among = old.durable_among;
        tail_made = le_refl _;
        durable_made = le_refl _;
      })

pub split-allowed : (key : Start) (seat : ℕ) (v : View) (n : ℕ) → MaySplit n v → n < 4294967296
    → Splits {S = Unit {0}} (Ruled key) seat v (hires n v) (hired n v)
split-allowed key seat v n may small s ruled at =
    (ruled.0, (ruled.1.0, split-sound key (words_in key s.words) s.views seat v n ruled.1.0 ruled.1.1 at may small))
