-- A note is split off a seat.
use Rattle.std.proofs.Common.{◌≡◌, ℕ, zero, suc, ◌+◌, cond, false, true≢false, List, [], ◌∷◌, ◌++◌, set, sym, refl, ap, ◌∙◌, subst, arith}
use Rattle.std.proofs.lemmas.List.Sums.{sum_by_push}
use mathlib.Core.Option.{some, some-injective}
use lib.ListN.{get_elem?}
use Rattle.atomic_table.specs.Table.{Splits}
use Rattle.log_rule.specs.declared.start.Start.{Start}
use Rattle.log_rule.specs.declared.view.View.{View}
use Rattle.log_rule.specs.Log.{Log}
use Rattle.log_rule.specs.Sound.{RestsIfQuiet, HasSoundRole, HasSoundRoles, HasSoundCrew, IsSound, Ruled, is_active_view}
use Rattle.log_rule.specs.Roles.{is_spent}
use Rattle.log_rule.specs.CrewViews.{noted}
use Rattle.log_rule.specs.Words.{Words, words_in}
use Rattle.log_rule.proofs.Adding.{add_seat-sound}
use Rattle.log_rule.proofs.Roles.{not_flusher_nor_worker-sound_roles}
use Rattle.log_rule.proofs.ViewChanges.{each_view-push, each_pair-push}

set-same : (views : List View) (me : ℕ) (v : View) → get_elem? views me ≡ some v → set views me v ≡ views
set-same [] me v at = refl
set-same (x ∷ xs) zero v at = ap (λ y. y ∷ xs) (sym (some-injective x v at))
set-same (x ∷ xs) (suc me) v at = ap (λ l. x ∷ l) (set-same xs me v at)

module _ (key : Start) (words : Words) (views : List View) (me : ℕ) (v : View) (log : Log) (s : IsSound key words views log)
    (at : get_elem? views me ≡ some v) (unspent : is_spent v.standing.role ≡ false) where
  abbrev note : View
  note = noted v

  -- it is no worker's, and knows what the seat knows
  crew-notes : HasSoundCrew words.crew (views ++ note ∷ [])
  crew-notes = record {
    count = s.roles.count ∙ sym (sum_by_push (λ (z : View). cond (is_active_view z) 1 0) views note ∙ none _);
    each = each_view-push (λ seat z. HasSoundRole seat z.standing) (λ seat z. HasSoundRole seat z.standing) views note s.roles.each
        record { small = λ e. absurd (true≢false (sym e)); first = λ e. absurd (cc) } (λ _ _ _ p. p);
    pairs = each_pair-push (λ i y j z. HasSoundRoles i y.standing j z.standing) views note s.roles.pairs
        (not_flusher_nor_worker-sound_roles _ note.standing _ note.standing refl (λ e. absurd (cc)))
        (λ j z there. let by = s.roles.pairs j z there me v at in (
          not_flusher_nor_worker-sound_roles _ note.standing j z.standing refl (λ e. absurd (cc)),
          record {
            apart = λ _ e. absurd (true≢false (sym e));
            made = λ _ e. absurd (true≢false (sym e));
            enrolled = by.enrolled;
            merged = by.merged;
            fresh = by.fresh;
            unmerged = by.unmerged;
          },
        ));
  }
    where
      none : (k : ℕ) → k + 0 ≡ k
      none k = omega arith

  pub note-sound : IsSound key words (views ++ note ∷ []) log
  note-sound = add_seat-sound key words views log s note refl refl (λ f. absurd (cc)) (s.seen me v at) (s.read_stop me v at) (λ _. s.constants me v at unspent) crew-notes
      (each_pair-push (λ _ y _ z. RestsIfQuiet y z) views note s.quiet (λ f. absurd (cc)) (λ j z there. ((λ f. absurd (cc)), (λ _ _. refl)))) refl
      (λ j z there. s.heard j z there me v at) (λ _. s.lasts me v at unspent)

pub note-allowed : (key : Start) (seat : ℕ) (v : View) → is_spent v.standing.role ≡ false → Splits {S = Unit {0}} (Ruled key) seat v v (noted v)
note-allowed key seat v unspent s ruled at = (
  ruled.0,
  (
    ruled.1.0,
    subst (λ l. IsSound key (words_in key s.words) (l ++ noted v ∷ []) ruled.1.0) (sym (set-same s.views seat v at))
        (note-sound key (words_in key s.words) s.views seat v ruled.1.0 ruled.1.1 at unspent),
  ),
)
