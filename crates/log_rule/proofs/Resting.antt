-- Where no seat has anything under way, nothing is left to release, and all of it is exposed.
use Rattle.std.proofs.Common.{◌≡◌, ⊎_elim, ℕ, ◌/◌, cond, List, [], ◌∷◌, get_or, refl, sym, ap, ◌∙◌, subst, eq-eqb}
use Rattle.std.specs.List.{AllByRecursion}
use Rattle.log_rule.specs.declared.start.Start.{Start}
use Rattle.log_rule.specs.declared.view.Call.TheVariants.{Idle}
use Rattle.log_rule.specs.declared.view.View.{View}
use Rattle.log_rule.specs.Groups.{Group}
use Rattle.log_rule.specs.Log.{LogRange, Log, owed, is_owed_by, claim_of, IsReleased, IsOwedBySeat, IsSharedByMembers, IsAtWork, Tiles}
use Rattle.log_rule.specs.Marks.{IsFirstReleased, Carries, HasCarrier}
use Rattle.log_rule.specs.Slots.{pieces_at}
use Rattle.log_rule.specs.Sound.{IsSound}
use Rattle.log_rule.specs.Views.{nobody, claims_in}
use Rattle.log_rule.specs.Words.{Words}
use Rattle.log_rule.proofs.Sharing.{own_pieces_none-no_members}
use Rattle.log_rule.proofs.ViewChanges.{get_elem-get_or_nobody}

-- where the first range is not released, nobody owes one, and no slot has a member, none is there
none-ahead : (groups : ℕ → Group) (ranges : List LogRange) → AllByRecursion (IsAtWork groups) ranges → ((j : ℕ) → owed j ranges ≡ [])
    → ((slot : ℕ) → (groups slot).members ≡ []) → (IsFirstReleased ranges → ⊥) → ranges ≡ []
none-ahead groups [] work none empty first = refl
none-ahead groups (r ∷ rs) work none empty first =
    absurd (⊎_elim (λ (is : IsReleased r). first is) (⊎_elim owes (λ (is : IsSharedByMembers groups r). is.members (empty is.slot))) work.0)
  where
    owes : IsOwedBySeat r → ⊥
    owes is = let one : claim_of r ∷ owed is.seat rs ≡ [] =
        sym (ap (λ b. cond b (claim_of r ∷ owed is.seat rs) (owed is.seat rs)) (ap (is_owed_by is.seat) is.duty ∙ eq-eqb is.seat is.seat refl))
        ∙ none is.seat in absurd (cc)

pub at_rest-all_exposed : (key : Start) (words : Words) (views : List View) (log : Log) → IsSound key words views log
    → ((j : ℕ) → (get_or views j nobody).call ≡ Idle) → words.exposed ≡ words.tail
at_rest-all_exposed key words views log s idle = subst (λ l. Tiles (key.ring / 4) words.exposed l words.tail)
    (none-ahead log.groups log.ahead s.at_work (λ j. (s.owners j).owes ∙ ap claims_in (idle j)) (λ slot. own_pieces_none-no_members (log.groups slot).members
    (λ j. (s.owners j).joins slot ∙ ap (pieces_at slot) (idle j)))
    (λ first. nobody-carries (s.carried first))) s.contiguous.to_tail
  where
    nobody-carries : HasCarrier words.exposed views → ⊥
    nobody-carries c = subst (Carries words.exposed) (ap (λ (z : View). z.call) (sym (get_elem-get_or_nobody views c.seat c.view c.there)) ∙ idle c.seat) c.carries
