-- The ranges that members share, and the slots, where a seat's own range changes.
use Rattle.std.proofs.Common.{◌≡◌, ℕ, cond, false, true≢false, List, [], ◌∷◌, ◌++◌, sym, refl, ap, ◌∙◌, append-nil, eq-eqb}
use Rattle.log_rule.specs.Groups.{Group, Member}
use Rattle.log_rule.specs.Log.{LogRange, Claim, claim_of}
use Rattle.log_rule.specs.Slots.{own_pieces, is_shared_at, shares, shared, IsSoundSlot}
use Rattle.log_rule.proofs.Lists.{picked-append, picked-mid_replaced}

-- a range that no slot's members share is put behind the others
pub shared-push_unshared : (slot : ℕ) (ranges : List LogRange) (r : LogRange) → is_shared_at slot r.duty ≡ false → shared slot (ranges ++ r ∷ []) ≡ shared slot ranges
shared-push_unshared slot ranges r off = picked-append (shares slot) claim_of ranges (r ∷ [])
    ∙ (ap (λ b. shared slot ranges ++ cond {A = List Claim} b (claim_of r ∷ []) []) off ∙ append-nil (shared slot ranges))

-- or exchanged for another such one
pub shared-mid_replaced_unshared : (slot : ℕ) (ls rs : List LogRange) (r r' : LogRange) → is_shared_at slot r.duty ≡ false → is_shared_at slot r'.duty ≡ false
    → shared slot (ls ++ r' ∷ rs) ≡ shared slot (ls ++ r ∷ rs)
shared-mid_replaced_unshared slot ls rs r r' off off' = picked-mid_replaced (shares slot) claim_of ls rs r r' (off' ∙ sym off) (λ on. absurd (true≢false (sym on ∙ off)))

-- or taken from before the others
pub shared-first_unshared : (slot : ℕ) (ranges rest : List LogRange) (r : LogRange) → ranges ≡ r ∷ rest → is_shared_at slot r.duty ≡ false → shared slot rest ≡ shared slot ranges
shared-first_unshared slot ranges rest r split off = sym (ap (shared slot) split ∙ ap (λ b. cond b (claim_of r ∷ shared slot rest) (shared slot rest)) off)

-- the ranges ahead change, but none that members share
pub sound_slot-same_shared : (most : ℕ) (words bases : ℕ → ℕ) (ahead after : List LogRange) (groups : ℕ → Group) → ((slot : ℕ) → shared slot after ≡ shared slot ahead)
    → ((slot : ℕ) → IsSoundSlot most (words slot) (bases slot) slot ahead (groups slot)) → (slot : ℕ) → IsSoundSlot most (words slot) (bases slot) slot after (groups slot)
sound_slot-same_shared most words bases ahead after groups same slots slot = record { range = same slot ∙ (slots slot).range; words = (slots slot).words }

-- where no seat has a piece there is no member
pub own_pieces_none-no_members : (members : List Member) → ((seat : ℕ) → own_pieces seat members ≡ []) → members ≡ []
own_pieces_none-no_members [] none = refl
own_pieces_none-no_members (member ∷ members) none =
    let one : member.piece ∷ own_pieces member.seat members ≡ [] =
    sym (ap (λ b. cond b (member.piece ∷ own_pieces member.seat members) (own_pieces member.seat members)) (eq-eqb member.seat member.seat refl))
    ∙ none member.seat in absurd (cc)
