-- What holds of a member of a group that is told.
use Rattle.std.proofs.Common.{◌≡◌, inr, ℕ, ◌+◌, ◌/◌, ◌≤◌, List, [], ◌∷◌, ◌++◌, sym, ap, ◌∙◌, subst}
use Rattle.std.specs.List.{AllByRecursion}
use mathlib.Core.Option.{some}
use lib.ListN.{get_elem?}
use Rattle.lsn_space.proofs.TilingLemmas.{boundary-from}
use Rattle.log_rule.specs.declared.group_view.MemberStep.{MemberStep}
use Rattle.log_rule.specs.declared.start.Start.{Start}
use Rattle.log_rule.specs.declared.view.Call.TheVariants.{Joined}
use Rattle.log_rule.specs.declared.view.View.{View}
use Rattle.log_rule.specs.Groups.{Outcome, Granted, Piece, Member, Told}
use Rattle.log_rule.specs.Log.{LogRange, Claim, Log, Tiles, ranges_of, claim_of, IsRangeBoundary}
use Rattle.log_rule.specs.Slots.{is_member, piece_of, own_pieces, pieces_at, shares, range_of, LiesWithin, IsTold}
use Rattle.log_rule.specs.Sound.{HasWorkingOwner, IsSound}
use Rattle.log_rule.specs.Words.{Words}
use Rattle.log_rule.proofs.Boundaries.{range_size, boundary-prepend_tiling}
use Rattle.log_rule.proofs.Filling.{ranges-split}
use Rattle.log_rule.proofs.Lists.{Last, picked-last, all-middle}
use Rattle.log_rule.proofs.RangeLists.{tiles-le, tiles-split}
use Rattle.log_rule.proofs.SlotLeading.{slot-is_at_phase}
use Rattle.log_rule.proofs.SlotChanges.{cond-same_slot}
use Rattle.log_rule.proofs.ViewChanges.{each_seat-at}

-- what holds of each member holds of the seat's piece
pub all_members-own_piece : (seat : ℕ) (members : List Member) (piece : Piece) (P : Member → Type 0) (Q : Piece → Type 0)
    → own_pieces seat members ≡ piece ∷ [] → AllByRecursion P members → ((m : Member) → P m → Q m.piece) → Q piece
all_members-own_piece seat members piece P Q own all tell = let last = picked-last (is_member seat) piece_of members [] piece own in
    subst Q last.is (tell last.here (all-middle P last.before last.behind last.here (subst (AllByRecursion P) last.split all)))

-- a range ahead begins and ends at boundaries of the ranges, and ends not above the tail
pub range_ahead-boundaries : (most start tail : ℕ) (log : Log) (before behind : List LogRange) (r : LogRange) → Tiles most start (ranges_of log) tail
    → log.ahead ≡ before ++ r ∷ behind
    → IsRangeBoundary start (ranges_of log) (r.base + r.size) × (r.base + r.size ≤ tail) × IsRangeBoundary start (ranges_of log) r.base
range_ahead-boundaries most start tail log before behind r tiles is =
    let front : List LogRange = log.flushed ++ (log.exposed ++ before) in
    let split : ranges_of log ≡ front ++ r ∷ behind = ranges-split log before behind r is in
    let mid = tiles-split most start tail front behind r (subst (λ l. Tiles most start l tail) split tiles) in (
      subst (λ l. IsRangeBoundary start l (r.base + r.size)) (sym split)
          (boundary-prepend_tiling most start r.base (r.base + r.size) front (r ∷ behind) mid.0
          (inr (boundary-from range_size (r.base + r.size) behind))),
      tiles-le most (r.base + r.size) tail behind mid.3,
      subst (λ l. IsRangeBoundary start l r.base) (sym split)
          (boundary-prepend_tiling most start r.base r.base front (r ∷ behind) mid.0 (boundary-from range_size r.base (r ∷ behind))),
    )

module _ (key : Start) (words : Words) (views : List View) (me : ℕ) (v : View) (slot : ℕ) (piece : Piece) (step : MemberStep) (log : Log)
    (s : IsSound key words views log) (at : get_elem? views me ≡ some v) (call : v.call ≡ Joined slot piece step) where
  pub joined-own_pieces : own_pieces me (log.groups slot).members ≡ piece ∷ []
  joined-own_pieces = (each_seat-at (HasWorkingOwner log.groups log.parts log.ahead) views me v at s.owners).joins slot
      ∙ (ap (pieces_at slot) call ∙ cond-same_slot slot (piece ∷ []))

  module _ (total : ℕ) (outcome : Outcome) (remaining : ℕ) (told : (log.groups slot).phase ≡ Told total outcome remaining) where
    pub told_phase-is_told : IsTold (key.ring / 4) (words.slot slot) (words.base slot) total outcome remaining (log.groups slot).members
    told_phase-is_told = slot-is_at_phase key words views me v slot piece step log s at call (Told total outcome remaining) told

    pub piece-within_total : (1 ≤ piece.size) × (piece.offset + piece.size ≤ total)
    piece-within_total = all_members-own_piece me (log.groups slot).members piece (LiesWithin total) (λ p. (1 ≤ p.size) × (p.offset + p.size ≤ total))
        joined-own_pieces told_phase-is_told.remains.each (λ _ within. within)

  -- the range that a group has
  module _ (total base remaining : ℕ) (told : (log.groups slot).phase ≡ Told total (Granted base) remaining) where
    abbrev pub claim : Claim
    claim = record { base = base; size = total; remaining = remaining }

    pub group_range-last_ahead : Last (shares slot) claim_of log.ahead [] claim
    group_range-last_ahead = picked-last (shares slot) claim_of log.ahead [] claim ((s.slots slot).range ∙ ap range_of told)
