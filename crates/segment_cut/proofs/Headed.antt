-- A head that is written where no log is.
use Rattle.std.proofs.Common.{◌≡◌, inl, inr, ⊎_elim, ap, ℕ, ◌+◌, ◌*◌, List, [], ◌∷◌, ◌++◌, length, arith, append_assoc, length-append}
use Rattle.log_disk.specs.Disk.{put, IsOnlyImage}
use Rattle.lsn_space.specs.Opening.{Opening, IsSnapshot}
use Rattle.segment_head.specs.declared.head.TheConstants.{NEXT_GATE}
use Rattle.segment_head.specs.Head.{head, sealed_head}
use Rattle.segment_head.proofs.HeadLemmas.{length-snapshot}
use Rattle.segment_file.specs.declared.layout.TheConstants.{OPEN}
use Rattle.segment_file.specs.declared.scan_result.Tail.{Tail}
use Rattle.segment_file.specs.Gates.{Midway, StaysClosed}
use Rattle.segment_file.specs.Log.{cut_log}
use Rattle.segment_file.specs.StandingLog.{tail_at, LogStandsAt, LogStands, IsShut, HoldsNoneOrLog}
use Rattle.segment_file.proofs.Creates.{midway-no_log_or_P, put_open-all}
use Rattle.segment_file.proofs.GateBytes.{closed-byte}
use Rattle.segment_file.proofs.StableGates.{stays-no_log}
use Rattle.segment_file.proofs.StandingLemmas.{stands-headed}

pub length-sealed_head : (opening : Opening) → length (sealed_head opening) ≡ 20 + 12 * length opening.accounts
length-sealed_head opening = omega (arith, length-append (head opening) (NEXT_GATE ∷ []), length-snapshot opening)

-- a closed first gate begins no log
pub stays-none_or : (opening : Opening) (images : List ℕ → Type 0) (c : List ℕ) → StaysClosed 0 images c → HoldsNoneOrLog (cut_log opening) c
stays-none_or opening images c stays = inl (stays-no_log images c stays)

module _ (opening : Opening) (held : IsSnapshot opening) where
  -- a head behind an open gate, and the next gate, closed
  unfoldable pub opens-headed : (tail : Tail) → tail.at ≡ 20 + 12 * length opening.accounts → tail.next ≡ opening.lsn → (rest : List ℕ)
      → LogStandsAt tail (cut_log opening) (OPEN ∷ sealed_head opening ++ rest)
  opens-headed tail at next rest =
      stands-headed opening held tail _ (NEXT_GATE ∷ rest) (omega (arith, at, length-sealed_head opening, length-append (sealed_head opening) rest)) next
      (ap (λ list. OPEN ∷ list) (append_assoc (head opening) (NEXT_GATE ∷ []) rest)) (closed-byte NEXT_GATE rest (omega arith))

  module _ (file : List ℕ) (images : List ℕ → Type 0) (image : images file) (shut : IsShut 0 images) where
    -- at each moment an image is no log, or holds the head
    pub midway-holds_none_or_head : (c : List ℕ) → Midway 0 (sealed_head opening) file images c → HoldsNoneOrLog (cut_log opening) c
    midway-holds_none_or_head c left =
        let tail = tail_at (20 + 12 * length opening.accounts) opening.lsn in
        ⊎_elim (λ none. inl none) (λ stands. inr stands.held)
        (midway-no_log_or_P (sealed_head opening) file images image shut (LogStandsAt tail (cut_log opening)) (opens-headed tail (omega arith) (omega arith)) c left)

    -- after both writes each image holds it
    pub put_open-head_stands : (tail : Tail) → tail.at ≡ 20 + 12 * length opening.accounts → tail.next ≡ opening.lsn → (last : List ℕ) (lasts : List ℕ → Type 0)
        → last ≡ put 0 (OPEN ∷ []) (put 1 (sealed_head opening) file) → IsOnlyImage last lasts → LogStands tail (cut_log opening) lasts
    put_open-head_stands tail at next = put_open-all (sealed_head opening) file images image shut (LogStandsAt tail (cut_log opening)) (opens-headed tail at next)
