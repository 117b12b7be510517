-- A batch that is appended to a log that stands.
use Rattle.std.proofs.Common.{◌≡◌, inl, inr, ◌≤◌, ◌∙◌, ap, ℕ, ◌+◌, ◌*◌, List, [], ◌∷◌, ◌++◌, length, take, arith, append_assoc}
use Rattle.std.proofs.lemmas.Bool.{cases_eq}
use Rattle.log_disk.specs.Disk.{put, IsOnlyImage}
use Rattle.lsn_space.specs.declared.lsn.TheConstants.{LAST}
use Rattle.segment_file.specs.declared.layout.TheConstants.{OPEN, CLOSED}
use Rattle.segment_file.specs.declared.scan_result.Tail.{Tail}
use Rattle.segment_file.specs.File.{batch, IsCountedBatch}
use Rattle.segment_file.specs.Gates.{sealed, Midway}
use Rattle.segment_file.specs.Log.{Log, with_units}
use Rattle.segment_file.specs.StandingLog.{tail_after, LogStandsAt, LogStands, IsShut, HoldsLogOrMore}
use Rattle.segment_file.proofs.GateBytes.{closed-byte, behind, midway-gate_kept_or_body_whole, put-gate}
use Rattle.segment_file.proofs.StandingLemmas.{stands-rest_replaced, stands-more}

module _ (tail : Tail) (log : Log) (more file : List ℕ) (images : List ℕ → Type 0) (image : images file) (shut : IsShut tail.at images)
    (counted : IsCountedBatch more) (fits : tail.next + length more ≤ LAST) (stand : LogStands tail log images) where
  abbrev rest : List ℕ
  rest = behind tail.at images shut (sealed more) file image

  stands-opened : (new : Tail) → new.at ≡ tail.at + (5 + 8 * length more) → new.next ≡ tail.next + length more
      → (bytes : List ℕ) → bytes ≡ take tail.at file ++ OPEN ∷ (sealed more ++ rest) → LogStandsAt new (with_units log more) bytes
  stands-opened new at next bytes whole =
      stands-more tail log file (stand file image) more counted fits new at next bytes (CLOSED ∷ rest)
      (whole ∙ ap (λ body. take tail.at file ++ OPEN ∷ body) (append_assoc (batch more) (CLOSED ∷ []) rest)) (closed-byte CLOSED rest (omega arith))

  -- at each moment an image holds the list before, or with the whole batch
  pub midway-log_or_more : (c : List ℕ) → Midway tail.at (sealed more) file images c → HoldsLogOrMore log more c
  midway-log_or_more c left = elim (midway-gate_kept_or_body_whole tail.at images shut (sealed more) file image c left) [
    | inl kept ↦ inl (stands-rest_replaced tail log kept.0 (stand kept.0 kept.1) c _ kept.2 (closed-byte shut.gate _ shut.shut)).held
    | inr torn ↦ elim (cases_eq torn.0 OPEN) [
      | inl opened ↦ inr (stands-opened (tail_after tail more) (omega arith) (omega arith) c
          (torn.1 ∙ ap (λ byte. take tail.at file ++ byte ∷ (sealed more ++ rest)) opened)).held
      | inr closed ↦ inl (stands-rest_replaced tail log file (stand file image) c _ torn.1 (closed-byte torn.0 _ closed)).held
    ]
  ]

  -- after both writes each image stands at the new tail
  pub put_open-with_units_stand : (new : Tail) → new.at ≡ tail.at + (5 + 8 * length more) → new.next ≡ tail.next + length more → (last : List ℕ) (lasts : List ℕ → Type 0)
      → last ≡ put tail.at (OPEN ∷ []) (put (tail.at + 1) (sealed more) file) → IsOnlyImage last lasts → LogStands new (with_units log more) lasts
  put_open-with_units_stand new at next last lasts written settled c left =
      stands-opened new at next c (settled c left ∙ written ∙ put-gate tail.at images shut (sealed more) file image)
