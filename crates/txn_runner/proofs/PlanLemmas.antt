-- The records of one transfer are of its number, and only the last of them ends it.
use Rattle.std.proofs.Common.{◌≡◌, ◌≢◌, ℕ, ◌+◌, cond, pos, neg_ℤ, Bool, true, false, List, [], ◌∷◌, ◌++◌, refl, sym, subst}
use Rattle.std.specs.List.{AllByRecursion}
use Rattle.log_record.specs.declared.rec.Rec.{Rec}
use Rattle.log_record.specs.declared.rec.Rec.TheVariants.{Update, Short, Over, Note}
use Rattle.lock_core.specs.Alone.{PlainTransfer, Outcome, Done, ShortAt, OverAt, lacks, overfills, after_leg, with_note, planned_from, planned_records, end_record}
use Rattle.lock_core.specs.Records.{txn_of, ends}

-- the record is of this transaction
abbrev pub IsRecordOf : ℕ → Rec → Type 0
IsRecordOf txn rec = txn_of rec ≡ txn

planned_from-own : (txn : ℕ) (last_commit balance : ℕ → ℕ) (k : ℕ) (legs : List (ℕ × ℕ × ℕ))
    → AllByRecursion (IsRecordOf txn) (planned_from txn last_commit balance k legs)
planned_from-own txn last_commit balance k [] = (refl, tt)
planned_from-own txn last_commit balance k (leg ∷ legs) =
    by_case (lacks leg balance) (overfills leg balance) (planned_from-own txn last_commit (after_leg leg balance) (k + 1) legs)
  where
    rest : List Rec
    rest = planned_from txn last_commit (after_leg leg balance) (k + 1) legs

    by_case : (short over : Bool) → AllByRecursion (IsRecordOf txn) (planned_from txn last_commit (after_leg leg balance) (k + 1) legs)
        → AllByRecursion (IsRecordOf txn) (cond short (Short txn (k + 1) ∷ []) (cond over (Over txn (k + 1) ∷ [])
        (Update txn leg.0 (neg_ℤ (pos leg.2)) (last_commit leg.0) ∷ Update txn leg.1 (pos leg.2) (last_commit leg.1) ∷ planned_from txn last_commit (after_leg leg balance) (k + 1) legs)))
    by_case true over own = (refl, tt)
    by_case false true own = (refl, tt)
    by_case false false own = (refl, (refl, own))

pub planned_records-all_of_txn : (txn : ℕ) (job : PlainTransfer) (last_commit balance : ℕ → ℕ) → AllByRecursion (IsRecordOf txn) (planned_records txn job last_commit balance)
planned_records-all_of_txn txn job last_commit balance = by_note job.note
  where
    by_note : (note : List ℕ) → AllByRecursion (IsRecordOf txn) (with_note txn note (planned_from txn last_commit balance 0 job.legs))
    by_note [] = planned_from-own txn last_commit balance 0 job.legs
    by_note (byte ∷ bytes) = (refl, planned_from-own txn last_commit balance 0 job.legs)

-- the last record of a list that isn't empty is the only one that may end the transaction
abbrev EndsOnlyLast : List Rec → Type 0
EndsOnlyLast [] = ⊥
EndsOnlyLast (rec ∷ []) = Unit {0}
EndsOnlyLast (rec ∷ other ∷ records) = (ends rec ≡ false) × EndsOnlyLast (other ∷ records)

ends_only_last-more : (rec : Rec) (records : List Rec) → ends rec ≡ false → EndsOnlyLast records → EndsOnlyLast (rec ∷ records)
ends_only_last-more rec [] off last = absurd last
ends_only_last-more rec (other ∷ records) off last = (off, last)

ends_only_last-front : (records : List Rec) (next : Rec) (rest : List Rec) → EndsOnlyLast (records ++ next ∷ rest)
    → AllByRecursion (λ rec. ends rec ≡ false) records
ends_only_last-front [] next rest last = tt
ends_only_last-front (rec ∷ []) next rest last = (last.0, tt)
ends_only_last-front (rec ∷ other ∷ records) next rest last = (last.0, ends_only_last-front (other ∷ records) next rest last.1)

planned_from-last : (txn : ℕ) (last_commit balance : ℕ → ℕ) (k : ℕ) (legs : List (ℕ × ℕ × ℕ)) → EndsOnlyLast (planned_from txn last_commit balance k legs)
planned_from-last txn last_commit balance k [] = tt
planned_from-last txn last_commit balance k (leg ∷ legs) =
    by_case (lacks leg balance) (overfills leg balance) (planned_from-last txn last_commit (after_leg leg balance) (k + 1) legs)
  where
    -- by whether the leg is refused, and why
    by_case : (short over : Bool) → EndsOnlyLast (planned_from txn last_commit (after_leg leg balance) (k + 1) legs)
        → EndsOnlyLast (cond short (Short txn (k + 1) ∷ []) (cond over (Over txn (k + 1) ∷ [])
        (Update txn leg.0 (neg_ℤ (pos leg.2)) (last_commit leg.0) ∷ Update txn leg.1 (pos leg.2) (last_commit leg.1) ∷ planned_from txn last_commit (after_leg leg balance) (k + 1) legs)))
    by_case true over last = tt
    by_case false true last = tt
    by_case false false last = (
      refl,
      ends_only_last-more (Update txn leg.1 (pos leg.2) (last_commit leg.1))
          (planned_from txn last_commit (after_leg leg balance) (k + 1) legs) refl last,
    )

planned_records-last : (txn : ℕ) (job : PlainTransfer) (last_commit balance : ℕ → ℕ) → EndsOnlyLast (planned_records txn job last_commit balance)
planned_records-last txn job last_commit balance = by_note job.note
  where
    by_note : (note : List ℕ) → EndsOnlyLast (with_note txn note (planned_from txn last_commit balance 0 job.legs))
    by_note [] = planned_from-last txn last_commit balance 0 job.legs
    by_note (byte ∷ bytes) = ends_only_last-more (Note txn (byte ∷ bytes)) (planned_from txn last_commit balance 0 job.legs) refl
        (planned_from-last txn last_commit balance 0 job.legs)

-- a transfer has a record
pub planned_records-not_empty : (txn : ℕ) (job : PlainTransfer) (last_commit balance : ℕ → ℕ) → planned_records txn job last_commit balance ≢ []
planned_records-not_empty txn job last_commit balance none = subst EndsOnlyLast none (planned_records-last txn job last_commit balance)

-- where records of it are left, none of those before them is its end record
pub planned_records-front_no_end : (txn : ℕ) (job : PlainTransfer) (last_commit balance : ℕ → ℕ) (records rest : List Rec)
    → records ++ rest ≡ planned_records txn job last_commit balance → rest ≢ [] → AllByRecursion (λ rec. ends rec ≡ false) records
planned_records-front_no_end txn job last_commit balance records [] are some = absurd (some refl)
planned_records-front_no_end txn job last_commit balance records (next ∷ rest) are some = ends_only_last-front records next rest
    (subst EndsOnlyLast (sym are) (planned_records-last txn job last_commit balance))

pub end_record-txn : (txn : ℕ) (job : PlainTransfer) (outcome : Outcome) → txn_of (end_record txn job outcome) ≡ txn
end_record-txn txn job Done = refl
end_record-txn txn job (ShortAt leg) = refl
end_record-txn txn job (OverAt leg) = refl

pub end_record-ends : (txn : ℕ) (job : PlainTransfer) (outcome : Outcome) → ends (end_record txn job outcome) ≡ true
end_record-ends txn job Done = refl
end_record-ends txn job (ShortAt leg) = refl
end_record-ends txn job (OverAt leg) = refl
