-- One transfer alone: its outcome depends on its own accounts alone, and its records leg by leg are those of its outcome.
use Rattle.std.proofs.Common.{◌≡◌, ℕ, suc, ◌==◌, ◌||◌, ◌+◌, ◌-◌, ◌≤◌, cond, nat_lt, pos, neg_ℤ, Bool, true, false, List, [], ◌∷◌, ◌++◌, length, take, drop, refl, ap, ◌∙◌, sym, arith}
use Rattle.std.specs.List.{AllByRecursion}
use Rattle.std.proofs.lemmas.List.{same_from_push, take-append-drop}
use Rattle.log_record.specs.declared.rec.Rec.{Rec}
use Rattle.log_record.specs.declared.rec.Rec.TheVariants.{Update, Commit, Short, Over, Note}
use Rattle.lsn_space.specs.declared.opening.TheConstants.{MOST_BALANCE}
use Rattle.lock_core.specs.Records.{ends}
use Rattle.lock_core.specs.Transactions.{has_end, all_without_prev, in_order}
use Rattle.lock_core.proofs.OneMore.{or_false-both_false}
use Rattle.lock_core.specs.Alone.{PlainTransfer, Outcome, Done, ShortAt, OverAt, lacks, overfills, after_leg, outcome_from, outcome_alone, with_note}
use Rattle.lock_core.specs.Alone.{leg_updates, legs_passed, end_record, outcome_records, planned_from, planned_records}

-- a last commit of 0 for each account
abbrev pub no_commit : ℕ → ℕ
no_commit account = 0

-- the balances agree on both accounts of the leg
abbrev pub AgreesOn : (ℕ → ℕ) → (ℕ → ℕ) → ℕ × ℕ × ℕ → Type 0
AgreesOn balance other leg = (balance leg.0 ≡ other leg.0) × (balance leg.1 ≡ other leg.1)

agrees-after : (balance other : ℕ → ℕ) (leg : ℕ × ℕ × ℕ) (legs : List (ℕ × ℕ × ℕ)) → AllByRecursion (AgreesOn balance other) legs
    → AllByRecursion (AgreesOn (after_leg leg balance) (after_leg leg other)) legs
agrees-after balance other leg [] agree = tt
agrees-after balance other leg (next ∷ legs) agree =
    ((at next.0 agree.0.0, at next.1 agree.0.1), agrees-after balance other leg legs agree.1)
  where
    at : (account : ℕ) → balance account ≡ other account → after_leg leg balance account ≡ after_leg leg other account
    at account same = λ i. cond (leg.0 == account) (same i - leg.2) (cond (leg.1 == account) (same i + leg.2) (same i))

-- an outcome depends on the transfer's own accounts alone
pub outcome_from-agrees : (balance other : ℕ → ℕ) (k : ℕ) (legs : List (ℕ × ℕ × ℕ)) → AllByRecursion (AgreesOn balance other) legs
    → outcome_from k legs balance ≡ outcome_from k legs other
outcome_from-agrees balance other k [] agree = refl
outcome_from-agrees balance other k (leg ∷ legs) agree =
    let rest = outcome_from-agrees (after_leg leg balance) (after_leg leg other) (k + 1) legs (agrees-after balance other leg legs agree.1) in
    λ i. cond (nat_lt (agree.0.0 i) leg.2) (ShortAt (k + 1)) (cond (nat_lt MOST_BALANCE (agree.0.1 i + leg.2)) (OverAt (k + 1)) (rest i))

-- and so do its records
pub planned_from-agrees : (txn : ℕ) (last_commit balance other : ℕ → ℕ) (k : ℕ) (legs : List (ℕ × ℕ × ℕ)) → AllByRecursion (AgreesOn balance other) legs
    → planned_from txn last_commit balance k legs ≡ planned_from txn last_commit other k legs
planned_from-agrees txn last_commit balance other k [] agree = refl
planned_from-agrees txn last_commit balance other k (leg ∷ legs) agree =
    let rest = planned_from-agrees txn last_commit (after_leg leg balance) (after_leg leg other) (k + 1) legs (agrees-after balance other leg legs agree.1) in
    λ i. cond (nat_lt (agree.0.0 i) leg.2) (Short txn (k + 1) ∷ []) (cond (nat_lt MOST_BALANCE (agree.0.1 i + leg.2)) (Over txn (k + 1) ∷ [])
    (Update txn leg.0 (neg_ℤ (pos leg.2)) (last_commit leg.0) ∷ Update txn leg.1 (pos leg.2) (last_commit leg.1) ∷ rest i))

-- the records of the legs with their `prev` left out
pub planned_from-without_prev : (txn : ℕ) (last_commit balance : ℕ → ℕ) (k : ℕ) (legs : List (ℕ × ℕ × ℕ))
    → all_without_prev (planned_from txn last_commit balance k legs) ≡ planned_from txn no_commit balance k legs
planned_from-without_prev txn last_commit balance k [] = refl
planned_from-without_prev txn last_commit balance k (leg ∷ legs) =
    by_case (lacks leg balance) (overfills leg balance) (planned_from-without_prev txn last_commit (after_leg leg balance) (k + 1) legs)
  where
    rest : (ℕ → ℕ) → List Rec
    rest last_commit = planned_from txn last_commit (after_leg leg balance) (k + 1) legs

    by_case : (short over : Bool) → all_without_prev (planned_from txn last_commit (after_leg leg balance) (k + 1) legs) ≡ planned_from txn no_commit (after_leg leg balance) (k + 1) legs
        → all_without_prev (cond short (Short txn (k + 1) ∷ []) (cond over (Over txn (k + 1) ∷ [])
        (Update txn leg.0 (neg_ℤ (pos leg.2)) (last_commit leg.0) ∷ Update txn leg.1 (pos leg.2) (last_commit leg.1) ∷ planned_from txn last_commit (after_leg leg balance) (k + 1) legs)))
        ≡ cond short (Short txn (k + 1) ∷ []) (cond over (Over txn (k + 1) ∷ [])
        (Update txn leg.0 (neg_ℤ (pos leg.2)) 0 ∷ Update txn leg.1 (pos leg.2) 0 ∷ planned_from txn no_commit (after_leg leg balance) (k + 1) legs))
    by_case true over same = refl
    by_case false true same = refl
    by_case false false same = ap (λ records. Update txn leg.0 (neg_ℤ (pos leg.2)) 0 ∷ Update txn leg.1 (pos leg.2) 0 ∷ records) same

pub planned_records-without_prev : (txn : ℕ) (job : PlainTransfer) (last_commit balance : ℕ → ℕ)
    → all_without_prev (planned_records txn job last_commit balance) ≡ planned_records txn job no_commit balance
planned_records-without_prev txn job last_commit balance = by_note job.note
  where
    by_note : (note : List ℕ) → all_without_prev (with_note txn note (planned_from txn last_commit balance 0 job.legs)) ≡ with_note txn note (planned_from txn no_commit balance 0 job.legs)
    by_note [] = planned_from-without_prev txn last_commit balance 0 job.legs
    by_note (byte ∷ bytes) = ap (λ records. Note txn (byte ∷ bytes) ∷ records) (planned_from-without_prev txn last_commit balance 0 job.legs)

-- an outcome's legs and end record, of the legs behind the first k
abbrev passed_behind : ℕ → List (ℕ × ℕ × ℕ) → Outcome → ℕ
passed_behind k legs Done = length legs
passed_behind k legs (ShortAt leg) = leg - 1 - k
passed_behind k legs (OverAt leg) = leg - 1 - k

abbrev end_behind : ℕ → ℕ → List (ℕ × ℕ × ℕ) → Outcome → Rec
end_behind txn k legs Done = Commit txn (k + length legs)
end_behind txn k legs (ShortAt leg) = Short txn leg
end_behind txn k legs (OverAt leg) = Over txn leg

-- the outcome names no leg among the first k
abbrev IsBehind : ℕ → Outcome → Type 0
IsBehind k Done = Unit {0}
IsBehind k (ShortAt leg) = k + 1 ≤ leg
IsBehind k (OverAt leg) = k + 1 ≤ leg

behind : (k : ℕ) (legs : List (ℕ × ℕ × ℕ)) (balance : ℕ → ℕ) → IsBehind k (outcome_from k legs balance)
behind k [] balance = tt
behind k (leg ∷ legs) balance =
    by_case (lacks leg balance) (overfills leg balance) (outcome_from (k + 1) legs (after_leg leg balance)) (behind (k + 1) legs (after_leg leg balance))
  where
    by_case : (short over : Bool) (outcome : Outcome) → IsBehind (k + 1) outcome → IsBehind k (cond short (ShortAt (k + 1)) (cond over (OverAt (k + 1)) outcome))
    by_case true over outcome later = omega arith
    by_case false true outcome later = omega arith
    by_case false false Done later = tt
    by_case false false (ShortAt leg) later = omega arith
    by_case false false (OverAt leg) later = omega arith

planned_from-outcome : (txn k : ℕ) (legs : List (ℕ × ℕ × ℕ)) (balance : ℕ → ℕ) → planned_from txn no_commit balance k legs
    ≡ leg_updates txn (take (passed_behind k legs (outcome_from k legs balance)) legs) ++ end_behind txn k legs (outcome_from k legs balance) ∷ []
planned_from-outcome txn k [] balance = ap (λ legs. Commit txn legs ∷ []) (omega arith)
planned_from-outcome txn k (leg ∷ legs) balance =
    by_case (lacks leg balance) (overfills leg balance) (outcome_from (k + 1) legs (after_leg leg balance)) (behind (k + 1) legs (after_leg leg balance))
    (planned_from-outcome txn (k + 1) legs (after_leg leg balance))
  where
    none : (count : ℕ) (end : Rec) → count ≡ 0 → end ∷ [] ≡ leg_updates txn (take count (leg ∷ legs)) ++ end ∷ []
    none count end is = sym (ap (λ n. leg_updates txn (take n (leg ∷ legs)) ++ end ∷ []) is)

    more : (before count : ℕ) (first end : Rec) → count ≡ suc before → first ≡ end
        → planned_from txn no_commit (after_leg leg balance) (k + 1) legs ≡ leg_updates txn (take before legs) ++ first ∷ []
        → Update txn leg.0 (neg_ℤ (pos leg.2)) 0 ∷ Update txn leg.1 (pos leg.2) 0 ∷ planned_from txn no_commit (after_leg leg balance) (k + 1) legs
        ≡ leg_updates txn (take count (leg ∷ legs)) ++ end ∷ []
    more before count first end counted same rest =
        ap (λ records. Update txn leg.0 (neg_ℤ (pos leg.2)) 0 ∷ Update txn leg.1 (pos leg.2) 0 ∷ records)
        (rest ∙ ap (λ last. leg_updates txn (take before legs) ++ last ∷ []) same)
        ∙ sym (ap (λ n. leg_updates txn (take n (leg ∷ legs)) ++ end ∷ []) counted)

    by_case : (short over : Bool) (outcome : Outcome) → IsBehind (k + 1) outcome
        → planned_from txn no_commit (after_leg leg balance) (k + 1) legs
        ≡ leg_updates txn (take (passed_behind (k + 1) legs outcome) legs) ++ end_behind txn (k + 1) legs outcome ∷ []
        → cond short (Short txn (k + 1) ∷ []) (cond over (Over txn (k + 1) ∷ [])
        (Update txn leg.0 (neg_ℤ (pos leg.2)) 0 ∷ Update txn leg.1 (pos leg.2) 0 ∷ planned_from txn no_commit (after_leg leg balance) (k + 1) legs))
        ≡ leg_updates txn (take (passed_behind k (leg ∷ legs) (cond short (ShortAt (k + 1)) (cond over (OverAt (k + 1)) outcome))) (leg ∷ legs))
        ++ end_behind txn k (leg ∷ legs) (cond short (ShortAt (k + 1)) (cond over (OverAt (k + 1)) outcome)) ∷ []
    by_case true over outcome later rest = none (k + 1 - 1 - k) (Short txn (k + 1)) (omega arith)
    by_case false true outcome later rest = none (k + 1 - 1 - k) (Over txn (k + 1)) (omega arith)
    by_case false false Done later rest =
        more (length legs) (suc (length legs)) (Commit txn (k + 1 + length legs)) (Commit txn (k + suc (length legs))) refl (ap (Commit txn) (omega arith)) rest
    by_case false false (ShortAt at) later rest = more (at - 1 - (k + 1)) (at - 1 - k) (Short txn at) (Short txn at) (omega arith) refl rest
    by_case false false (OverAt at) later rest = more (at - 1 - (k + 1)) (at - 1 - k) (Over txn at) (Over txn at) (omega arith) refl rest

-- the records leg by leg are those of the outcome
pub planned_records-outcome : (txn : ℕ) (job : PlainTransfer) (balance : ℕ → ℕ) → planned_records txn job no_commit balance ≡ outcome_records txn job (outcome_alone job balance)
planned_records-outcome txn job balance = ap (with_note txn job.note) (planned_from-outcome txn 0 job.legs balance ∙ by_outcome (outcome_from 0 job.legs balance))
  where
    by_outcome : (outcome : Outcome) → leg_updates txn (take (passed_behind 0 job.legs outcome) job.legs) ++ end_behind txn 0 job.legs outcome ∷ []
        ≡ leg_updates txn (take (legs_passed job outcome) job.legs) ++ end_record txn job outcome ∷ []
    by_outcome Done = ap (λ legs. leg_updates txn (take (length job.legs) job.legs) ++ Commit txn legs ∷ []) (omega arith)
    by_outcome (ShortAt leg) = ap (λ n. leg_updates txn (take n job.legs) ++ Short txn leg ∷ []) (omega arith)
    by_outcome (OverAt leg) = ap (λ n. leg_updates txn (take n job.legs) ++ Over txn leg ∷ []) (omega arith)

pub in_order-append : (records rest more : List Rec) → in_order records (rest ++ more) ≡ in_order records rest ++ more
in_order-append [] rest more = refl
in_order-append (rec ∷ records) rest more = in_order-append records (rec ∷ rest) more

pub all_without_prev-in_order : (records rest : List Rec) → all_without_prev (in_order records rest) ≡ in_order (all_without_prev records) (all_without_prev rest)
all_without_prev-in_order [] rest = refl
all_without_prev-in_order (rec ∷ records) rest = all_without_prev-in_order records (rec ∷ rest)

leg_updates-append : (txn : ℕ) (xs ys : List (ℕ × ℕ × ℕ)) → leg_updates txn (xs ++ ys) ≡ leg_updates txn xs ++ leg_updates txn ys
leg_updates-append txn [] ys = refl
leg_updates-append txn (leg ∷ xs) ys =
    ap (λ records. Update txn leg.0 (neg_ℤ (pos leg.2)) 0 ∷ Update txn leg.1 (pos leg.2) 0 ∷ records) (leg_updates-append txn xs ys)

with_note-append : (txn : ℕ) (note : List ℕ) (xs ys : List Rec) → with_note txn note (xs ++ ys) ≡ with_note txn note xs ++ ys
with_note-append txn [] xs ys = refl
with_note-append txn (byte ∷ bytes) xs ys = refl

-- what stands before the end record of an outcome is a front of the Note and the Updates of all legs
pub outcome_records-before_end_front : (txn : ℕ) (job : PlainTransfer) (outcome : Outcome) (records : List Rec) (end : Rec) → in_order (end ∷ records) [] ≡ outcome_records txn job outcome
    → (rest : List Rec) × (in_order records rest ≡ with_note txn job.note (leg_updates txn job.legs))
outcome_records-before_end_front txn job outcome records end are = (
  after,
  in_order-append records [] after ∙ ap (λ list. list ++ after) same ∙ sym (with_note-append txn job.note before after)
      ∙ ap (with_note txn job.note) (sym (leg_updates-append txn (take passed job.legs) (drop passed job.legs)) ∙ ap (leg_updates txn) (take-append-drop passed job.legs)),
)
  where
    passed : ℕ
    passed = legs_passed job outcome

    before : List Rec
    before = leg_updates txn (take passed job.legs)

    after : List Rec
    after = leg_updates txn (drop passed job.legs)

    same : in_order records [] ≡ with_note txn job.note before
    same = (same_from_push (in_order records []) (with_note txn job.note before) end (end_record txn job outcome)
        (sym (in_order-append records [] (end ∷ [])) ∙ are ∙ with_note-append txn job.note before (end_record txn job outcome ∷ []))).0

-- a front of the Note and the Updates has no end record
pub note_and_updates-front_unended : (txn : ℕ) (job : PlainTransfer) (records rest : List Rec) → in_order records rest ≡ with_note txn job.note (leg_updates txn job.legs) → has_end records ≡ false
note_and_updates-front_unended txn job records rest are = unturned records rest (ap has_end are ∙ by_note job.note)
  where
    updates : (legs : List (ℕ × ℕ × ℕ)) → has_end (leg_updates txn legs) ≡ false
    updates [] = refl
    updates (leg ∷ legs) = updates legs

    by_note : (note : List ℕ) → has_end (with_note txn note (leg_updates txn job.legs)) ≡ false
    by_note [] = updates job.legs
    by_note (byte ∷ bytes) = updates job.legs

    whole : (records rest : List Rec) → has_end (in_order records rest) ≡ false → (has_end records ≡ false) × (has_end rest ≡ false)
    whole [] rest off = (refl, off)
    whole (rec ∷ records) rest off =
        let parts = whole records (rec ∷ rest) off in let own = or_false-both_false (ends rec) (has_end rest) parts.1 in
        ((λ i. own.0 i || parts.0 i), own.1)

    unturned : (records rest : List Rec) → has_end (in_order records rest) ≡ false → has_end records ≡ false
    unturned records rest off = (whole records rest off).0
