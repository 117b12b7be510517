-- What is known of each record of a plan whatever the balances are: no record before it ends the transaction, it can be spelled, and a
-- Note is the first.
use Rattle.std.proofs.Common.{◌≡◌, ◌⊎◌, ⊎_elim, ℕ, ◌+◌, ◌≤◌, ◌<◌, cond, pos, neg_ℤ, Bool, true, false, List, [], ◌∷◌, length, sym, refl, ap, ◌∙◌, subst, arith}
use Rattle.std.specs.List.{AllByRecursion}
use Rattle.log_record.specs.declared.rec.Rec.{Rec}
use Rattle.log_record.specs.declared.rec.Rec.TheVariants.{Genesis, Update, Commit, Short, Over, Note}
use Rattle.log_record.specs.Spelling.{IsTxn, IsNoteText, IsSpellable}
use Rattle.lsn_space.specs.declared.opening.TheConstants.{MOST_ACCOUNTS, MOST_AMOUNT}
use Rattle.lsn_space.specs.declared.lsn.TheConstants.{LAST}
use Rattle.lock_core.specs.Transactions.{has_end, in_order}
use Rattle.lock_core.specs.Alone.{lacks, overfills, after_leg, with_note, leg_updates, planned_from, planned_records}
use Rattle.lock_core.specs.Serial.{NumberedTransfer}
use Rattle.log_rule.proofs.Deltas.{delta-positive, delta-negated}
use Rattle.log_rule.proofs.Planning.{Walk, walk-in_order_rest, IsNoteStep}

abbrev pub FirstIfNote : NumberedTransfer → List Rec → Rec → Type 0
FirstIfNote task before (Note txn text) = IsNoteStep task before txn text
FirstIfNote task before (Genesis account balance) = Unit {0}
FirstIfNote task before (Update txn account delta prev) = Unit {0}
FirstIfNote task before (Commit txn legs) = Unit {0}
FirstIfNote task before (Short txn leg) = Unit {0}
FirstIfNote task before (Over txn leg) = Unit {0}

pub record IsPlanned (task : NumberedTransfer) (before : List Rec) (rec : Rec) (rest : List Rec) : Type 0 where
  pub unended : has_end before ≡ false
  pub spellable : IsSpellable rec
  pub note : FirstIfNote task before rec

-- a leg whose Updates can be spelled
pub record IsSmallLeg (leg : ℕ × ℕ × ℕ) : Type 0 where
  pub payer : leg.0 < MOST_ACCOUNTS
  pub payee : leg.1 < MOST_ACCOUNTS
  pub least : 1 ≤ leg.2
  pub most : leg.2 ≤ MOST_AMOUNT

module _ (task : NumberedTransfer) (last_commit : ℕ → ℕ) (txn-fits : IsTxn task.number) (marks : (account : ℕ) → last_commit account ≤ LAST) where
  abbrev txn : ℕ
  txn = task.number

  abbrev T : List Rec → Rec → List Rec → Type 0
  T = IsPlanned task

  front-from : (legs : List (ℕ × ℕ × ℕ)) (balance : ℕ → ℕ) (k : ℕ) (before : List Rec) → has_end before ≡ false → 1 ≤ k + length legs
      → k + length legs ≤ 8 → AllByRecursion IsSmallLeg legs → Walk T before (planned_from txn last_commit balance k legs)
  front-from [] balance k before unended least few small =
      (record { unended = unended; spellable = (txn-fits, (omega arith, omega arith)); note = tt }, tt)
  front-from (leg ∷ legs) balance k before unended least few small = by_case (lacks leg balance) (overfills leg balance)
      (front-from legs (after_leg leg balance) (k + 1) (more ∷ less ∷ before) unended (omega (arith, few)) (omega (arith, few)) small.1)
    where
      less : Rec
      less = Update txn leg.0 (neg_ℤ (pos leg.2)) (last_commit leg.0)

      more : Rec
      more = Update txn leg.1 (pos leg.2) (last_commit leg.1)

      by_case : (short over : Bool) → Walk T (more ∷ less ∷ before) (planned_from txn last_commit (after_leg leg balance) (k + 1) legs)
          → Walk T before (cond short (Short txn (k + 1) ∷ []) (cond over (Over txn (k + 1) ∷ [])
          (less ∷ more ∷ planned_from txn last_commit (after_leg leg balance) (k + 1) legs)))
      by_case true over rest = (record { unended = unended; spellable = (txn-fits, (omega arith, omega (arith, few))); note = tt }, tt)
      by_case false true rest = (record { unended = unended; spellable = (txn-fits, (omega arith, omega (arith, few))); note = tt }, tt)
      by_case false false rest = (
        record { unended = unended; spellable = (txn-fits, small.0.payer, delta-negated leg.2 small.0.least small.0.most, marks leg.0); note = tt },
        (record { unended = unended; spellable = (txn-fits, small.0.payee, delta-positive leg.2 small.0.least small.0.most, marks leg.1); note = tt }, rest),
      )

  front-plan : (balance : ℕ → ℕ) → 1 ≤ length task.job.legs → length task.job.legs ≤ 8 → AllByRecursion IsSmallLeg task.job.legs
      → (task.job.note ≡ []) ⊎ IsNoteText task.job.note → Walk T [] (planned_records txn task.job last_commit balance)
  front-plan balance least few small text = by_note task.job.note refl
    where
      by_note : (note : List ℕ) → note ≡ task.job.note → Walk T [] (with_note txn note (planned_from txn last_commit balance 0 task.job.legs))
      by_note [] is = front-from task.job.legs balance 0 [] refl (omega (arith, least)) (omega (arith, few)) small
      by_note (byte ∷ bytes) is = (
        record {
          unended = refl;
          spellable = (txn-fits, subst IsNoteText (sym is) (⊎_elim (λ none. absurd (filled (is ∙ none))) (λ fits. fits) text));
          note = record {
            own = refl;
            unended = refl;
            cut = record { rest = leg_updates txn task.job.legs; front = ap (λ n. with_note txn n (leg_updates txn task.job.legs)) is };
          };
        },
        front-from task.job.legs balance 0 (Note txn (byte ∷ bytes) ∷ []) refl (omega (arith, least)) (omega (arith, few)) small,
      )
        where
          filled : byte ∷ bytes ≡ [] → ⊥
          filled e = cc

  -- the record that comes next
  pub next-planned : (balance : ℕ → ℕ) → 1 ≤ length task.job.legs → length task.job.legs ≤ 8 → AllByRecursion IsSmallLeg task.job.legs
      → (task.job.note ≡ []) ⊎ IsNoteText task.job.note → (before : List Rec) (rec : Rec) (rest : List Rec)
      → in_order before (rec ∷ rest) ≡ planned_records txn task.job last_commit balance → IsPlanned task before rec rest
  next-planned balance least few small text before rec rest next =
      (walk-in_order_rest T before (rec ∷ rest) (subst (Walk T []) (sym next) (front-plan balance least few small text))).0
