-- One transfer after a log of two accounts, and one behind that log, cut.
use Rattle.std.proofs.Common.{◌≢◌, ◌<◌, ◌≤◌, ◌+◌, ℕ, zero, suc, ◌∙◌, pos, negsuc, true≢false, inl, List, [], ◌∷◌, refl, sym, arith}
use Rattle.log_record.specs.declared.rec.Placed.{Placed}
use Rattle.log_record.specs.declared.rec.Rec.TheVariants.{Update, Commit}
use Rattle.lsn_space.specs.declared.opening.TheConstants.{MOST_BALANCE}
use Rattle.lsn_space.specs.Opening.{IsSnapshot}
use Rattle.lock_core.specs.History.{history}
use Rattle.lock_core.specs.Transactions.{ShareNoTransaction}
use Rattle.lock_core.specs.Sums.{no_opening, AreInRange}
use Rattle.lock_core.specs.Lawful.{IsLawful, base_with, base_state_of, opening_after}
use Rattle.lock_core.specs.Faults.{IsUnlawfulAt}
use Rattle.lock_core.specs.declared.reason.Why.TheVariants as why
use Rattle.lock_core.specs.Alone.{IsAllowedTransfer}
use Rattle.lock_core.specs.Serial.{numbered, HasNoOthers, IsSerialAfter}
use Rattle.lock_core.specs.AnyOrder.{taken, given, legs_of, HasRoomFor}
use Rattle.lock_core.specs.Witness.{genesis_log, transfer, transfer_history, snapshot, cut, behind_cut, again_behind_cut}
use Rattle.lock_core.proofs.OneMore.{of_transaction-first_other}

in_range : AreInRange (base_state_of no_opening (history genesis_log)) transfer_history
in_range zero inside = (70, omega arith, refl)
in_range (suc zero) inside = (30, omega arith, refl)
in_range (suc (suc n)) inside = absurd (omega arith)

pub transfer-lawful : IsLawful (opening_after no_opening (history genesis_log)) transfer_history
transfer-lawful = (
  (omega arith, (tt, (((λ other. omega arith), refl), (refl, (tt, (tt, ((refl, (refl, tt)), ((λ on. in_range), tt)))))))),
  (
    (omega arith, (omega arith, (((λ other. omega arith), refl), (omega arith, ((refl, λ same. absurd (omega arith)), (refl, (tt, ((λ on. absurd (true≢false (sym on))), tt)))))))),
    (
      (omega arith, (omega arith, (((λ other. omega arith), refl), (omega arith, (refl, (refl, (tt, ((λ on. absurd (true≢false (sym on))), tt)))))))),
      tt,
    ),
  ),
)

pub transfer-serial : IsSerialAfter (base_state_of no_opening (history genesis_log)) (numbered 1 (transfer ∷ [])) transfer_history
transfer-serial = record {
  each = (
    record {
      later = [];
      end = record { end = 9; rec = Commit 1 1 };
      front = rest;
      whole = refl;
      own = refl;
      ended = refl;
      last = refl;
      records = refl;
    },
    tt,
  );
  others = others;
}
  where
    rest : List Placed
    rest = record { end = 8; rec = Update 1 1 (pos 30) 0 } ∷ record { end = 6; rec = Update 1 0 (negsuc 29) 0 } ∷ []

    others : HasNoOthers (numbered 1 (transfer ∷ [])) transfer_history
    others txn none =
        of_transaction-first_other txn (record { end = 9; rec = Commit 1 1 }) rest none.0
        ∙ of_transaction-first_other txn (record { end = 8; rec = Update 1 1 (pos 30) 0 }) (record { end = 6; rec = Update 1 0 (negsuc 29) 0 } ∷ []) none.0
        ∙ of_transaction-first_other txn (record { end = 6; rec = Update 1 0 (negsuc 29) 0 }) [] none.0

other : ◌≢◌ {A = ℕ} 1 0
other same = absurd (omega (arith, same))

pub transfer_history-share_none : ShareNoTransaction transfer_history (history genesis_log)
transfer_history-share_none =
    ((other, (other, tt)), ((other, (other, tt)), ((other, (other, tt)), tt)))

pub transfer-allowed : IsAllowedTransfer (base_with no_opening (history genesis_log)).accounts transfer
transfer-allowed = record {
  legs = record {
    some = omega arith;
    few = omega arith;
    each = (record { payer = omega arith; payee = omega arith; two = λ same. other (sym same); some = omega arith; most = omega arith }, tt);
  };
  note = inl refl;
}

pub transfer-room : HasRoomFor (base_state_of no_opening (history genesis_log)) (transfer ∷ [])
transfer-room = record { allowed = (transfer-allowed, tt); covered = covered; room = room }
  where
    covered : (account : ℕ) → account < 2 → taken account (legs_of (transfer ∷ [])) ≤ (base_state_of no_opening (history genesis_log)).balance account
    covered zero below = omega arith
    covered (suc zero) below = omega arith
    covered (suc (suc n)) below = absurd (omega arith)

    room : (account : ℕ) → account < 2 → (base_state_of no_opening (history genesis_log)).balance account + given account (legs_of (transfer ∷ [])) ≤ MOST_BALANCE
    room zero below = omega arith
    room (suc zero) below = omega arith
    room (suc (suc n)) below = absurd (omega arith)

pub snapshot-is : IsSnapshot snapshot
snapshot-is = record {
  lsn = omega arith;
  txn = omega arith;
  some = omega arith;
  most = omega arith;
  each = ((omega arith, omega arith), ((omega arith, omega arith), tt));
}

in_range_cut : AreInRange (base_with cut behind_cut) behind_cut
in_range_cut zero inside = (100, omega arith, refl)
in_range_cut (suc zero) inside = (0, omega arith, refl)
in_range_cut (suc (suc n)) inside = absurd (omega arith)

pub cut-lawful : IsLawful cut behind_cut
cut-lawful = (
  (omega arith, (tt, (((λ other. omega arith), refl), (refl, (tt, (tt, ((refl, (refl, tt)), ((λ on. in_range_cut), tt)))))))),
  (
    (omega arith, (omega arith, (((λ other. omega arith), refl), (omega arith, ((refl, λ same. absurd (omega arith)), (refl, (tt, ((λ on. absurd (true≢false (sym on))), tt)))))))),
    (
      (omega arith, (omega arith, (((λ other. omega arith), refl), (omega arith, (refl, (refl, (tt, ((λ on. absurd (true≢false (sym on))), tt)))))))),
      tt,
    ),
  ),
)

pub again_behind_cut-unlawful : IsUnlawfulAt cut again_behind_cut 9 why.Ended
again_behind_cut-unlawful = record {
  later = [];
  entry = record { end = 11; rec = Update 1 1 (negsuc 29) 9 };
  front = [];
  whole = refl;
  lawful = tt;
  place = refl;
  first = record {
    passes = (omega arith, (omega arith, tt));
    fails = λ pass. let high = pass.0 (λ never. never) in omega arith;
  };
}
