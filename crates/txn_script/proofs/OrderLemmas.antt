-- Generated transfers are done in every order.
use Rattle.std.proofs.Common.{◌≡◌, ◌≤◌, ◌<◌, ℕ, zero, suc, ◌==◌, ◌+◌, ◌*◌, ◌/◌, ◌%◌, cond, Bool, true, false, inl, List, [], ◌∷◌, refl, ap, ◌∙◌, sym, subst, arith}
use Rattle.std.specs.List.{AllByRecursion}
use Rattle.log_record.specs.declared.rec.Rec.{Rec}
use Rattle.log_record.specs.declared.rec.Placed.{Placed}
use Rattle.log_record.specs.LogList.{size_of, end_of}
use Rattle.lock_core.specs.History.{history_from}
use Rattle.lock_core.specs.Sums.{BaseState, balance_of, sum_below}
use Rattle.lock_core.specs.Alone.{PlainTransfer, IsAllowedTransfer, Done, outcome_records}
use Rattle.lock_core.specs.Serial.{numbered, IsSerialAfter}
use Rattle.lock_core.specs.AnyOrder.{given, taken, legs_of, HasRoomFor, IsDoneIn, done_records, weight_of}
use Rattle.lock_core.proofs.Conserving.{sum_below-zeros, sum_below-single_amount, sum_below-add, sum_below-same}
use Rattle.lock_core.proofs.Weighing.{weight_of-append}
use Rattle.lock_core.proofs.Doing.{serial-done, serial-balance_taken_given, serial-end_of_done_records, end_of-weight}
use Rattle.lock_core.specs.Transfers.{transfer_of}
use Rattle.txn_script.specs.Generator.{number_after, leg_from, job_from, generated_transfers, generated_legs, generated_balance, OpensGenerated}

legs_of-generated : (n seed : ℕ) → legs_of (generated_transfers n seed) ≡ generated_legs n seed
legs_of-generated zero seed = refl
legs_of-generated (suc n) seed = ap (λ legs. leg_from (number_after seed) ∷ legs) (legs_of-generated n (number_after seed))

-- a transfer moves 9 at most
few : (b : Bool) (x : ℕ) → cond {A = ℕ} b (1 + (x / 4096) % 9) 0 ≤ 9
few true x = omega arith
few false x = omega arith

taken-most : (account n seed : ℕ) → taken account (generated_legs n seed) ≤ 9 * n
taken-most account zero seed = omega arith
taken-most account (suc n) seed =
    let more = taken-most account n (number_after seed) in
    let here = few ((leg_from (number_after seed)).0 == account) (number_after seed) in omega arith

given-most : (account n seed : ℕ) → given account (generated_legs n seed) ≤ 9 * n
given-most account zero seed = omega arith
given-most account (suc n) seed =
    let more = given-most account n (number_after seed) in
    let here = few ((leg_from (number_after seed)).1 == account) (number_after seed) in omega arith

transfer-allowed : (x : ℕ) → IsAllowedTransfer 64 (transfer_of (job_from x))
transfer-allowed x = record {
  legs = record {
    some = omega arith;
    few = omega arith;
    each = (record { payer = omega arith; payee = omega arith; two = λ same. absurd (omega (arith, same)); some = omega arith; most = omega arith }, tt);
  };
  note = inl refl;
}

transfers-allowed : (n seed : ℕ) → AllByRecursion (IsAllowedTransfer 64) (generated_transfers n seed)
transfers-allowed zero seed = tt
transfers-allowed (suc n) seed = (transfer-allowed (number_after seed), transfers-allowed n (number_after seed))

module _ (n seed : ℕ) (base : BaseState) (few : n ≤ 100000) (opens : OpensGenerated base) where
  pub room-generated : HasRoomFor base (generated_transfers n seed)
  room-generated = record {
    allowed = subst (λ accounts. AllByRecursion (IsAllowedTransfer accounts) (generated_transfers n seed)) (sym opens.accounts) (transfers-allowed n seed);
    covered = λ account below. let opening = opens.balance account (omega (arith, below, opens.accounts)) in
        let legs = ap (taken account) (legs_of-generated n seed) in let most = taken-most account n seed in omega arith;
    room = λ account below. let opening = opens.balance account (omega (arith, below, opens.accounts)) in
        let legs = ap (given account) (legs_of-generated n seed) in let most = given-most account n seed in omega arith;
  }

  pub generated-done : (first : ℕ) (h : List Placed) → IsSerialAfter base (numbered first (generated_transfers n seed)) h
      → AllByRecursion (IsDoneIn h) (numbered first (generated_transfers n seed))
  generated-done first = serial-done base first (generated_transfers n seed) room-generated

  pub generated-balance : (first : ℕ) (h : List Placed) (account : ℕ) → IsSerialAfter base (numbered first (generated_transfers n seed)) h → account < 64
      → balance_of base h account ≡ generated_balance n seed account
  generated-balance first h account serial below =
      let after = serial-balance_taken_given base first (generated_transfers n seed) room-generated h account serial (omega (arith, below, opens.accounts)) in
      let opening = opens.balance account below in
      let takes = ap (taken account) (legs_of-generated n seed) in
      let gives = ap (given account) (legs_of-generated n seed) in
      omega arith

-- 5 units each
end_of-generated : (first n seed : ℕ) → weight_of size_of (done_records (numbered first (generated_transfers n seed))) ≡ 5 * n
end_of-generated first zero seed = refl
end_of-generated first (suc n) seed =
    let more = end_of-generated (first + 1) n (number_after seed) in
    let transfer : PlainTransfer = transfer_of (job_from (number_after seed)) in
    let parts = weight_of-append size_of (outcome_records first transfer Done) (done_records (numbered (first + 1) (generated_transfers n (number_after seed)))) in
    omega arith

pub generated-end : (n seed first : ℕ) (base : BaseState) (records : List Rec) → n ≤ 100000 → OpensGenerated base
    → IsSerialAfter base (numbered first (generated_transfers n seed)) (history_from base.end [] records) → end_of records ≡ 5 * n
generated-end n seed first base records few opens serial =
    serial-end_of_done_records base first (generated_transfers n seed) records (room-generated n seed base few opens) serial
    ∙ end_of-weight (done_records (numbered first (generated_transfers n seed))) ∙ end_of-generated first n seed

-- what legs move between accounts in all
abbrev amounts : List (ℕ × ℕ × ℕ) → ℕ
amounts [] = 0
amounts (leg ∷ legs) = leg.2 + amounts legs

module _ (accounts : ℕ) where
  pub sum_below-taken : (legs : List (ℕ × ℕ × ℕ)) → AllByRecursion (λ (leg : ℕ × ℕ × ℕ). leg.0 < accounts) legs
      → sum_below accounts (λ account. taken account legs) ≡ amounts legs
  sum_below-taken [] known = sum_below-zeros accounts
  sum_below-taken (leg ∷ legs) known =
      let more = sum_below-taken legs known.1 in
      let parts = sum_below-add accounts (λ account. cond (leg.0 == account) leg.2 0) (λ account. taken account legs) in
      let here = sum_below-single_amount accounts leg.0 leg.2 known.0 in omega arith

  pub sum_below-given : (legs : List (ℕ × ℕ × ℕ)) → AllByRecursion (λ (leg : ℕ × ℕ × ℕ). leg.1 < accounts) legs
      → sum_below accounts (λ account. given account legs) ≡ amounts legs
  sum_below-given [] known = sum_below-zeros accounts
  sum_below-given (leg ∷ legs) known =
      let more = sum_below-given legs known.1 in
      let parts = sum_below-add accounts (λ account. cond (leg.1 == account) leg.2 0) (λ account. given account legs) in
      let here = sum_below-single_amount accounts leg.1 leg.2 known.0 in omega arith

payers-known : (n seed : ℕ) → AllByRecursion (λ (leg : ℕ × ℕ × ℕ). leg.0 < 64) (generated_legs n seed)
payers-known zero seed = tt
payers-known (suc n) seed = (omega arith, payers-known n (number_after seed))

payees-known : (n seed : ℕ) → AllByRecursion (λ (leg : ℕ × ℕ × ℕ). leg.1 < 64) (generated_legs n seed)
payees-known zero seed = tt
payees-known (suc n) seed = (omega arith, payees-known n (number_after seed))

-- with what is taken, a balance is that of the opening with what is given
pub generated_balance-taken_given : (n seed account : ℕ) → n ≤ 100000
    → generated_balance n seed account + taken account (generated_legs n seed) ≡ 1000000 + given account (generated_legs n seed)
generated_balance-taken_given n seed account few = let most = taken-most account n seed in omega arith

-- the balances have the sum that they had at first
pub generated-sum : (n seed : ℕ) → n ≤ 100000 → sum_below 64 (generated_balance n seed) ≡ 64000000
generated-sum n seed few =
    let legs : List (ℕ × ℕ × ℕ) = generated_legs n seed in
    let each = sum_below-same 64 (λ account. generated_balance n seed account + taken account legs) (λ account. 1000000 + given account legs)
    (λ account below. generated_balance-taken_given n seed account few) in
    let before = sum_below-add 64 (generated_balance n seed) (λ account. taken account legs) in
    let after = sum_below-add 64 (λ account. 1000000) (λ account. given account legs) in
    let takes = sum_below-taken 64 legs (payers-known n seed) in
    let gives = sum_below-given 64 legs (payees-known n seed) in
    let opening : sum_below 64 (λ account. 1000000) ≡ 64000000 = refl in
    omega arith
