-- The summary of generated transfers is told by their number and seed.
use Rattle.std.proofs.Common.{◌≡◌, ◌≤◌, ◌<◌, ℕ, zero, suc, ◌+◌, ◌*◌, List, [], ◌∷◌, length, replicate, refl, ap, ◌∙◌, sym, arith}
use Rattle.std.proofs.lemmas.List.Elements.{All-replicate}
use Rattle.log_record.specs.declared.rec.Rec.{Rec}
use Rattle.log_record.specs.declared.rec.Rec.TheVariants.{Genesis, Update, Commit, Short, Over, Note}
use Rattle.log_record.specs.LogList.{end_of}
use Rattle.log_record.specs.Spelling.{IsBalance}
use Rattle.lock_core.specs.History.{history_from}
use Rattle.lock_core.specs.Sums.{BaseState, sum_below}
use Rattle.lock_core.specs.Alone.{Done, outcome_records}
use Rattle.lock_core.specs.Serial.{numbered, IsSerialAfter}
use Rattle.lock_core.specs.AccountRows.{row, KeepsRows}
use Rattle.lock_core.specs.AnyOrder.{done_records, weight_of}
use Rattle.lock_core.proofs.Conserving.{sum_below-same}
use Rattle.lock_core.proofs.Doing.{serial_records-weight_of_done}
use Rattle.lock_core.proofs.Ranging.{is_balance-equals_balance_of}
use Rattle.lock_core.proofs.Weighing.{IgnoresPrev, weight_of-append}
use Rattle.commit_pipeline.specs.EndLines.{is_done, is_refused, done_in, refused_in}
use Rattle.txn_script.specs.Generator.{number_after, job_from, generated_transfers, generated_balance, OpensGenerated}
use Rattle.lock_core.specs.Transfers.{transfer_of}
use Rattle.txn_script.proofs.OrderLemmas.{room-generated, generated-balance, generated-end}
use Rattle.cli_demo.specs.Summary.{generated_opening, summary_text}
use Rattle.run_plan.specs.Summary.{balance_in, mix_below, summary_lines, summary_of}
use Rattle.log_recovery.specs.Opened.{placed, base_in, base_left}
use Rattle.cli_shared.proofs.GenesisLemmas.{opening_rows, genesis-keeps_rows}

done_in-weight : (records : List Rec) → done_in records ≡ weight_of is_done records
done_in-weight [] = refl
done_in-weight (rec ∷ records) = ap (λ n. is_done rec + n) (done_in-weight records)

refused_in-weight : (records : List Rec) → refused_in records ≡ weight_of is_refused records
refused_in-weight [] = refl
refused_in-weight (rec ∷ records) = ap (λ n. is_refused rec + n) (refused_in-weight records)

is_done-prev : IgnoresPrev is_done
is_done-prev (Genesis account balance) = refl
is_done-prev (Update txn account delta prev) = refl
is_done-prev (Commit txn legs) = refl
is_done-prev (Short txn leg) = refl
is_done-prev (Over txn leg) = refl
is_done-prev (Note txn text) = refl

is_refused-prev : IgnoresPrev is_refused
is_refused-prev (Genesis account balance) = refl
is_refused-prev (Update txn account delta prev) = refl
is_refused-prev (Commit txn legs) = refl
is_refused-prev (Short txn leg) = refl
is_refused-prev (Over txn leg) = refl
is_refused-prev (Note txn text) = refl

-- each generated transfer weighs the same
each-generated : (weight : Rec → ℕ) (amount : ℕ) → ((first x : ℕ) → weight_of weight (outcome_records first (transfer_of (job_from x)) Done) ≡ amount)
    → (first n seed : ℕ) → weight_of weight (done_records (numbered first (generated_transfers n seed))) ≡ amount * n
each-generated weight amount one first zero seed = omega arith
each-generated weight amount one first (suc n) seed =
    let here = one first (number_after seed) in
    let more = each-generated weight amount one (first + 1) n (number_after seed) in
    let parts = weight_of-append weight (outcome_records first (transfer_of (job_from (number_after seed))) Done)
    (done_records (numbered (first + 1) (generated_transfers n (number_after seed)))) in
    omega arith

module _ (n seed first : ℕ) (base : BaseState) (records : List Rec) (rows : List (ℕ × ℕ)) (few : n ≤ 100000) (opens : OpensGenerated base)
    (serial : IsSerialAfter base (numbered first (generated_transfers n seed)) (history_from base.end [] records))
    (kept : KeepsRows rows base (history_from base.end [] records)) where
  all_done : done_in records ≡ n
  all_done =
      let same = serial_records-weight_of_done base first (generated_transfers n seed) (room-generated n seed base few opens) is_done records is_done-prev serial in
      let each = each-generated is_done 1 (λ first x. refl) first n seed in
      done_in-weight records ∙ omega arith

  none_refused : refused_in records ≡ 0
  none_refused =
      let same = serial_records-weight_of_done base first (generated_transfers n seed) (room-generated n seed base few opens) is_refused records is_refused-prev serial in
      let each = each-generated is_refused 0 (λ first x. refl) first n seed in
      refused_in-weight records ∙ omega arith

  each-balance : (account : ℕ) → account < 64 → balance_in rows account ≡ generated_balance n seed account
  each-balance account below =
      let counted = kept.count in
      let known = opens.accounts in
      sym (is_balance-equals_balance_of base (history_from base.end [] records) account (balance_in rows account) (kept.balance account (omega arith)))
      ∙ generated-balance n seed base few opens first (history_from base.end [] records) account serial below

  pub summary_of-summary_text : base.end ≡ 128
      → summary_of (record { transfers = n; done = done_in records; refused = refused_in records; lsn = base.end + end_of records }) rows ≡ summary_text n seed
  summary_of-summary_text start =
      let end = generated-end n seed first base records few opens serial in
      let lsn : base.end + end_of records ≡ 128 + 5 * n = omega arith in
      let count : length rows ≡ 64 = kept.count ∙ opens.accounts in
      let total : sum_below (length rows) (balance_in rows) ≡ sum_below 64 (generated_balance n seed)
      = ap (λ k. sum_below k (balance_in rows)) count ∙ sum_below-same 64 (balance_in rows) (generated_balance n seed) each-balance in
      let mix : mix_below (length rows) (balance_in rows) ≡ mix_below 64 (generated_balance n seed)
      = ap (λ k. mix_below k (balance_in rows)) count
      ∙ sum_below-same 64 (λ account. (account + 1) * balance_in rows account) (λ account. (account + 1) * generated_balance n seed account)
      (λ account below. ap (λ balance. (account + 1) * balance) (each-balance account below)) in
      λ i. summary_lines n (all_done i) (none_refused i) (lsn i) (total i) (mix i)

-- the list of accounts on which generated transfers run opens them
first_balance : (n account balance : ℕ) → account < n → (row (opening_rows (replicate n balance)) account).0 ≡ balance
first_balance zero account balance below = absurd (omega arith)
first_balance (suc n) zero balance below = refl
first_balance (suc n) (suc account) balance below = first_balance n account balance (omega arith)

pub opening-generated : OpensGenerated (base_left generated_opening)
opening-generated =
    let h = placed generated_opening in
    let kept = genesis-keeps_rows (replicate 64 1000000) (omega arith) (All-replicate IsBalance 64 1000000 (omega arith)) in record {
      accounts = refl;
      balance = λ account below. is_balance-equals_balance_of (base_in generated_opening) h account _ (kept.balance account below) ∙ first_balance 64 account 1000000 below;
    }

pub opening-end : (base_left generated_opening).end ≡ 128
opening-end = refl
