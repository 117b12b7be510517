-- Where nothing stands in their way, the commands but `run`, `demo` and `follow` succeed.
use Rattle.std.proofs.Common.{inl, inr, refl, List, ℕ, Option, Some, None, IfSome, ◌<◌, subst}
use Rattle.txn_script.specs.Balances.{IsBalancesText}
use Rattle.txn_script.proofs.BalanceLemmas.{balances_text-no_bad_line}
use Rattle.cli_shared.specs.declared.report.Detail.{Detail}
use Rattle.cli_shared.specs.declared.report.Detail.TheVariants.{Fine, NoMemory, Script, Read, Write, Disk, NotALog, BadSnapshot, BadBatch, BadRec, Unlawful, Exists, NoSuchLsn, NoAccount}
use Rattle.log_recovery.specs.declared.recovery.RecoverFault.{RecoverFault}
use Rattle.log_recovery.specs.declared.recovery.RecoverFault.TheVariants as fault
use Rattle.log_recovery.specs.Opened.{OpenedList, base_in}
use Rattle.log_recovery.specs.Recovery.{HoldsLawful, HoldsList, IsFaultOf}
use Rattle.log_recovery.proofs.AnswerLemmas.{one-list}
use Rattle.cli_reports.specs.Answers.{AnswersDump, AnswersRecover}
use Rattle.cli_reports.specs.Reports.{AnswersReport, RefusesLsn}
use Rattle.cli_view.specs.Reports.{RefusesAccount}
use Rattle.cli_new.specs.Answers.{AnswersNew}
use Rattle.cli_cut.specs.Answers.{AnswersCut}
use Rattle.cli_shared.specs.Creation.{TellsWhether}
use Rattle.cli_top.specs.Commands.{IsDone, IsFaultless, Shows, ShowsBoundary, ShowsList}
use Rattle.cli_top.proofs.Faultless.{IsMemory, HoldsLawful-fault_is_memory, HoldsList-fault_is_memory}

-- the input of `new` is in its grammar, and no log is there
new-done : (bytes : List ℕ) (left_new old new : Option (List ℕ)) (opened : Type 0) (balances : List ℕ) (detail : Detail)
    → AnswersNew bytes left_new old new detail → TellsWhether opened detail → (opened → ⊥) → IsBalancesText bytes balances
    → IsFaultless detail → IsDone detail
new-done bytes left_new old new opened balances Fine answers tells closed text faultless = inl refl
new-done bytes left_new old new opened balances NoMemory answers tells closed text faultless = inr refl
new-done bytes left_new old new opened balances (Script line) answers tells closed text faultless =
    absurd (balances_text-no_bad_line bytes balances line text answers.1)
new-done bytes left_new old new opened balances Read answers tells closed text faultless = absurd faultless
new-done bytes left_new old new opened balances Write answers tells closed text faultless = absurd faultless
new-done bytes left_new old new opened balances Disk answers tells closed text faultless = absurd faultless
new-done bytes left_new old new opened balances Exists answers tells closed text faultless = absurd (closed tells)
new-done bytes left_new old new opened balances detail answers tells closed text faultless = absurd answers

pub new-complete : (left left_new old new : Option (List ℕ)) (opened : Type 0) (detail : Detail)
    → IfSome left (λ bytes. AnswersNew bytes left_new old new detail) → TellsWhether opened detail → (opened → ⊥)
    → Shows left (λ bytes. (balances : List ℕ) × IsBalancesText bytes balances) → IsFaultless detail → IsDone detail
new-complete None left_new old new opened detail answers tells closed found faultless = absurd found
new-complete (Some bytes) left_new old new opened detail answers tells closed found faultless =
    new-done bytes left_new old new opened found.0 detail answers tells closed found.1 faultless

-- the input of `recover`, or of `cut` and `upgrade`, holds a lawful list
module _ (bytes : List ℕ) (left_new old new : Option (List ℕ)) (list : OpenedList) (held : HoldsLawful bytes list) where
  lawful : (f : RecoverFault) → IsFaultOf bytes f → IsMemory f
  lawful f = HoldsLawful-fault_is_memory bytes list f held

  recover-done : (detail : Detail) → AnswersRecover bytes left_new old new detail → IsFaultless detail → IsDone detail
  recover-done Fine answers faultless = inl refl
  recover-done NoMemory answers faultless = inr refl
  recover-done Read answers faultless = absurd faultless
  recover-done Write answers faultless = absurd faultless
  recover-done NotALog answers faultless = absurd (lawful fault.NotALog answers.1)
  recover-done BadSnapshot answers faultless = absurd (lawful fault.BadSnapshot answers.1)
  recover-done (BadBatch offset) answers faultless = absurd (lawful (fault.BadBatch offset) answers.1)
  recover-done (BadRec lsn) answers faultless = absurd (lawful (fault.BadRec lsn) answers.1)
  recover-done (Unlawful lsn why) answers faultless = absurd (lawful (fault.Unlawful lsn why) answers.1)
  recover-done detail answers faultless = absurd answers

  -- for `cut` and `upgrade` no log is there, either
  cut-done : (opened : Type 0) (detail : Detail) → AnswersCut bytes left_new old new detail → TellsWhether opened detail → (opened → ⊥)
      → IsFaultless detail → IsDone detail
  cut-done opened Disk answers tells closed faultless = absurd faultless
  cut-done opened Exists answers tells closed faultless = absurd (closed tells)
  cut-done opened detail answers tells closed faultless = recover-done detail answers faultless

pub recover-complete : (left left_new old new : Option (List ℕ)) (detail : Detail)
    → IfSome left (λ bytes. AnswersRecover bytes left_new old new detail) → ShowsList left HoldsLawful → IsFaultless detail → IsDone detail
recover-complete None left_new old new detail answers found faultless = absurd found
recover-complete (Some bytes) left_new old new detail answers found faultless =
    recover-done bytes left_new old new found.0 found.1 detail answers faultless

pub cut-complete : (left left_new old new : Option (List ℕ)) (opened : Type 0) (detail : Detail)
    → IfSome left (λ bytes. AnswersCut bytes left_new old new detail) → TellsWhether opened detail → (opened → ⊥)
    → ShowsList left HoldsLawful → IsFaultless detail → IsDone detail
cut-complete None left_new old new opened detail answers tells closed found faultless = absurd found
cut-complete (Some bytes) left_new old new opened detail answers tells closed found faultless =
    cut-done bytes left_new old new found.0 found.1 opened detail answers tells closed faultless

-- the input of `dump` holds a list
module _ (bytes : List ℕ) (left_new old new : Option (List ℕ)) (list : OpenedList) (held : HoldsList bytes list) where
  dump-done : (detail : Detail) → AnswersDump bytes left_new old new detail → IsFaultless detail → IsDone detail
  dump-done Fine answers faultless = inl refl
  dump-done NoMemory answers faultless = inr refl
  dump-done Read answers faultless = absurd faultless
  dump-done Write answers faultless = absurd faultless
  dump-done NotALog answers faultless = absurd (HoldsList-fault_is_memory bytes list fault.NotALog held answers.1)
  dump-done BadSnapshot answers faultless = absurd (HoldsList-fault_is_memory bytes list fault.BadSnapshot held answers.1)
  dump-done (BadBatch offset) answers faultless = absurd (HoldsList-fault_is_memory bytes list (fault.BadBatch offset) held answers.1)
  dump-done (BadRec lsn) answers faultless = absurd (HoldsList-fault_is_memory bytes list (fault.BadRec lsn) held answers.1)
  dump-done detail answers faultless = absurd answers

pub dump-complete : (left left_new old new : Option (List ℕ)) (detail : Detail)
    → IfSome left (λ bytes. AnswersDump bytes left_new old new detail) → ShowsList left HoldsList → IsFaultless detail → IsDone detail
dump-complete None left_new old new detail answers found faultless = absurd found
dump-complete (Some bytes) left_new old new detail answers found faultless =
    dump-done bytes left_new old new found.0 found.1 detail answers faultless

-- the input of a report holds a lawful list that isn't refused
module _ (Says : OpenedList → List ℕ → Type 0) (Refuses : OpenedList → Detail → Type 0) (bytes : List ℕ) (list : OpenedList)
    (held : HoldsLawful bytes list) (heard : (detail : Detail) → Refuses list detail → ⊥) (left_new old new : Option (List ℕ)) where
  refusal : {A : Type 0} (detail : Detail) → (other : OpenedList) → HoldsLawful bytes other → Refuses other detail → A
  refusal detail other also refused =
      absurd (heard detail (subst (λ l. Refuses l detail) (one-list bytes other list also.list held.list) refused))

  none : (f : RecoverFault) → IsFaultOf bytes f → IsMemory f
  none f = HoldsLawful-fault_is_memory bytes list f held

  report-done : (detail : Detail) → AnswersReport Says Refuses bytes left_new old new detail → IsFaultless detail → IsDone detail
  report-done Fine answers faultless = inl refl
  report-done NoMemory answers faultless = inr refl
  report-done Read answers faultless = absurd faultless
  report-done Write answers faultless = absurd faultless
  report-done (NoSuchLsn lsn) answers faultless = refusal (NoSuchLsn lsn) answers.1 answers.2 answers.3
  report-done (NoAccount account) answers faultless = refusal (NoAccount account) answers.1 answers.2 answers.3
  report-done NotALog answers faultless = absurd (none fault.NotALog answers.1)
  report-done BadSnapshot answers faultless = absurd (none fault.BadSnapshot answers.1)
  report-done (BadBatch offset) answers faultless = absurd (none (fault.BadBatch offset) answers.1)
  report-done (BadRec lsn) answers faultless = absurd (none (fault.BadRec lsn) answers.1)
  report-done (Unlawful lsn why) answers faultless = absurd (none (fault.Unlawful lsn why) answers.1)
  report-done detail answers faultless = absurd answers

pub boundary-complete : (Says : OpenedList → List ℕ → Type 0) (lsn : ℕ) (left left_new old new : Option (List ℕ)) (detail : Detail)
    → IfSome left (λ bytes. AnswersReport Says (RefusesLsn lsn) bytes left_new old new detail)
    → ShowsBoundary lsn left → IsFaultless detail → IsDone detail
boundary-complete Says lsn None left_new old new detail answers found faultless = absurd found
boundary-complete Says lsn (Some bytes) left_new old new detail answers found faultless =
    report-done Says (RefusesLsn lsn) bytes found.0 found.1.0 (λ d refused. refused.1 found.1.1) left_new old new detail answers faultless

pub account-complete : (Says : OpenedList → List ℕ → Type 0) (account : ℕ) (left left_new old new : Option (List ℕ)) (detail : Detail)
    → IfSome left (λ bytes. AnswersReport Says (RefusesAccount account) bytes left_new old new detail)
    → ShowsList left (λ bytes list. HoldsLawful bytes list × (account < (base_in list).accounts)) → IsFaultless detail → IsDone detail
account-complete Says account None left_new old new detail answers found faultless = absurd found
account-complete Says account (Some bytes) left_new old new detail answers found faultless =
    report-done Says (RefusesAccount account) bytes found.0 found.1.0 (λ d refused. refused.1 found.1.1) left_new old new detail answers
    faultless
