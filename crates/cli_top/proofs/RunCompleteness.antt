-- Where nothing stands in its way, `run` succeeds, or comes to the end of the log.
use Rattle.std.proofs.Common.{◌≡◌, ◌≤◌, ap, subst, ℕ, ◌+◌, List, length, Option, Some, None, arith}
use Rattle.command_line.specs.declared.options.RunOptions.{RunOptions}
use Rattle.log_disk.specs.declared.disk.LogDisk.{Ghosts}
use Rattle.log_record.specs.declared.limits.TheConstants.{LAST_TXN}
use Rattle.log_recovery.specs.declared.recovery.RecoverFault.{RecoverFault}
use Rattle.log_recovery.specs.declared.recovery.RecoverFault.TheVariants as fault
use Rattle.log_recovery.specs.Opened.{OpenedList}
use Rattle.log_recovery.specs.Recovery.{HoldsLawful, IsFaultOf}
use Rattle.log_recovery.proofs.AnswerLemmas.{one-list}
use Rattle.lock_core.specs.declared.job.Job.{Job}
use Rattle.txn_script.specs.Script.{IsScriptText, IsFirstBadLine}
use Rattle.txn_script.proofs.ScriptLemmas.{jobs-same, script_text-no_bad_line}
use Rattle.cli_shared.specs.declared.report.Detail.{Detail}
use Rattle.cli_shared.specs.declared.report.Detail.TheVariants.{Fine, NoMemory, Script, Read, Write, Disk, NotALog, BadSnapshot, BadBatch, BadRec, Unlawful, LogEnd, TxnEnd}
use Rattle.cli_run.specs.RunAnswers.{AnswersRun, IsFirstOutside, IsRunDone, RunsOutOfNumbers, accounts_of, next_txn}
use Rattle.cli_shared.specs.Outside.{Outside, outside}
use Rattle.log_recovery.proofs.OpenedLemmas.{held-accounts_le_most}
use Rattle.cli_top.specs.Commands.{IsFaultless, ShowsList}
use Rattle.cli_top.proofs.Faultless.{IsMemory, HoldsLawful-fault_is_memory}

module _ {D : Type 0} (g : Ghosts D) (options : RunOptions) (disk disk_new : D) (bytes : List ℕ) (left_new text text_new : Option (List ℕ))
    (opened : OpenedList) (held : HoldsLawful (g.reads disk) opened) (jobs : List Job)
    (script : IsScriptText (accounts_of opened) bytes jobs) (numbers : next_txn opened + length jobs ≤ LAST_TXN) where
  abbrev old : Outside D
  old = outside disk (Some bytes) text

  abbrev new : Outside D
  new = outside disk_new left_new text_new

  -- the list and the script are those that were found
  same-list : (other : OpenedList) → HoldsLawful (g.reads disk) other → opened ≡ other
  same-list other also = one-list (g.reads disk) opened other held.list also.list

  script-of : (other : OpenedList) → HoldsLawful (g.reads disk) other → IsScriptText (accounts_of other) bytes jobs
  script-of other also = subst (λ (list : OpenedList). IsScriptText (accounts_of list) bytes jobs) (same-list other also) script

  -- no line of the input is outside the grammar, and all its transfers have numbers
  script-whole : (line : ℕ) → IsFirstOutside g line old new → ⊥
  script-whole line found =
      let bad = found.2 in
      script_text-no_bad_line (accounts_of found.0) bytes jobs line (script-of found.0 found.1)
      (subst (λ t. IsFirstBadLine (accounts_of found.0) t line) bad.1.0 bad.2)

  numbers-left : (first count : ℕ) → RunsOutOfNumbers g first count old new → ⊥
  numbers-left first count end =
      let few = held-accounts_le_most (g.reads disk) end.opened end.held in
      let read = subst (λ t. IsScriptText (accounts_of end.opened) t end.jobs) end.script.1.0 end.script.2 in
      let same =
      ap length (jobs-same (accounts_of end.opened) bytes jobs end.jobs (omega (arith, few)) (script-of end.opened end.held) read) in
      let next = ap next_txn (same-list end.opened end.held) in
      omega (arith, same, next, numbers, end.past, end.first_is, end.count_is)

  lawful : (f : RecoverFault) → IsFaultOf (g.reads disk) f → IsMemory f
  lawful f = HoldsLawful-fault_is_memory (g.reads disk) opened f held

  run-done : (detail : Detail) → AnswersRun g options old new detail → IsFaultless detail → IsRunDone detail
  run-done Fine answers faultless = tt
  run-done NoMemory answers faultless = tt
  run-done (LogEnd tail total) answers faultless = tt
  run-done Read answers faultless = faultless
  run-done Write answers faultless = faultless
  run-done Disk answers faultless = faultless
  run-done (Script line) answers faultless = script-whole line answers.1
  run-done (TxnEnd first count) answers faultless = numbers-left first count answers.1
  run-done NotALog answers faultless = lawful fault.NotALog answers.1
  run-done BadSnapshot answers faultless = lawful fault.BadSnapshot answers.1
  run-done (BadBatch offset) answers faultless = lawful (fault.BadBatch offset) answers.1
  run-done (BadRec lsn) answers faultless = lawful (fault.BadRec lsn) answers.1
  run-done (Unlawful lsn why) answers faultless = lawful (fault.Unlawful lsn why) answers.1
  run-done detail answers faultless = answers

pub run-complete : {D : Type 0} (g : Ghosts D) (options : RunOptions) (disk disk_new : D) (left left_new text text_new : Option (List ℕ))
    (detail : Detail) → AnswersRun g options (outside disk left text) (outside disk_new left_new text_new) detail
    → ShowsList left (λ bytes list. HoldsLawful (g.reads disk) list
    × (jobs : List Job) × IsScriptText (accounts_of list) bytes jobs × (next_txn list + length jobs ≤ LAST_TXN))
    → IsFaultless detail → IsRunDone detail
run-complete g options disk disk_new None left_new text text_new detail answers found faultless = absurd found
run-complete g options disk disk_new (Some bytes) left_new text text_new detail answers found faultless =
    run-done g options disk disk_new bytes left_new text text_new found.0 found.1.0 found.1.1 found.1.2 found.1.3 detail answers faultless
