-- What a command has done that reads a log and writes a report of it, by how that went.
use Rattle.std.proofs.Common.{◌≡◌, ℕ, List, Option, Err, IfSome, IsErrOf, ap, refl, subst, sym}
use Rattle.log_disk.specs.Faults.{CountsWhere, Rose}
use Rattle.log_disk.specs.declared.source.Source.{Ghosts as SourceGhosts}
use Rattle.log_disk.specs.declared.sink.Sink.{Ghosts as SinkGhosts}
use Rattle.log_recovery.specs.declared.recovery.RecoverFault.{RecoverFault}
use Rattle.cli_shared.specs.Answers.{StaysSilent, recover_detail}
use Rattle.cli_shared.specs.declared.report.Detail.{Detail}
use Rattle.cli_shared.specs.declared.report.Detail.TheVariants.{Fine, Read, Write}
use Rattle.cli_shared.proofs.ToldLemmas.{TellsRead, TellsWrite}
use Rattle.cli_reports.specs.Command.{HasReported}
use Rattle.cli_reports.proofs.AnswerLemmas.{recover_detail-not_read, recover_detail-stays_silent, recover_detail-not_write}

-- the input was read to its end
pub counts_read-none : (before now : ℕ) (detail : Detail) → now ≡ before → (TellsRead detail → ⊥) → CountsWhere (detail ≡ Read) before now
counts_read-none before now detail same other = record { counted = λ is. absurd (other (subst TellsRead (sym is) tt)); fine = λ _. same }

-- the detail is the one that the reading gave
pub counts_read-err : {T : Type 0} (before now : ℕ) (detail : Detail) → CountsWhere (IsErrOf {T = T} (Err detail) Read) before now
    → CountsWhere (detail ≡ Read) before now
counts_read-err before now detail read = record { counted = λ is. read.counted (ap Err is); fine = λ other. read.fine (λ is. other cc) }

module _ {S K : Type 0} (h : SourceGhosts S) (i : SinkGhosts K)
    (Answers : List ℕ → Option (List ℕ) → Option (List ℕ) → Option (List ℕ) → Detail → Type 0) (IsAnswer : Detail → Type 0)
    (input script_new : S) (out : K) where
  -- the answer for the bytes of the input
  abbrev AnswersInput : K → Detail → Type 0
  AnswersInput out_new detail =
      IfSome (h.left input) (λ bytes. Answers bytes (h.left script_new) (i.held_bytes out) (i.held_bytes out_new) detail)

  -- all is written
  pub reported-fine : (out_new : K) → IsAnswer Fine → h.faults script_new ≡ h.faults input → i.faults out_new ≡ i.faults out
      → AnswersInput out_new Fine → HasReported h i Answers IsAnswer input script_new out out_new Fine
  reported-fine out_new range read write answer = record {
    answer = answer;
    silent = tt;
    range = range;
    read = record { counted = λ is. absurd (subst TellsRead (sym is) tt); fine = λ other. read };
    write = record { counted = λ is. absurd (subst TellsWrite (sym is) tt); fine = λ other. write };
  }

  -- the writing failed
  pub reported-write : (out_new : K) → IsAnswer Write → h.faults script_new ≡ h.faults input → Rose (i.faults out) (i.faults out_new)
      → AnswersInput out_new Write → HasReported h i Answers IsAnswer input script_new out out_new Write
  reported-write out_new range read write answer = record {
    answer = answer;
    silent = tt;
    range = range;
    read = record { counted = λ is. absurd (subst TellsRead (sym is) tt); fine = λ other. read };
    write = record { counted = λ is. write; fine = λ other. absurd (other refl) };
  }

  -- nothing was written
  pub reported-none_written : (detail : Detail) → IsAnswer detail → CountsWhere (detail ≡ Read) (h.faults input) (h.faults script_new)
      → StaysSilent (i.held_bytes out) (i.held_bytes out) detail → (TellsWrite detail → ⊥)
      → AnswersInput out detail → HasReported h i Answers IsAnswer input script_new out out detail
  reported-none_written detail range read silent write answer = record {
    answer = answer;
    silent = silent;
    range = range;
    read = read;
    write = record { counted = λ is. absurd (write (subst TellsWrite (sym is) tt)); fine = λ other. refl };
  }

  -- the bytes have this fault
  pub reported-fault : (f : RecoverFault) (detail : Detail) → detail ≡ recover_detail f → IsAnswer (recover_detail f)
      → h.faults script_new ≡ h.faults input
      → AnswersInput out (recover_detail f) → HasReported h i Answers IsAnswer input script_new out out detail
  reported-fault f detail is range read answer = subst (HasReported h i Answers IsAnswer input script_new out out) (sym is)
      (reported-none_written (recover_detail f) range (counts_read-none _ _ _ read (recover_detail-not_read f)) (recover_detail-stays_silent _ f) (recover_detail-not_write f) answer)
