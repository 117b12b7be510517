-- What `cut` answers, from what was read and written.
use Rattle.std.proofs.Common.{ℕ, List, Option, Some, None, IfSome, subst}
use Rattle.std.specs.Io.KnownBytes.{Appends}
use Rattle.log_disk.specs.Streams.{AppendsPart}
use Rattle.lsn_space.specs.Opening.{Opening}
use Rattle.log_recovery.specs.declared.recovery.RecoverFault.TheVariants as fault
use Rattle.log_recovery.specs.Recovery.{HoldsLawful}
use Rattle.log_recovery.specs.Text.{rows_text}
use Rattle.log_recovery.proofs.TextLemmas.{rows_text-shown}
use Rattle.cli_shared.specs.Answers.{StaysSilent}
use Rattle.cli_shared.specs.declared.report.Detail.{Detail}
use Rattle.cli_shared.specs.declared.report.Detail.TheVariants.{Fine, NoMemory, Usage, Script, Read, Write, Disk, NotALog, BadSnapshot, BadBatch}
use Rattle.cli_shared.specs.declared.report.Detail.TheVariants.{BadRec, Unlawful, LogEnd, TxnEnd, Exists, NoSuchLsn, BadStream, Gap, StreamUnlawful}
use Rattle.cli_shared.specs.declared.report.Detail.TheVariants.{NoAccount}
use Rattle.cli_shared.proofs.ToldLemmas.{TellsWrite, Keeps-refl, IfSome-nothing_said}
use Rattle.cli_cut.specs.Answers.{AnswersCut, IsMakingFault, IsAnswerToCut}
use Rattle.cli_shared.proofs.SourceLemmas.{HasSourceFault-fault_of_bytes}
use Rattle.cli_cut.specs.Cutting.{FollowsCut, ReadsCut}

pub answers_cut-fine : (left left_new old new : Option (List ℕ)) (opening : Opening) → ReadsCut left left_new opening
    → Appends old new (rows_text opening.lsn opening.accounts) → IfSome left (λ bytes. AnswersCut bytes left_new old new Fine)
answers_cut-fine None left_new old new opening reads written = tt
answers_cut-fine (Some bytes) left_new old new opening reads written = (
  reads.2.1,
  reads.1,
  subst (λ b. HoldsLawful b reads.1) reads.2.0 reads.3,
  rw (rows_text-shown opening.lsn opening.accounts reads.1 reads.4.lsn reads.4.accounts) at written,
)

pub answers_cut-write : (left left_new old new : Option (List ℕ)) (opening : Opening) → ReadsCut left left_new opening
    → AppendsPart old new (rows_text opening.lsn opening.accounts) → IfSome left (λ bytes. AnswersCut bytes left_new old new Write)
answers_cut-write None left_new old new opening reads written = tt
answers_cut-write (Some bytes) left_new old new opening reads written = (
  reads.2.1,
  reads.1,
  subst (λ b. HoldsLawful b reads.1) reads.2.0 reads.3,
  rw (rows_text-shown opening.lsn opening.accounts reads.1 reads.4.lsn reads.4.accounts) at written,
)

-- what the answer says where no log was made: it is one of `cut`, nothing was written, and it doesn't follow a log
pub record IsUnmade (left left_new text : Option (List ℕ)) (detail : Detail) : Type 0 where
  pub answer : IfSome left (λ bytes. AnswersCut bytes left_new text text detail)
  pub range : IsAnswerToCut detail
  pub silent : StaysSilent text text detail
  pub write : TellsWrite detail → ⊥
  pub follows : FollowsCut detail → ⊥

pub making_fault-unmade : (left left_new text : Option (List ℕ)) (detail : Detail) → IsMakingFault left left_new detail
    → IsUnmade left left_new text detail
making_fault-unmade left left_new text NotALog is = record {
  answer = HasSourceFault-fault_of_bytes left left_new fault.NotALog is;
  range = tt;
  silent = Keeps-refl text;
  write = λ tells. tells;
  follows = λ follows. follows;
}
making_fault-unmade left left_new text BadSnapshot is = record {
  answer = HasSourceFault-fault_of_bytes left left_new fault.BadSnapshot is;
  range = tt;
  silent = Keeps-refl text;
  write = λ tells. tells;
  follows = λ follows. follows;
}
making_fault-unmade left left_new text (BadBatch offset) is = record {
  answer = HasSourceFault-fault_of_bytes left left_new (fault.BadBatch offset) is;
  range = tt;
  silent = Keeps-refl text;
  write = λ tells. tells;
  follows = λ follows. follows;
}
making_fault-unmade left left_new text (BadRec lsn) is = record {
  answer = HasSourceFault-fault_of_bytes left left_new (fault.BadRec lsn) is;
  range = tt;
  silent = Keeps-refl text;
  write = λ tells. tells;
  follows = λ follows. follows;
}
making_fault-unmade left left_new text (Unlawful lsn why) is = record {
  answer = HasSourceFault-fault_of_bytes left left_new (fault.Unlawful lsn why) is;
  range = tt;
  silent = Keeps-refl text;
  write = λ tells. tells;
  follows = λ follows. follows;
}
making_fault-unmade left left_new text Read is =
    record { answer = IfSome-nothing_said left; range = tt; silent = Keeps-refl text; write = λ tells. tells; follows = λ follows. follows }
making_fault-unmade left left_new text NoMemory is =
    record { answer = IfSome-nothing_said left; range = tt; silent = Keeps-refl text; write = λ tells. tells; follows = λ follows. follows }
making_fault-unmade left left_new text Disk is =
    record { answer = IfSome-nothing_said left; range = tt; silent = Keeps-refl text; write = λ tells. tells; follows = λ follows. follows }
making_fault-unmade left left_new text Exists is =
    record { answer = IfSome-nothing_said left; range = tt; silent = Keeps-refl text; write = λ tells. tells; follows = λ follows. follows }
making_fault-unmade left left_new text (NoSuchLsn lsn) is = absurd is
making_fault-unmade left left_new text (BadStream offset) is = absurd is
making_fault-unmade left left_new text (Gap have from) is = absurd is
making_fault-unmade left left_new text (StreamUnlawful lsn why) is = absurd is
making_fault-unmade left left_new text (NoAccount account) is = absurd is
making_fault-unmade left left_new text Usage is = absurd is
making_fault-unmade left left_new text (Script line) is = absurd is
making_fault-unmade left left_new text (LogEnd tail total) is = absurd is
making_fault-unmade left left_new text (TxnEnd first count) is = absurd is
making_fault-unmade left left_new text Fine is = absurd is
making_fault-unmade left left_new text Write is = absurd is
