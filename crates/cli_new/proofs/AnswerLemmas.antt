-- What `new` answers, from what was read and written.
use Rattle.std.proofs.Common.{◌≡◌, ℕ, ◌*◌, List, length, Option, Some, None, IfSome, ap, ◌∙◌, subst, arith}
use Rattle.std.proofs.lemmas.List.{length-map}
use Rattle.std.specs.Io.KnownBytes.{Appends}
use Rattle.log_disk.specs.Streams.{AppendsPart}
use Rattle.log_recovery.specs.Text.{rows_text, accounts_text}
use Rattle.lsn_space.specs.Accounts.{Accounts}
use Rattle.txn_script.specs.Balances.{IsBalancesText, IsFirstBadBalance}
use Rattle.cli_shared.specs.declared.report.Detail.{Detail}
use Rattle.cli_shared.specs.declared.report.Detail.TheVariants.{Fine, NoMemory, Usage, Script, Read, Write, Disk, NotALog, BadSnapshot, BadBatch}
use Rattle.cli_shared.specs.declared.report.Detail.TheVariants.{BadRec, Unlawful, LogEnd, TxnEnd, Exists, NoSuchLsn, BadStream, Gap, StreamUnlawful}
use Rattle.cli_shared.specs.declared.report.Detail.TheVariants.{NoAccount}
use Rattle.cli_new.specs.Answers.{AnswersNew, AreOpening, IsMakingFault, IsAnswerToNew}
use Rattle.cli_new.specs.Creation.{FollowsLog}
use Rattle.cli_shared.specs.Answers.{StaysSilent}
use Rattle.cli_shared.specs.Creation.{new_list}
use Rattle.cli_shared.proofs.ToldLemmas.{TellsWrite, Keeps-refl, IfSome-nothing_said}
use Rattle.cli_shared.proofs.GenesisLemmas.{genesis-text}

-- the text of the new log's accounts
text-opening : (left left_new : Option (List ℕ)) (accounts : Accounts) (opening : AreOpening left left_new accounts) (lsn : ℕ)
    → lsn ≡ 2 * length accounts.rows
    → rows_text lsn accounts.rows ≡ accounts_text (new_list opening.2.0)
text-opening left left_new accounts opening lsn is =
    let rows = opening.2.2 in
    let counted = ap length rows ∙ length-map opening.2.0 (λ (balance : ℕ). (balance, 0)) in
    ap (rows_text lsn) rows ∙ genesis-text opening.2.0 opening.2.1.most opening.2.1.each lsn (omega arith)

pub answers_new-fine : (left left_new old new : Option (List ℕ)) (accounts : Accounts) (lsn : ℕ) → AreOpening left left_new accounts
    → lsn ≡ 2 * length accounts.rows → Appends old new (rows_text lsn accounts.rows)
    → IfSome left (λ bytes. AnswersNew bytes left_new old new Fine)
answers_new-fine None left_new old new accounts lsn opening is written = tt
answers_new-fine (Some bytes) left_new old new accounts lsn opening is written = (
  opening.1.1,
  opening.2.0,
  subst (λ text. IsBalancesText text opening.2.0) opening.1.0 opening.2.1,
  rw (text-opening (Some bytes) left_new accounts opening lsn is) at written,
)

pub answers_new-write : (left left_new old new : Option (List ℕ)) (accounts : Accounts) (lsn : ℕ) → AreOpening left left_new accounts
    → lsn ≡ 2 * length accounts.rows → AppendsPart old new (rows_text lsn accounts.rows)
    → IfSome left (λ bytes. AnswersNew bytes left_new old new Write)
answers_new-write None left_new old new accounts lsn opening is written = tt
answers_new-write (Some bytes) left_new old new accounts lsn opening is written = (
  opening.1.1,
  opening.2.0,
  subst (λ text. IsBalancesText text opening.2.0) opening.1.0 opening.2.1,
  rw (text-opening (Some bytes) left_new accounts opening lsn is) at written,
)

-- what the answer says where no log was made: it is one of `new`, nothing was written, and it doesn't follow a log
pub record IsUnmade (left left_new text : Option (List ℕ)) (detail : Detail) : Type 0 where
  pub answer : IfSome left (λ bytes. AnswersNew bytes left_new text text detail)
  pub range : IsAnswerToNew detail
  pub silent : StaysSilent text text detail
  pub write : TellsWrite detail → ⊥
  pub follows : FollowsLog detail → ⊥

first_bad : (left left_new text : Option (List ℕ)) (line : ℕ) → IsMakingFault left left_new (Script line)
    → IfSome left (λ bytes. AnswersNew bytes left_new text text (Script line))
first_bad None left_new text line is = tt
first_bad (Some bytes) left_new text line is = (is.1.1, subst (λ all. IsFirstBadBalance all line) is.1.0 is.2)

pub making_fault-unmade : (left left_new text : Option (List ℕ)) (detail : Detail) → IsMakingFault left left_new detail
    → IsUnmade left left_new text detail
making_fault-unmade left left_new text (Script line) is =
    record { answer = first_bad left left_new text line is; range = tt; silent = Keeps-refl text; write = λ tells. tells; follows = λ follows. follows }
making_fault-unmade left left_new text Read is =
    record { answer = IfSome-nothing_said left; range = tt; silent = Keeps-refl text; write = λ tells. tells; follows = λ follows. follows }
making_fault-unmade left left_new text NoMemory is =
    record { answer = IfSome-nothing_said left; range = tt; silent = Keeps-refl text; write = λ tells. tells; follows = λ follows. follows }
making_fault-unmade left left_new text Disk is =
    record { answer = IfSome-nothing_said left; range = tt; silent = Keeps-refl text; write = λ tells. tells; follows = λ follows. follows }
making_fault-unmade left left_new text Exists is =
    record { answer = IfSome-nothing_said left; range = tt; silent = Keeps-refl text; write = λ tells. tells; follows = λ follows. follows }
making_fault-unmade left left_new text (NoSuchLsn lsn) is = absurd is
making_fault-unmade left left_new text (BadStream offset) is = absurd is
making_fault-unmade left left_new text (Gap have from) is = absurd is
making_fault-unmade left left_new text (StreamUnlawful lsn why) is = absurd is
making_fault-unmade left left_new text (NoAccount account) is = absurd is
making_fault-unmade left left_new text Usage is = absurd is
making_fault-unmade left left_new text NotALog is = absurd is
making_fault-unmade left left_new text BadSnapshot is = absurd is
making_fault-unmade left left_new text (BadBatch offset) is = absurd is
making_fault-unmade left left_new text (BadRec lsn) is = absurd is
making_fault-unmade left left_new text (Unlawful lsn why) is = absurd is
making_fault-unmade left left_new text (LogEnd tail total) is = absurd is
making_fault-unmade left left_new text (TxnEnd first count) is = absurd is
making_fault-unmade left left_new text Fine is = absurd is
making_fault-unmade left left_new text Write is = absurd is
