-- What is told of records: their lines, and how many ended a transaction.
use Rattle.std.specs.Prelude.{◌≡◌, ◌<◌, ℕ, ◌+◌, List, ◌++◌, length, Option, Some, None}
use Rattle.log_record.specs.declared.rec.Rec.{Rec}
use Rattle.log_record.specs.declared.rec.Rec.TheVariants.{Genesis, Update, Commit, Short, Over, Note}
use Rattle.end_lines.specs.declared.tally.Tally.{Tally}
use Rattle.end_lines.specs.declared.voice.Voice.{Voice}
use Rattle.end_lines.specs.EndLines.{text_of, lines_in, done_in, refused_in}

-- the tally with the end records among these
abbrev pub counted : Tally → List Rec → Tally
counted tally records = record { done = tally.done + done_in records; refused = tally.refused + refused_in records }

-- of the records from this LSN on exactly what the voice writes was written, so many lines, and each end record was counted
pub record TellsAll (voice : Voice) (at : ℕ) (records : List Rec) (text : List ℕ) (lines : ℕ) (before after : Tally) : Type 0 where
  pub text_is : text ≡ text_of voice at records
  pub lines_are : lines ≡ lines_in voice records
  pub counts : after ≡ counted before records

-- the writing stopped at a fault: the end records among the first of these were counted, and of their lines a part was written, not all;
-- lines that were written out in one block with those that failed may be missing too
pub record TellsFront (voice : Voice) (at : ℕ) (records : List Rec) (text : List ℕ) (before after : Tally) : Type 0 where
  pub told : List Rec
  pub untold : List Rec
  pub whole : records ≡ told ++ untold
  pub unwritten : List ℕ
  pub lines : text_of voice at told ≡ text ++ unwritten
  pub some : 0 < length unwritten
  pub counts : after ≡ counted before told

-- the record, where it ends a transaction
abbrev pub ended : Rec → Option Rec
ended (Genesis account balance) = None
ended (Update txn account delta prev) = None
ended (Commit txn legs) = Some (Commit txn legs)
ended (Short txn leg) = Some (Short txn leg)
ended (Over txn leg) = Some (Over txn leg)
ended (Note txn text) = None
