-- Lines of a text, and the Commits that they tell of.
use Rattle.std.specs.Prelude.{◌≡◌, ◌⊎◌, ℕ, ◌+◌, List, [], ◌∷◌, ◌++◌, codes, Some, None}
use Rattle.log_record.specs.declared.rec.Rec.{Rec}
use Rattle.log_record.specs.declared.rec.Rec.TheVariants.{Commit}
use Rattle.log_record.specs.LogList.{end_of, size_of}
use Rattle.lock_core.specs.Witness.{genesis_log, transfer_records}
use Rattle.log_recovery.specs.Opened.{OpenedList, list_end, whole_list}
use Rattle.commit_pipeline.specs.EndLines.{done_line}
use Rattle.txn_jobs.specs.Places.{NumberedJobs}
use Rattle.cli_run.specs.RunAnswers.{HoldsTold}
use Rattle.cli_shared.specs.Outside.{outside}
use Rattle.cli_threads.specs.Sharing.{Sharing}
use Rattle.cli_laws.specs.RunWitness.{plain_disk, file_at}

-- the text has this line, given with its line feed, whole: at its beginning, or behind the end of another
pub record HasLine (text line : List ℕ) : Type 0 where
  pub before : List ℕ
  pub after : List ℕ
  pub whole : text ≡ before ++ line ++ after
  pub begins : (before ≡ []) ⊎ ((head : List ℕ) × (before ≡ head ++ codes "\n"))

-- the records, the first of which starts at this LSN, have a Commit of the transaction that ends at `end`
pub record HasCommitAt (at : ℕ) (records : List Rec) (txn end : ℕ) : Type 0 where
  pub front : List Rec
  pub legs : ℕ
  pub rest : List Rec
  pub whole : records ≡ front ++ Commit txn legs ∷ rest
  pub place : end ≡ at + end_of front + size_of (Commit txn legs)

-- each `done` line of the text is of a Commit in these records behind the opened list, which ends at the LSN of the line
abbrev pub TellsOfCommits : OpenedList → List Rec → List ℕ → Type 0
TellsOfCommits opened records text =
    (txn end : ℕ) → HasLine text (done_line txn end) → HasCommitAt (list_end opened) records txn end

-- one transfer was told, and the image holds what was told
pub record HasToldPayment : Type 0 where
  pub jobs : NumberedJobs
  pub sharing : Sharing
  pub held : HoldsTold (plain_disk file_at) (whole_list genesis_log) jobs sharing transfer_records (outside 0 None (Some []))
      (outside 1 None (Some (done_line 1 9))) (file_at 1)
  pub line : HasLine (done_line 1 9) (done_line 1 9)
