-- The Note of a transfer.
use Rattle.std.specs.Prelude.{◌≡◌, ℕ, Some, List}
use Rattle.log_record.specs.Spelling.{spelling, IsNoteText}
use Rattle.log_record.specs.declared.rec.Rec.TheVariants.{Note}
use Rattle.lock_core.specs.declared.job.Job.{Job}

-- the transfer has a note, and the units are the spelling of its record
pub record SpellsNote (number : ℕ) (job : Job) (units : List ℕ) : Type 0 where
  pub text : List ℕ
  pub noted : job.note ≡ Some text
  pub spelled : units ≡ spelling (Note number text)
  pub fits : IsNoteText text
