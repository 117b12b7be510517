-- A job, and the transfer that it asks for.
use Rattle.std.specs.Prelude.{ℕ, Option, Some, None, IfSome, List, []}
use Rattle.log_record.specs.Spelling.{IsNoteText}
use Rattle.lock_core.specs.Alone.{PlainTransfer, AreAllowedLegs}
use Rattle.lock_core.specs.declared.job.Job.{Job}

-- the bytes of a note, none where there is none
abbrev pub note_of : Option (List ℕ) → List ℕ
note_of None = []
note_of (Some text) = text

-- its legs, and the bytes of its note
abbrev pub transfer_of : Job → PlainTransfer
transfer_of job = record { legs = job.legs; note = note_of job.note }

-- a job that a log of so many accounts allows; so is then the transfer that it is (`allowed_jobs`)
pub record IsAllowedJob (accounts : ℕ) (job : Job) : Type 0 where
  pub legs : AreAllowedLegs accounts job.legs
  pub note : IfSome job.note IsNoteText
