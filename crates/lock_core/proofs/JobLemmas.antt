-- What a job says of its transfer.
use Rattle.std.proofs.Common.{◌≡◌, refl, ℕ, List, [], Option, Some, None, inl, inr}
use Rattle.std.specs.Prelude.{◌⊎◌, IfSome}
use Rattle.log_record.specs.Spelling.{IsNoteText}
use Rattle.lock_core.specs.Transfers.{note_of}

-- the note of a job is one that its transfer may have
pub note-allowed : (note : Option (List ℕ)) → IfSome note IsNoteText → (note_of note ≡ []) ⊎ IsNoteText (note_of note)
note-allowed None allowed = inl refl
note-allowed (Some text) allowed = inr allowed
