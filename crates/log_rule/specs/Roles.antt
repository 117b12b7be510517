-- What each role is: one question about it for each function.
use Rattle.std.specs.Prelude.{Bool, true, false}
use Rattle.log_rule.specs.declared.view.Role.{Role}
use Rattle.log_rule.specs.declared.view.Role.TheVariants.{Flusher, Fresh, Active, Ended, Note, Spent}

abbrev pub is_active : Role → Bool
is_active Flusher = false
is_active Fresh = false
is_active Active = true
is_active Ended = false
is_active Note = false
is_active Spent = false

abbrev pub is_worker : Role → Bool
is_worker Flusher = false
is_worker Fresh = true
is_worker Active = true
is_worker Ended = true
is_worker Note = false
is_worker Spent = false

-- the worker is active, or may become so
abbrev pub is_working : Role → Bool
is_working Flusher = false
is_working Fresh = true
is_working Active = true
is_working Ended = false
is_working Note = false
is_working Spent = false

-- the seat may be merged into the flusher's
abbrev pub has_ended : Role → Bool
has_ended Flusher = false
has_ended Fresh = false
has_ended Active = false
has_ended Ended = true
has_ended Note = true
has_ended Spent = false

abbrev pub is_spent : Role → Bool
is_spent Flusher = false
is_spent Fresh = false
is_spent Active = false
is_spent Ended = false
is_spent Note = false
is_spent Spent = true

abbrev pub may_own : Role → Bool
may_own Flusher = true
may_own Fresh = true
may_own Active = true
may_own Ended = true
may_own Note = false
may_own Spent = false
