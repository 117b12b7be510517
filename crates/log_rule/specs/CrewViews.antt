-- How views change where a worker is made, enrolled and leaves, where a note is split off, and where either is merged.
use Rattle.std.specs.Prelude.{◌==◌, ℕ, if◌then◌else◌, nat_lt, max, false, List, [], ◌∷◌, ◌++◌}
use Rattle.log_rule.specs.declared.view.Entry.{Entry}
use Rattle.log_rule.specs.declared.view.Call.TheVariants.{Idle}
use Rattle.log_rule.specs.declared.view.Role.TheVariants.{Fresh, Active, Ended, Note}
use Rattle.log_rule.specs.declared.view.Standing.{Standing}
use Rattle.log_rule.specs.declared.view.Seen.{Seen}
use Rattle.log_rule.specs.declared.view.View.{View}
use Rattle.log_rule.specs.Books.{no_books, merging}
use Rattle.log_rule.specs.Roles.{is_worker}
use Rattle.log_rule.specs.Views.{sending_from, counted}

-- after the worker is counted as active, which it then knows
abbrev pub enrolled : View → View
enrolled view = record view {
  standing = record view.standing { role = Active; enrolled = view.standing.worker ∷ view.standing.enrolled };
  seen = counted view.seen;
}

-- after the worker is no more counted as active
abbrev pub retired : View → View
retired view = record view { standing = record view.standing { role = Ended }; seen = counted view.seen }

-- the flusher's view once it has made a worker; it no longer knows that nobody is at work
abbrev pub hires : ℕ → View → View
hires worker view = record view {
  standing = record view.standing { made = worker ∷ view.standing.made };
  sending = record view.sending { quiet = false };
}

-- the view of a new worker, which has seen what the flusher's seat has seen, and made no step
abbrev pub hired : ℕ → View → View
hired worker view = record {
  constants = view.constants;
  standing = record { role = Fresh; worker = worker; made = []; enrolled = []; merged = [] };
  seen = record view.seen { steps = 0; tail_step = 0; exposed_step = 0; durable_step = 0 };
  entries = [];
  call = Idle;
  contended = false;
  sending = sending_from 0;
  books = no_books;
}

-- the view of a note: it knows what the seat knows that made it, and owns nothing
abbrev pub noted : View → View
noted view = record {
  constants = view.constants;
  standing = record view.standing { role = Note };
  seen = view.seen;
  entries = [];
  call = Idle;
  contended = false;
  sending = sending_from 0;
  books = no_books;
}

-- the entry among others in order of their starts
abbrev pub inserted : Entry → List Entry → List Entry
inserted entry [] = entry ∷ []
inserted entry (other ∷ others) = if nat_lt entry.start other.start then entry ∷ other ∷ others else other ∷ inserted entry others

-- the entries of both in order of their starts
abbrev pub merged_entries : List Entry → List Entry → List Entry
merged_entries entries [] = entries
merged_entries entries (other ∷ others) = inserted other (merged_entries entries others)

-- the greater of the LSNs, and every LSN that either saw, and each refusal that either heard; of the stop words the other's, unless it is 0; the rest is the seat's own
abbrev pub merged_seen : Seen → Seen → Seen
merged_seen seen other =
    record seen {
      tail = max seen.tail other.tail;
      exposed = max seen.exposed other.exposed;
      durable = max seen.durable other.durable;
      stop = if other.stop == 0 then seen.stop else other.stop;
      lsns = seen.lsns ++ other.lsns;
      refusals = seen.refusals ++ other.refusals;
    }

-- the standing of the flusher's seat after it took in a worker's or a note, which leaves its worker unmerged
abbrev pub merged_standing : Standing → Standing → Standing
merged_standing standing other = record standing {
  enrolled = standing.enrolled ++ other.enrolled;
  merged = if is_worker other.role then other.worker ∷ standing.merged else standing.merged;
}

-- the flusher's view after it took in a worker's or a note: the entries, jobs and knowledge of both
abbrev pub takes_in : View → View → View
takes_in view other =
    record view {
      standing = merged_standing view.standing other.standing;
      seen = merged_seen view.seen other.seen;
      entries = merged_entries view.entries other.entries;
      books = merging view.books other.books;
    }
