-- The first seat's view, and how each kind of step on the log's words changes the view of its seat. `AccountViews` has the steps on jobs
-- and accounts, `CrewViews` those of a worker's life, `MarkViews` those that release and expose, and `SlotViews` those on slots.
use Rattle.std.specs.Prelude.{◌==◌, ◌&&◌, ℕ, ◌+◌, ◌-◌, if◌then◌else◌, nat_lt, Bool, true, false, List, [], ◌∷◌, ◌++◌, length}
use Rattle.std.specs.List.{list_all, list_any}
use lib.Dec.{eqb}
use Rattle.log_rule.specs.declared.start.Start.{Start}
use Rattle.log_rule.specs.declared.view.Entry.{Entry}
use Rattle.log_rule.specs.declared.view.Call.{Call}
use Rattle.log_rule.specs.declared.view.Call.TheVariants.{Idle, Filling, Joined, Emptying, Marked, Holding, Raising, Reopening}
use Rattle.log_rule.specs.declared.view.Role.TheVariants.{Flusher, Spent}
use Rattle.log_rule.specs.declared.view.Constants.{Constants}
use Rattle.log_rule.specs.declared.view.Standing.{Standing}
use Rattle.log_rule.specs.declared.view.Seen.{Seen}
use Rattle.log_rule.specs.declared.view.Sending.{Sending}
use Rattle.log_rule.specs.declared.view.Books.{Books}
use Rattle.log_rule.specs.declared.view.View.{View}
use Rattle.log_record.specs.declared.rec.Rec.{Rec}
use Rattle.log_rule.specs.Books.{no_books, next_of, placing}
use Rattle.log_rule.specs.Groups.{Group}
use Rattle.log_rule.specs.GroupViews.{member_entry, member_books, step_with_unit}
use Rattle.log_rule.specs.Log.{Claim}

-- what the table was made with, as each view keeps it
abbrev pub constants_of : Start → Constants
constants_of key = record { start = key.start; ring = key.ring; slots = key.slots; accounts = length key.accounts.rows }

-- nothing but the LSN at which the log stood is seen
abbrev pub seen_at : ℕ → Seen
seen_at lsn = record {
  steps = 0;
  tail = lsn;
  tail_step = 0;
  exposed = lsn;
  exposed_step = 0;
  durable = lsn;
  durable_step = 0;
  stop = 0;
  crew = 0;
  mark = 0;
  mark_at = 0;
  account = 0;
  account_word = 0;
  slot = 0;
  slot_word = 0;
  base = 0;
  lsns = lsn ∷ [];
  refusals = [];
}

-- nothing is sent or read
abbrev pub sending_from : ℕ → Sending
sending_from lsn = record { sent = []; read = []; exposed = lsn; stop = 0; quiet = false; looked = false }

-- the view of the table's first seat
abbrev pub flusher : Start → View
flusher key = record {
  constants = constants_of key;
  standing = record { role = Flusher; worker = 0; made = []; enrolled = []; merged = [] };
  seen = seen_at key.start;
  entries = [];
  call = Idle;
  contended = false;
  sending = sending_from key.start;
  books = no_books;
}

-- what is left of a seat that was merged; a seat that was never made has this view too
abbrev pub nobody : View
nobody = record {
  constants = record { start = 0; ring = 0; slots = 0; accounts = 0 };
  standing = record { role = Spent; worker = 0; made = []; enrolled = []; merged = [] };
  seen = record (seen_at 0) { lsns = [] };
  entries = [];
  call = Idle;
  contended = false;
  sending = sending_from 0;
  books = no_books;
}

-- the range that the call under way fills
abbrev pub run_in : Call → List Entry
run_in Idle = []
run_in (Filling entry) = entry ∷ []
run_in (Joined slot piece step) = []
run_in (Emptying slot base total) = []
run_in (Marked after) = []
run_in (Holding at after) = []
run_in (Raising from to after) = []
run_in (Reopening slot) = []

-- The entries that the call under way has reserved. A member of a group that has not heard has its own by the phase of its group, since its
-- view doesn't know yet where that begins.
abbrev pub entries_in : (ℕ → Group) → Call → List Entry
entries_in groups Idle = []
entries_in groups (Filling entry) = entry ∷ []
entries_in groups (Joined slot piece step) = member_entry (groups slot).phase piece step
entries_in groups (Emptying slot base total) = []
entries_in groups (Marked after) = []
entries_in groups (Holding at after) = []
entries_in groups (Raising from to after) = []
entries_in groups (Reopening slot) = []

-- the books, with the record that such a group has placed for the call under way
abbrev pub books_in : (ℕ → Group) → Call → Books → Books
books_in groups Idle books = books
books_in groups (Filling entry) books = books
books_in groups (Joined slot piece step) books = member_books (groups slot).phase piece step books
books_in groups (Emptying slot base total) books = books
books_in groups (Marked after) books = books
books_in groups (Holding at after) books = books
books_in groups (Raising from to after) books = books
books_in groups (Reopening slot) books = books

-- the ranges that the call under way has to release; of a group's range nothing remains by then
abbrev pub claims_in : Call → List Claim
claims_in Idle = []
claims_in (Filling entry) = record { base = entry.start; size = entry.size; remaining = entry.size } ∷ []
claims_in (Joined slot piece step) = []
claims_in (Emptying slot base total) = record { base = base; size = total; remaining = 0 } ∷ []
claims_in (Marked after) = []
claims_in (Holding at after) = []
claims_in (Raising from to after) = []
claims_in (Reopening slot) = []

-- one step more
abbrev pub counted : Seen → Seen
counted seen = record seen { steps = seen.steps + 1 }

-- the tail was seen at n
abbrev pub seen_tail : ℕ → Seen → Seen
seen_tail n seen = record seen { steps = seen.steps + 1; tail = n; tail_step = seen.steps + 1; lsns = n ∷ seen.lsns }

-- exposed was seen at n
abbrev pub seen_exposed : ℕ → Seen → Seen
seen_exposed n seen = record seen { steps = seen.steps + 1; exposed = n; exposed_step = seen.steps + 1; lsns = n ∷ seen.lsns }

-- durable was seen at n
abbrev pub seen_durable : ℕ → Seen → Seen
seen_durable n seen = record seen { steps = seen.steps + 1; durable = n; durable_step = seen.steps + 1; lsns = n ∷ seen.lsns }

-- a range for the record with no unit filled
abbrev pub empty_entry : ℕ → ℕ → Rec → Entry
empty_entry start size rec = record { start = start; size = size; units = []; rec = rec }

-- the entry with one more unit filled
abbrev pub with_unit : ℕ → Entry → Entry
with_unit unit entry = record { start = entry.start; size = entry.size; units = entry.units ++ unit ∷ []; rec = entry.rec }

-- after a load of the tail
abbrev pub saw_tail : ℕ → View → View
saw_tail n view = record view { seen = seen_tail n view.seen }

-- the call after a load of exposed: who has just made a mark has exposed in hand
abbrev pub after_look : ℕ → Call → Call
after_look n Idle = Idle
after_look n (Filling entry) = Filling entry
after_look n (Joined slot piece step) = Joined slot piece step
after_look n (Emptying slot base total) = Emptying slot base total
after_look n (Marked after) = Holding n after
after_look n (Holding at after) = Holding at after
after_look n (Raising from to after) = Raising from to after
after_look n (Reopening slot) = Reopening slot

-- after a load of exposed
abbrev pub saw_exposed : ℕ → View → View
saw_exposed n view = record view {
  seen = seen_exposed n view.seen;
  call = after_look n view.call;
  sending = record view.sending { exposed = n; looked = true };
}

-- after a load of durable
abbrev pub saw_durable : ℕ → View → View
saw_durable n view = record view { seen = seen_durable n view.seen }

-- after a load of stop
abbrev pub saw_stop : ℕ → View → View
saw_stop n view = record view { seen = record view.seen { steps = view.seen.steps + 1; stop = n } }

-- every worker known as made is known as enrolled
abbrev pub knows_all_enrolled : Standing → Bool
knows_all_enrolled standing = list_all (λ worker. list_any (eqb worker) standing.enrolled) standing.made

-- after a load of crew; a crew of 0 tells that nobody is at work any more, where all are known to have begun
abbrev pub saw_crew : ℕ → View → View
saw_crew n view = record view {
  seen = record view.seen { steps = view.seen.steps + 1; crew = n };
  sending = record view.sending { quiet = n == 0 && knows_all_enrolled view.standing; looked = false };
}

-- where the units sent end, which is durable, and where those read behind them do
abbrev pub sent_to : View → ℕ
sent_to view = view.constants.start + length view.sending.sent

abbrev pub read_to : View → ℕ
read_to view = sent_to view + length view.sending.read

-- after a load of the next unit from the ring
abbrev pub has_read : ℕ → View → View
has_read unit view = record view { seen = counted view.seen; sending = record view.sending { read = view.sending.read ++ unit ∷ [] } }

-- after a store of durable; the new value counts as seen
abbrev pub has_sent : ℕ → View → View
has_sent to view = record view {
  seen = seen_durable to view.seen;
  sending = record view.sending { sent = view.sending.sent ++ view.sending.read; read = [] };
}

-- after a store of stop
abbrev pub has_stopped : ℕ → View → View
has_stopped word view = record view { seen = counted view.seen; sending = record view.sending { stop = word } }

-- after an exchange of the tail that succeeded; the new tail counts as seen, and the next record of the seat's last job has its place
abbrev pub reserved : ℕ → ℕ → View → View
reserved from to view = record view {
  seen = seen_tail to view.seen;
  call = Filling (empty_entry from (to - from) (next_of view.books));
  books = placing to (next_of view.books) view.books;
}

-- whether a seat is contended that lost an exchange of the tail made alone: in a table with slots it is, without slots it stays as it was
abbrev pub contended_alone : View → Bool
contended_alone view = if nat_lt 0 view.constants.slots then true else view.contended

-- after an exchange of the tail made alone that was lost, and found n
abbrev pub lost_alone : ℕ → View → View
lost_alone n view = record view { seen = seen_tail n view.seen; contended = contended_alone view }

-- the call with one more unit filled
abbrev pub call_with_unit : ℕ → Call → Call
call_with_unit unit Idle = Idle
call_with_unit unit (Filling entry) = Filling (with_unit unit entry)
call_with_unit unit (Joined slot piece step) = Joined slot piece (step_with_unit unit step)
call_with_unit unit (Emptying slot base total) = Emptying slot base total
call_with_unit unit (Marked after) = Marked after
call_with_unit unit (Holding at after) = Holding at after
call_with_unit unit (Raising from to after) = Raising from to after
call_with_unit unit (Reopening slot) = Reopening slot

-- after a store of a unit into the ring
abbrev pub filled : ℕ → View → View
filled unit view = record view { seen = counted view.seen; call = call_with_unit unit view.call }
