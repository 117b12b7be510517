-- How the steps that release a range and expose what is released change the view of their seat.
use Rattle.std.specs.Prelude.{ℕ, ◌+◌, if◌then◌else◌, nat_lt, ◌++◌}
use Rattle.log_rule.specs.declared.group_view.After.{After}
use Rattle.log_rule.specs.declared.view.Call.{Call}
use Rattle.log_rule.specs.declared.view.Call.TheVariants.{Idle, Filling, Joined, Emptying, Marked, Holding, Raising, Reopening}
use Rattle.log_rule.specs.declared.view.Seen.{Seen}
use Rattle.log_rule.specs.declared.view.View.{View}
use Rattle.log_rule.specs.GroupViews.{call_after, follow_up}
use Rattle.log_rule.specs.Views.{counted, run_in, seen_exposed}

-- after a store of the mark of the seat's range or its group's, which is released by it
abbrev pub marked : View → View
marked view = record view { seen = counted view.seen; entries = view.entries ++ run_in view.call; call = Marked (follow_up view.call) }

-- the LSN in hand, 0 where there is none
abbrev pub in_hand : Call → ℕ
in_hand Idle = 0
in_hand (Filling entry) = 0
in_hand (Joined slot piece step) = 0
in_hand (Emptying slot base total) = 0
in_hand (Marked after) = 0
in_hand (Holding at after) = at
in_hand (Raising from to after) = from
in_hand (Reopening slot) = 0

-- where the mark found there is above the LSN, exposed is to be raised to it; else nothing is left to expose
abbrev pub next_raise : ℕ → ℕ → After → Call
next_raise at mark after = if nat_lt at mark then Raising at mark after else call_after after

-- the call after a load of the mark at the LSN in hand
abbrev pub call_with_mark : ℕ → Call → Call
call_with_mark mark Idle = Idle
call_with_mark mark (Filling entry) = Filling entry
call_with_mark mark (Joined slot piece step) = Joined slot piece step
call_with_mark mark (Emptying slot base total) = Emptying slot base total
call_with_mark mark (Marked after) = Marked after
call_with_mark mark (Holding at after) = next_raise at mark after
call_with_mark mark (Raising from to after) = Raising from to after
call_with_mark mark (Reopening slot) = Reopening slot

-- a mark was seen at this LSN
abbrev pub seen_mark : ℕ → ℕ → Seen → Seen
seen_mark at mark seen = record seen { steps = seen.steps + 1; mark = mark; mark_at = at }

-- after a load of the mark at the LSN in hand
abbrev pub saw_mark : ℕ → View → View
saw_mark mark view = record view { seen = seen_mark (in_hand view.call) mark view.seen; call = call_with_mark mark view.call }

-- the call after an exchange of exposed, which is n then
abbrev pub call_with_exposed : ℕ → Call → Call
call_with_exposed n Idle = Idle
call_with_exposed n (Filling entry) = Filling entry
call_with_exposed n (Joined slot piece step) = Joined slot piece step
call_with_exposed n (Emptying slot base total) = Emptying slot base total
call_with_exposed n (Marked after) = Marked after
call_with_exposed n (Holding at after) = Holding at after
call_with_exposed n (Raising from to after) = Holding n after
call_with_exposed n (Reopening slot) = Reopening slot

-- after an exchange of exposed, which is n then: by this exchange, or as it was found where the exchange was lost
abbrev pub after_raise : ℕ → View → View
after_raise n view = record view { seen = seen_exposed n view.seen; call = call_with_exposed n view.call }
