use Rattle.std.proofs.Common.{◌≡◌}
use Rattle.log_table.specs.Seats.{IsOf, view_of}
use Rattle.log_rule.specs.Views.{read_to, sent_to}
use Rattle.test_rig.proofs.sending.send_all.Given as goal

abbrev pub invariant-loop-at : goal.invariant-loop-at
invariant-loop-at l = IsOf l.table l.flusher_seat
    × ((view_of l.flusher_seat).standing ≡ (view_of l.initial.flusher_seat).standing)
    × ((view_of l.flusher_seat).entries ≡ (view_of l.initial.flusher_seat).entries)
    × (sent_to (view_of l.flusher_seat) ≡ sent_to (view_of l.initial.flusher_seat))
    × (read_to (view_of l.flusher_seat) ≡ l.at)
    × ((view_of l.flusher_seat).sending.exposed ≡ l.to)
