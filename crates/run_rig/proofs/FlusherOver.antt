-- A flusher that was made over these parts.
use Rattle.std.proofs.Common.{◌≡◌, ◌≤◌, ◌+◌, ◌*◌, ◌^◌, ◌∙◌, ap, sym, subst, []}
use Rattle.std.specs.List.{Contains}
use Rattle.log_disk.specs.declared.disk.LogDisk.{Ghosts}
use Rattle.log_table.specs.declared.table.LogTable.{LogTable}
use Rattle.log_table.specs.declared.table.Seat.{Seat}
use Rattle.log_table.specs.Seats.{IsOf, view_of}
use Rattle.log_rule.specs.declared.view.Role.TheVariants.{Flusher as FlusherRole}
use Rattle.log_rule.specs.Views.{sent_to}
use Rattle.segment_file.specs.PackedBatch.{BatchState}
use Rattle.segment_file.specs.StandingLog.{IsShut}
use Rattle.segment_file.specs.declared.scan_result.Tail.{Tail}
use Rattle.flusher.specs.declared.flusher.Flusher.{Flusher}
use Rattle.flusher.specs.Flushing.{MayFlush}

module _ {D : Type 0} (g : Ghosts D) (f : Flusher D g) (table : LogTable) (seat : Seat) (batch : BatchState) (tail : Tail) (disk : D)
    (table_is : f.table.now ≡ table) (seat_is : f.seat ≡ seat) (batch_is : f.batch ≡ batch) (tail_is : f.tail ≡ tail) (disk_is : f.disk.now ≡ disk)
  where
    -- the gate behind the log is shut, as it was on the disk
    shut-over : (g.honest disk → IsShut tail.at (g.images disk)) → g.honest f.disk.now → IsShut f.tail.at (g.images f.disk.now)
    shut-over shut = subst (λ d. g.honest d → IsShut f.tail.at (g.images d)) (sym disk_is)
        (subst (λ (t : Tail). g.honest disk → IsShut t.at (g.images disk)) (sym tail_is) shut)

    -- and the batch has room for the ring
    room-over : table.ring ≤ batch.room → f.table.now.ring ≤ f.batch.room
    room-over room = subst (λ (t : LogTable). t.ring ≤ f.batch.room) (sym table_is)
        (subst (λ (b : BatchState). table.ring ≤ b.room) (sym batch_is) room)

    -- the seat is one of the table, which has read nothing
    seat-over : IsOf table seat → IsOf f.table.now f.seat
    seat-over of_table = subst (λ t. IsOf t f.seat) (sym table_is) (subst (IsOf table) (sym seat_is) of_table)

    -- and where it has sent to is known
    seen-over : Contains (view_of seat).seen.lsns (sent_to (view_of seat)) → Contains (view_of f.seat).seen.lsns (sent_to (view_of f.seat))
    seen-over = subst (λ s. Contains (view_of s).seen.lsns (sent_to (view_of s))) (sym seat_is)

    pub MayFlush-over : IsOf table seat → (view_of seat).standing.role ≡ FlusherRole → (view_of seat).sending.read ≡ []
        → Contains (view_of seat).seen.lsns (sent_to (view_of seat)) → tail.next ≡ sent_to (view_of seat) → tail.at ≤ 2 ^ 63 + 16 * tail.next
        → (g.honest disk → IsShut tail.at (g.images disk)) → table.ring ≤ batch.room → MayFlush g f
    MayFlush-over of_table role unread seen next place shut room = record {
      seat = seat-over of_table;
      flusher = ap (λ s. (view_of s).standing.role) seat_is ∙ role;
      unread = ap (λ s. (view_of s).sending.read) seat_is ∙ unread;
      seen = seen-over seen;
      next = ap (λ (t : Tail). t.next) tail_is ∙ next ∙ sym (ap (λ s. sent_to (view_of s)) seat_is);
      place = subst (λ (t : Tail). t.at ≤ 2 ^ 63 + 16 * t.next) (sym tail_is) place;
      shut = shut-over shut;
      room = room-over room;
    }
