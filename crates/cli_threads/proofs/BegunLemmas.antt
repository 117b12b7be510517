-- A daemon that was made just now, over the table's first seat, may make a turn.
use Rattle.std.proofs.Common.{arith, ◌≡◌, ◌≤◌, ◌∙◌, ℕ, ◌+◌, ◌*◌, ◌^◌, None, ap, length, sym, subst}
use Rattle.std.specs.List.{Contains}
use Rattle.log_disk.specs.declared.disk.LogDisk.{Ghosts}
use Rattle.log_disk.specs.declared.sink.Sink.{Ghosts as SinkGhosts}
use Rattle.log_rule.specs.declared.view.Sending.{Sending}
use Rattle.log_rule.specs.declared.view.Constants.{Constants}
use Rattle.log_rule.specs.Views.{sent_to}
use Rattle.log_table.specs.declared.table.LogTable.{LogTable}
use Rattle.log_table.specs.declared.table.Seat.{Seat}
use Rattle.log_table.specs.HiredWorkers.{HasHired}
use Rattle.log_table.specs.Seats.{IsOf, key_of, view_of}
use Rattle.segment_file.specs.StandingLog.{IsShut}
use Rattle.segment_file.specs.declared.scan_result.Tail.{Tail}
use Rattle.commit_pipeline.specs.declared.daemon.Daemon.{Daemon}
use Rattle.commit_pipeline.specs.Told.{HasToldAll}
use Rattle.commit_pipeline.specs.Turning.{MayTurn}

module _ {D : Type 0} {K : Type 0} (g : Ghosts D) (h : SinkGhosts K) (d : Daemon D K g h) (table : LogTable) (n : ℕ) (seat : Seat) (tail : Tail)
    (disk : D) (hired : HasHired table n seat) where
  begins : sent_to (view_of seat) ≡ (key_of table).start
  begins =
      let starts = ap (λ (constants : Constants). constants.start) hired.knows.constants in
      let none_sent = ap (λ (sending : Sending). length sending.sent) hired.knows.sending in
      omega (arith, starts, none_sent)

  pub may_turn-begun : d.flusher.table.now ≡ table → d.flusher.seat ≡ seat → d.flusher.tail ≡ tail → d.flusher.disk.now ≡ disk
      → table.ring ≤ d.flusher.batch.room → (g.honest disk → IsShut tail.at (g.images disk)) → tail.next ≡ (key_of table).start
      → tail.at ≤ 2 ^ 63 + 16 * tail.next → d.fault ≡ None → (d.tally.done ≡ 0) × (d.tally.refused ≡ 0)
      → HasToldAll h d.first.value d.sink.now d.voice (view_of d.begun.value) (view_of d.flusher.seat) → MayTurn g d
  may_turn-begun table_is seat_is tail_is disk_is room shut next place fine none told = record {
    flusher = record {
      seat = subst (λ (p : LogTable × Seat). IsOf p.0 p.1) (λ i. (sym table_is i, sym seat_is i)) hired.seat;
      flusher = ap (λ (s : Seat). (view_of s).standing.role) seat_is ∙ hired.knows.flusher;
      unread = ap (λ (s : Seat). (view_of s).sending.read) seat_is ∙ ap (λ (sending : Sending). sending.read) hired.knows.sending;
      seen = subst (λ (s : Seat). Contains (view_of s).seen.lsns (sent_to (view_of s))) (sym seat_is)
          (subst (Contains (view_of seat).seen.lsns) (sym begins) hired.knows.seen);
      next = ap (λ (t : Tail). t.next) tail_is ∙ next ∙ sym begins ∙ sym (ap (λ (s : Seat). sent_to (view_of s)) seat_is);
      place = omega (arith, ap (λ (t : Tail). t.at) tail_is, ap (λ (t : Tail). t.next) tail_is, place);
      shut = subst (λ (p : D × Tail). g.honest p.0 → IsShut p.1.at (g.images p.0)) (λ i. (sym disk_is i, sym tail_is i)) shut;
      room = omega (arith, ap (λ (t : LogTable). t.ring) table_is, room);
    };
    fine = fine;
    running = ap (λ (s : Seat). (view_of s).sending.stop) seat_is ∙ ap (λ (sending : Sending). sending.stop) hired.knows.sending;
    counted = omega (arith, none.0, none.1);
    all_told = told;
  }
