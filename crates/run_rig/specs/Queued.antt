-- What a new worker does that takes transfers of a queue.
use Rattle.std.specs.Prelude.{◌≡◌, []}
use Rattle.job_queue.specs.declared.queue.Queue.{Queue}
use Rattle.job_queue.specs.declared.rows.Rows.{Rows}
use Rattle.job_queue.specs.Passes.{HasPassOf}
use Rattle.log_table.specs.declared.table.LogTable.{LogTable}
use Rattle.log_table.specs.declared.table.Seat.{Seat}
use Rattle.log_table.specs.Seats.{IsOf, view_of}
use Rattle.ring_buffer.specs.Calls.{IsReady}
use Rattle.txn_runner.specs.Places.{AreOfScript, jobs_taken}
use Rattle.txn_runner.specs.Working.{jobs_of, places_in}

-- It holds nothing at the end, and its rows say what it took. `Made` is what it made of that, `Ended` how it ended, and `Ready` says that
-- its relief is so again.
pub record WorksQueue (queue : Queue) (table : LogTable) (old new : Seat) (rows : Rows) (Made Ended Ready : Type 0) : Type 0 where
  pub seat : IsOf table new
  pub ready : IsReady (view_of new)
  pub none_held : (view_of new).books.held ≡ []
  pub standing : (view_of new).standing ≡ (view_of old).standing
  pub pass : HasPassOf queue rows
  pub jobs : (view_of new).books.jobs ≡ jobs_taken (jobs_of queue) (places_in rows)
  pub places : AreOfScript (jobs_of queue) (places_in rows)
  pub works : Made
  pub all : Ended
  pub relief : Ready
