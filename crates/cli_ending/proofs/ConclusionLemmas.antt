-- What is concluded, in each of the cases that there are.
use Rattle.std.proofs.Common.{◌≡◌, refl, ℕ, List, inl, inr}
use Rattle.std.specs.Io.KnownBytes.{Appends}
use Rattle.lsn_space.specs.Accounts.{Accounts}
use Rattle.log_disk.specs.declared.sink.Sink.{Ghosts as SinkGhosts}
use Rattle.log_disk.specs.Streams.{AppendsPart}
use Rattle.log_recovery.specs.Text.{rows_text}
use Rattle.cli_shared.specs.declared.report.Detail.{Detail}
use Rattle.cli_shared.specs.declared.report.Detail.TheVariants.{Fine, Write, Disk, LogEnd}
use Rattle.cli_ending.specs.declared.conclusion.RunEnd.{RunEnd}
use Rattle.cli_ending.specs.Conclusion.{Concludes, NothingStopped, StoppedAs, closed_text}

-- why the transfers were stopped is what the program answers, and it writes nothing
pub concludes-stopped : {K : Type 0} (h : SinkGhosts K) (ended : RunEnd) (text : List ℕ) (sink : K) (why : Detail) → StoppedAs ended why
    → Concludes h ended text sink sink why
concludes-stopped h ended text sink Disk is = (is, refl)
concludes-stopped h ended text sink Write is = inl (is, refl)
concludes-stopped h ended text sink (LogEnd tail total) is = (is, refl)
concludes-stopped h ended text sink why is = absurd is

-- where nothing stopped them it writes the text that ends where the table was closed, or a part of it
pub concludes-fine : {K : Type 0} (h : SinkGhosts K) (ended : RunEnd) (old new : K) (lsn : ℕ) (accounts : Accounts)
    → accounts ≡ ended.closed.accounts → NothingStopped ended
    → Appends (h.held_bytes old) (h.held_bytes new) (rows_text lsn accounts.rows) → lsn ≡ ended.closed.tail
    → Concludes h ended (closed_text ended) old new Fine
concludes-fine h ended old new lsn accounts accounts_are none written end_is = (none, rw (end_is, accounts_are) at written)

pub concludes-write : {K : Type 0} (h : SinkGhosts K) (ended : RunEnd) (old new : K) (lsn : ℕ) (accounts : Accounts)
    → accounts ≡ ended.closed.accounts → NothingStopped ended
    → AppendsPart (h.held_bytes old) (h.held_bytes new) (rows_text lsn accounts.rows) → lsn ≡ ended.closed.tail
    → Concludes h ended (closed_text ended) old new Write
concludes-write h ended old new lsn accounts accounts_are none written end_is = inr (none, rw (end_is, accounts_are) at written)
