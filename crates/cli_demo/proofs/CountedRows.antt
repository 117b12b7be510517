-- Once generated transfers have ended, there is a row for each account.
use Rattle.std.proofs.Common.{Bool, ◌≡◌, ◌≤◌, refl, length, arith}
use Rattle.log_disk.specs.declared.disk.LogDisk.{Ghosts}
use Rattle.log_disk.specs.declared.sink.Sink.{Ghosts as SinkGhosts}
use Rattle.log_recovery.specs.Opened.{base_left}
use Rattle.segment_file.specs.declared.scan_result.Tail.{Tail}
use Rattle.end_lines.specs.declared.voice.Voice.TheVariants.{Count}
use Rattle.cli_ending.specs.declared.conclusion.RunEnd.{RunEnd}
use Rattle.cli_threads.specs.declared.transfers.Prepared.{Prepared}
use Rattle.cli_threads.specs.Ending.{HasEnded}
use Rattle.cli_threads.proofs.EndingLemmas.{ended-keeps_rows}
use Rattle.cli_demo.specs.Summary.{generated_opening}

module _ {D : Type 0} {K : Type 0} (g : Ghosts D) (h : SinkGhosts K) (prepared : Prepared) {tail : Tail} {wait : Bool} (disk disk_new : D) (sink sink_new : K)
    (ended : RunEnd) (has : HasEnded g h prepared generated_opening tail Count wait disk disk_new sink sink_new ended) where
  pub ended_rows-le_4096 : length ended.closed.accounts.rows ≤ 4096
  ended_rows-le_4096 =
      let count = (ended-keeps_rows g h prepared generated_opening Count disk disk_new sink sink_new ended has).count in
      let known : (base_left generated_opening).accounts ≡ 64 = refl in
      omega (arith, count, known)
