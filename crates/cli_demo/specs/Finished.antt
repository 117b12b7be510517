-- What is known of generated transfers that were made and concluded. `g` is what a disk shows and `h` what a sink shows.
use Rattle.std.specs.Prelude.{◌≡◌, ℕ, false, None}
use Rattle.log_disk.specs.Faults.{CountsWhere}
use Rattle.log_disk.specs.declared.disk.LogDisk.{Ghosts}
use Rattle.log_disk.specs.declared.sink.Sink.{Ghosts as SinkGhosts}
use Rattle.segment_file.specs.declared.scan_result.Tail.{Tail}
use Rattle.end_lines.specs.declared.voice.Voice.TheVariants.{Count}
use Rattle.cli_shared.specs.declared.report.Detail.{Detail}
use Rattle.cli_shared.specs.declared.report.Detail.TheVariants.{Write}
use Rattle.cli_ending.specs.declared.conclusion.RunEnd.{RunEnd}
use Rattle.cli_ending.specs.Conclusion.{Concludes, counted_text}
use Rattle.cli_threads.specs.declared.transfers.Prepared.{Prepared}
use Rattle.cli_threads.specs.Ending.{HasEnded}
use Rattle.cli_demo.specs.Summary.{generated_opening}

-- the transfers ended so, none of them told, which left this sink, and this was concluded of so many then
pub record HasFinished {D : Type 0} {K : Type 0} (g : Ghosts D) (h : SinkGhosts K) (prepared : Prepared) (tail : Tail) (transfers : ℕ)
    (disk disk_new : D) (sink sink_new : K) (detail : Detail) : Type 0 where
  pub ended : RunEnd
  pub left : K
  pub has : HasEnded g h prepared generated_opening tail Count false disk disk_new sink left ended
  pub concludes : Concludes h ended (counted_text transfers ended) left sink_new detail
  pub write : CountsWhere ((detail ≡ Write) × (ended.fault ≡ None)) (h.faults left) (h.faults sink_new)
