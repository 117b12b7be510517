-- What is known of a run whose transfers were made and concluded. `g` is what a disk shows and `h` what a sink shows.
use Rattle.std.specs.Prelude.{◌≡◌, Bool, None}
use Rattle.log_disk.specs.Faults.{CountsWhere}
use Rattle.log_disk.specs.declared.disk.LogDisk.{Ghosts}
use Rattle.log_disk.specs.declared.sink.Sink.{Ghosts as SinkGhosts}
use Rattle.log_recovery.specs.Opened.{OpenedList}
use Rattle.segment_file.specs.declared.scan_result.Tail.{Tail}
use Rattle.end_lines.specs.declared.voice.Voice.TheVariants.{Lines}
use Rattle.cli_shared.specs.declared.report.Detail.{Detail}
use Rattle.cli_shared.specs.declared.report.Detail.TheVariants.{Write}
use Rattle.cli_ending.specs.declared.conclusion.RunEnd.{RunEnd}
use Rattle.cli_ending.specs.Conclusion.{Concludes, closed_text}
use Rattle.cli_threads.specs.declared.transfers.Prepared.{Prepared}
use Rattle.cli_threads.specs.Ending.{HasEnded}

-- the transfers ended so, by a daemon that tells each, which left this sink, and this was concluded then
pub record HasFinished {D : Type 0} {K : Type 0} (g : Ghosts D) (h : SinkGhosts K) (prepared : Prepared) (opened : OpenedList) (tail : Tail)
    (wait : Bool) (disk disk_new : D) (sink sink_new : K) (detail : Detail) : Type 0 where
  pub ended : RunEnd
  pub told : K
  pub has : HasEnded g h prepared opened tail Lines wait disk disk_new sink told ended
  pub concludes : Concludes h ended (closed_text ended) told sink_new detail
  pub write : CountsWhere ((detail ≡ Write) × (ended.fault ≡ None)) (h.faults told) (h.faults sink_new)
