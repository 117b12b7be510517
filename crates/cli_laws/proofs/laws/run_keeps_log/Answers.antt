use Rattle.cli_threads.proofs.RunLemmas.{transferred-keeps_log, transferred-drained, transferred-runs_whole, transferred-stops_at_log_end}
use Rattle.cli_threads.proofs.RunLemmas.{transferred-no_stop_cut, transferred-has_reason, transferred-same_daemon}
use Rattle.cli_laws.proofs.laws.run_keeps_log.Goals as goal

pub returns : goal.returns
returns g c = λ opened jobs front shares key old new view lsn rows known. record {
  keeps = transferred-keeps_log g.D.LogDisk g.K.Sink opened jobs front shares key old new view lsn rows known;
  drained = transferred-drained g.D.LogDisk g.K.Sink opened jobs front shares key old new view lsn rows known;
  whole = transferred-runs_whole g.D.LogDisk g.K.Sink opened jobs front shares key old new view lsn rows known;
  log_end = transferred-stops_at_log_end g.D.LogDisk g.K.Sink opened jobs front shares key old new view lsn rows known;
  stop = transferred-no_stop_cut g.D.LogDisk g.K.Sink opened jobs front shares key old new view lsn rows known;
  reason = transferred-has_reason g.D.LogDisk g.K.Sink opened jobs front shares key old new view lsn rows known;
  same = transferred-same_daemon g.D.LogDisk g.K.Sink opened jobs front shares key old new view lsn rows known;
}
