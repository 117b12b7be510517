-- What was written since a daemon was made. `first` is the sink as it was then, and `sink` as it is now; `begun` is the view that the
-- daemon's seat had then, and `now` the one that it has now.
use Rattle.std.specs.Prelude.{◌≡◌, List, ◌++◌}
use Rattle.std.specs.List.{AllByRecursion}
use Rattle.std.specs.Io.KnownBytes.{Appends}
use Rattle.log_disk.specs.declared.sink.Sink.{Ghosts as SinkGhosts}
use Rattle.log_disk.specs.Streams.{AppendsPart, AppendsPrefix}
use Rattle.log_record.specs.declared.rec.Rec.{Rec}
use Rattle.log_record.specs.LogList.{units_of}
use Rattle.log_record.specs.Spelling.{IsSpellable}
use Rattle.log_rule.specs.declared.view.View.{View}
use Rattle.log_rule.specs.Views.{sent_to}
use Rattle.end_lines.specs.declared.voice.Voice.{Voice}
use Rattle.end_lines.specs.EndLines.{text_of}

-- these records were sent since then
pub record SentSince (begun now : View) : Type 0 where
  pub more : List Rec
  pub spellable : AllByRecursion IsSpellable more
  pub constants : now.constants ≡ begun.constants
  pub sent : now.sending.sent ≡ begun.sending.sent ++ units_of more

-- of what was sent since then, exactly what the voice writes was written
pub record HasToldAll {K : Type 0} (h : SinkGhosts K) (first sink : K) (voice : Voice) (begun now : View) : Type 0 where
  pub since : SentSince begun now
  pub told : Appends (h.held_bytes first) (h.held_bytes sink) (text_of voice (sent_to begun) since.more)

-- a prefix of these lines was written, and nothing else
pub record HasTold {K : Type 0} (h : SinkGhosts K) (first sink : K) (voice : Voice) (begun now : View) : Type 0 where
  pub since : SentSince begun now
  pub told : AppendsPrefix (h.held_bytes first) (h.held_bytes sink) (text_of voice (sent_to begun) since.more)

-- a part of these lines was written, and not all
pub record HasToldPart {K : Type 0} (h : SinkGhosts K) (first sink : K) (voice : Voice) (begun now : View) : Type 0 where
  pub since : SentSince begun now
  pub told : AppendsPart (h.held_bytes first) (h.held_bytes sink) (text_of voice (sent_to begun) since.more)
