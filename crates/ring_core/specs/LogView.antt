-- What the program's log stands for.
use Rattle.ring_core.specs.RingLog.{RingLog}
use Rattle.ring_core.specs.declared.ring_log.RingLog.TheInside.{Inside}

-- the log in the ring
abbrev pub log_in : Inside → RingLog
log_in l = record {
  start = l.start;
  ring = l.ring;
  reservations = l.ranges.items;
  tail = l.tail;
  exposed = l.exposed;
  durable = l.durable;
}
