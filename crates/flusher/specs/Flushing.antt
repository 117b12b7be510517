-- What a flush asks for, and what it leaves. `g` is what a disk shows; `old` and `new` are the flusher before and after.
use Rattle.std.specs.Prelude.{◌≡◌, ◌↔◌, ℕ, ◌+◌, ◌*◌, ◌^◌, ◌<◌, ◌≤◌, List, [], ◌++◌, length, Contains, Result, IfOk, OnOk, OnErr}
use Rattle.log_disk.specs.Costs.{Costs}
use Rattle.log_disk.specs.Disk.{IsOnlyImage, Leaves}
use Rattle.log_disk.specs.Faults.{HasCause}
use Rattle.log_disk.specs.Lengths.{GrowsAtMostTo}
use Rattle.log_disk.specs.declared.disk.LogDisk.{Ghosts}
use Rattle.log_record.specs.declared.rec.Rec.{Rec}
use Rattle.log_table.specs.declared.table.Seat.{Seat}
use Rattle.log_rule.specs.declared.view.Role.TheVariants.{Flusher as FlusherRole}
use Rattle.log_table.specs.Seats.{IsOf, Becomes, key_of, number_of, view_of}
use Rattle.log_rule.specs.Moments.{HoldsAtOnce, SpellLawfully}
use Rattle.log_rule.specs.Sends.{IsDrained}
use Rattle.log_rule.specs.Sound.{base_of}
use Rattle.log_rule.specs.Views.{saw_exposed, saw_crew, sent_to}
use Rattle.segment_file.specs.Log.{Log, with_units}
use Rattle.segment_file.specs.StandingLog.{tail_after, LogStands, IsShut, HoldsLogOrMore}
use Rattle.segment_file.specs.declared.gated_write.DiskFault.{DiskFault}
use Rattle.flusher.specs.declared.flusher.Flusher.{Flusher}
use Rattle.flusher.specs.declared.flusher.Flushed.{Flushed}
use Rattle.flusher.specs.declared.flusher.Flushed.TheVariants.{Nothing, To}
use Rattle.flusher.specs.declared.flusher.Drained.{Drained}
use Rattle.flusher.specs.declared.flusher.Drained.TheVariants.{At, Active, Behind}
use Rattle.log_record.specs.LogList.{AreUnitsOf}
use Rattle.flusher.specs.SentUnits.{gathered, flushed, asked}

-- what the flusher's seat sent, and the LSNs that it saw
abbrev pub sent_of : {D : Type 0} → {g : Ghosts D} → Flusher D g → List ℕ
sent_of f = (view_of f.seat).sending.sent

abbrev pub lsns_of : {D : Type 0} → {g : Ghosts D} → Flusher D g → List ℕ
lsns_of f = (view_of f.seat).seen.lsns

-- a flush may be made: the seat is the table's first and saw durable, its last flush did not fail, the log goes on at durable
-- behind a gate that stays shut, and the batch has room for the ring
pub record MayFlush {D : Type 0} (g : Ghosts D) (f : Flusher D g) : Type 0 where
  pub seat : IsOf f.table.now f.seat
  pub flusher : (view_of f.seat).standing.role ≡ FlusherRole
  pub unread : (view_of f.seat).sending.read ≡ []
  pub seen : Contains (lsns_of f) (sent_to (view_of f.seat))
  pub next : f.tail.next ≡ sent_to (view_of f.seat)
  pub place : f.tail.at ≤ 2 ^ 63 + 16 * f.tail.next
  pub shut : g.honest f.disk.now → IsShut f.tail.at (g.images f.disk.now)
  pub room : f.table.now.ring ≤ f.batch.room

-- it is a seat of the same table, with the same constants, entries and books
pub record IsSameSeat (old new : Seat) : Type 0 where
  pub table_is : new.base.table_id ≡ old.base.table_id
  pub slots : new.base.me.1 ≡ old.base.me.1
  pub constants : (view_of new).constants ≡ (view_of old).constants
  pub entries : (view_of new).entries ≡ (view_of old).entries
  pub books : (view_of new).books ≡ (view_of old).books

-- it is the same table and seat, with the same workers, and the same disk with the same file, whose time went on; the snapshot of the
-- disk at the flusher's making is the same
pub record IsSame {D : Type 0} (g : Ghosts D) (old new : Flusher D g) : Type 0 where
  pub table : new.table ≡ old.table
  pub seat : IsSameSeat old.seat new.seat
  pub workers : (view_of new.seat).standing ≡ (view_of old.seat).standing
  pub disk : new.disk.ghost_name ≡ old.disk.ghost_name
  pub honest : g.honest old.disk.now ↔ g.honest new.disk.now
  pub attached : g.attached new.disk.now ≡ g.attached old.disk.now
  pub later : g.moment old.disk.now ≤ g.moment new.disk.now
  pub first : new.first.value ≡ old.first.value

-- At each moment an image holds the log that stood at the tail, or it and the whole batch. The file ends at most behind the batch and the
-- next gate, where it wasn't longer.
pub record WritesWhole {D : Type 0} (g : Ghosts D) (units : List ℕ) (old new : Flusher D g) : Type 0 where
  pub moments : g.honest old.disk.now → (log : Log) → LogStands old.tail log (g.images old.disk.now)
      → Leaves g.moment g.images_since (HoldsLogOrMore log units) old.disk.now new.disk.now
  pub count : g.honest old.disk.now → Costs g 4 4 old.disk.now new.disk.now
  pub grows : g.honest old.disk.now → GrowsAtMostTo g (old.tail.at + 6 + 8 * length units) old.disk.now new.disk.now

-- the seat may be another, and nothing else is
abbrev pub ChangesSeat : {D : Type 0} → {g : Ghosts D} → Flusher D g → Flusher D g → Type 0
ChangesSeat old new = (keeps : _) × (new ≡ record old { seat = new.seat; keeps = keeps })

-- exposed, as loaded, is durable, and nothing else was done
pub record FindsNothing {D : Type 0} {g : Ghosts D} (old new : Flusher D g) (at : ℕ) : Type 0 where
  pub durable : at ≡ sent_to (view_of old.seat)
  pub seat : Becomes old.seat new.seat (saw_exposed at (view_of old.seat))
  pub rest : ChangesSeat old new

-- The units from durable to exposed, as loaded, which spell records, are written behind the tail, and then durable is raised to their end.
-- As it is raised the rule of the table holds of some views of all seats, this seat's among them; so what was sent is lawful and partly
-- serial where no job number stands twice in these views.
pub record Sends {D : Type 0} (g : Ghosts D) (old new : Flusher D g) (from to : ℕ) : Type 0 where
  pub units : List ℕ
  pub durable : from ≡ sent_to (view_of old.seat)
  pub some : from < to
  pub whole : to ≡ from + length units
  pub records : List Rec
  pub spelled : AreUnitsOf units records
  pub seat : Becomes old.seat new.seat (flushed to units (view_of old.seat))
  pub batch : new.batch ≡ record old.batch { units = units }
  pub tail : new.tail ≡ tail_after old.tail units
  pub writes : WritesWhole g units old new
  pub stands : g.honest old.disk.now → (log : Log) → LogStands old.tail log (g.images old.disk.now)
      → LogStands new.tail (with_units log units) (g.images new.disk.now)
  pub settled : g.honest old.disk.now → IsOnlyImage (g.reads new.disk.now) (g.images new.disk.now)
  pub at_once : HoldsAtOnce (key_of old.table.now) (number_of new.seat) (view_of new.seat)
  pub lawful : SpellLawfully (base_of (key_of old.table.now)) at_once.views (sent_of new)

-- The units up to exposed, as loaded, were read, no more than the ring has, which spell records, and the disk failed to take them; durable
-- stands, and the seat keeps what it read. Once all were read the rule of the table held of some views of all seats, this seat's among
-- them; so what was sent and read is lawful and partly serial where no job number stands twice in these views.
pub record Loses {D : Type 0} (g : Ghosts D) (old new : Flusher D g) : Type 0 where
  pub to : ℕ
  pub units : List ℕ
  pub some : 0 < length units
  pub few : length units ≤ (view_of old.seat).constants.ring
  pub whole : to ≡ sent_to (view_of old.seat) + length units
  pub records : List Rec
  pub spelled : AreUnitsOf units records
  pub seat : Becomes old.seat new.seat (gathered to units (view_of old.seat))
  pub batch : new.batch ≡ record old.batch { units = units }
  pub tail : new.tail ≡ old.tail
  pub writes : WritesWhole g units old new
  pub at_once : HoldsAtOnce (key_of old.table.now) (number_of new.seat) (view_of new.seat)
  pub lawful : SpellLawfully (base_of (key_of old.table.now)) at_once.views (sent_of new ++ (view_of new.seat).sending.read)

-- a flush, by its answer
abbrev pub Flushes : {D : Type 0} → (g : Ghosts D) → Flusher D g → Flusher D g → Flushed → Type 0
Flushes g old new (Nothing at) = FindsNothing old new at
Flushes g old new (To from to) = Sends g old new from to

-- After an Ok a further flush may be made, and after an Err none. A fault is counted where the flush failed.
pub record FlushEnds {D : Type 0} (g : Ghosts D) (old new : Flusher D g) (result : Result Flushed DiskFault) : Type 0 where
  pub flushed : IfOk result (Flushes g old new)
  pub ready : OnOk result (MayFlush g new)
  pub lost : OnErr result (Loses g old new)
  pub same : IsSame g old new
  pub cause : HasCause (g.faults old.disk.now) (g.faults new.disk.now) result

-- what crew held, and where that was 0, how exposed, loaded after it, stands to durable
abbrev pub Asks : {D : Type 0} → {g : Ghosts D} → Flusher D g → Flusher D g → Drained → Type 0
Asks old new (At lsn) = (lsn ≡ sent_to (view_of old.seat)) × IsDrained (view_of new.seat)
    × Becomes old.seat new.seat (asked lsn (view_of old.seat))
Asks old new (Active n) = (0 < n) × Becomes old.seat new.seat (saw_crew n (view_of old.seat))
Asks old new (Behind exposed durable) = (durable ≡ sent_to (view_of old.seat)) × (durable < exposed)
    × Becomes old.seat new.seat (asked exposed (view_of old.seat))

-- the question is answered, nothing else was done, and a flush may be made
pub record AsksDrained {D : Type 0} (g : Ghosts D) (old new : Flusher D g) (answer : Drained) : Type 0 where
  pub asks : Asks old new answer
  pub rest : ChangesSeat old new
  pub ready : MayFlush g new
