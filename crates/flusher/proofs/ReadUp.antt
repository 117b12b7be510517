-- What a flush read of the ring, up to exposed as it loaded that, and what is then known of the seat.
use Rattle.std.proofs.Common.{Bool, false, ◌≡◌, ◌≤◌, ◌<◌, ◌∙◌, sym, ap, subst, ℕ, List, length, arith}
use Rattle.std.proofs.Math.Dec.{eqb}
use Rattle.std.proofs.lemmas.Bool.{eqb-false}
use Rattle.log_disk.specs.declared.disk.LogDisk.{Ghosts}
use Rattle.log_record.specs.declared.rec.Rec.{Rec}
use Rattle.log_record.specs.LogList.{AreUnitsOf}
use Rattle.log_rule.specs.declared.start.Start.{Start}
use Rattle.log_rule.specs.declared.view.Role.TheVariants.{Flusher as FlusherRole}
use Rattle.log_rule.specs.Sends.{IsExposedToFlusher}
use Rattle.log_rule.specs.Views.{saw_crew, saw_exposed, has_sent, read_to}
use Rattle.log_table.specs.declared.table.Seat.{Seat}
use Rattle.log_table.specs.Seats.{Becomes, view_of}
use Rattle.log_table.proofs.Stepping.{Becomes-trans}
use Rattle.segment_file.specs.PackedBatch.{BatchState}
use Rattle.flusher.specs.declared.flusher.Flusher.{Flusher}
use Rattle.flusher.specs.Flushing.{MayFlush}
use Rattle.flusher.specs.Gathering.{Gathers}
use Rattle.flusher.specs.SentUnits.{read_units, gathered, flushed, asked}
use Rattle.flusher.proofs.Flushes.{Reads-gathered, gathered-read_to_exposed}

-- these units were read, which spell records: those from durable up to exposed; the seat and the batch are as they are then
pub record HasRead {D : Type 0} {g : Ghosts D} (f : Flusher D g) (to : ℕ) (seat : Seat) (batch units : List ℕ) : Type 0 where
  pub below : f.tail.next < to
  pub some : 0 < length units
  pub few : length units ≤ (view_of f.seat).constants.ring
  pub in_batch : batch ≡ units
  pub becomes : Becomes f.seat seat (gathered to units (view_of f.seat))
  pub role : (view_of seat).standing.role ≡ FlusherRole
  pub all : read_to (view_of seat) ≡ (view_of seat).sending.exposed
  pub records : List Rec
  pub spelled : AreUnitsOf units records

module _ {D : Type 0} (g : Ghosts D) (f : Flusher D g) (ready : MayFlush g f) {to : ℕ} {mid seat : Seat} {test : Bool} {key : Start}
    {before after : BatchState} (loaded : Becomes f.seat mid (saw_exposed to (view_of f.seat)))
    (exposed : IsExposedToFlusher (view_of f.seat) to) (compared : test ≡ eqb to f.tail.next) (other : test ≡ false)
    (gathers : Gathers key f.tail.next to mid seat before after) where
  beyond : f.tail.next < to
  beyond = omega (arith, (exposed ready.flusher).read, ready.next, eqb-false _ _ (sym compared ∙ other))

  read-seat : Becomes f.seat seat (gathered to gathers.units (view_of f.seat))
  read-seat = Becomes-trans _ _ _ _ (read_units gathers.units) loaded gathers.seat

  pub HasRead-gathered : HasRead f to seat after.units gathers.units
  HasRead-gathered =
      let is = ap (λ m. m.0) read-seat.me in
      let reads = Reads-gathered (view_of f.seat) _ _ _ _ is ready.unread ready.next gathers.whole (gathers.entries beyond) in
      record {
        below = beyond;
        some = omega (arith, gathers.whole, beyond);
        few = omega (arith, (exposed ready.flusher).room, gathers.whole, ready.next);
        in_batch = ap (λ batch. batch.units) gathers.batch;
        becomes = read-seat;
        role = ap (λ m. m.0.standing.role) read-seat.me ∙ ready.flusher;
        all = gathered-read_to_exposed (view_of f.seat) _ _ _ _ is ready.unread ready.next gathers.whole;
        records = reads.records;
        spelled = reads.spelled;
      }

-- and then durable was raised to their end
pub Becomes-sent : {D : Type 0} {g : Ghosts D} (f : Flusher D g) (to : ℕ) (seat sent : Seat) (batch units : List ℕ)
    → HasRead f to seat batch units → Becomes seat sent (has_sent to (view_of seat))
    → Becomes f.seat sent (flushed to units (view_of f.seat))
Becomes-sent f to seat sent batch units read stored = Becomes-trans _ _ _ _ (has_sent to) read.becomes stored

-- crew held 0, and then exposed was loaded
pub Becomes-asked : (old mid new : Seat) (active exposed : ℕ) → active ≡ 0 → Becomes old mid (saw_crew active (view_of old))
    → Becomes mid new (saw_exposed exposed (view_of mid)) → Becomes old new (asked exposed (view_of old))
Becomes-asked old mid new active exposed none first second =
    Becomes-trans _ _ _ _ (saw_exposed exposed) (subst (λ n. Becomes old mid (saw_crew n (view_of old))) none first) second
