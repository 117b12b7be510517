-- What a flush, or a step of the seat alone, does to a flusher, in the words of what turns leave.
use Rattle.std.proofs.Common.{◌≡◌, ◌≤◌, ◌+◌, ◌*◌, ◌∙◌, sym, ap, refl, subst, inl, inr, ℕ, List, [], ◌++◌, length, append-nil, arith}
use Rattle.log_disk.proofs.Counting.{Costs-none}
use Rattle.log_disk.proofs.Lengths.{GrowsAtMostTo-weaken, GrowsAtMostTo-same}
use Rattle.log_disk.specs.Costs.{Costs}
use Rattle.log_disk.specs.Disk.{Leaves}
use Rattle.log_disk.specs.Lengths.{GrowsAtMostTo}
use Rattle.log_disk.specs.declared.disk.LogDisk.{Ghosts}
use Rattle.log_disk.proofs.Moments.{Leaves-refl, Leaves-weaken}
use Rattle.log_record.specs.declared.rec.Rec.{Rec}
use Rattle.log_record.specs.LogList.{units_of, end_of}
use Rattle.log_rule.specs.declared.view.View.{View}
use Rattle.log_table.specs.Seats.{view_of}
use Rattle.log_rule.specs.Views.{has_stopped}
use Rattle.segment_file.specs.Log.{Log, with_units, HoldsLog}
use Rattle.segment_file.specs.Lengths.{most_end}
use Rattle.segment_file.specs.StandingLog.{LogStands, HoldsLogOrMore}
use Rattle.segment_file.specs.declared.scan_result.Tail.{Tail}
use Rattle.flusher.specs.declared.flusher.Flusher.{Flusher}
use Rattle.flusher.specs.Flushing.{ChangesSeat, MayFlush, Sends, Loses, sent_of}
use Rattle.flusher.specs.SentUnits.{gathered, flushed}
use Rattle.segment_file.proofs.LogLemmas.{with_units-nil}
use Rattle.flusher.specs.KeptLog.{HoldsFront}
use Rattle.daemon_turn.specs.OneTurn.{Stops}

-- these records were sent, those cut are in flight, at most so many calls were made, and the file grew by at most 13 bytes for each unit
-- sent and one batch in flight: what of this the disk shows
pub record Wrote {D : Type 0} (g : Ghosts D) (more cut : List Rec) (most : ℕ) (old : Flusher D g) (end : Tail) (disk : D) : Type 0 where
  pub moments : g.honest old.disk.now → (log : Log) → LogStands old.tail log (g.images old.disk.now)
      → Leaves g.moment g.images_since (HoldsFront log (more ++ cut)) old.disk.now disk
  pub stands : cut ≡ [] → g.honest old.disk.now → (log : Log) → LogStands old.tail log (g.images old.disk.now)
      → LogStands end (with_units log (units_of more)) (g.images disk)
  pub count : g.honest old.disk.now → Costs g most most old.disk.now disk
  pub tail : end.at ≤ old.tail.at + 13 * end_of more
  pub grows : g.honest old.disk.now
      → GrowsAtMostTo g (most_end old.tail.at (end_of more) (view_of old.seat).constants.ring) old.disk.now disk

-- and what of it the seat knows
pub record Flew {D : Type 0} (g : Ghosts D) (more cut : List Rec) (most : ℕ) (old new : Flusher D g) : Type 0 where
  pub constants : (view_of new.seat).constants ≡ (view_of old.seat).constants
  pub sent : sent_of new ≡ sent_of old ++ units_of more
  pub read : (view_of new.seat).sending.read ≡ units_of cut
  pub wrote : Wrote g more cut most old new.tail new.disk.now

-- nothing was written
pub Wrote-none : {D : Type 0} (g : Ghosts D) (f : Flusher D g) → Wrote g [] [] 0 f f.tail f.disk.now
Wrote-none g f = record {
  moments = λ honest log stood. Leaves-refl g.moment g.images_since (HoldsFront log []) f.disk.now;
  stands = λ none honest log stood. subst (λ l. LogStands f.tail l (g.images f.disk.now)) (sym (with_units-nil log)) stood;
  count = λ honest. Costs-none g f.disk.now;
  tail = omega arith;
  grows = λ honest. GrowsAtMostTo-same g _ f.disk.now f.disk.now refl;
}

-- a step of the seat alone writes nothing
pub Wrote-changes_seat : {D : Type 0} (g : Ghosts D) (more cut : List Rec) (most : ℕ) (old mid new : Flusher D g) → ChangesSeat mid new
    → Wrote g more cut most old mid.tail mid.disk.now → Wrote g more cut most old new.tail new.disk.now
Wrote-changes_seat g more cut most old mid new alone wrote =
    subst (λ (f : Flusher _ _). Wrote g more cut most old f.tail f.disk.now) (sym alone.1) wrote

pub Flew-changes_seat : {D : Type 0} (g : Ghosts D) (old new : Flusher D g) → ChangesSeat old new
    → (view_of new.seat).constants ≡ (view_of old.seat).constants
    → sent_of new ≡ sent_of old → (view_of new.seat).sending.read ≡ [] → Flew g [] [] 0 old new
Flew-changes_seat g old new alone constants sent read = record {
  constants = constants;
  sent = sent ∙ sym (append-nil (sent_of old));
  read = read;
  wrote = Wrote-changes_seat g [] [] 0 old old new alone (Wrote-none g old);
}

-- the list before is a front of the records, and so is it with all of them
HoldsFront-before : (before : Log) (records : List Rec) (bytes : List ℕ) → HoldsLog bytes before → HoldsFront before records bytes
HoldsFront-before before records bytes held =
    record { front = []; rest = records; whole = refl; holds = subst (HoldsLog bytes) (sym (with_units-nil before)) held }

HoldsFront-either : (before : Log) (units : List ℕ) (records : List Rec) (bytes : List ℕ) → units ≡ units_of records
    → HoldsLogOrMore before units bytes → HoldsFront before records bytes
HoldsFront-either before units records bytes same (inl held) = HoldsFront-before before records bytes held
HoldsFront-either before units records bytes same (inr held) = record {
  front = records;
  rest = [];
  whole = sym (append-nil records);
  holds = subst (λ us. HoldsLog bytes (with_units before us)) same held;
}

-- a flush sent these units, which spell the records
module _ {D : Type 0} (g : Ghosts D) (old new : Flusher D g) (from to : ℕ) (ready : MayFlush g old) (sends : Sends g old new from to) where
  front-sent : (log : Log) (bytes : List ℕ) → HoldsLogOrMore log sends.units bytes → HoldsFront log (sends.records ++ []) bytes
  front-sent log bytes either = subst (λ rs. HoldsFront log rs bytes) (sym (append-nil sends.records))
      (HoldsFront-either log sends.units sends.records bytes sends.spelled.units_are either)

  Wrote-sends : Wrote g sends.records [] 4 old new.tail new.disk.now
  Wrote-sends = record {
    moments = λ honest log stood.
        Leaves-weaken g.moment g.images_since _ _ old.disk.now new.disk.now (front-sent log) (sends.writes.moments honest log stood);
    stands = λ none honest log stood.
        subst (λ us. LogStands new.tail (with_units log us) (g.images new.disk.now)) sends.spelled.units_are
        (sends.stands honest log stood);
    count = sends.writes.count;
    tail = omega (arith, ap (λ (tail : Tail). tail.at) sends.tail, sends.some, sends.whole, ap length sends.spelled.units_are);
    grows = λ honest. GrowsAtMostTo-weaken g (old.tail.at + 6 + 8 * length sends.units) _ old.disk.now new.disk.now
        (omega (arith, sends.some, sends.whole, ap length sends.spelled.units_are)) (sends.writes.grows honest);
  }

  pub Flew-sends : Flew g sends.records [] 4 old new
  Flew-sends =
      let is : view_of new.seat ≡ flushed to sends.units (view_of old.seat) = ap (λ m. m.0) sends.seat.me in
      record {
        constants = ap (λ (v : View). v.constants) is;
        sent = ap (λ (v : View). v.sending.sent) is ∙ ap (λ us. sent_of old ++ (us ++ sends.units)) ready.unread
            ∙ ap (λ us. sent_of old ++ us) sends.spelled.units_are;
        read = ap (λ (v : View). v.sending.read) is;
        wrote = Wrote-sends;
      }

-- or it lost them
module _ {D : Type 0} (g : Ghosts D) (old new : Flusher D g) (ready : MayFlush g old) (loses : Loses g old new) where
  Wrote-loses : Wrote g [] loses.records 4 old new.tail new.disk.now
  Wrote-loses = record {
    moments = λ honest log stood. Leaves-weaken g.moment g.images_since _ _ old.disk.now new.disk.now
        (λ c either. HoldsFront-either log loses.units loses.records c loses.spelled.units_are either)
        (loses.writes.moments honest log stood);
    stands = λ none. absurd (omega (arith, loses.some, ap length loses.spelled.units_are, ap (λ rs. length (units_of rs)) none));
    count = loses.writes.count;
    tail = omega (arith, ap (λ (tail : Tail). tail.at) loses.tail);
    grows = λ honest. GrowsAtMostTo-weaken g (old.tail.at + 6 + 8 * length loses.units) _ old.disk.now new.disk.now
        (omega (arith, loses.few)) (loses.writes.grows honest);
  }

  pub Flew-loses : Flew g [] loses.records 4 old new
  Flew-loses =
      let is : view_of new.seat ≡ gathered loses.to loses.units (view_of old.seat) = ap (λ m. m.0) loses.seat.me in
      record {
        constants = ap (λ (v : View). v.constants) is;
        sent = ap (λ (v : View). v.sending.sent) is ∙ sym (append-nil (sent_of old));
        read = ap (λ (v : View). v.sending.read) is ∙ ap (λ us. us ++ loses.units) ready.unread ∙ loses.spelled.units_are;
        wrote = Wrote-loses;
      }

-- and then the stop word was stored
pub Flew-stop : {D : Type 0} (g : Ghosts D) (more cut : List Rec) (most word : ℕ) (old mid new : Flusher D g) → Flew g more cut most old mid
    → Stops word mid new → Flew g more cut most old new
Flew-stop g more cut most word old mid new flew stops =
    let is : view_of new.seat ≡ has_stopped word (view_of mid.seat) = ap (λ m. m.0) stops.seat.me in
    record {
      constants = ap (λ (v : View). v.constants) is ∙ flew.constants;
      sent = ap (λ (v : View). v.sending.sent) is ∙ flew.sent;
      read = ap (λ (v : View). v.sending.read) is ∙ flew.read;
      wrote = Wrote-changes_seat g more cut most old mid new stops.rest flew.wrote;
    }
