-- What the steps of a flush come to.
use Rattle.std.proofs.Common.{◌≡◌, ◌↔◌, ◌≤◌, ◌<◌, ◌+◌, ◌*◌, ◌^◌, ◌∙◌, sym, ap, refl, subst, ℕ, List, [], ◌∷◌, ◌++◌, length, length-append, arith}
use Rattle.std.specs.List.{AllByRecursion, Contains}
use Rattle.std.proofs.lemmas.List.Elements.{Contains-append_left, Contains-append_right, Contains-push}
use Rattle.log_disk.specs.declared.disk.LogDisk.{Ghosts}
use Rattle.log_record.specs.declared.rec.Rec.{Rec}
use Rattle.log_table.specs.declared.table.LogTable.{LogTable}
use Rattle.log_table.specs.declared.table.Seat.{Seat}
use Rattle.log_rule.specs.declared.view.Entry.{Entry}
use Rattle.log_rule.specs.ClosedLog.{records_of}
use Rattle.log_rule.specs.Log.{IsSpelled, units_in}
use Rattle.log_rule.specs.declared.view.View.{View}
use Rattle.log_table.specs.Seats.{Becomes, IsOf, view_of}
use Rattle.segment_file.specs.Log.{Log, with_units}
use Rattle.segment_file.specs.StandingLog.{LogStands, tail_after}
use Rattle.segment_file.specs.declared.scan_result.Tail.{Tail}
use Rattle.flusher.specs.declared.flusher.Flusher.{Flusher}
use Rattle.log_rule.specs.Sends.{AreEntries, ReadsWholeEntries}
use Rattle.log_rule.specs.Views.{sent_to, read_to}
use Rattle.log_record.specs.LogList.{AreUnitsOf}
use Rattle.flusher.specs.SentUnits.{gathered, flushed}
use Rattle.flusher.specs.KeptLog.{KeepsLog, sent_by, read_by}
use Rattle.flusher.specs.Flushing.{MayFlush, IsSame, IsSameSeat, WritesWhole, sent_of, lsns_of}

-- steps that leave entries and books as they were leave the same seat
pub IsSameSeat-becomes : (old new : Seat) (view : View) → Becomes old new view → view.constants ≡ (view_of old).constants
    → view.entries ≡ (view_of old).entries → view.books ≡ (view_of old).books → IsSameSeat old new
IsSameSeat-becomes old new view becomes constants entries books = record {
  table_is = becomes.table_is;
  slots = ap (λ m. m.1) becomes.me;
  constants = ap (λ m. m.0.constants) becomes.me ∙ constants;
  entries = ap (λ m. m.0.entries) becomes.me ∙ entries;
  books = ap (λ m. m.0.books) becomes.me ∙ books;
}

-- the seat made such steps, and then or before the disk was written: it is the same flusher
module _ {D : Type 0} (g : Ghosts D) (old new : Flusher D g) (view : View) (becomes : Becomes old.seat new.seat view)
    (constants : view.constants ≡ (view_of old.seat).constants) (entries : view.entries ≡ (view_of old.seat).entries)
    (books : view.books ≡ (view_of old.seat).books) (standing : view.standing ≡ (view_of old.seat).standing) where
  pub IsSame-same_parts : new.table ≡ old.table → new.disk.ghost_name ≡ old.disk.ghost_name → new.first.value ≡ old.first.value
      → g.honest old.disk.now ↔ g.honest new.disk.now → g.attached new.disk.now ≡ g.attached old.disk.now
      → g.moment old.disk.now ≤ g.moment new.disk.now → IsSame g old new
  IsSame-same_parts table disk first honest attached later = record {
    table = table;
    seat = IsSameSeat-becomes old.seat new.seat view becomes constants entries books;
    workers = ap (λ m. m.0.standing) becomes.me ∙ standing;
    disk = disk;
    honest = honest;
    attached = attached;
    later = later;
    first = first;
  }

-- what an append says of the batch, said of the units that it was gathered from
pub WritesWhole-same_batch : {D : Type 0} (g : Ghosts D) (old new : Flusher D g) (batch units : List ℕ) → batch ≡ units
    → WritesWhole g batch old new → WritesWhole g units old new
WritesWhole-same_batch g old new batch units same writes = subst (λ us. WritesWhole g us old new) same writes

pub LogStands-same_batch : {D : Type 0} (g : Ghosts D) (old : Flusher D g) (tail : Tail) (disk : D) (batch units : List ℕ) → batch ≡ units
    → ((log : Log) → LogStands old.tail log (g.images old.disk.now) → LogStands tail (with_units log batch) (g.images disk))
    → (log : Log) → LogStands old.tail log (g.images old.disk.now) → LogStands tail (with_units log units) (g.images disk)
LogStands-same_batch g old tail disk batch units same appended log stand =
    subst (λ us. LogStands tail (with_units log us) (g.images disk)) same (appended log stand)

-- entries whose units are the spellings of their records spell those
spelled-records : (entries : List Entry) → AllByRecursion IsSpelled entries → AreUnitsOf (units_in entries) (records_of entries)
spelled-records [] spelled = record { spellable = tt; units_are = refl }
spelled-records (entry ∷ entries) spelled =
    let rest = spelled-records entries spelled.1 in record {
      spellable = (spelled.0.spellable, rest.spellable);
      units_are = (λ i. spelled.0.units i ++ rest.units_are i);
    }

-- the records of the units read up to exposed
pub record Reads (units : List ℕ) : Type 0 where
  pub records : List Rec
  pub spelled : AreUnitsOf units records

-- all units up to exposed were read
pub gathered-read_to_exposed : (view now : View) (from to : ℕ) (units : List ℕ) → now ≡ gathered to units view → view.sending.read ≡ []
    → from ≡ sent_to view → to ≡ from + length units → read_to now ≡ now.sending.exposed
gathered-read_to_exposed view now from to units is unread start whole =
    let read : view.sending.read ++ units ≡ units = ap (λ us. us ++ units) unread in
    let all : read_to (gathered to units view) ≡ to = omega (arith, start, whole, ap length read) in
    subst (λ (v : View). read_to v ≡ v.sending.exposed) (sym is) all

-- so they spell records
pub Reads-gathered : (view now : View) (from to : ℕ) (units : List ℕ) → now ≡ gathered to units view → view.sending.read ≡ []
    → from ≡ sent_to view → to ≡ from + length units → ReadsWholeEntries now → Reads units
Reads-gathered view now from to units is unread start whole entries =
    let read : view.sending.read ++ units ≡ units = ap (λ us. us ++ units) unread in
    let all : read_to (gathered to units view) ≡ to =
    subst (λ (v : View). read_to v ≡ v.sending.exposed) is (gathered-read_to_exposed view now from to units is unread start whole) in
    let found : AreEntries (sent_to view) to (view.sending.read ++ units) = subst ReadsWholeEntries is entries all in
    record {
      records = records_of found.entries;
      spelled = subst (λ us. AreUnitsOf us (records_of found.entries)) (found.units_are ∙ read)
          (spelled-records found.entries found.spelled);
    }

-- steps that leave the constants as they were leave a seat of its table
pub IsOf-becomes : (table : LogTable) (old new : Seat) (view : View) → Becomes old new view → view.constants ≡ (view_of old).constants
    → IsOf table old → IsOf table new
IsOf-becomes table old new view becomes constants is = record {
  table_is = becomes.table_is ∙ is.table_is;
  no_slots = ap (λ m. m.1) becomes.me ∙ is.no_slots;
  ring = ap (λ m. m.0.constants.ring) becomes.me ∙ ap (λ k. k.ring) constants ∙ is.ring;
  slots = ap (λ m. m.0.constants.slots) becomes.me ∙ ap (λ k. k.slots) constants ∙ is.slots;
}

-- a step of the seat alone, which leaves what was sent and read as it was
module _ {D : Type 0} (g : Ghosts D) (f : Flusher D g) (ready : MayFlush g f) (seat : Seat) (view : View)
    (becomes : Becomes f.seat seat view) (constants : view.constants ≡ (view_of f.seat).constants)
    (standing : view.standing ≡ (view_of f.seat).standing)
    (sent : view.sending.sent ≡ sent_of f) (read : view.sending.read ≡ (view_of f.seat).sending.read)
    (seen : (x : ℕ) → Contains (lsns_of f) x → Contains view.seen.lsns x) where
  step-view : view_of seat ≡ view
  step-view = ap (λ m. m.0) becomes.me

  step-durable : sent_to (view_of seat) ≡ sent_to (view_of f.seat)
  step-durable = ap sent_to step-view ∙ (λ i. (constants i).start + length (sent i))

  step-seen : Contains (view_of seat).seen.lsns (sent_to (view_of seat))
  step-seen = subst (Contains (view_of seat).seen.lsns) (sym step-durable)
      (subst (λ v. Contains v.seen.lsns (sent_to (view_of f.seat))) (sym step-view) (seen (sent_to (view_of f.seat)) ready.seen))

  -- leaves the flusher ready
  pub MayFlush-step : (keeps : g.honest f.disk.now → ∥ KeepsLog g f.first.value f.disk.now f.tail (sent_by seat) (read_by seat) ∥₁)
      → MayFlush g (record f { seat = seat; keeps = keeps })
  MayFlush-step keeps = record {
    seat = IsOf-becomes f.table.now f.seat seat view becomes constants ready.seat;
    flusher = ap (λ v. v.standing.role) step-view ∙ ap (λ s. s.role) standing ∙ ready.flusher;
    unread = ap (λ v. v.sending.read) step-view ∙ read ∙ ready.unread;
    seen = step-seen;
    next = ready.next ∙ sym step-durable;
    place = ready.place;
    shut = ready.shut;
    room = ready.room;
  }

-- an LSN is among those seen, and stays there
pub seen-newer : (newer : ℕ) (lsns : List ℕ) (x : ℕ) → Contains lsns x → Contains (newer ∷ lsns) x
seen-newer newer lsns x seen = Contains-append_right (newer ∷ []) lsns x seen

pub seen-newest : (newer : ℕ) (lsns : List ℕ) → Contains (newer ∷ lsns) newer
seen-newest newer lsns = Contains-append_left (newer ∷ []) lsns newer (Contains-push [] newer)

-- durable, once it is stored
pub sent_to-flushed : (view now : View) (from to : ℕ) (units : List ℕ) → now ≡ flushed to units view → view.sending.read ≡ []
    → from ≡ sent_to view → to ≡ from + length units → sent_to now ≡ to
sent_to-flushed view now from to units is unread start whole =
    let read : view.sending.read ++ units ≡ units = ap (λ us. us ++ units) unread in
    let at : sent_to (flushed to units view) ≡ to =
    omega (arith, length-append view.sending.sent (view.sending.read ++ units), ap length read, start, whole) in
    ap sent_to is ∙ at

pub seen-flushed : (view now : View) (to : ℕ) (units : List ℕ) → now ≡ flushed to units view → sent_to now ≡ to
    → Contains now.seen.lsns (sent_to now)
seen-flushed view now to units is at =
    subst (Contains now.seen.lsns) (sym at)
    (subst (λ v. Contains v.seen.lsns to) (sym is) (seen-newest to (gathered to units view).seen.lsns))

-- where an append of these units goes on
pub tail-appended : (old new : Tail) (batch units : List ℕ) → batch ≡ units → new.at ≡ old.at + 5 + 8 * length batch
    → new.next ≡ old.next + length batch → new ≡ tail_after old units
tail-appended old new batch units same at next i = record {
  at = (at ∙ sum old.at (length batch) ∙ ap (λ us. old.at + (5 + 8 * length us)) same) i;
  next = (next ∙ ap (λ us. old.next + length us) same) i;
}
  where
    sum : (n m : ℕ) → n + 5 + 8 * m ≡ n + (5 + 8 * m)
    sum n m = omega arith

pub tail-place_bounded : (old new : Tail) (batch : List ℕ) → new.at ≡ old.at + 5 + 8 * length batch → new.next ≡ old.next + length batch
    → 0 < length batch → old.at ≤ 2 ^ 63 + 16 * old.next → new.at ≤ 2 ^ 63 + 16 * new.next
tail-place_bounded old new batch at next some place = omega (arith, at, next, some, place)
