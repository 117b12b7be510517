-- What the flusher's seat knows of the units that it reads for the disk.
use Rattle.std.specs.Prelude.{◌≡◌, ℕ, ◌+◌, ◌≤◌, true, List}
use Rattle.std.specs.List.{AllByRecursion}
use Rattle.lsn_space.specs.Tiling.{IsTiling}
use Rattle.log_rule.specs.declared.view.Entry.{Entry}
use Rattle.log_rule.specs.declared.view.Role.TheVariants.{Flusher}
use Rattle.log_rule.specs.declared.view.View.{View}
use Rattle.log_rule.specs.Log.{IsFull, IsSpelled, units_in}
use Rattle.log_rule.specs.Views.{sent_to, read_to}

-- These units are whole entries, one behind another from one LSN to another, none of them empty, each filled and the spelling of its
-- record.
pub record AreEntries (from to : ℕ) (units : List ℕ) : Type 0 where
  pub entries : List Entry
  pub tiles : IsTiling (λ (entry : Entry). entry.start) (λ (entry : Entry). entry.size) from entries to
  pub some_units : AllByRecursion (λ (entry : Entry). 1 ≤ entry.size) entries
  pub full : AllByRecursion IsFull entries
  pub spelled : AllByRecursion IsSpelled entries
  pub units_are : units_in entries ≡ units

-- once all units up to exposed, as the seat loaded it last, are read, they are whole entries
abbrev pub ReadsWholeEntries : View → Type 0
ReadsWholeEntries view = read_to view ≡ view.sending.exposed → AreEntries (sent_to view) view.sending.exposed view.sending.read

-- what it has read ends at or below this LSN, and what it has to read up to there fits in the ring
pub record HasToRead (view : View) (lsn : ℕ) : Type 0 where
  pub read : read_to view ≤ lsn
  pub room : lsn ≤ sent_to view + view.constants.ring

-- what an exposed of this LSN tells the flusher's seat, and what a durable does
abbrev pub IsExposedToFlusher : View → ℕ → Type 0
IsExposedToFlusher view lsn = view.standing.role ≡ Flusher → HasToRead view lsn

abbrev pub IsDurableToFlusher : View → ℕ → Type 0
IsDurableToFlusher view lsn = view.standing.role ≡ Flusher → lsn ≡ sent_to view

-- nobody is at work any more, and all that was exposed is sent
pub record IsDrained (view : View) : Type 0 where
  pub quiet : view.sending.quiet ≡ true
  pub looked : view.sending.looked ≡ true
  pub all : view.sending.exposed ≡ sent_to view
