-- It is the same flusher: where nothing was done, where its seat alone made steps, and where it was so twice.
use Rattle.std.proofs.Common.{◌≡◌, ◌↔◌, ◌∙◌, sym, ap, subst, refl, arith}
use Rattle.log_disk.specs.declared.disk.LogDisk.{Ghosts}
use Rattle.log_table.specs.declared.table.Seat.{Seat}
use Rattle.log_table.specs.Seats.{view_of}
use Rattle.flusher.specs.declared.flusher.Flusher.{Flusher}
use Rattle.flusher.specs.Flushing.{ChangesSeat, IsSame, IsSameSeat}

pub IsSameSeat-refl : (seat : Seat) → IsSameSeat seat seat
IsSameSeat-refl seat = record { table_is = refl; slots = refl; constants = refl; entries = refl; books = refl }

pub IsSameSeat-trans : (a b c : Seat) → IsSameSeat a b → IsSameSeat b c → IsSameSeat a c
IsSameSeat-trans a b c first second = record {
  table_is = second.table_is ∙ first.table_is;
  slots = second.slots ∙ first.slots;
  constants = second.constants ∙ first.constants;
  entries = second.entries ∙ first.entries;
  books = second.books ∙ first.books;
}

module _ {D : Type 0} (g : Ghosts D) where
  pub IsSame-trans : (a b c : Flusher D g) → IsSame g a b → IsSame g b c → IsSame g a c
  IsSame-trans a b c first second = record {
    table = second.table ∙ first.table;
    seat = IsSameSeat-trans a.seat b.seat c.seat first.seat second.seat;
    workers = second.workers ∙ first.workers;
    disk = second.disk ∙ first.disk;
    honest = (λ honest. second.honest.0 (first.honest.0 honest), λ honest. first.honest.1 (second.honest.1 honest));
    attached = second.attached ∙ first.attached;
    later = omega (arith, first.later, second.later);
    first = second.first ∙ first.first;
  }

  pub IsSame-changes_seat : (old new : Flusher D g) → ChangesSeat old new → IsSameSeat old.seat new.seat
      → (view_of new.seat).standing ≡ (view_of old.seat).standing → IsSame g old new
  IsSame-changes_seat old new alone seat workers = record {
    table = ap (λ (f : Flusher D g). f.table) alone.1;
    seat = seat;
    workers = workers;
    disk = ap (λ (f : Flusher D g). f.disk.ghost_name) alone.1;
    honest = subst (λ (f : Flusher D g). g.honest old.disk.now ↔ g.honest f.disk.now) (sym alone.1) (λ honest. honest, λ honest. honest);
    attached = ap (λ (f : Flusher D g). g.attached f.disk.now) alone.1;
    later = omega (arith, ap (λ (f : Flusher D g). g.moment f.disk.now) alone.1);
    first = ap (λ (f : Flusher D g). f.first.value) alone.1;
  }

  pub IsSame-refl : (f : Flusher D g) → IsSame g f f
  IsSame-refl f = IsSame-changes_seat f f (f.keeps, refl) (IsSameSeat-refl f.seat) refl
