-- Entries that are inserted one after another, and what is left behind them.
use Rattle.std.proofs.Common.{◌≡◌, ◌||◌, ℕ, ◌+◌, ◌≤◌, false, List, [], ◌∷◌, ◌++◌, length, refl, sym, ap, ◌∙◌, subst, arith, append-nil, append_assoc}
use Rattle.std.proofs.lemmas.Bool.{or_parts}
use Rattle.log_record.specs.declared.rec.Rec.{Rec}
use Rattle.log_record.specs.declared.rec.Placed.{Placed}
use Rattle.lock_core.specs.Records.{commits}
use Rattle.lock_core.specs.Transactions.{recs_of, in_order, has_commit}
use Rattle.log_table.specs.declared.table.Seat.{Seat}
use Rattle.log_rule.specs.declared.view.Books.{Books}
use Rattle.log_rule.specs.declared.view.Entry.{Entry}
use Rattle.log_rule.specs.ClosedLog.{records_of}
use Rattle.log_table.specs.Seats.{view_of}
use Rattle.ring_buffer.specs.Calls.{HasEntries}
use Rattle.txn_jobs.specs.declared.cause.Cause.{Cause}
use Rattle.txn_jobs.specs.declared.cause.Cause.TheVariants.{Stop, LogEnd}
use Rattle.txn_making.specs.Inserts.{placed_behind, placing_all, Adds, IsLeft, StopsFor, IsCutOff}
use Rattle.txn_making.specs.Inserts.{LieInOrder}
use Rattle.ring_buffer.proofs.TwoCalls.{HasEntries-trans}

pub LieInOrder-weaken_to : (from to further : ℕ) (entries : List Entry) → to ≤ further → LieInOrder from to entries → LieInOrder from further entries
LieInOrder-weaken_to from to further [] more lie = omega arith
LieInOrder-weaken_to from to further (entry ∷ entries) more lie = (lie.0, LieInOrder-weaken_to (entry.start + entry.size) to further entries more lie.1)

pub LieInOrder-weaken_from : (sooner from to : ℕ) (entries : List Entry) → sooner ≤ from → LieInOrder from to entries → LieInOrder sooner to entries
LieInOrder-weaken_from sooner from to [] less lie = omega arith
LieInOrder-weaken_from sooner from to (entry ∷ entries) less lie = (omega (arith, lie.0), lie.1)

pub LieInOrder-append : (from mid to : ℕ) (entries more : List Entry) → LieInOrder from mid entries → LieInOrder mid to more
    → LieInOrder from to (entries ++ more)
LieInOrder-append from mid to [] more before after = LieInOrder-weaken_from from mid to more before after
LieInOrder-append from mid to (entry ∷ entries) more before after =
    (before.0, LieInOrder-append (entry.start + entry.size) mid to entries more before.1 after)

placed_behind-append : (entries more : List Entry) (placed : List Placed)
    → placed_behind (entries ++ more) placed ≡ placed_behind more (placed_behind entries placed)
placed_behind-append [] more placed = refl
placed_behind-append (entry ∷ entries) more placed = placed_behind-append entries more
    (record { end = entry.start + entry.size; rec = entry.rec } ∷ placed)

pub adds-none : (old new : Seat) → HasEntries old new (view_of old).entries (view_of old).books → Adds [] old new
adds-none old new kept = record {
  entries = subst (λ list. HasEntries old new list (view_of old).books) (sym (append-nil (view_of old).entries)) kept;
  within = kept.same.grows;
}

pub adds-trans : (entries more : List Entry) (first second third : Seat) → Adds entries first second → Adds more second third
    → Adds (entries ++ more) first third
adds-trans entries more first second third before after = record {
  entries = subst (λ (p : List Entry × Books). HasEntries first third p.0 p.1) (λ i. (list i, books i))
      (HasEntries-trans _ _ _ _ _ _ _ before.entries after.entries);
  within = LieInOrder-append _ _ _ entries more before.within after.within;
}
  where
    list : (view_of second).entries ++ more ≡ (view_of first).entries ++ (entries ++ more)
    list = ap (λ es. es ++ more) before.entries.entries_are ∙ append_assoc (view_of first).entries entries more

    books : placing_all more (view_of second).books ≡ placing_all (entries ++ more) (view_of first).books
    books = ap (placing_all more) before.entries.books_are
        ∙ (λ i. record (view_of first).books { placed = sym (placed_behind-append entries more (view_of first).books.placed) i })

-- what is placed is no more left
pub in_order-placed_behind : (entries : List Entry) (placed : List Placed) (rest : List Rec)
    → in_order (recs_of (placed_behind entries placed)) rest ≡ in_order (recs_of placed) (records_of entries ++ rest)
in_order-placed_behind [] placed rest = refl
in_order-placed_behind (entry ∷ entries) placed rest = in_order-placed_behind entries (record { end = entry.start + entry.size; rec = entry.rec } ∷ placed) rest

pub IsLeft-placing_all : (entries : List Entry) (rest : List Rec) (books books' : Books) → books' ≡ placing_all entries books
    → IsLeft (records_of entries ++ rest) books → IsLeft rest books'
IsLeft-placing_all entries rest books books' is left = subst (IsLeft rest) (sym is) (in_order-placed_behind entries books.placed rest ∙ left)

-- the records that are placed then, newest first
pub recs_of-placed_behind : (entries : List Entry) (placed : List Placed) → recs_of (placed_behind entries placed)
    ≡ in_order (records_of entries) (recs_of placed)
recs_of-placed_behind [] placed = refl
recs_of-placed_behind (entry ∷ entries) placed = recs_of-placed_behind entries (record { end = entry.start + entry.size; rec = entry.rec } ∷ placed)

pub uncommitted-placing_all : (entries : List Entry) (books books' : Books) → books' ≡ placing_all entries books
    → has_commit (records_of entries) ≡ false
    → has_commit (recs_of books.placed) ≡ false → has_commit (recs_of books'.placed) ≡ false
uncommitted-placing_all entries books books' is none before = ap (λ (b : Books). has_commit (recs_of b.placed)) is
    ∙ still entries books.placed none before
  where
    still : (entries : List Entry) (placed : List Placed) → has_commit (records_of entries) ≡ false → has_commit (recs_of placed) ≡ false
        → has_commit (recs_of (placed_behind entries placed)) ≡ false
    still [] placed none before = before
    still (entry ∷ entries) placed none before = let parts = or_parts (commits entry.rec) (has_commit (records_of entries)) none in
        still entries (record { end = entry.start + entry.size; rec = entry.rec } ∷ placed) parts.1 (λ i. parts.0 i || before i)

-- the next record was not inserted
pub StopsFor-is_cut_off : (rec : Rec) (rest : List Rec) (cause : Cause) (old new : Seat) → IsLeft (rec ∷ rest) (view_of old).books
    → has_commit (recs_of (view_of old).books.placed) ≡ false
    → (view_of new).books ≡ (view_of old).books → StopsFor cause (rec ∷ []) (view_of new) → IsCutOff (view_of new) cause
StopsFor-is_cut_off rec rest cause old new left uncommitted same stops = record {
  rest = rec ∷ rest;
  left = subst (IsLeft (rec ∷ rest)) (sym same) left;
  some = λ none. absurd (omega (arith, ap length none));
  stops = longer cause stops;
  uncommitted = ap (λ (books : Books). has_commit (recs_of books.placed)) same ∙ uncommitted;
}
  where
    longer : (cause : Cause) → StopsFor cause (rec ∷ []) (view_of new) → StopsFor cause (rec ∷ rest) (view_of new)
    longer (Stop word) stops = stops
    longer (LogEnd tail total) stops = stops
