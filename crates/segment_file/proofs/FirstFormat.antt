-- Logs with nothing before their list are the files of the first format.
use Rattle.std.proofs.Common.{◌≡◌, ◌∙◌, ap, refl, ℕ, List, [], ◌∷◌, ◌++◌, length, arith, length-append}
use Rattle.std.specs.List.{flat_map}
use Rattle.segment_file.specs.declared.layout.TheConstants.{OPEN}
use Rattle.segment_file.specs.declared.scan_result.Tail.{Tail}
use Rattle.segment_file.specs.File.{magic, batch, gated, written, joined, BeginsOpen, IsFile, HoldsUnits}
use Rattle.segment_file.specs.Log.{whole_log, IsFront, first_format, second_format, ReadsTo, HoldsLog}
use Rattle.segment_file.specs.StandingLog.{StandsAt, AllStand, LogStandsAt, LogStands}

-- a file of the first format is read up to its last gate
file-reads : (bytes units : List ℕ) (batches : List (List ℕ)) (rest : List ℕ) → IsFile bytes batches rest → units ≡ joined batches
    → ReadsTo bytes (whole_log units) rest
file-reads bytes units [] rest file is = let some = file.some in absurd (omega arith)
file-reads bytes units (b ∷ bs) rest file is = record {
  front = OPEN ∷ magic ++ batch b;
  first = b;
  begins = first_format refl file.each.0 refl;
  batches = bs;
  each = file.each.1;
  units = is;
  total = omega (arith, file.total, ap length is);
  whole = file.whole;
}

pub HoldsUnits-HoldsLog : (bytes units : List ℕ) → HoldsUnits bytes units → HoldsLog bytes (whole_log units)
HoldsUnits-HoldsLog bytes units held = record { rest = held.1; reads = file-reads bytes units held.0 held.1 held.2 held.3; closed = held.2.closed }

-- and back
record FileOf (bytes units rest : List ℕ) : Type 0 where
  pub batches : List (List ℕ)
  pub file : IsFile bytes batches rest
  pub units_are : units ≡ joined batches

reads-file : (bytes units rest : List ℕ) (reads : ReadsTo bytes (whole_log units) rest) → IsFront reads.front (whole_log units).opening reads.first
    → (BeginsOpen rest → ⊥) → FileOf bytes units rest
reads-file bytes units rest reads (second_format held none is) closed = let some = held.some in absurd (omega arith)
reads-file bytes units rest reads (first_format nothing counted is) closed = record {
  batches = reads.first ∷ reads.batches;
  file = record {
    some = omega arith;
    each = (counted, reads.each);
    whole = reads.whole ∙ ap (λ list. list ++ flat_map gated reads.batches ++ rest) is;
    closed = closed;
    total = omega (arith, reads.total, ap length reads.units);
  };
  units_are = reads.units;
}

log-file : (bytes units : List ℕ) (held : HoldsLog bytes (whole_log units)) → FileOf bytes units held.rest
log-file bytes units held = reads-file bytes units held.rest held.reads held.reads.begins held.closed

pub HoldsLog-HoldsUnits : (bytes units : List ℕ) → HoldsLog bytes (whole_log units) → HoldsUnits bytes units
HoldsLog-HoldsUnits bytes units held = let of = log-file bytes units held in (of.batches, held.rest, of.file, of.units_are)

-- at a tail
pub StandsAt-LogStandsAt : (tail : Tail) (units bytes : List ℕ) → StandsAt tail units bytes → LogStandsAt tail (whole_log units) bytes
StandsAt-LogStandsAt tail units bytes stands = record {
  held = record { rest = stands.rest; reads = file-reads bytes units stands.batches stands.rest stands.file stands.units_are; closed = stands.file.closed };
  place = omega (arith, stands.place, ap length stands.file.whole, length-append (written stands.batches) stands.rest);
  next = omega (arith, stands.next);
}

pub AllStand-LogStands : (tail : Tail) (units : List ℕ) (images : List ℕ → Type 0) → AllStand tail units images → LogStands tail (whole_log units) images
AllStand-LogStands tail units images stand c left = StandsAt-LogStandsAt tail units c (stand c left)
