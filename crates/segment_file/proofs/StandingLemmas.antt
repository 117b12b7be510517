-- Logs that stand at a tail, before and after a batch is added.
use Rattle.std.proofs.Common.{◌≡◌, ◌≤◌, ◌∙◌, sym, ap, refl, ℕ, ◌+◌, ◌*◌, List, [], ◌∷◌, ◌++◌, length, take, arith, append_assoc, length-append}
use Rattle.std.specs.List.{flat_map}
use Rattle.std.proofs.lemmas.List.{append-nil, take_at}
use Rattle.lsn_space.specs.declared.lsn.TheConstants.{LAST}
use Rattle.lsn_space.specs.Opening.{IsSnapshot, Opening}
use Rattle.segment_head.specs.Head.{head}
use Rattle.segment_file.specs.declared.layout.TheConstants.{OPEN}
use Rattle.segment_file.specs.declared.scan_result.Tail.{Tail}
use Rattle.segment_file.specs.File.{magic, batch, gated, joined, IsCountedBatch, BeginsOpen, HoldsUnits}
use Rattle.segment_file.specs.Log.{Log, cut_log, with_units, second_format, ReadsTo}
use Rattle.segment_file.specs.StandingLog.{StandsAt, LogStandsAt}
use Rattle.segment_file.proofs.BatchLemmas.{length-batch}
use Rattle.segment_file.proofs.FileLemmas.{gated-push_between, joined-push, counted-more}

pub length-gated : (units : List ℕ) → length (gated units) ≡ 5 + 8 * length units
length-gated units = omega (arith, length-batch (batch units ++ []) units [] refl, length-append (batch units) [])

pub StandsAt-HoldsUnits : (tail : Tail) (units bytes : List ℕ) → StandsAt tail units bytes → HoldsUnits bytes units
StandsAt-HoldsUnits tail units bytes stands = (stands.batches, stands.rest, stands.file, stands.units_are)

module _ (tail : Tail) (log : Log) (old : List ℕ) (stands : LogStandsAt tail log old) where
  abbrev reads : ReadsTo old log stands.held.rest
  reads = stands.held.reads

  -- the bytes before the tail
  abbrev pub recorded : List ℕ
  recorded = reads.front ++ flat_map gated reads.batches

  pub recorded-append_rest : old ≡ recorded ++ stands.held.rest
  recorded-append_rest = reads.whole

  pub length-recorded : tail.at ≡ length recorded
  length-recorded = omega (arith, stands.place, ap length recorded-append_rest, length-append recorded stands.held.rest)

  pub take_tail-recorded : take tail.at old ≡ recorded
  take_tail-recorded = ap (take tail.at) recorded-append_rest ∙ take_at recorded stands.held.rest tail.at (sym length-recorded)

  -- the same batches, and then another gate that isn't open
  pub stands-rest_replaced : (bytes rest : List ℕ) → bytes ≡ take tail.at old ++ rest → (BeginsOpen rest → ⊥) → LogStandsAt tail log bytes
  stands-rest_replaced bytes rest whole closed =
      let again : bytes ≡ recorded ++ rest = whole ∙ ap (λ front. front ++ rest) take_tail-recorded in
      record {
        held = record {
          rest = rest;
          reads = record {
            front = reads.front;
            first = reads.first;
            begins = reads.begins;
            batches = reads.batches;
            each = reads.each;
            units = reads.units;
            total = reads.total;
            whole = again;
          };
          closed = closed;
        };
        place = omega (arith, length-recorded, ap length again, length-append recorded rest);
        next = stands.next;
      }

  -- one more batch, and then a gate that isn't open
  unfoldable pub stands-more : (more : List ℕ) → IsCountedBatch more → tail.next + length more ≤ LAST → (new : Tail) → new.at ≡ tail.at + (5 + 8 * length more)
      → new.next ≡ tail.next + length more → (bytes rest : List ℕ) → bytes ≡ take tail.at old ++ (gated more ++ rest) → (BeginsOpen rest → ⊥)
      → LogStandsAt new (with_units log more) bytes
  stands-more more counted fits new at next bytes rest whole closed =
      let again : bytes ≡ recorded ++ (gated more ++ rest) = whole ∙ ap (λ front. front ++ (gated more ++ rest)) take_tail-recorded in
      let units : log.units ++ more ≡ reads.first ++ joined (reads.batches ++ more ∷ []) =
      ap (λ before. before ++ more) reads.units ∙ append_assoc reads.first (joined reads.batches) more
      ∙ ap (λ list. reads.first ++ list) (sym (joined-push reads.batches more)) in
      let count = length-append log.units more in
      record {
        held = record {
          rest = rest;
          reads = record {
            front = reads.front;
            first = reads.first;
            begins = reads.begins;
            batches = reads.batches ++ more ∷ [];
            each = counted-more reads.batches more reads.each counted;
            units = units;
            total = omega (arith, fits, stands.next, count);
            whole = again ∙ gated-push_between reads.front reads.batches more rest;
          };
          closed = closed;
        };
        place = omega (
          arith,
          at,
          length-recorded,
          ap length again,
          length-append recorded (gated more ++ rest),
          length-append (gated more) rest,
          length-gated more,
        );
        next = omega (arith, next, stands.next, count);
      }

-- a first batch behind an open gate and the magic bytes, and then a gate that isn't open
pub stands-first : (units : List ℕ) → IsCountedBatch units → (tail : Tail) → tail.at ≡ 12 + 8 * length units → tail.next ≡ length units
    → (bytes rest : List ℕ) → bytes ≡ OPEN ∷ magic ++ batch units ++ rest → (BeginsOpen rest → ⊥) → StandsAt tail units bytes
stands-first units counted tail at next bytes rest whole closed = record {
  batches = units ∷ [];
  rest = rest;
  file = record {
    some = omega arith;
    each = (counted, tt);
    whole = whole ∙ rw (append-nil (batch units)) refl;
    closed = closed;
    total = omega (arith, counted.most, ap length (append-nil units));
  };
  units_are = sym (append-nil units);
  place = omega (arith, at, length-gated units, length-append (batch units) []);
  next = next;
}

-- a head behind an open gate, and then a gate that isn't open
unfoldable pub stands-headed : (opening : Opening) → IsSnapshot opening → (tail : Tail) (bytes rest : List ℕ) → tail.at + length rest ≡ length bytes → tail.next ≡ opening.lsn
    → bytes ≡ OPEN ∷ head opening ++ rest → (BeginsOpen rest → ⊥) → LogStandsAt tail (cut_log opening) bytes
stands-headed opening held tail bytes rest place next whole closed = record {
  held = record {
    rest = rest;
    reads = record {
      front = OPEN ∷ head opening;
      first = [];
      begins = second_format held refl refl;
      batches = [];
      each = tt;
      units = refl;
      total = omega (arith, held.lsn);
      whole = whole ∙ ap (λ list. list ++ rest) (sym (append-nil (OPEN ∷ head opening)));
    };
    closed = closed;
  };
  place = place;
  next = omega (arith, next);
}
