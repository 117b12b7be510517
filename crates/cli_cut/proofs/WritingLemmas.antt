-- How the records of a list go into batches of as many whole records as fit, and the log with them.
use Rattle.std.proofs.Common.{◌≡◌, ◌≤◌, ◌<◌, ◌∙◌, refl, ap, sym, subst, ℕ, ◌+◌, ◌*◌, List, [], ◌∷◌, ◌++◌, append_assoc, append-nil, length, length-append, map, drop, arith}
use Rattle.std.specs.List.{AllByRecursion}
use Rattle.log_disk.specs.Costs.{Costs}
use Rattle.log_disk.specs.Disk.{Leaves}
use Rattle.log_disk.specs.Lengths.{GrowsAtMostTo}
use Rattle.log_disk.specs.declared.disk.LogDisk.{Ghosts}
use Rattle.log_disk.proofs.Moments.{Leaves-trans}
use Rattle.lsn_space.specs.Opening.{Opening}
use Rattle.log_record.specs.declared.rec.Rec.{Rec}
use Rattle.log_record.specs.LogList.{AreUnitsOf, units_of, size_of}
use Rattle.log_record.specs.Spelling.{spelling, IsSpellable, BeginsWith}
use Rattle.log_record.proofs.BoundLemmas.{length-spelling}
use Rattle.log_record.proofs.LogListLemmas.{units_of-append}
use Rattle.segment_file.specs.declared.layout.TheConstants.{MOST_UNITS}
use Rattle.segment_file.specs.declared.scan_result.Tail.{Tail}
use Rattle.segment_file.specs.File.{BeginsAsLog, joined}
use Rattle.segment_file.specs.Log.{Log, cut_log, with_units}
use Rattle.segment_file.proofs.FileLemmas.{joined-push}
use Rattle.segment_cut.specs.Underway.{IsUnderway}
use Rattle.ship_stream.specs.Frames.{packed_behind}
use Rattle.ship_stream.proofs.PackingLemmas.{packed_behind-fits, packed_behind-full_from_none}
use Rattle.cli_cut.specs.Batches.{batches_of}
use Rattle.cli_cut.proofs.GenesisLemmas.{BeginsWith-first_record}

-- ---- what stands between two records

-- So far the log that is written has these batches behind its head, and records wait for the next; of the records that are left the units are the rest.
-- Each image is no log.
pub record IsWriting {D : Type 0} (g : Ghosts D) (opening : Opening) (records : List Rec) (begun now : D) (tail : Tail) (waiting rest : List ℕ) : Type 0 where
  pub done : List (List ℕ)
  pub waits : List Rec
  pub left : List Rec
  pub spellable : AllByRecursion IsSpellable left
  pub waiting_is : waiting ≡ units_of waits
  pub rest_is : rest ≡ units_of left
  pub whole : units_of records ≡ (joined done ++ waiting) ++ rest
  pub batches : batches_of records ≡ done ++ map units_of (packed_behind MOST_UNITS waits left)
  pub underway : g.honest begun → IsUnderway tail (with_units (cut_log opening) (joined done)) done (g.reads now) (g.images now)
  pub moments : g.honest begun → Leaves g.moment g.images_since (λ c. BeginsAsLog c → ⊥) begun now
  pub at : tail.at ≡ 20 + 12 * length opening.accounts + 5 * length done + 8 * length (joined done)
  pub some : length done ≤ length (joined done)
  pub next : tail.next ≡ opening.lsn + length (joined done)
  pub grows : g.honest begun → GrowsAtMostTo g (21 + 12 * length opening.accounts + 5 * length done + 8 * length (joined done)) begun now
  pub few : length waiting ≤ MOST_UNITS
  pub count : g.honest begun → Costs g (3 + length done) (4 + length done) begun now

module _ {D : Type 0} (g : Ghosts D) (opening : Opening) (records : List Rec) (begun : D) where
  -- the head stands
  pub writing-begun : (now : D) (tail : Tail) (units : List ℕ) → AreUnitsOf units records
      → (g.honest begun → IsUnderway tail (cut_log opening) [] (g.reads now) (g.images now))
      → (g.honest begun → Leaves g.moment g.images_since (λ c. BeginsAsLog c → ⊥) begun now) → tail.at ≡ 20 + 12 * length opening.accounts
      → tail.next ≡ opening.lsn → (g.honest begun → GrowsAtMostTo g (21 + 12 * length opening.accounts) begun now)
      → (g.honest begun → Costs g 3 4 begun now) → IsWriting g opening records begun now tail [] units
  writing-begun now tail units are underway moments at next grows count = record {
    done = [];
    waits = [];
    left = records;
    spellable = are.spellable;
    waiting_is = refl;
    rest_is = are.units_are;
    whole = sym are.units_are;
    batches = refl;
    underway = underway;
    moments = moments;
    at = omega (arith, at);
    some = omega arith;
    next = omega (arith, next);
    grows = λ honest. omega (arith, grows honest);
    few = omega arith;
    count = count;
  }

  -- the batch that waited was written
  pub writing-flushed : (now new : D) (tail after : Tail) (waiting rest : List ℕ) (writing : IsWriting g opening records begun now tail waiting rest)
      → (g.honest begun → (log : Log) (batches : List (List ℕ)) → IsUnderway tail log batches (g.reads now) (g.images now)
      → IsUnderway after (with_units log waiting) (batches ++ waiting ∷ []) (g.reads new) (g.images new))
      → (g.honest begun → Leaves g.moment g.images_since (λ c. BeginsAsLog c → ⊥) now new) → after.at ≡ tail.at + 5 + 8 * length waiting
      → after.next ≡ tail.next + length waiting → (g.honest begun → GrowsAtMostTo g (tail.at + 6 + 8 * length waiting) now new)
      → (g.honest begun → Costs g 1 1 now new) → 0 < length waiting
      → packed_behind MOST_UNITS writing.waits writing.left ≡ writing.waits ∷ packed_behind MOST_UNITS [] writing.left → IsWriting g opening records begun new after [] rest
  writing-flushed now new tail after waiting rest writing underway moments at next grows count some one =
      let done : List (List ℕ) = writing.done ++ waiting ∷ [] in
      let units : joined done ≡ joined writing.done ++ waiting = joined-push writing.done waiting in
      let longer : length (joined done) ≡ length (joined writing.done) + length waiting =
      omega (arith, ap length units, length-append (joined writing.done) waiting) in
      let more : length done ≡ length writing.done + 1 = length-append writing.done (waiting ∷ []) in
      record {
        done = done;
        waits = [];
        left = writing.left;
        spellable = writing.spellable;
        waiting_is = refl;
        rest_is = writing.rest_is;
        whole = writing.whole ∙ ap (λ front. front ++ rest) (sym units ∙ sym (append-nil (joined done)));
        batches = writing.batches ∙ ap (λ packed. writing.done ++ map units_of packed) one
            ∙ sym (append_assoc writing.done (units_of writing.waits ∷ []) (map units_of (packed_behind MOST_UNITS [] writing.left)))
            ∙ ap (λ batch. (writing.done ++ batch ∷ []) ++ map units_of (packed_behind MOST_UNITS [] writing.left)) (sym writing.waiting_is);
        underway = λ honest. subst (λ units. IsUnderway after (with_units (cut_log opening) units) done (g.reads new) (g.images new)) (sym units)
            (underway honest (with_units (cut_log opening) (joined writing.done)) writing.done (writing.underway honest));
        moments = λ honest. Leaves-trans g.moment g.images_since (λ c. BeginsAsLog c → ⊥) begun now new (writing.moments honest) (moments honest);
        at = omega (arith, at, writing.at, longer, more);
        some = omega (arith, writing.some, longer, more, some);
        next = omega (arith, next, writing.next, longer);
        grows = λ honest. omega (arith, grows honest, writing.grows honest, writing.at, longer, more);
        few = omega arith;
        count = λ honest.
            let first = writing.count honest in
            let second = count honest in
            record { successes = omega (arith, first.successes, second.successes, more); calls = omega (arith, first.calls, second.calls, more) };
      }

  -- a record that fits waits too
  pub writing-taken : (now : D) (tail : Tail) (waiting rest : List ℕ) (rec : Rec) (own behind : List ℕ)
      → IsWriting g opening records begun now tail waiting rest → BeginsWith rest rec → length waiting + size_of rec ≤ MOST_UNITS
      → own ++ behind ≡ rest → own ≡ spelling rec → behind ≡ drop (length (spelling rec)) rest
      → IsWriting g opening records begun now tail (waiting ++ own) behind
  writing-taken now tail waiting rest rec own behind writing begins fits joined_is own_is dropped =
      let found = BeginsWith-first_record rest writing.left rec writing.spellable writing.rest_is begins in
      let waits : units_of (writing.waits ++ rec ∷ []) ≡ waiting ++ own =
      units_of-append writing.waits (rec ∷ []) ∙ ap (λ units. units_of writing.waits ++ units) (append-nil (spelling rec) ∙ sym own_is)
      ∙ ap (λ units. units ++ own) (sym writing.waiting_is) in
      let longer : length (waiting ++ own) ≡ length waiting + size_of rec = omega (arith, length-append waiting own, ap length own_is) in
      record {
        done = writing.done;
        waits = writing.waits ++ rec ∷ [];
        left = found.0;
        spellable = (subst (AllByRecursion IsSpellable) found.1 writing.spellable).1;
        waiting_is = sym waits;
        rest_is = dropped ∙ found.2;
        whole = writing.whole ∙ ap (λ rest. (joined writing.done ++ waiting) ++ rest) (sym joined_is)
            ∙ sym (append_assoc (joined writing.done ++ waiting) own behind) ∙ ap (λ front. front ++ behind) (append_assoc (joined writing.done) waiting own);
        batches = writing.batches
            ∙ ap (λ packed. writing.done ++ map units_of packed)
            (ap (packed_behind MOST_UNITS writing.waits) found.1
            ∙ packed_behind-fits MOST_UNITS writing.waits rec found.0 (omega (arith, fits, ap length writing.waiting_is)));
        underway = writing.underway;
        moments = writing.moments;
        at = writing.at;
        some = writing.some;
        next = writing.next;
        grows = writing.grows;
        few = omega (arith, longer, fits);
        count = writing.count;
      }

  -- a record that doesn't fit ends the batch
  pub packed_behind-no_room : (now : D) (tail : Tail) (waiting rest : List ℕ) (rec : Rec) (writing : IsWriting g opening records begun now tail waiting rest)
      → BeginsWith rest rec → MOST_UNITS < length waiting + size_of rec
      → packed_behind MOST_UNITS writing.waits writing.left ≡ writing.waits ∷ packed_behind MOST_UNITS [] writing.left
  packed_behind-no_room now tail waiting rest rec writing begins full =
      let found = BeginsWith-first_record rest writing.left rec writing.spellable writing.rest_is begins in
      ap (packed_behind MOST_UNITS writing.waits) found.1
      ∙ packed_behind-full_from_none MOST_UNITS writing.waits rec found.0 (omega (arith, length-spelling rec begins.0)) (omega (arith, full, ap length writing.waiting_is))
      ∙ ap (λ left. writing.waits ∷ packed_behind MOST_UNITS [] left) (sym found.1)
