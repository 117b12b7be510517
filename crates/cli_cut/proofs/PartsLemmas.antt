-- What is known of a log before it is upgraded, from what was read and asked for.
use Rattle.std.proofs.Common.{◌≡◌, ◌≤◌, ◌∙◌, refl, ap, sym, subst, ℕ, List, [], ◌++◌, length, length-append, Option, arith}
use Rattle.lsn_space.specs.declared.lsn.TheConstants.{LAST}
use Rattle.log_record.specs.declared.rec.Rec.{Rec}
use Rattle.log_record.specs.LogList.{AreUnitsOf, units_of, end_of}
use Rattle.log_record.specs.Spelling.{IsSpellable}
use Rattle.log_record.proofs.LogListLemmas.{units_of-append}
use Rattle.lock_core.proofs.ListLemmas.{all-split}
use Rattle.segment_file.specs.declared.layout.TheConstants.{MOST_UNITS}
use Rattle.log_recovery.specs.Opened.{OpenedList, list_end, with_front}
use Rattle.log_recovery.specs.Recovery.{HoldsLawful, ListsBytes, Recovers, list_of}
use Rattle.log_recovery.specs.declared.list_result.Listed.{Listed}
use Rattle.log_recovery.proofs.AnswerLemmas.{one-list}
use Rattle.log_disk.specs.Streams.{ReadsAll}
use Rattle.cli_cut.specs.Cutting.{IsCutOf}
use Rattle.cli_cut.specs.Parts.{ArePartsOf, IsGenesisFront, SplitsGenesis}
use Rattle.cli_cut.specs.declared.reading.Parts.{Parts}
use Rattle.cli_cut.proofs.FrontLemmas.{drop_front-later_units, front-within_units, list_records-split, split_later-no_genesis}

-- the list that was read is the one that was listed, which is lawful
module _ (bytes : List ℕ) (listed : Listed) (found : ListsBytes listed bytes) (list : OpenedList) (held : HoldsLawful bytes list) where
  pub held_list-is_listed : list ≡ list_of listed found.records
  held_list-is_listed = one-list bytes list (list_of listed found.records) held.list found.held

  pub listed-lawful : HoldsLawful bytes (list_of listed found.records)
  listed-lawful = subst (HoldsLawful bytes) held_list-is_listed held

  -- its front ends where LSNs do, or before
  pub genesis-front : (front : ℕ) → SplitsGenesis listed.units front → IsGenesisFront listed front
  genesis-front front split =
      let inside = front-within_units listed.units split.genesis split.later front split.list split.place in
      record {
        lawful = (bytes, found.records, listed-lawful, found.has.list.units_are);
        split = split;
        inside = inside;
        fits = omega (arith, found.held.holds.reads.total, inside, ap length found.has.list.units_are);
      }

module _ (left left_new : Option (List ℕ)) (parts : Parts) (bytes : List ℕ) (recovers : Recovers parts.recovered bytes) (found : ListsBytes parts.listed bytes)
    (split : SplitsGenesis parts.listed.units parts.front)
    (cut : (genesis later : List Rec) → AreUnitsOf parts.listed.units (genesis ++ later) → parts.front ≡ length (units_of genesis)
    → IsCutOf (list_of parts.listed genesis) parts.head) where
  same : recovers.list ≡ list_of parts.listed found.records
  same = held_list-is_listed bytes parts.listed found recovers.list recovers.held

  lawful : HoldsLawful bytes (list_of parts.listed found.records)
  lawful = listed-lawful bytes parts.listed found recovers.list recovers.held

  abbrev made : OpenedList
  made = record { opening = parts.head; records = split.later }

  whole : found.records ≡ split.genesis ++ split.later
  whole = list_records-split bytes (list_of parts.listed found.records) lawful parts.listed.units found.has.list.units_are parts.front split

  is_cut : IsCutOf (list_of parts.listed split.genesis) parts.head
  is_cut = cut split.genesis split.later split.list split.place

  made-fits : list_end made ≤ LAST
  made-fits = omega (
    arith,
    is_cut.lsn,
    found.held.holds.reads.total,
    ap end_of whole,
    ap length (units_of-append split.genesis split.later),
    length-append (units_of split.genesis) (units_of split.later),
  )

  pub ReadsAll-are_parts : ReadsAll left left_new bytes → parts.batch.units ≡ [] → parts.batch.room ≡ MOST_UNITS → ArePartsOf left left_new parts
  ReadsAll-are_parts read none room = record {
    bytes = bytes;
    read = read;
    recovers = recovers;
    made = made;
    upgrade = record {
      genesis = split.genesis;
      whole = ap (λ (list : OpenedList). list.records) same ∙ whole;
      all = split.all;
      none = split_later-no_genesis bytes (list_of parts.listed found.records) lawful parts.listed.units found.has.list.units_are parts.front split;
      opening = subst (λ (list : OpenedList). IsCutOf (with_front list split.genesis) parts.head) (sym same) is_cut;
    };
    spellable = (all-split IsSpellable split.genesis split.later split.list.spellable).1;
    head = refl;
    units = drop_front-later_units parts.listed.units split.genesis split.later parts.front split.list split.place;
    within = front-within_units parts.listed.units split.genesis split.later parts.front split.list split.place;
    fits = made-fits;
    none = none;
    room = room;
  }
