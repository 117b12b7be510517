-- How far a batch was told, whatever records its units spell.
use Rattle.std.proofs.Common.{◌≡◌, ◌∙◌, sym, ap, refl, subst, ℕ, ◌+◌, ◌≤◌, ◌<◌, List, ◌++◌, length, drop, arith, Option, Some, None, Err}
use Rattle.log_disk.specs.Faults.{HasCause, Rose, raised}
use Rattle.log_record.specs.declared.rec.Rec.{Rec}
use Rattle.log_record.specs.LogList.{AreUnitsOf, size_of}
use Rattle.log_record.specs.Spelling.{spelling, BeginsWith}
use Rattle.log_record.proofs.SpellingLemmas.{size_of-positive, record_end-within_units}
use Rattle.end_lines.specs.declared.tally.Tally.{Tally}
use Rattle.end_lines.specs.declared.voice.Voice.{Voice}
use Rattle.end_lines.specs.EndLines.{line_said, count_said, is_done, is_refused}
use Rattle.end_lines.specs.Telling.{TellsAll, TellsFront, ended}
use Rattle.daemon_turn.proofs.HeadLemmas.{ended_none-silent, ended-same}
use Rattle.daemon_turn.proofs.ToldLemmas.{ToldUpTo, told-record_begins, told-more, told-push_silent, told-tells_front, told-all}

-- the record that begins at an index, what of it ends a transaction, and how many units it has
abbrev pub IsSeen : List ℕ → ℕ → Option Rec → ℕ → Type 0
IsSeen units at end size = (rec : Rec) × BeginsWith (drop at units) rec × (end ≡ ended rec) × (size ≡ length (spelling rec))

-- it begins there, has so many units, and ends within the batch
pub record Stands (units : List ℕ) (at size : ℕ) (rec : Rec) : Type 0 where
  pub begins : BeginsWith (drop at units) rec
  pub size_is : size ≡ size_of rec
  pub within : at + size ≤ length units

module _ (units : List ℕ) (at size units_read : ℕ) (end : Option Rec) (seen : IsSeen units at end size) (read : units_read ≡ size) where
  pub units_read-positive : 0 < units_read
  units_read-positive = omega (arith, size_of-positive seen.0, read, seen.3)

  pub seen-within : at ≤ length units → at + units_read ≤ length units
  seen-within inside = omega (arith, record_end-within_units units at seen.0 inside seen.1, read, seen.3)

  -- the record that was found to end a transaction is this one
  pub seen_end-stands : at ≤ length units → (rec : Rec) → end ≡ Some rec → Stands units at units_read rec
  seen_end-stands inside rec is = subst (Stands units at units_read) (sym (ended-same seen.0 rec (sym seen.2 ∙ is)))
      record { begins = seen.1; size_is = read ∙ seen.3; within = seen-within inside }

-- the records whose units end at this index were told, and the others were not, whatever they are
abbrev pub IsToldUpTo : Voice → ℕ → ℕ → List ℕ → List ℕ → ℕ → Tally → Tally → Type 0
IsToldUpTo voice from at units text lines before after =
    (records : List Rec) → AreUnitsOf units records → ToldUpTo voice from at units text lines before after records

module _ {voice : Voice} {from at : ℕ} {units text : List ℕ} {lines : ℕ} {before after : Tally}
    (told : IsToldUpTo voice from at units text lines before after) where
  -- where units are left, they begin with a record
  pub IsToldUpTo-record_begins : (records : List Rec) × AreUnitsOf units records → at < length units → (rec : Rec) × BeginsWith (drop at units) rec
  IsToldUpTo-record_begins (records, spells) within =
      told-record_begins voice from at units text lines before after records (told records spells) spells.spellable within

  -- one more record was told, which ends a transaction
  pub IsToldUpTo-more : (rec : Rec) (size start end : ℕ) (next : Tally) (count : ℕ) → Stands units at size rec → start ≡ from
      → end ≡ start + (at + size) → next.done ≡ after.done + is_done rec → next.refused ≡ after.refused + is_refused rec
      → count ≡ count_said voice rec
      → IsToldUpTo voice from (at + size) units (text ++ line_said voice end rec) (lines + count) before next
  IsToldUpTo-more rec size start end next count stands starts ends done refused count_is records spells =
      told-more voice from at units text lines before after records (told records spells) spells.spellable rec stands.begins size end next
      stands.size_is (ends ∙ ap (λ n. n + (at + size)) starts) done refused count count_is

  -- one that ends none
  pub IsToldUpTo-push_silent : (size units_read : ℕ) (end : Option Rec) → IsSeen units at end size → units_read ≡ size → end ≡ None
      → IsToldUpTo voice from (at + units_read) units text lines before after
  IsToldUpTo-push_silent size units_read end seen read is records spells =
      told-push_silent voice from at units text lines before after records (told records spells) spells.spellable seen.0 seen.1 units_read
      (from + (at + units_read)) (read ∙ seen.3) refl (ended_none-silent voice (from + (at + units_read)) seen.0 (sym seen.2 ∙ is))

  -- of the lines told a part was written
  pub IsToldUpTo-tells_front : (written unwritten : List ℕ) → text ≡ written ++ unwritten → 0 < length unwritten
      → (records : List Rec) → AreUnitsOf units records → TellsFront voice from records written before after
  IsToldUpTo-tells_front written unwritten parts some records spells =
      told-tells_front voice from at units text lines before after records (told records spells) spells.spellable written unwritten parts some

  -- no units are left
  pub IsToldUpTo-all : length units ≤ at
      → (records : List Rec) → AreUnitsOf units records → TellsAll voice from records text lines before after
  IsToldUpTo-all end records spells =
      told-all voice from at units text lines before after records (told records spells) spells.spellable end

-- a fault behind none
pub HasCause-failed : {T E : Type 0} (before mid now : ℕ) (e : E) → mid ≡ before → mid ≤ now → Rose mid now
    → HasCause {T = T} {E = E} before now (Err e)
HasCause-failed before mid now e none later rose = record { later = omega (arith, none, later); fine = tt; failed = rose ∙ ap raised none }
