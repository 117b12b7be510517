-- How the lines of a dump are written, record by record.
use Rattle.std.proofs.Common.{◌≡◌, ◌<◌, ◌≤◌, ℕ, ◌+◌, List, [], ◌∷◌, ◌++◌, length, drop, Option, refl, ap, ◌∙◌, sym, subst, arith, length-append, length-drop, append_assoc}
use Rattle.std.specs.List.{AllByRecursion}
use Rattle.std.proofs.lemmas.List.{append-nil}
use Rattle.std.proofs.Math.Seq.{drop-append_seam}
use Rattle.log_disk.specs.Streams.{AppendsPart, AppendsBut}
use Rattle.log_disk.proofs.Blocks.{AppendsBut-trans, AppendsBut-trans_part_of_piece, AppendsPart-append}
use Rattle.log_record.specs.declared.rec.Rec.{Rec}
use Rattle.log_record.specs.LogList.{AreUnitsOf, units_of, end_of, size_of}
use Rattle.log_record.specs.Spelling.{spelling, IsSpellable, BeginsWith}
use Rattle.log_record.proofs.SpellingLemmas.{spelling-append-injective, size_of-positive, AreUnitsOf-injective}
use Rattle.log_record.proofs.LogListLemmas.{units_of-append}
use Rattle.lock_core.proofs.ListLemmas.{all-split}
use Rattle.lsn_space.specs.Opening.{Opening}
use Rattle.log_recovery.specs.Dump.{record_line, record_lines, opening_lines, dump_text}
use Rattle.log_recovery.specs.ListedRecords.{IsFront}
use Rattle.log_recovery.specs.Text.{lsn_line}
use Rattle.log_recovery.proofs.AnswerLemmas.{spelling_append-not_none}
use Rattle.log_recovery.proofs.ListingLemmas.{front_and_rest-length}

record_lines-append : (at : ℕ) (xs ys : List Rec) → record_lines at (xs ++ ys) ≡ record_lines at xs ++ record_lines (at + end_of xs) ys
record_lines-append at [] ys = let same : at ≡ at + 0 = omega arith in ap (λ n. record_lines n ys) same
record_lines-append at (rec ∷ xs) ys =
    let sizes = length-append (spelling rec) (units_of xs) in
    let place : (at + size_of rec) + end_of xs ≡ at + end_of (rec ∷ xs) = omega arith in
    ap (λ lines. record_line at rec ++ lines) (record_lines-append (at + size_of rec) xs ys ∙ ap (λ n. record_lines (at + size_of rec) xs ++ record_lines n ys) place)
    ∙ sym (append_assoc (record_line at rec) (record_lines (at + size_of rec) xs) (record_lines (at + end_of (rec ∷ xs)) ys))

-- what is behind a record is shorter
pub drop_spelling-shorter : (rest after : List ℕ) (rec : Rec) → (length rest ≡ 0 → ⊥) → after ≡ drop (length (spelling rec)) rest → length after < length rest
drop_spelling-shorter rest after rec some behind =
    let less = ap length behind ∙ length-drop (length (spelling rec)) rest in let units = size_of-positive rec in omega (arith, some)

-- the lines before these records, and theirs
abbrev lines_to : Opening → List Rec → List ℕ
lines_to opening records = opening_lines opening ++ record_lines opening.lsn records

-- the lines of the records before this rest of the units are written, and what stands before the list, but for the bytes that wait
pub record DumpsFront (opening : Opening) (units rest waiting : List ℕ) (old new : Option (List ℕ)) : Type 0 where
  pub done : List Rec
  pub more : List Rec
  pub list : AreUnitsOf units (done ++ more)
  pub left : rest ≡ units_of more
  pub written : AppendsBut old new (opening_lines opening ++ record_lines opening.lsn done) waiting

pub dumps-none : (opening : Opening) (units waiting : List ℕ) (records : List Rec) (old mid : Option (List ℕ)) → AreUnitsOf units records
    → AppendsBut old mid (opening_lines opening) waiting → DumpsFront opening units units waiting old mid
dumps-none opening units waiting records old mid list written = record {
  done = [];
  more = records;
  list = list;
  left = list.units_are;
  written = subst (λ bytes. AppendsBut old mid bytes waiting) (sym (append-nil (opening_lines opening))) written;
}

module _ (opening : Opening) (units rest waiting : List ℕ) (old mid : Option (List ℕ)) (before : DumpsFront opening units rest waiting old mid) where
  each : AllByRecursion IsSpellable before.done × AllByRecursion IsSpellable before.more
  each = all-split IsSpellable before.done before.more before.list.spellable

  dumps-front : IsFront units rest
  dumps-front = record {
    records = before.done;
    each = each.0;
    whole = before.list.units_are ∙ units_of-append before.done before.more ∙ ap (λ l. units_of before.done ++ l) (sym before.left);
  }

  -- where a rest is left, it begins with a record
  begins : (more : List Rec) → before.more ≡ more → (length rest ≡ 0 → ⊥) → (first : Rec) × (later : List Rec) × (more ≡ first ∷ later)
  begins [] is some = absurd (some (ap length (before.left ∙ ap units_of is)))
  begins (first ∷ later) is some = (first, later, refl)

  begins-with : (first : Rec) (later : List Rec) → before.more ≡ first ∷ later → BeginsWith rest first
  begins-with first later is = ((subst (AllByRecursion IsSpellable) is each.1).0, units_of later, before.left ∙ ap units_of is)

  pub dumps-rest_begins_with : (length rest ≡ 0 → ⊥) → ((rec : Rec) → BeginsWith rest rec → ⊥) → ⊥
  dumps-rest_begins_with some none = let parts = begins before.more refl some in none parts.0 (begins-with parts.0 parts.1 parts.2)

  front-length : end_of before.done + length rest ≡ length units
  unfolding dumps-front
  front-length = front_and_rest-length units before.done rest dumps-front.whole

  pub dumps-rest_le_end : (end : ℕ) → end ≡ opening.lsn + length units → length rest ≤ end
  dumps-rest_le_end end is = let lengths = front-length in omega arith

  -- the place of the rest
  dumps-place : (start : ℕ) → start + length rest ≡ opening.lsn + length units → start ≡ opening.lsn + end_of before.done
  dumps-place start place = let lengths = front-length in omega arith

  module _ (start : ℕ) (place : start + length rest ≡ opening.lsn + length units) (rec : Rec) (begun : BeginsWith rest rec) (some : length rest ≡ 0 → ⊥) where
    parts : (first : Rec) × (later : List Rec) × (before.more ≡ first ∷ later)
    parts = begins before.more refl some

    same : (rec ≡ parts.0) × (begun.1 ≡ units_of parts.1)
    same = spelling-append-injective rec parts.0 begun.1 (units_of parts.1) begun.0 (begins-with parts.0 parts.1 parts.2).0
        (sym begun.2 ∙ before.left ∙ ap units_of parts.2)

    more-is : before.more ≡ rec ∷ parts.1
    more-is = parts.2 ∙ ap (λ r. r ∷ parts.1) (sym same.0)

    record-more : record_lines opening.lsn (before.done ++ rec ∷ []) ≡ record_lines opening.lsn before.done ++ record_line start rec
    record-more = record_lines-append opening.lsn before.done (rec ∷ [])
        ∙ ap (λ n. record_lines opening.lsn before.done ++ (record_line n rec ++ [])) (sym (dumps-place start place))
        ∙ ap (λ l. record_lines opening.lsn before.done ++ l) (append-nil (record_line start rec))

    lines-more : lines_to opening (before.done ++ rec ∷ []) ≡ lines_to opening before.done ++ record_line start rec
    lines-more = ap (λ l. opening_lines opening ++ l) record-more
        ∙ sym (append_assoc (opening_lines opening) (record_lines opening.lsn before.done) (record_line start rec))

    -- one more line is put
    pub dumps-more : (new : Option (List ℕ)) (after waiting' : List ℕ) → after ≡ drop (length (spelling rec)) rest
        → AppendsBut mid new (waiting ++ record_line start rec) waiting' → DumpsFront opening units after waiting' old new
    dumps-more new after waiting' dropped line = record {
      done = before.done ++ rec ∷ [];
      more = parts.1;
      list = subst (AreUnitsOf units) (ap (λ l. before.done ++ l) more-is ∙ sym (append_assoc before.done (rec ∷ []) parts.1)) before.list;
      left = dropped ∙ ap (drop (length (spelling rec))) begun.2 ∙ drop-append_seam (spelling rec) begun.1 ∙ same.1;
      written = subst (λ bytes. AppendsBut old new bytes waiting') (sym lines-more)
          (AppendsBut-trans old mid new _ waiting before.written (record_line start rec) waiting' line);
    }

    whole-text : dump_text (record { opening = opening; records = before.done ++ before.more })
        ≡ (lines_to opening before.done ++ record_line start rec)
        ++ (record_lines (opening.lsn + end_of (before.done ++ rec ∷ [])) parts.1 ++ lsn_line (opening.lsn + end_of (before.done ++ before.more)))
    whole-text =
        let all : before.done ++ before.more ≡ (before.done ++ rec ∷ []) ++ parts.1 =
        ap (λ l. before.done ++ l) more-is ∙ sym (append_assoc before.done (rec ∷ []) parts.1) in
        let later : List ℕ = record_lines (opening.lsn + end_of (before.done ++ rec ∷ [])) parts.1 in
        ap (λ l. l ++ lsn_line (opening.lsn + end_of (before.done ++ before.more)))
        (ap (lines_to opening) all ∙ ap (λ l. opening_lines opening ++ l) (record_lines-append opening.lsn (before.done ++ rec ∷ []) parts.1)
        ∙ sym (append_assoc (opening_lines opening) (record_lines opening.lsn (before.done ++ rec ∷ [])) later)
        ∙ ap (λ l. l ++ later) lines-more)
        ∙ append_assoc (lines_to opening before.done ++ record_line start rec) later _

    -- of the lines with one more a part is written
    pub record_line_cut-dump_part : (new : Option (List ℕ)) (records : List Rec) → AreUnitsOf units records → AppendsPart mid new (waiting ++ record_line start rec)
        → AppendsPart old new (dump_text (record { opening = opening; records = records }))
    record_line_cut-dump_part new records list cut =
        subst (λ l. AppendsPart old new (dump_text (record { opening = opening; records = l }))) (AreUnitsOf-injective units (before.done ++ before.more) records before.list list)
        (AppendsPart-append old new _ _ _ (AppendsBut-trans_part_of_piece old mid new _ waiting before.written (record_line start rec) cut) whole-text)

  -- the whole is written
  module _ (empty : rest ≡ []) (records : List Rec) (list : AreUnitsOf units records) where
    none-left : (more : List Rec) → before.more ≡ more → more ≡ []
    none-left [] is = refl
    none-left (rec ∷ more) is = absurd (spelling_append-not_none rec (units_of more) (sym (ap units_of is) ∙ sym before.left ∙ empty))

    done-is : before.done ≡ records
    done-is = sym (append-nil before.done) ∙ ap (λ l. before.done ++ l) (sym (none-left before.more refl))
        ∙ AreUnitsOf-injective units (before.done ++ before.more) records before.list list

    whole : (lsn : ℕ) → lsn ≡ opening.lsn + end_of records → dump_text (record { opening = opening; records = records }) ≡ lines_to opening before.done ++ lsn_line lsn
    whole lsn end = ap (λ l. lines_to opening l ++ lsn_line (opening.lsn + end_of records)) (sym done-is)
        ∙ ap (λ n. lines_to opening before.done ++ lsn_line n) (sym end)

    -- the end is put
    pub lsn_line_put-dump_whole : (new : Option (List ℕ)) (waiting' : List ℕ) (lsn : ℕ) → lsn ≡ opening.lsn + end_of records → AppendsBut mid new (waiting ++ lsn_line lsn) waiting'
        → AppendsBut old new (dump_text (record { opening = opening; records = records })) waiting'
    lsn_line_put-dump_whole new waiting' lsn end line =
        subst (λ bytes. AppendsBut old new bytes waiting') (sym (whole lsn end)) (AppendsBut-trans old mid new _ waiting before.written (lsn_line lsn) waiting' line)

    pub lsn_line_cut-dump_part : (new : Option (List ℕ)) (lsn : ℕ) → lsn ≡ opening.lsn + end_of records → AppendsPart mid new (waiting ++ lsn_line lsn)
        → AppendsPart old new (dump_text (record { opening = opening; records = records }))
    lsn_line_cut-dump_part new lsn end cut =
        subst (AppendsPart old new) (sym (whole lsn end)) (AppendsBut-trans_part_of_piece old mid new _ waiting before.written (lsn_line lsn) cut)
