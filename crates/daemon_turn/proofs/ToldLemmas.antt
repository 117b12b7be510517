-- How far the records of a batch were told, one record after another.
use Rattle.std.proofs.Common.{◌≡◌, ◌∙◌, sym, ap, refl, subst, ℕ, ◌+◌, ◌≤◌, ◌<◌, List, [], ◌∷◌, ◌++◌, length, drop, length-append, length-drop, append_assoc, append-nil, arith}
use Rattle.std.specs.List.{AllByRecursion}
use Rattle.std.proofs.Math.Seq.{drop-append_seam}
use Rattle.std.proofs.lemmas.List.{drop-drop}
use Rattle.log_record.specs.declared.rec.Rec.{Rec}
use Rattle.log_record.specs.declared.rec.Rec.TheVariants.{Genesis, Update, Commit, Short, Over, Note}
use Rattle.log_record.specs.LogList.{AreUnitsOf, units_of, size_of}
use Rattle.log_record.specs.Spelling.{spelling, IsSpellable, BeginsWith}
use Rattle.log_record.proofs.SpellingLemmas.{spelling-append-injective, size_of-positive, begins_with-size_of_le}
use Rattle.end_lines.specs.declared.tally.Tally.{Tally}
use Rattle.end_lines.specs.declared.voice.Voice.{Voice}
use Rattle.end_lines.specs.declared.voice.Voice.TheVariants.{Lines, Count}
use Rattle.end_lines.specs.EndLines.{text_of, lines_in, line_said, count_said, is_done, is_refused}
use Rattle.end_lines.specs.Telling.{TellsAll, TellsFront, counted}
use Rattle.daemon_turn.proofs.HeadLemmas.{Silent}
use Rattle.end_lines.proofs.LineLemmas.{text_of-append, text_of-one_record, lines_in-append, lines_in-one_record, counted-append}

-- it ends at most one transaction
ends-one : (rec : Rec) → is_done rec + is_refused rec ≤ 1
ends-one (Genesis account balance) = omega arith
ends-one (Update txn account delta prev) = omega arith
ends-one (Commit txn legs) = omega arith
ends-one (Short txn leg) = omega arith
ends-one (Over txn leg) = omega arith
ends-one (Note txn text) = omega arith

pub is_done_is_refused-le_size_of : (rec : Rec) → is_done rec + is_refused rec ≤ size_of rec
is_done_is_refused-le_size_of rec = omega (arith, ends-one rec, size_of-positive rec)

pub count_said-le_size_of : (voice : Voice) (rec : Rec) → count_said voice rec ≤ size_of rec
count_said-le_size_of Lines rec = is_done_is_refused-le_size_of rec
count_said-le_size_of Count rec = omega arith

AllByRecursion-behind : (P : Rec → Type 0) (xs ys : List Rec) → AllByRecursion P (xs ++ ys) → AllByRecursion P ys
AllByRecursion-behind P [] ys all = all
AllByRecursion-behind P (x ∷ xs) ys all = AllByRecursion-behind P xs ys all.1

-- the tally with one more record
abbrev pub counted_one : Tally → Rec → Tally
counted_one tally rec = record { done = tally.done + is_done rec; refused = tally.refused + is_refused rec }

-- the records whose units end at this index were told, and the others were not
pub record ToldUpTo (voice : Voice) (from at : ℕ) (units text : List ℕ) (lines : ℕ) (before after : Tally) (records : List Rec)
    : Type 0 where
  pub seen : List Rec
  pub unseen : List Rec
  pub whole : records ≡ seen ++ unseen
  pub left : drop at units ≡ units_of unseen
  pub place : at ≡ length (units_of seen)
  pub said : text ≡ text_of voice from seen
  pub lines_are : lines ≡ lines_in voice seen
  pub counts : after ≡ counted before seen

pub text_of-none : (voice : Voice) (from : ℕ) → [] ≡ text_of voice from []
text_of-none Lines from = refl
text_of-none Count from = refl

lines_in-none : (voice : Voice) → 0 ≡ lines_in voice []
lines_in-none Lines = omega arith
lines_in-none Count = refl

pub counted-none : (tally : Tally) → tally ≡ counted tally []
counted-none tally i = record { done = same tally.done i; refused = same tally.refused i }
  where
    same : (n : ℕ) → n ≡ n + 0
    same n = omega arith

counted-one : (tally : Tally) (rec : Rec) → counted tally (rec ∷ []) ≡ counted_one tally rec
counted-one tally rec i = record { done = same tally.done (is_done rec) i; refused = same tally.refused (is_refused rec) i }
  where
    same : (n m : ℕ) → n + (m + 0) ≡ n + m
    same n m = omega arith

pub told-none : (voice : Voice) (from : ℕ) (units : List ℕ) (before : Tally) (records : List Rec) → AreUnitsOf units records
    → ToldUpTo voice from 0 units [] 0 before before records
told-none voice from units before records spells = record {
  seen = [];
  unseen = records;
  whole = refl;
  left = spells.units_are;
  place = refl;
  said = text_of-none voice from;
  lines_are = lines_in-none voice;
  counts = counted-none before;
}

none-more : (n : ℕ) → n + 0 ≡ n
none-more n = omega arith

module _ (voice : Voice) (from at : ℕ) (units text : List ℕ) (lines : ℕ) (before after : Tally) (records : List Rec)
    (told : ToldUpTo voice from at units text lines before after records) (spellable : AllByRecursion IsSpellable records) where
  unseen-spellable : AllByRecursion IsSpellable told.unseen
  unseen-spellable = AllByRecursion-behind IsSpellable told.seen told.unseen (subst (AllByRecursion IsSpellable) told.whole spellable)

  -- where units are left, they begin with a record
  pub told-record_begins : at < length units → (rec : Rec) × BeginsWith (drop at units) rec
  told-record_begins within = by-unseen told.unseen unseen-spellable told.left
    where
      by-unseen : (unseen : List Rec) → AllByRecursion IsSpellable unseen → drop at units ≡ units_of unseen
          → (rec : Rec) × BeginsWith (drop at units) rec
      by-unseen [] all left = absurd (omega (arith, within, length-drop at units, ap length left))
      by-unseen (rec ∷ unseen) all left = (rec, (all.0, units_of unseen, left))

  -- one more record was read
  record Goes (rec : Rec) : Type 0 where
    unseen : List Rec
    whole : told.unseen ≡ rec ∷ unseen

  goes : (rec : Rec) → BeginsWith (drop at units) rec → Goes rec
  goes rec begins = by-unseen told.unseen unseen-spellable told.left refl
    where
      by-unseen : (unseen : List Rec) → AllByRecursion IsSpellable unseen → drop at units ≡ units_of unseen → told.unseen ≡ unseen
          → Goes rec
      by-unseen [] all left is = absurd (omega (arith, size_of-positive rec, begins_with-size_of_le _ rec begins, ap length left))
      by-unseen (next ∷ unseen) all left is =
          let same = spelling-append-injective next rec _ _ all.0 begins.0
          (sym left ∙ begins.2) in
          record { unseen = unseen; whole = is ∙ ap (λ r. r ∷ unseen) same.0 }

  module _ (rec : Rec) (begins : BeginsWith (drop at units) rec) (size end : ℕ) (next : Tally) (size_is : size ≡ size_of rec)
      (end_is : end ≡ from + (at + size)) (done_is : next.done ≡ after.done + is_done rec)
      (refused_is : next.refused ≡ after.refused + is_refused rec) where
    abbrev rest : List Rec
    rest = (goes rec begins).unseen

    seen-more : records ≡ (told.seen ++ rec ∷ []) ++ rest
    seen-more = told.whole ∙ ap (λ rs. told.seen ++ rs) (goes rec begins).whole ∙ sym (append_assoc told.seen (rec ∷ []) rest)

    end-more : (from + length (units_of told.seen)) + size_of rec ≡ end
    end-more = omega (arith, told.place, size_is, end_is)

    said-more : text_of voice from (told.seen ++ rec ∷ []) ≡ text ++ line_said voice end rec
    said-more =
        text_of-append voice from told.seen (rec ∷ []) ∙ ap (λ us. us ++ text_of voice (from + length (units_of told.seen)) (rec ∷ []))
        (sym told.said)
        ∙ ap (λ us. text ++ us) (text_of-one_record voice (from + length (units_of told.seen)) rec ∙ ap (λ n. line_said voice n rec) end-more)

    counts-more : next ≡ counted before (told.seen ++ rec ∷ [])
    counts-more = (λ i. record { done = done_is i; refused = refused_is i })
        ∙ sym (counted-append before told.seen (rec ∷ []) ∙ ap (λ t. counted t (rec ∷ [])) (sym told.counts) ∙ counted-one after rec)

    units-more : (seen : List Rec) → length (units_of (seen ++ rec ∷ [])) ≡ length (units_of seen) + size_of rec
    units-more [] = omega (arith, ap length (append-nil (spelling rec)))
    units-more (first ∷ seen) = omega (
      arith,
      units-more seen,
      length-append (spelling first) (units_of (seen ++ rec ∷ [])),
      length-append (spelling first) (units_of seen),
    )

    pub told-more : (count : ℕ) → count ≡ count_said voice rec
        → ToldUpTo voice from (at + size) units (text ++ line_said voice end rec) (lines + count) before next records
    told-more count count_is = record {
      seen = told.seen ++ rec ∷ [];
      unseen = rest;
      whole = seen-more;
      left = ap (λ n. drop (at + n) units) size_is ∙ sym (drop-drop (size_of rec) at units)
          ∙ ap (drop (size_of rec)) (told.left ∙ ap units_of (goes rec begins).whole) ∙ drop-append_seam (spelling rec) (units_of rest);
      place = omega (arith, told.place, size_is, units-more told.seen);
      said = sym said-more;
      lines_are = omega (arith, told.lines_are, count_is, lines_in-one_record voice rec, lines_in-append voice told.seen (rec ∷ []));
      counts = counts-more;
    }

  -- one that ends no transaction
  pub told-push_silent : (rec : Rec) → BeginsWith (drop at units) rec → (size end : ℕ) → size ≡ size_of rec → end ≡ from + (at + size)
      → Silent voice end rec → ToldUpTo voice from (at + size) units text lines before after records
  told-push_silent rec begins size end size_is end_is silent =
      subst (λ (p : List ℕ × ℕ). ToldUpTo voice from (at + size) units p.0 p.1 before after records)
      (λ i. ((ap (λ us. text ++ us) silent.said ∙ append-nil text) i, none-more lines i))
      (told-more rec begins size end after size_is end_is (omega (arith, silent.done)) (omega (arith, silent.refused)) 0 (sym silent.lines))

  -- of the lines told a part was written
  pub told-tells_front : (written unwritten : List ℕ) → text ≡ written ++ unwritten → 0 < length unwritten
      → TellsFront voice from records written before after
  told-tells_front written unwritten parts some = record {
    told = told.seen;
    untold = told.unseen;
    whole = told.whole;
    unwritten = unwritten;
    lines = sym told.said ∙ parts;
    some = some;
    counts = told.counts;
  }

  none-unseen : length units ≤ at → (unseen : List Rec) → drop at units ≡ units_of unseen → unseen ≡ []
  none-unseen end [] left = refl
  none-unseen end (rec ∷ unseen) left = absurd (omega (
    arith,
    end,
    length-drop at units,
    ap length left,
    length-append (spelling rec) (units_of unseen),
    size_of-positive rec,
  ))

  -- no units are left
  pub told-all : length units ≤ at → TellsAll voice from records text lines before after
  told-all end =
      let all = none-unseen end told.unseen told.left in
      let seen : told.seen ≡ records = sym (append-nil told.seen) ∙ ap (λ rs. told.seen ++ rs) (sym all) ∙ sym told.whole in
      record {
        text_is = told.said ∙ ap (text_of voice from) seen;
        lines_are = told.lines_are ∙ ap (lines_in voice) seen;
        counts = told.counts ∙ ap (counted before) seen;
      }
