-- The lines of one list of records after another.
use Rattle.std.proofs.Common.{◌≡◌, ◌∙◌, sym, ap, refl, ℕ, ◌+◌, List, [], ◌∷◌, ◌++◌, length, length-append, append_assoc, append-nil, arith}
use Rattle.log_record.specs.declared.rec.Rec.{Rec}
use Rattle.log_record.specs.LogList.{units_of, size_of}
use Rattle.log_record.specs.Spelling.{spelling}
use Rattle.end_lines.specs.declared.tally.Tally.{Tally}
use Rattle.end_lines.specs.declared.voice.Voice.{Voice}
use Rattle.end_lines.specs.declared.voice.Voice.TheVariants.{Lines, Count}
use Rattle.end_lines.specs.EndLines.{end_line, end_lines, done_in, refused_in, text_of, lines_in, line_said, count_said}
use Rattle.end_lines.specs.Telling.{counted}

pub end_lines-append : (at : ℕ) (xs ys : List Rec) → end_lines at (xs ++ ys) ≡ end_lines at xs ++ end_lines (at + length (units_of xs)) ys
end_lines-append at [] ys = ap (λ n. end_lines n ys) (omega arith)
end_lines-append at (rec ∷ xs) ys =
    let size : (at + size_of rec) + length (units_of xs) ≡ at + length (units_of (rec ∷ xs)) =
    omega (arith, length-append (spelling rec) (units_of xs)) in
    ap (λ text. end_line (at + size_of rec) rec ++ text) (end_lines-append (at + size_of rec) xs ys)
    ∙ sym (append_assoc (end_line (at + size_of rec) rec) (end_lines (at + size_of rec) xs)
    (end_lines ((at + size_of rec) + length (units_of xs)) ys))
    ∙ ap (λ n. end_lines at (rec ∷ xs) ++ end_lines n ys) size

pub text_of-append : (voice : Voice) (at : ℕ) (xs ys : List Rec) → text_of voice at (xs ++ ys) ≡ text_of voice at xs
    ++ text_of voice (at + length (units_of xs)) ys
text_of-append Lines at xs ys = end_lines-append at xs ys
text_of-append Count at xs ys = refl

pub done_in-append : (xs ys : List Rec) → done_in (xs ++ ys) ≡ done_in xs + done_in ys
done_in-append [] ys = omega arith
done_in-append (rec ∷ xs) ys = omega (arith, done_in-append xs ys)

pub refused_in-append : (xs ys : List Rec) → refused_in (xs ++ ys) ≡ refused_in xs + refused_in ys
refused_in-append [] ys = omega arith
refused_in-append (rec ∷ xs) ys = omega (arith, refused_in-append xs ys)

pub counted-append : (tally : Tally) (xs ys : List Rec) → counted tally (xs ++ ys) ≡ counted (counted tally xs) ys
counted-append tally xs ys i = record {
  done = (ap (λ n. tally.done + n) (done_in-append xs ys) ∙ sum tally.done (done_in xs) (done_in ys)) i;
  refused = (ap (λ n. tally.refused + n) (refused_in-append xs ys) ∙ sum tally.refused (refused_in xs) (refused_in ys)) i;
}
  where
    sum : (a b c : ℕ) → a + (b + c) ≡ (a + b) + c
    sum a b c = omega arith

pub lines_in-append : (voice : Voice) (xs ys : List Rec) → lines_in voice (xs ++ ys) ≡ lines_in voice xs + lines_in voice ys
lines_in-append Lines xs ys = omega (arith, done_in-append xs ys, refused_in-append xs ys)
lines_in-append Count xs ys = refl

-- of one record
pub text_of-one_record : (voice : Voice) (at : ℕ) (rec : Rec) → text_of voice at (rec ∷ []) ≡ line_said voice (at + size_of rec) rec
text_of-one_record Lines at rec = append-nil (end_line (at + size_of rec) rec)
text_of-one_record Count at rec = refl

pub lines_in-one_record : (voice : Voice) (rec : Rec) → lines_in voice (rec ∷ []) ≡ count_said voice rec
lines_in-one_record Lines rec = omega arith
lines_in-one_record Count rec = refl
