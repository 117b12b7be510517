-- The first line of a text.
use Rattle.std.proofs.Common.{◌≡◌, ◌≢◌, ◌<◌, ◌≤◌, ◌∙◌, sym, refl, ap, ℕ, zero, suc, ◌+◌, List, [], ◌∷◌, ◌++◌, append_assoc, append-nil, length, take, drop, arith, slice_index, ◌==◌, false, All}
use Rattle.std.proofs.lemmas.Bool.{ne_eqb, eqb-false}
use Rattle.std.proofs.lemmas.List.{drop-drop}
use Rattle.std.proofs.lemmas.List.Elements.{All-head, All-tail}
use Rattle.std.specs.List.{onto_first}
use Rattle.txn_script.specs.declared.lines.TheConstants.{LF}
use Rattle.txn_script.specs.Lines.{lines, ended, IsOneLine}

lines-feed : (byte : ℕ) (bytes : List ℕ) → byte ≡ LF → lines (byte ∷ bytes) ≡ [] ∷ lines bytes
lines-feed byte bytes feed = rw feed refl

lines-other : (byte : ℕ) (bytes : List ℕ) → byte ≢ LF → lines (byte ∷ bytes) ≡ onto_first byte (lines bytes)
lines-other byte bytes other = rw (ne_eqb byte LF other) refl

-- a text begins with its first line, and the lines behind it are those of the rest
lines-first : (len : ℕ) (bytes : List ℕ) → 0 < length bytes → len ≤ length bytes → All (λ byte. byte ≢ LF) (take len bytes)
    → (len < length bytes → slice_index bytes len ≡ LF) → lines bytes ≡ take len bytes ∷ lines (drop (suc len) bytes)
lines-first len [] some within before found = absurd (omega arith)
lines-first zero (byte ∷ bytes) some within before found = lines-feed byte bytes (found (omega arith))
lines-first (suc zero) (byte ∷ []) some within before found = lines-other byte [] (All-head (λ b. b ≢ LF) byte [] before)
lines-first (suc (suc len)) (byte ∷ []) some within before found = absurd (omega arith)
lines-first (suc len) (byte ∷ next ∷ bytes) some within before found =
    let rest = lines-first len (next ∷ bytes) (omega arith) (omega arith) (All-tail (λ b. b ≢ LF) byte (take len (next ∷ bytes)) before)
    (λ below. found (omega arith)) in
    lines-other byte (next ∷ bytes) (All-head (λ b. b ≢ LF) byte (take len (next ∷ bytes)) before) ∙ ap (onto_first byte) rest

-- the same, where the text was found not to be empty and was split before its first line feed
pub lines-split : (len : ℕ) (bytes line rest : List ℕ) → false ≡ (length bytes == 0) → len ≤ length bytes
    → All (λ byte. byte ≢ LF) (take len bytes) → (len < length bytes → slice_index bytes len ≡ LF) → line ≡ take len bytes
    → rest ≡ drop len bytes → lines bytes ≡ line ∷ lines (drop 1 rest)
lines-split len bytes line rest some within before found front back =
    let next : len + 1 ≡ suc len = omega arith in
    let behind : drop 1 rest ≡ drop (suc len) bytes = ap (drop 1) back ∙ drop-drop 1 len bytes ∙ ap (λ n. drop n bytes) next in
    rw (front, behind) (lines-first len bytes (omega (arith, eqb-false _ _ (sym some))) within before found)

-- a line that is ended, and then the lines of the rest
lines-ended : (line rest : List ℕ) → IsOneLine line → lines ((line ++ LF ∷ []) ++ rest) ≡ line ∷ lines rest
lines-ended [] rest one = refl
lines-ended (byte ∷ line) rest one =
    lines-other byte ((line ++ LF ∷ []) ++ rest) (All-head (λ b. b ≢ LF) byte line one)
    ∙ ap (onto_first byte) (lines-ended line rest (All-tail (λ b. b ≢ LF) byte line one))

-- one line that isn't ended
lines-open : (line : List ℕ) → IsOneLine line → 0 < length line → lines line ≡ line ∷ []
lines-open [] one some = absurd (omega arith)
lines-open (byte ∷ []) one some = lines-other byte [] (All-head (λ b. b ≢ LF) byte [] one)
lines-open (byte ∷ next ∷ line) one some =
    lines-other byte (next ∷ line) (All-head (λ b. b ≢ LF) byte (next ∷ line) one)
    ∙ ap (onto_first byte) (lines-open (next ∷ line) (All-tail (λ b. b ≢ LF) byte (next ∷ line) one) (omega arith))

-- lines that are ended, and then those of the rest
lines-all : (each : List (List ℕ)) (rest : List ℕ) → All IsOneLine each → lines (ended each ++ rest) ≡ each ++ lines rest
lines-all [] rest all = refl
lines-all (line ∷ each) rest all =
    ap lines (append_assoc (line ++ LF ∷ []) (ended each) rest)
    ∙ lines-ended line (ended each ++ rest) (All-head IsOneLine line each all)
    ∙ ap (λ more. line ∷ more) (lines-all each rest (All-tail IsOneLine line each all))

pub lines-ended_each : (each : List (List ℕ)) → All IsOneLine each → lines (ended each) ≡ each
lines-ended_each each all = ap lines (sym (append-nil (ended each))) ∙ lines-all each [] all ∙ append-nil each

pub lines-ended_and_last : (each : List (List ℕ)) (last : List ℕ) → All IsOneLine each → IsOneLine last → 0 < length last
    → lines (ended each ++ last) ≡ each ++ last ∷ []
lines-ended_and_last each last all one some = lines-all each last all ∙ ap (λ more. each ++ more) (lines-open last one some)
