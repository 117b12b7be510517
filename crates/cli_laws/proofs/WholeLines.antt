-- Lines that end with LF and have no other LF, in a text.
use Rattle.std.proofs.Common.{◌≡◌, ◌≢◌, ◌⊎◌, inl, inr, ⊎_elim, ◌∙◌, sym, refl, ap, ℕ, Bool, true, false, ◌==◌, if◌then◌else◌, true≢false, List, []}
use Rattle.std.proofs.Common.{◌∷◌, ◌++◌, append_assoc, length, length-append, get_or, drop, codes, arith, eq-eqb}
use Rattle.std.specs.List.{AllByRecursion}
use Rattle.txn_script.specs.declared.lines.TheConstants.{LF}
use Rattle.lsn_space.proofs.TilingLemmas.{all-append}
use Rattle.cli_laws.specs.Told.{HasLine}

-- no byte ends a line
abbrev pub HasNoFeed : List ℕ → Type 0
HasNoFeed text = AllByRecursion (λ byte. byte ≢ LF) text

-- words, and what ends their line
pub record IsWholeLine (line : List ℕ) : Type 0 where
  pub words : List ℕ
  pub one : HasNoFeed words
  pub whole : line ≡ words ++ LF ∷ []

-- ---- what whole lines are made of

abbrev pub is_one_line : List ℕ → Bool
is_one_line [] = true
is_one_line (byte ∷ bytes) = if byte == LF then false else is_one_line bytes

-- of a text that is given
pub is_one_line-no_feed : (text : List ℕ) → is_one_line text ≡ true → HasNoFeed text
is_one_line-no_feed [] one = tt
is_one_line-no_feed (byte ∷ bytes) one = by (byte == LF) refl one (is_one_line-no_feed bytes)
  where
    by : (feed : Bool) → (byte == LF) ≡ feed → (if feed then false else is_one_line bytes) ≡ true
        → (is_one_line bytes ≡ true → HasNoFeed bytes) → HasNoFeed (byte ∷ bytes)
    by true is none rest = absurd (true≢false (sym none))
    by false is more rest = (λ same. true≢false (sym (eq-eqb byte LF same) ∙ is), rest more)

pub no_feed-append : (xs ys : List ℕ) → HasNoFeed xs → HasNoFeed ys → HasNoFeed (xs ++ ys)
no_feed-append xs ys = all-append (λ byte. byte ≢ LF) xs ys

-- ---- lines that begin a text

-- one text has one first line
words-same : (xs ys more rest : List ℕ) → HasNoFeed xs → HasNoFeed ys → xs ++ LF ∷ more ≡ ys ++ LF ∷ rest → xs ≡ ys
words-same [] [] more rest one_x one_y same = refl
words-same [] (y ∷ ys) more rest one_x one_y same = absurd (one_y.0 (sym (ap (λ text. get_or text 0 0) same)))
words-same (x ∷ xs) [] more rest one_x one_y same = absurd (one_x.0 (ap (λ text. get_or text 0 0) same))
words-same (x ∷ xs) (y ∷ ys) more rest one_x one_y same =
    let head : x ≡ y = ap (λ text. get_or text 0 0) same in
    let tail = words-same xs ys more rest one_x.1 one_y.1 (ap (drop 1) same) in
    rw (head, tail) refl

-- what stands behind a line's end stands behind the first line, at once or behind another line's end
behind-first : (words rest head more : List ℕ) → HasNoFeed words → words ++ LF ∷ rest ≡ head ++ LF ∷ more
    → (rest ≡ more) ⊎ ((between : List ℕ) × (rest ≡ between ++ LF ∷ more))
behind-first [] rest [] more one same = inl (ap (drop 1) same)
behind-first [] rest (byte ∷ head) more one same = inr (head, ap (drop 1) same)
behind-first (byte ∷ words) rest [] more one same = absurd (one.0 (ap (λ text. get_or text 0 0) same))
behind-first (byte ∷ words) rest (next ∷ head) more one same = behind-first words rest head more one.1 (ap (drop 1) same)

-- ---- lines of a text

pub HasLine-nil : (line : List ℕ) → IsWholeLine line → HasLine [] line → ⊥
HasLine-nil line ends has =
    let none : 0 ≡ length (has.before ++ line ++ has.after) = ap length has.whole in
    omega (
      arith,
      length-append (has.before ++ line) has.after,
      length-append has.before line,
      ap length ends.whole,
      length-append ends.words (LF ∷ []),
    )

pub HasLine-append : (text rest line : List ℕ) → HasLine text line → HasLine (text ++ rest) line
HasLine-append text rest line has = record {
  before = has.before;
  after = has.after ++ rest;
  whole = ap (λ t. t ++ rest) has.whole ∙ append_assoc (has.before ++ line) has.after rest;
  begins = has.begins;
}

-- a line of a text is its first line, or one of the rest
module _ (first rest line : List ℕ) (is : IsWholeLine first) (ends : IsWholeLine line) (has : HasLine (first ++ rest) line) where
  text : is.words ++ LF ∷ rest ≡ has.before ++ (line ++ has.after)
  text =
      sym (ap (λ t. t ++ rest) is.whole ∙ append_assoc is.words (LF ∷ []) rest) ∙ has.whole ∙ append_assoc has.before line has.after

  at_first : has.before ≡ [] → line ≡ first
  at_first none =
      let begins : line ++ has.after ≡ ends.words ++ LF ∷ has.after =
      ap (λ t. t ++ has.after) ends.whole ∙ append_assoc ends.words (LF ∷ []) has.after in
      let same = words-same is.words ends.words rest has.after is.one ends.one (text ∙ ap (λ t. t ++ (line ++ has.after)) none ∙ begins) in
      ends.whole ∙ ap (λ t. t ++ LF ∷ []) (sym same) ∙ sym is.whole

  at_once : rest ≡ line ++ has.after → HasLine rest line
  at_once same = record { before = []; after = has.after; whole = same; begins = inl refl }

  later : (between : List ℕ) → rest ≡ between ++ LF ∷ (line ++ has.after) → HasLine rest line
  later between same = record {
    before = between ++ LF ∷ [];
    after = has.after;
    whole = same ∙ sym (append_assoc between (LF ∷ []) (line ++ has.after)) ∙ sym (append_assoc (between ++ LF ∷ []) line has.after);
    begins = inr (between, refl);
  }

  in_rest : (head : List ℕ) → has.before ≡ head ++ codes "\n" → HasLine rest line
  in_rest head feed = ⊎_elim at_once (λ found. later found.0 found.1) (behind-first is.words rest head (line ++ has.after) is.one
      (text ∙ ap (λ t. t ++ (line ++ has.after)) feed ∙ append_assoc head (LF ∷ []) (line ++ has.after)))

  pub HasLine-first : (line ≡ first) ⊎ HasLine rest line
  HasLine-first = ⊎_elim (λ none. inl (at_first none)) (λ split. inr (in_rest split.0 split.1)) has.begins
