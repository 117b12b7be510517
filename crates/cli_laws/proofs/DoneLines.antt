-- The lines that a run writes: each is whole, and a `done` line is no other and of one transaction and one LSN.
use Rattle.std.proofs.Common.{◌≡◌, ◌<◌, ◌^◌, ◌∙◌, sym, refl, ap, ℕ, List, [], ◌∷◌, ◌++◌, append_assoc, get_or, drop, codes, arith, All}
use Rattle.std.specs.List.{AllByRecursion}
use Rattle.std.proofs.lemmas.List.Elements.{All-head, recursion_from_All}
use Rattle.lsn_space.specs.Number.{number_text}
use Rattle.log_recovery.specs.Text.{lsn_line, account_line}
use Rattle.txn_script.specs.declared.lines.TheConstants.{LF}
use Rattle.txn_script.specs.declared.pay.TheConstants.{SPACE}
use Rattle.txn_script.specs.Reading.{IsDigit}
use Rattle.txn_script.proofs.NumberLemmas.{digits-append_injective, space-no_digit}
use Rattle.commit_pipeline.specs.EndLines.{done_line, short_line, over_line}
use Rattle.cli_laws.proofs.NumberTexts.{number-digits, number_text-injective}
use Rattle.cli_laws.proofs.WholeLines.{HasNoFeed, IsWholeLine, is_one_line-no_feed, no_feed-append}

-- ---- each line is whole

digits-no_feed : (digits : List ℕ) → All IsDigit digits → HasNoFeed digits
digits-no_feed digits all = each digits (recursion_from_All IsDigit digits all)
  where
    each : (digits : List ℕ) → AllByRecursion IsDigit digits → HasNoFeed digits
    each [] all = tt
    each (digit ∷ more) all = ((λ same. omega (arith, all.0.0)), each more all.1)

words-number : (words : List ℕ) (n : ℕ) → HasNoFeed words → HasNoFeed (words ++ number_text n)
words-number words n one = no_feed-append words (number_text n) one (digits-no_feed (number_text n) (number-digits n))

space-after : (words : List ℕ) → HasNoFeed words → HasNoFeed (words ++ codes " ")
space-after words one = no_feed-append words (codes " ") one (is_one_line-no_feed (codes " ") refl)

-- a line of these words and two numbers
pair-whole : (words : List ℕ) (m n : ℕ) → HasNoFeed words → IsWholeLine (words ++ number_text m ++ codes " " ++ number_text n ++ codes "\n")
pair-whole words m n one = record {
  words = words ++ number_text m ++ codes " " ++ number_text n;
  one = words-number (words ++ number_text m ++ codes " ") n (space-after (words ++ number_text m) (words-number words m one));
  whole = refl;
}

pub done-whole : (txn end : ℕ) → IsWholeLine (done_line txn end)
unfolding done_line
done-whole txn end = pair-whole (codes "done ") txn end (is_one_line-no_feed (codes "done ") refl)

pub short-whole : (txn leg end : ℕ) → IsWholeLine (short_line txn leg end)
unfolding short_line
short-whole txn leg end = pair-whole (codes "short " ++ number_text txn ++ codes " ") leg end
    (space-after (codes "short " ++ number_text txn) (words-number (codes "short ") txn (is_one_line-no_feed (codes "short ") refl)))

pub over-whole : (txn leg end : ℕ) → IsWholeLine (over_line txn leg end)
unfolding over_line
over-whole txn leg end = pair-whole (codes "over " ++ number_text txn ++ codes " ") leg end
    (space-after (codes "over " ++ number_text txn) (words-number (codes "over ") txn (is_one_line-no_feed (codes "over ") refl)))

pub lsn-whole : (lsn : ℕ) → IsWholeLine (lsn_line lsn)
unfolding lsn_line
lsn-whole lsn = record {
  words = codes "lsn " ++ number_text lsn;
  one = words-number (codes "lsn ") lsn (is_one_line-no_feed (codes "lsn ") refl);
  whole = refl;
}

pub account-whole : (account balance : ℕ) → IsWholeLine (account_line account balance)
unfolding account_line
account-whole account balance = pair-whole [] account balance tt

-- ---- which line it is

pub done-short : (txn end other leg at : ℕ) → done_line txn end ≡ short_line other leg at → ⊥
unfolding done_line short_line
done-short txn end other leg at same = omega (arith, ap (λ text. get_or text 0 0) same)

pub done-over : (txn end other leg at : ℕ) → done_line txn end ≡ over_line other leg at → ⊥
unfolding done_line over_line
done-over txn end other leg at same = omega (arith, ap (λ text. get_or text 0 0) same)

pub done-lsn : (txn end lsn : ℕ) → done_line txn end ≡ lsn_line lsn → ⊥
unfolding done_line lsn_line
done-lsn txn end lsn same = omega (arith, ap (λ text. get_or text 0 0) same)

pub done-account : (txn end account balance : ℕ) → done_line txn end ≡ account_line account balance → ⊥
unfolding done_line account_line
done-account txn end account balance same = by (number_text account) (number-digits account) same
  where
    by : (digits : List ℕ) → All IsDigit digits → done_line txn end ≡ digits ++ codes " " ++ number_text balance ++ codes "\n" → ⊥
    by [] all is = omega (arith, ap (λ text. get_or text 0 0) is)
    by (digit ∷ more) all is = omega (arith, ap (λ text. get_or text 0 0) is, (All-head IsDigit digit more all).1)

-- two numbers of a line, from the first on
numbers-split : (m n : ℕ) → number_text m ++ codes " " ++ number_text n ++ codes "\n" ≡ number_text m ++ SPACE ∷ (number_text n ++ LF ∷ [])
numbers-split m n =
    append_assoc (number_text m ++ codes " ") (number_text n) (codes "\n")
    ∙ append_assoc (number_text m) (codes " ") (number_text n ++ codes "\n")

-- one line is of one transaction and one LSN
pub done-injective : (t e txn end : ℕ) → t < 2 ^ 32 → e < 2 ^ 32 → done_line txn end ≡ done_line t e → (t ≡ txn) × (e ≡ end)
unfolding done_line
done-injective t e txn end small_t small_e same =
    let txns = digits-append_injective (number_text t) (number_text txn) (SPACE ∷ (number_text e ++ LF ∷ [])) (SPACE ∷ (number_text end ++ LF ∷ []))
    (number-digits t) (number-digits txn) space-no_digit space-no_digit (sym (numbers-split t e) ∙ ap (drop 5) (sym same) ∙ numbers-split txn end) in
    let ends = digits-append_injective (number_text e) (number_text end) (LF ∷ []) (LF ∷ []) (number-digits e) (number-digits end)
    (λ digit. omega (arith, digit.0)) (λ digit. omega (arith, digit.0)) (ap (drop 1) txns.1) in
    (number_text-injective t txn small_t txns.0, number_text-injective e end small_e ends.0)
