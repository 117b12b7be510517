-- Texts of balances.
use Rattle.std.proofs.Common.{◌≡◌, ◌<◌, ◌≤◌, ◌∙◌, sym, refl, ap, ℕ, List, [], ◌∷◌, ◌++◌, length, map, drop, arith, All, get_or, length-append, append_assoc, ⊎_elim, subst, append-nil}
use Rattle.std.proofs.lemmas.List.Elements.{All-head, All-tail}
use Rattle.std.proofs.lemmas.List.{length-map, map_push}
use Rattle.std.proofs.lemmas.Fmt.{decimal_injective}
use Rattle.lsn_space.specs.Number.{number_text}
use Rattle.log_record.specs.Spelling.{IsBalance}
use Rattle.lsn_space.specs.declared.opening.TheConstants.{MOST_ACCOUNTS}
use Rattle.txn_script.specs.Lines.{lines}
use Rattle.txn_script.specs.Balances.{IsBalancesText, IsBalanceLine, BeginsOutside, IsFirstBadBalance}

-- numbers with the same texts are the same
numbers-same : (ms ns : List ℕ) → All IsBalance ms → All IsBalance ns → map number_text ms ≡ map number_text ns → ms ≡ ns
numbers-same [] [] each_m each_n same = refl
numbers-same [] (n ∷ ns) each_m each_n same = absurd (omega (arith, ap length same))
numbers-same (m ∷ ms) [] each_m each_n same = absurd (omega (arith, ap length same))
numbers-same (m ∷ ms) (n ∷ ns) each_m each_n same =
    let small_m : IsBalance m = All-head IsBalance m ms each_m in
    let small_n : IsBalance n = All-head IsBalance n ns each_n in
    let head : m ≡ n = decimal_injective m n (omega arith) (omega arith) (ap (λ texts. get_or texts 0 []) same) in
    let tail : ms ≡ ns = numbers-same ms ns (All-tail IsBalance m ms each_m) (All-tail IsBalance n ns each_n) (ap (drop 1) same) in
    rw (head, tail) refl

pub balances-same : (bytes ms ns : List ℕ) → IsBalancesText bytes ms → IsBalancesText bytes ns → ms ≡ ns
balances-same bytes ms ns of_m of_n = numbers-same ms ns of_m.each of_n.each (sym of_m.text ∙ of_n.text)

-- behind fewer balances than the lines begin with stands one more
next-balance : (ms ns : List ℕ) (x y : List (List ℕ)) → All IsBalance ns → map number_text ms ++ x ≡ map number_text ns ++ y
    → length ms < length ns → (line : List ℕ) × (more : List (List ℕ)) × IsBalanceLine line × (x ≡ line ∷ more)
next-balance ms [] x y each same fewer = absurd (omega arith)
next-balance [] (n ∷ ns) x y each same fewer = (number_text n, map number_text ns ++ y, (n, All-head IsBalance n ns each, refl), same)
next-balance (m ∷ ms) (n ∷ ns) x y each same fewer =
    next-balance ms ns x y (All-tail IsBalance n ns each) (ap (drop 1) same) (omega arith)

-- a balance for which there is room isn't outside
not_outside : (before : ℕ) (rest more : List (List ℕ)) (line : List ℕ) → before < MOST_ACCOUNTS → IsBalanceLine line → rest ≡ line ∷ more
    → BeginsOutside before rest → ⊥
not_outside before rest more line room balance is outside =
    ⊎_elim (λ full. omega arith) (λ bad. bad balance) (subst (BeginsOutside before) is outside)

-- so no more balances than those before the first line outside stand at the start
no_more : (bytes ns : List ℕ) (line : ℕ) (y : List (List ℕ)) (bad : IsFirstBadBalance bytes line) → All IsBalance ns
    → length ns ≤ MOST_ACCOUNTS → lines bytes ≡ map number_text ns ++ y → length bad.before < length ns → ⊥
no_more bytes ns line y bad each most text fewer =
    let next = next-balance bad.before ns bad.rest y each (sym bad.text ∙ text) fewer in
    not_outside (length bad.before) bad.rest next.1 next.0 (omega arith) next.2 next.3 bad.outside

pub bad_line-same : (bytes : List ℕ) (a b : ℕ) → IsFirstBadBalance bytes a → IsFirstBadBalance bytes b → a ≡ b
bad_line-same bytes a b of_a of_b =
    let not_less = no_more bytes of_b.before a of_b.rest of_a of_b.each of_b.most of_b.text in
    let not_more = no_more bytes of_a.before b of_a.rest of_b of_a.each of_a.most of_a.text in
    omega (arith, not_less, not_more, of_a.at, of_b.at)

-- where all lines are balances, none is left outside
none_left : (ns before : List ℕ) (rest : List (List ℕ)) → 0 < length ns → map number_text ns ≡ map number_text before ++ rest
    → (length before < length ns → ⊥) → BeginsOutside (length before) rest → ⊥
none_left ns before [] some same not_less outside = omega (arith, not_less, outside)
none_left ns before (line ∷ more) some same not_less outside =
    omega (
      arith,
      not_less,
      ap length same,
      length-append (map number_text before) (line ∷ more),
      length-map ns number_text,
      length-map before number_text,
    )

pub balances_text-no_bad_line : (bytes ns : List ℕ) (line : ℕ) → IsBalancesText bytes ns → IsFirstBadBalance bytes line → ⊥
balances_text-no_bad_line bytes ns line all bad =
    let whole : lines bytes ≡ map number_text ns ++ [] = all.text ∙ sym (append-nil (map number_text ns)) in
    let not_less = no_more bytes ns line [] bad all.each all.most whole in
    none_left ns bad.before bad.rest all.some (sym all.text ∙ bad.text) not_less bad.outside

-- one more balance, read from the first of the lines that are left
pub lines_read-push : (bytes read : List ℕ) (n : ℕ) (line rest after : List ℕ) → lines bytes ≡ map number_text read ++ lines rest
    → lines rest ≡ line ∷ lines after → line ≡ number_text n → lines bytes ≡ map number_text (read ++ n ∷ []) ++ lines after
lines_read-push bytes read n line rest after text first is =
    text ∙ rw (first, is, map_push number_text read n) (sym (append_assoc (map number_text read) (number_text n ∷ []) (lines after)))
