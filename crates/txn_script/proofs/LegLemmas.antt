-- The legs of a transfer are told apart, and from what follows them, in one way.
use Rattle.std.proofs.Common.{◌≡◌, ◌<◌, ◌^◌, ◌∙◌, sym, refl, ap, subst, ℕ, List, [], ◌∷◌, ◌++◌, append_assoc, append-nil, length, length-append, arith, All}
use Rattle.std.specs.List.{AllByRecursion}
use Rattle.std.proofs.lemmas.List.Concat.{flat_map-append}
use Rattle.std.proofs.lemmas.List.Elements.{All-head}
use Rattle.std.proofs.lemmas.Fmt.{decimal_nonempty}
use Rattle.lsn_space.specs.Number.{number_text}
use Rattle.txn_script.specs.declared.pay.TheConstants.{SPACE}
use Rattle.txn_script.specs.Reading.{IsDigit, EndsNumber, BeginsLeg, EndsLegs}
use Rattle.txn_script.specs.Script.{spaced, leg_text, legs_text, IsAllowedLeg, AreAllowedLegs}
use Rattle.txn_script.proofs.NumberLemmas.{number-digits, spaced-append_injective, space-no_digit}

-- the parts of a leg, one after another
pub leg_text-spaced : (leg : ℕ × ℕ × ℕ) (rest : List ℕ) → leg_text leg ++ rest ≡ spaced leg.0 ++ (spaced leg.1 ++ (spaced leg.2 ++ rest))
leg_text-spaced leg rest =
    append_assoc (spaced leg.0 ++ spaced leg.1) (spaced leg.2) rest ∙ append_assoc (spaced leg.0) (spaced leg.1) (spaced leg.2 ++ rest)

pub all-push : {X : Type 0} (P : X → Type 0) (xs : List X) (x : X) → AllByRecursion P xs → P x → AllByRecursion P (xs ++ x ∷ [])
all-push P [] x all p = (p, tt)
all-push P (first ∷ xs) x all p = (all.0, all-push P xs x all.1 p)

-- one leg more was read
pub legs_text-push : (bytes rest after : List ℕ) (legs : List (ℕ × ℕ × ℕ)) (leg : ℕ × ℕ × ℕ) → bytes ≡ legs_text legs ++ rest
    → rest ≡ leg_text leg ++ after → bytes ≡ legs_text (legs ++ leg ∷ []) ++ after
legs_text-push bytes rest after legs leg text next =
    text ∙ ap (λ more. legs_text legs ++ more) next ∙ sym (append_assoc (legs_text legs) (leg_text leg) after)
    ∙ ap (λ all. all ++ after) (ap (λ last. legs_text legs ++ last) (sym (append-nil (leg_text leg)))
    ∙ sym (flat_map-append leg_text legs (leg ∷ [])))

module _ (accounts : ℕ) (few : accounts < 2 ^ 32) where
  -- the parts of a leg are read in turn
  module _ (leg : ℕ × ℕ × ℕ) (rest : List ℕ) (allowed : IsAllowedLeg accounts leg) (end : EndsNumber rest) where
    pub read_payer-same : (bytes after : List ℕ) (payer : ℕ) → payer < 2 ^ 32 → EndsNumber after → bytes ≡ spaced payer ++ after
        → bytes ≡ leg_text leg ++ rest → (payer ≡ leg.0) × (after ≡ spaced leg.1 ++ (spaced leg.2 ++ rest))
    read_payer-same bytes after payer small whole read same =
        spaced-append_injective payer leg.0 after (spaced leg.1 ++ (spaced leg.2 ++ rest)) small (omega (arith, allowed.payer)) whole
        space-no_digit (sym read ∙ same ∙ leg_text-spaced leg rest)

    pub read_payee-same : (bytes after : List ℕ) (payee : ℕ) → payee < 2 ^ 32 → EndsNumber after → bytes ≡ spaced payee ++ after
        → bytes ≡ spaced leg.1 ++ (spaced leg.2 ++ rest) → (payee ≡ leg.1) × (after ≡ spaced leg.2 ++ rest)
    read_payee-same bytes after payee small whole read same =
        spaced-append_injective payee leg.1 after (spaced leg.2 ++ rest) small (omega (arith, allowed.payee)) whole space-no_digit (sym read ∙ same)

    pub read_amount-same : (bytes after : List ℕ) (amount : ℕ) → amount < 2 ^ 32 → EndsNumber after → bytes ≡ spaced amount ++ after
        → bytes ≡ spaced leg.2 ++ rest → (amount ≡ leg.2) × (after ≡ rest)
    read_amount-same bytes after amount small whole read same =
        spaced-append_injective amount leg.2 after rest small (omega (arith, allowed.most)) whole end (sym read ∙ same)

  leg-whole : (l m : ℕ × ℕ × ℕ) (x y : List ℕ) → IsAllowedLeg accounts l → IsAllowedLeg accounts m → EndsNumber x → EndsNumber y
      → leg_text l ++ x ≡ leg_text m ++ y → (l ≡ m) × (x ≡ y)
  leg-whole l m x y allowed_l allowed_m end_x end_y same =
      let payer = read_payer-same m y allowed_m end_y (leg_text l ++ x) (spaced l.1 ++ (spaced l.2 ++ x)) l.0 (omega (arith, allowed_l.payer))
      space-no_digit (leg_text-spaced l x) same in
      let payee = read_payee-same m y allowed_m end_y (spaced l.1 ++ (spaced l.2 ++ x)) (spaced l.2 ++ x) l.1 (omega (arith, allowed_l.payee))
      space-no_digit refl payer.1 in
      let amount = read_amount-same m y allowed_m end_y (spaced l.2 ++ x) x l.2 (omega (arith, allowed_l.most)) end_x refl payee.1 in
      ((λ i. (payer.0 i, payee.0 i, amount.0 i)), amount.1)

  begins : (ds more : List ℕ) → 0 < length ds → All IsDigit ds → BeginsLeg (SPACE ∷ ds ++ more)
  begins [] more some all = absurd (omega arith)
  begins (d ∷ ds) more some all = (refl, All-head IsDigit d ds all)

  pub leg-begins : (leg : ℕ × ℕ × ℕ) (rest : List ℕ) → IsAllowedLeg accounts leg → BeginsLeg (leg_text leg ++ rest)
  leg-begins leg rest allowed =
      subst BeginsLeg (sym (leg_text-spaced leg rest))
      (begins (number_text leg.0) (spaced leg.1 ++ (spaced leg.2 ++ rest)) (decimal_nonempty leg.0 (omega (arith, allowed.payer)))
      (number-digits leg.0 (omega (arith, allowed.payer))))

  legs-end : (legs : List (ℕ × ℕ × ℕ)) (rest : List ℕ) → EndsNumber rest → EndsNumber (legs_text legs ++ rest)
  legs-end [] rest end = end
  legs-end (leg ∷ legs) rest end = space-no_digit

  -- some of the legs of a line were read: the others follow
  pub legs-front : (ls ms : List (ℕ × ℕ × ℕ)) (x y : List ℕ) → AllByRecursion (IsAllowedLeg accounts) ls → AllByRecursion (IsAllowedLeg accounts) ms
      → (0 < length ls → EndsNumber x) → EndsLegs y → legs_text ls ++ x ≡ legs_text ms ++ y
      → (more : List (ℕ × ℕ × ℕ)) × (ms ≡ ls ++ more) × AllByRecursion (IsAllowedLeg accounts) more × (x ≡ legs_text more ++ y)
  legs-front [] ms x y all_l all_m end ends same = (ms, refl, all_m, same)
  legs-front (l ∷ ls) [] x y all_l all_m end ends same =
      absurd (ends.leg (subst BeginsLeg (sym (append_assoc (leg_text l) (legs_text ls) x) ∙ same)
      (leg-begins l (legs_text ls ++ x) all_l.0)))
  legs-front (l ∷ ls) (m ∷ ms) x y all_l all_m end ends same =
      let first = leg-whole l m (legs_text ls ++ x) (legs_text ms ++ y) all_l.0
      all_m.0 (legs-end ls x (end (omega arith))) (legs-end ms y ends.number)
      (sym (append_assoc (leg_text l) (legs_text ls) x) ∙ same ∙ append_assoc (leg_text m) (legs_text ms) y) in
      let others = legs-front ls ms x y all_l.1 all_m.1
      (λ some. end (omega arith)) ends first.1 in
      (others.0, (λ i. sym first.0 i ∷ others.1 i), others.2, others.3)

  -- where one more leg comes next, it is one of the line's
  pub legs_text-next_leg : (ls ms : List (ℕ × ℕ × ℕ)) (x y : List ℕ) → AllByRecursion (IsAllowedLeg accounts) ls → AllByRecursion (IsAllowedLeg accounts) ms
      → (0 < length ls → EndsNumber x) → EndsLegs y → legs_text ls ++ x ≡ legs_text ms ++ y → BeginsLeg x
      → (leg : ℕ × ℕ × ℕ) × (rest : List ℕ) × IsAllowedLeg accounts leg × EndsNumber rest × (x ≡ leg_text leg ++ rest) × (length ls < length ms)
  legs_text-next_leg ls ms x y all_l all_m end ends same begun =
      let front = legs-front ls ms x y all_l all_m end ends same in
      from_front front.0 front.1 front.2 front.3
    where
      from_front : (more : List (ℕ × ℕ × ℕ)) → ms ≡ ls ++ more → AllByRecursion (IsAllowedLeg accounts) more → x ≡ legs_text more ++ y
          → (leg : ℕ × ℕ × ℕ) × (rest : List ℕ) × IsAllowedLeg accounts leg × EndsNumber rest × (x ≡ leg_text leg ++ rest) × (length ls < length ms)
      from_front [] all allowed is = absurd (ends.leg (subst BeginsLeg is begun))
      from_front (leg ∷ more) all allowed is = (
        leg,
        legs_text more ++ y,
        allowed.0,
        legs-end more y ends.number,
        is ∙ append_assoc (leg_text leg) (legs_text more) y,
        omega (arith, ap length all, length-append ls (leg ∷ more)),
      )

  pub legs-begin : (legs : List (ℕ × ℕ × ℕ)) (rest : List ℕ) → AreAllowedLegs accounts legs → BeginsLeg (legs_text legs ++ rest)
  legs-begin [] rest allowed = absurd (omega (arith, allowed.some))
  legs-begin (leg ∷ legs) rest allowed =
      subst BeginsLeg (sym (append_assoc (leg_text leg) (legs_text legs) rest))
      (leg-begins leg (legs_text legs ++ rest) allowed.each.0)

  -- the legs of a line are told apart in one way
  pub legs_text-append_injective : (ls ms : List (ℕ × ℕ × ℕ)) (x y : List ℕ) → AreAllowedLegs accounts ls → AreAllowedLegs accounts ms
      → EndsLegs x → EndsLegs y → legs_text ls ++ x ≡ legs_text ms ++ y → (ls ≡ ms) × (x ≡ y)
  legs_text-append_injective ls ms x y allowed_l allowed_m ends_x ends_y same =
      let front = legs-front ls ms x y allowed_l.each allowed_m.each (λ some. ends_x.number) ends_y same in
      from_front front.0 front.1 front.2 front.3
    where
      from_front : (more : List (ℕ × ℕ × ℕ)) → ms ≡ ls ++ more → AllByRecursion (IsAllowedLeg accounts) more → x ≡ legs_text more ++ y
          → (ls ≡ ms) × (x ≡ y)
      from_front [] all allowed is = (sym (append-nil ls) ∙ sym all, is)
      from_front (leg ∷ more) all allowed is =
          absurd (ends_x.leg (subst BeginsLeg (sym (is ∙ append_assoc (leg_text leg) (legs_text more) y))
          (leg-begins leg (legs_text more ++ y) allowed.0)))
