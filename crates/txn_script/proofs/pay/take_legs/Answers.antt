use Rattle.std.proofs.Common.{◌≡◌, ◌∙◌, sym, refl, ap, subst, true≢false, ◌++◌, ◌∷◌, [], length, length-append, arith}
use Rattle.std.proofs.lemmas.Bool.{eqb-true}
use Rattle.std.proofs.lemmas.List.{nil_from_length}
use Rattle.txn_script.specs.Reading.{BeginsLeg}
use Rattle.txn_script.specs.Script.{legs_text, IsAllowedLeg}
use Rattle.txn_script.proofs.LegLemmas.{legs_text-next_leg, legs-begin, legs_text-push, all-push}
use Rattle.txn_script.proofs.pay.take_legs.Goals as goal

pub returns-then-as_slice-from-clause-none : goal.returns-then-as_slice-from-clause-none
returns-then-as_slice-from-clause-none c = λ legs rest allowed ends same.
    let before = c.legs.invariant in
    let next = legs_text-next_leg c.args.accounts c.ranges.accounts.fits c.legs.legs legs c.legs.rest.now rest before.each allowed.each before.whole
    ends (sym before.text ∙ same) (c.legs-test.ensures.0 refl) in
    let full : length c.legs.legs ≡ 8 = sym (ap length c.as_slice.ensures.legs) ∙ c.if-as_slice-from.true ∙ c.from.ensures in
    omega (arith, next.5, allowed.few, full)

pub returns-in_err-leg-clause-none : goal.returns-in_err-leg-clause-none
returns-in_err-leg-clause-none c = rw (c.from_residual.ensures) (λ legs rest allowed ends same.
    let before = c.legs.invariant in
    let next = legs_text-next_leg c.args.accounts c.ranges.accounts.fits c.legs.legs legs c.legs.rest.now rest before.each allowed.each before.whole
    ends (sym before.text ∙ same) (c.legs-test.ensures.0 refl) in
    c.in_err-leg.ensures.none next.0 next.1 next.2 next.3 next.4)

pub legs-preserved : goal.legs-preserved
legs-preserved c =
    let before = c.legs.invariant in
    let taken = c.in_ok-leg.ensures in
    rw (c.push.ensures, c.from-in-legs.ensures) (record {
      few = omega (
        arith,
        before.few,
        length-append c.legs.legs (c.in_ok-leg.leg ∷ []),
        ap length c.as_slice.ensures.legs,
        c.if-as_slice-from.false,
        c.from.ensures,
      );
      each = all-push (IsAllowedLeg c.args.accounts) c.legs.legs c.in_ok-leg.leg before.each taken.allowed;
      whole = λ some. taken.whole;
      text = legs_text-push c.args.bytes.now c.legs.rest.now c.in_ok-leg.after.now c.legs.legs c.in_ok-leg.leg before.text taken.text;
    })

pub returns-then-is_empty-clause-none : goal.returns-then-is_empty-clause-none
returns-then-is_empty-clause-none c = λ legs rest allowed ends same.
    let before = c.legs.invariant in
    let count : length c.as_slice-2.result.now ≡ 0 = eqb-true _ _ (sym c.if-is_empty.ensures) in
    let none : c.legs.legs ≡ [] = nil_from_length c.legs.legs (sym (ap length c.as_slice-2.ensures.legs) ∙ count) in
    let all : c.args.bytes.now ≡ c.legs.rest.now = before.text ∙ ap (λ ls. legs_text ls ++ c.legs.rest.now) none in
    let begun = legs-begin c.args.accounts c.ranges.accounts.fits legs rest allowed in
    true≢false (sym (c.legs-test.ensures.1 (subst BeginsLeg (sym same ∙ all) begun)))

pub push-requires : goal.push-requires
push-requires c = omega (arith, c.legs.invariant.few, ap length c.as_slice.ensures.legs, c.if-as_slice-from.false, c.from.ensures)
