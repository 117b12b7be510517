use Rattle.std.proofs.Common.{rules, ◌≡◌, ◌∙◌, ap, refl, sym, Some, None}
use Rattle.clap.proofs.WalkLemmas.{first_value-rows}
use Rattle.clap.specs.Words.{found_of, rows_of, first_of}
use Rattle.command_line.proofs.OptionLemmas.{given-no_number, given-none}
use Rattle.command_line.proofs.options.given_in.Goals as goal

pub returns-in-Some-number-clause-ok : goal.returns-in-Some-number-clause-ok
returns-in-Some-number-clause-ok c =
    let value : first_of c.args.argument.now (rows_of (found_of c.args.found.now)) ≡ Some c.as_bytes.result.now =
    sym (first_value-rows (found_of c.args.found.now) c.args.argument.now) ∙ sym c.get_str.ensures ∙ search rules in
    (c.in-Some-number.ensures.most, value ∙ ap Some c.in-Some-number.ensures.text)

pub returns-in-None-clause-err : goal.returns-in-None-clause-err
returns-in-None-clause-err c =
    let value : first_of c.args.argument.now (rows_of (found_of c.args.found.now)) ≡ Some c.as_bytes.result.now =
    sym (first_value-rows (found_of c.args.found.now) c.args.argument.now) ∙ sym c.get_str.ensures ∙ search rules in
    (refl, λ n is. given-no_number _ c.args.most c.in-None.ensures.none n is.0 (sym value ∙ is.1))

pub returns-in_default-clause-err : goal.returns-in_default-clause-err
returns-in_default-clause-err c =
    let value : first_of c.args.argument.now (rows_of (found_of c.args.found.now)) ≡ None =
    sym (first_value-rows (found_of c.args.found.now) c.args.argument.now) ∙ sym c.get_str.ensures ∙ search rules in
    (refl, λ n is. given-none n (sym value ∙ is.1))
