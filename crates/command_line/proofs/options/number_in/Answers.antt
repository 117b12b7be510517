use Rattle.std.proofs.Common.{rules, ◌≡◌, ◌∙◌, sym, refl, Some, None}
use Rattle.clap.proofs.WalkLemmas.{first_value-rows}
use Rattle.clap.specs.Words.{found_of, rows_of, first_of}
use Rattle.command_line.proofs.options.number_in.Goals as goal

pub returns-in_ok-n-in-Some-clause-some : goal.returns-in_ok-n-in-Some-clause-some
returns-in_ok-n-in-Some-clause-some c =
    let value : first_of c.args.option.now (rows_of (found_of c.args.found.now)) ≡ Some c.as_bytes.result.now =
    sym (first_value-rows (found_of c.args.found.now) c.args.option.now) ∙ sym c.get_str.ensures ∙ search rules in
    rw value c.in_ok-n-in-Some.ensures.text

pub returns-in_err-n-in-Some-clause-none : goal.returns-in_err-n-in-Some-clause-none
returns-in_err-n-in-Some-clause-none c =
    let value : first_of c.args.option.now (rows_of (found_of c.args.found.now)) ≡ Some c.as_bytes.result.now =
    sym (first_value-rows (found_of c.args.found.now) c.args.option.now) ∙ sym c.get_str.ensures ∙ search rules in
    rw (value, c.from_residual.ensures) c.in_err-n-in-Some.ensures.none

pub returns-in-None-clause-some : goal.returns-in-None-clause-some
returns-in-None-clause-some c =
    let value : first_of c.args.option.now (rows_of (found_of c.args.found.now)) ≡ None =
    sym (first_value-rows (found_of c.args.found.now) c.args.option.now) ∙ sym c.get_str.ensures ∙ search rules in
    rw value refl
