use Rattle.std.proofs.Common.{rules, ◌≡◌, ◌∙◌, sym, codes, Some, None}
use Rattle.clap.proofs.WalkLemmas.{first_value-rows}
use Rattle.clap.specs.Words.{found_of, rows_of, first_of}
use Rattle.command_line.proofs.OptionLemmas.{flag-some, flag-none}
use Rattle.command_line.proofs.options.flag_in.Goals as goal

pub returns-in-Some : goal.returns-in-Some
returns-in-Some c =
    let value : first_of c.args.flag.now (rows_of (found_of c.args.found.now)) ≡ Some c.in-Some.text.now =
    sym (first_value-rows (found_of c.args.found.now) c.args.flag.now) ∙ sym c.get_str.ensures ∙ search rules in
    rw value (flag-some _ c.in-Some.text.now (codes "true") (search rules))

pub returns-in-None : goal.returns-in-None
returns-in-None c =
    let value : first_of c.args.flag.now (rows_of (found_of c.args.found.now)) ≡ None =
    sym (first_value-rows (found_of c.args.found.now) c.args.flag.now) ∙ sym c.get_str.ensures ∙ search rules in
    rw value (flag-none (codes "true"))
