use Rattle.std.proofs.Common.{◌∙◌, ap, codes, unwrap_or, []}
use Rattle.clap.proofs.WalkLemmas.{first_value-rows}
use Rattle.clap.specs.Words.{found_of}
use Rattle.command_line.proofs.Facts.{unwrap_or-text}
use Rattle.command_line.proofs.parsing.log_of.Goals as goal

pub returns-in-Ok : goal.returns-in-Ok
returns-in-Ok c =
    let text = ap (λ o. unwrap_or o []) (c.get_str.ensures ∙ first_value-rows (found_of c.args.found.now) (codes "LOG")) in
    c.in-Ok.ensures ∙ ap (λ t. t.now) c.unwrap_or.ensures ∙ unwrap_or-text c.get_str.result _ ∙ text
