use Rattle.cli_demo.proofs.SummaryLemmas.{summary_of-summary_text, opening-generated, opening-end}
use Rattle.cli_laws.proofs.laws.summary_in_any_order.Goals as goal

pub returns-clause-text : goal.returns-clause-text
returns-clause-text c = λ n seed first base records rows ran.
    summary_of-summary_text n seed first base records rows ran.few ran.opens ran.serial ran.kept ran.start

pub returns-clause-opening : goal.returns-clause-opening
returns-clause-opening c = opening-generated

pub returns-clause-start : goal.returns-clause-start
returns-clause-start c = opening-end
