use Rattle.txn_script.proofs.ScriptLemmas.{jobs-same, bad_line-same, script_text-no_bad_line}
use Rattle.txn_script.proofs.script.script_one_reading.Goals as goal

pub returns : goal.returns
returns c = record { jobs = jobs-same; line = bad_line-same; apart = script_text-no_bad_line }
