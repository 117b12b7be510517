use Rattle.own_records.proofs.Readings.{spelled-of_parts}
use Rattle.own_records.proofs.record.split_text.Goals as goal

pub returns-clause-whole : goal.returns-clause-whole
returns-clause-whole c =
    spelled-of_parts c.args.bytes.now c.in_ok-text.text.now c.in_ok-text.after.now _ c.in_ok-text.ensures.whole c.in_ok-text.ensures.counted.2
