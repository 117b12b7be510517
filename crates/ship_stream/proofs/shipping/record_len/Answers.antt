use Rattle.std.proofs.Common.{rules, sym}
use Rattle.log_record.proofs.Fronts.{front_header-kind_and_length}
use Rattle.ship_stream.proofs.shipping.record_len.Goals as goal

pub returns : goal.returns
returns c = λ rec rest more spellable is.
    let h = c.of.result in
    sym (front_header-kind_and_length rec h.kind h.units h.field h.txn c.args.first rest more spellable (search rules) (search rules) (search rules)
    c.of.ensures is).1
