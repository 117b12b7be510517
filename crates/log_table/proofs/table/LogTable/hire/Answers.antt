use Rattle.std.proofs.Common.{rules, ◌≡◌, ◌∙◌, ap, sym, subst}
use Rattle.std.specs.List.{list_any}
use lib.Dec.{eqb}
use Rattle.log_table.specs.HiredWorkers.{KnowsHired}
use Rattle.log_table.specs.Seats.{view_of, key_of}
use Rattle.log_table.proofs.Hired.{hired_numbers-lacks, KnowsHired-more, after_hire}
use Rattle.log_table.proofs.table.LogTable.hire.Goals as goal

pub split-new-requires-clause-may : goal.split-new-requires-clause-may
split-new-requires-clause-may c = record {
  flusher = c.requires.flusher_view.knows.flusher;
  new = ap (list_any (eqb c.args.worker)) c.requires.flusher_view.knows.made ∙ hired_numbers-lacks c.args.worker c.args.worker (search rules);
}

pub returns-clause-flusher_view : goal.returns-clause-flusher_view
returns-clause-flusher_view c =
    let view = view_of c.args.seat.now in
    let is : view_of c.merge.new.seat ≡ after_hire c.args.worker view = search rules in
    record {
      seat = search rules;
      knows = subst (KnowsHired (key_of c.args.self.now) _) (sym is) (KnowsHired-more _ c.args.worker view c.requires.flusher_view.knows);
    }
