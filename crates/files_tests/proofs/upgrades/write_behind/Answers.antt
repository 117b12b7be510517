use Rattle.std.proofs.Common.{[], ◌∷◌}
use Rattle.segment_file.specs.Log.{cut_log, with_units}
use Rattle.files_tests.proofs.upgrades.write_behind.Goals as goal

pub open_cut-requires : goal.open_cut-requires
open_cut-requires g c = record {
  underway = λ honest.
      let was = c.add_cut.ensures.honest.1 honest in
      let log = cut_log c.args.head.now in
      let units = c.args.batch.now.units in
      let begun = c.in_ok-tail.ensures.begun (c.begin_cut.ensures.honest.1 was) in
      (c.in_ok-tail-2.tail, with_units log units, units ∷ [], c.in_ok-tail-2.ensures.added was log [] begun);
}
