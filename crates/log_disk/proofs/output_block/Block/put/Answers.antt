use Rattle.std.proofs.Common.{◌++◌, refl, rules}
use Rattle.std.proofs.lemmas.Result.{err_from_is_err_and}
use Rattle.log_disk.proofs.Blocks.{AppendsPart-append}
use Rattle.log_disk.proofs.output_block.Block.put.Goals as goal

pub returns-in_err-make_room : goal.returns-in_err-make_room
returns-in_err-make_room g c =
    let failed = err_from_is_err_and c.from_residual.result c.from_residual.ensures.1 in
    let waiting = c.args.self.now in
    let room = c.in_err-make_room.ensures.appends in
    rw failed.1 record {
      all = tt;
      prefix = AppendsPart-append _ _ (waiting ++ c.args.piece.now) waiting c.args.piece.now room.prefix refl;
      waits = search rules;
      cause = search rules;
    }
