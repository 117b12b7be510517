use Rattle.std.proofs.Common.{subst, refl}
use Rattle.std.specs.Result.{OnOk, OnErr}
use Rattle.std.specs.Io.KnownBytes.{Appends}
use Rattle.log_disk.specs.Streams.{AppendsPart}
use Rattle.log_disk.proofs.output_block.Block.write_out.Goals as goal

pub returns-clause-all : goal.returns-clause-all
returns-clause-all g c =
    subst (λ waiting. OnOk c.put_all-written.result (Appends (g.K.Sink.held_bytes c.args.sink.now) (g.K.Sink.held_bytes c.put_all-written.new.sink) waiting))
    c.self.view_is c.put_all-written.ensures.all

pub returns-clause-prefix : goal.returns-clause-prefix
returns-clause-prefix g c =
    subst (λ waiting. OnErr c.put_all-written.result (AppendsPart (g.K.Sink.held_bytes c.args.sink.now) (g.K.Sink.held_bytes c.put_all-written.new.sink) waiting))
    c.self.view_is c.put_all-written.ensures.prefix

pub returns-clause-empty : goal.returns-clause-empty
returns-clause-empty g c = refl
