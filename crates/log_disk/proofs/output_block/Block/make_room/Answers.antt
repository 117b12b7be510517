use Rattle.std.proofs.Common.{subst, sym, ap, length, length-take, arith}
use Rattle.std.proofs.lemmas.Result.{on_ok_weaker}
use Rattle.log_disk.specs.Streams.{AppendsBut}
use Rattle.log_disk.proofs.Blocks.{AppendsBut-nothing_waits}
use Rattle.log_disk.proofs.output_block.Block.make_room.Goals as goal

pub returns-clause-appends : goal.returns-clause-appends
returns-clause-appends g c =
    let held = g.K.Sink.held_bytes c.args.sink.now in
    let held_new = g.K.Sink.held_bytes c.write_out.new.sink in
    record {
      all = on_ok_weaker c.write_out.result (λ written. subst (AppendsBut held held_new c.args.self.now) (sym c.write_out.ensures.empty)
          (AppendsBut-nothing_waits _ _ _ written)) c.write_out.ensures.all;
      prefix = c.write_out.ensures.prefix;
      waits = λ fits. absurd (omega (
        arith,
        fits,
        c.if-count-self.false,
        c.self.invariant,
        c.self.told,
        length-take c.self.inside.len c.self.inside.bytes,
        ap length c.self.view_is,
      ));
      cause = c.write_out.ensures.cause;
    }

pub returns-clause-stays : goal.returns-clause-stays
returns-clause-stays g c = λ fits. absurd (omega (
  arith,
  fits,
  c.if-count-self.false,
  c.self.invariant,
  c.self.told,
  length-take c.self.inside.len c.self.inside.bytes,
  ap length c.self.view_is,
))
