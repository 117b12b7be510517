use Rattle.std.proofs.Common.{rules, arith, ◌∙◌, ◌++◌, get_or, subst, refl}
use Rattle.std.specs.List.{flat_map}
use Rattle.std.proofs.lemmas.List.{take_all}
use Rattle.std.proofs.lemmas.Result.{err_from_is_err_and}
use Rattle.log_disk.specs.Streams.{AppendsPart, AppendsBut}
use Rattle.log_disk.proofs.Uses.{HasCause-ok, HasCause-same_before}
use Rattle.lsn_space.specs.Unit.{unit_bytes}
use Rattle.ship_stream.proofs.ShippingLemmas.{appends_unit_bytes-push, appends_unit_bytes-cut}
use Rattle.ship_stream.proofs.shipping.put_units.Goals as goal

pub units-preserved : goal.units-preserved
units-preserved g c = record {
  written = appends_unit_bytes-push c.args.block.now c.args.units.now _ c.units.unit-index (get_or c.args.units.now c.units.unit-index 0) _ _
      (search rules) refl c.units.invariant.written _ _
      (subst (λ piece. AppendsBut (g.K.Sink.held_bytes c.units.sink) (g.K.Sink.held_bytes c.put.new.sink) (c.units.block ++ piece)
      c.put.new.self) c.bytes_of.ensures c.in_ok-put.ensures.all);
  same = c.in_ok-put.ensures.cause.fine ∙ c.units.invariant.same;
}

pub returns-in_err-put : goal.returns-in_err-put
returns-in_err-put g c =
    let failed = err_from_is_err_and c.from_residual.result c.from_residual.ensures.1 in
    rw failed.1 record {
      all = tt;
      prefix = appends_unit_bytes-cut c.args.block.now c.args.units.now _ c.units.unit-index (get_or c.args.units.now c.units.unit-index 0) _ _
          (search rules) refl c.units.invariant.written _
          (subst (λ piece. AppendsPart (g.K.Sink.held_bytes c.units.sink) (g.K.Sink.held_bytes c.put.new.sink) (c.units.block ++ piece))
          c.bytes_of.ensures c.in_err-put.ensures.prefix);
      cause = HasCause-same_before _ _ _ _ c.units.invariant.same c.in_err-put.ensures.cause;
    }

pub returns : goal.returns
returns g c = record {
  all = subst (λ list. AppendsBut (g.K.Sink.held_bytes c.args.sink.now) (g.K.Sink.held_bytes c.units.sink)
      (c.args.block.now ++ flat_map unit_bytes list) c.units.block)
      (take_all c.units.unit-index c.args.units.now (omega arith)) c.units.invariant.written;
  prefix = tt;
  cause = HasCause-ok _ _ _ c.units.invariant.same;
}
