use Rattle.std.proofs.Common.{◌∙◌, ◌++◌, sym, subst, append_assoc, arith}
use Rattle.std.proofs.lemmas.Bool.{eqb-true}
use Rattle.std.proofs.lemmas.Result.{err_from_is_err_and, on_ok_weaker, on_err_weaker}
use Rattle.log_disk.specs.Streams.{AppendsPart, AppendsBut}
use Rattle.log_disk.proofs.Blocks.{AppendsBut-trans_Appends, AppendsBut-trans_AppendsPart, AppendsPart-append}
use Rattle.log_disk.proofs.Uses.{HasCause-same_before}
use Rattle.ship_stream.specs.Stream.{head_bytes, end_bytes}
use Rattle.ship_stream.proofs.ShippingLemmas.{shipping-none, shipping-more, shipping-cut, shipping-end, shipping-end_cut}
use Rattle.ship_stream.proofs.shipping.put_stream.Goals as goal

pub returns-in_err-put_head-clause-prefix : goal.returns-in_err-put_head-clause-prefix
returns-in_err-put_head-clause-prefix g c = λ records are.
    let failed = err_from_is_err_and c.from_residual.result c.from_residual.ensures.1 in
    let cut = subst (λ waiting. AppendsPart (g.K.Sink.held_bytes c.args.sink.now) (g.K.Sink.held_bytes c.put_head.new.sink)
    (waiting ++ head_bytes c.args.from))
    c.new-block.ensures c.in_err-put_head.ensures.prefix in
    rw failed.1 (AppendsPart-append _ _ _ _ _ cut (append_assoc (head_bytes c.args.from) _ end_bytes))

pub frames-init : goal.frames-init
frames-init g c = record {
  shipping = shipping-none c.args.from c.args.units.now _ c.requires.0 _ _ c.requires.1
      (subst (λ waiting. AppendsBut (g.K.Sink.held_bytes c.args.sink.now) (g.K.Sink.held_bytes c.put_head.new.sink)
      (waiting ++ head_bytes c.args.from) c.put_head.new.block)
      c.new-block.ensures c.in_ok-put_head.ensures.all);
  same = c.in_ok-put_head.ensures.cause.fine;
}

pub frame_len-requires-clause-records : goal.frame_len-requires-clause-records
frame_len-requires-clause-records g c = (c.frames.invariant.shipping.left, c.frames.invariant.shipping.rest_is)

pub put_counted-requires : goal.put_counted-requires
put_counted-requires g c = omega (arith, c.frame_len.ensures.short, c.split_at.ensures.front_len)

pub frames-smaller : goal.frames-smaller
frames-smaller g c = omega (arith, c.frame_len.ensures.some, c.split_at.ensures.back_len)

pub frames-preserved : goal.frames-preserved
frames-preserved g c = record {
  shipping = shipping-more _ _ _ _ _ _ c.frames.invariant.shipping _ c.frame_len.ensures _ c.split_at.ensures.front _ _ _
      c.split_at.ensures.back c.in_ok-put_counted.ensures.all;
  same = c.in_ok-put_counted.ensures.cause.fine ∙ c.frames.invariant.same;
}

pub returns-in_err-put_counted-clause-prefix : goal.returns-in_err-put_counted-clause-prefix
returns-in_err-put_counted-clause-prefix g c = λ records are.
    let failed = err_from_is_err_and c.from_residual-in_err-put_counted.result c.from_residual-in_err-put_counted.ensures.1 in
    rw failed.1 (shipping-cut _ _ _ _ _ _ c.frames.invariant.shipping _ c.frame_len.ensures _ c.split_at.ensures.front _ records are
    c.in_err-put_counted.ensures.prefix)

pub returns-in_err-put_counted-clause-cause : goal.returns-in_err-put_counted-clause-cause
returns-in_err-put_counted-clause-cause g c =
    let failed = err_from_is_err_and c.from_residual-in_err-put_counted.result c.from_residual-in_err-put_counted.ensures.1 in
    rw failed.1 (HasCause-same_before _ _ _ _ c.frames.invariant.same c.in_err-put_counted.ensures.cause)

pub returns-in_err-put_number-clause-prefix : goal.returns-in_err-put_number-clause-prefix
returns-in_err-put_number-clause-prefix g c = λ records are.
    let failed = err_from_is_err_and c.from_residual-in_err-put_number.result c.from_residual-in_err-put_number.ensures.1 in
    let empty = eqb-true _ _ (sym c.is_empty.ensures ∙ c.frames-test.false) in
    rw failed.1 (shipping-end_cut _ _ _ _ _ _ c.frames.invariant.shipping empty records are _ c.in_err-put_number.ensures.prefix)

pub returns-in_err-put_number-clause-cause : goal.returns-in_err-put_number-clause-cause
returns-in_err-put_number-clause-cause g c =
    let failed = err_from_is_err_and c.from_residual-in_err-put_number.result c.from_residual-in_err-put_number.ensures.1 in
    rw failed.1 (HasCause-same_before _ _ _ _ c.frames.invariant.same c.in_err-put_number.ensures.cause)

pub returns-clause-all : goal.returns-clause-all
returns-clause-all g c = λ records are.
    let empty = eqb-true _ _ (sym c.is_empty.ensures ∙ c.frames-test.false) in
    let end = shipping-end _ _ _ _ _ _ c.frames.invariant.shipping empty records are _ _ c.in_ok-put_number.ensures.all in
    on_ok_weaker c.write_out.result (AppendsBut-trans_Appends _ _ _ _ _ end) c.write_out.ensures.all

pub returns-clause-prefix : goal.returns-clause-prefix
returns-clause-prefix g c = λ records are.
    let empty = eqb-true _ _ (sym c.is_empty.ensures ∙ c.frames-test.false) in
    let end = shipping-end _ _ _ _ _ _ c.frames.invariant.shipping empty records are _ _ c.in_ok-put_number.ensures.all in
    on_err_weaker c.write_out.result (AppendsBut-trans_AppendsPart _ _ _ _ _ end) c.write_out.ensures.prefix

pub returns-clause-cause : goal.returns-clause-cause
returns-clause-cause g c =
    HasCause-same_before _ _ _ _ (c.in_ok-put_number.ensures.cause.fine ∙ c.frames.invariant.same) c.write_out.ensures.cause
