use Rattle.std.proofs.lemmas.Result.{err_from_is_err_and}
use Rattle.ship_stream.proofs.PuttingLemmas.{counted-cut, counted-put}
use Rattle.ship_stream.proofs.shipping.put_counted.Goals as goal

pub returns-in_err-put_number : goal.returns-in_err-put_number
returns-in_err-put_number g c =
    let failed = err_from_is_err_and c.from_residual.result c.from_residual.ensures.1 in
    rw failed.1 (counted-cut g.K.Sink _ _ _ _ _ _ _ c.in_err-put_number.ensures.prefix c.in_err-put_number.ensures.cause)

pub returns : goal.returns
returns g c = counted-put g.K.Sink _ _ _ _ _ _ _ _ _ c.in_ok-put_number.ensures.all c.in_ok-put_number.ensures.cause.fine c.put_units.ensures
