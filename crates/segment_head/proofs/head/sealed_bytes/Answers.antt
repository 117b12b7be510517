use Rattle.std.proofs.Common.{◌∙◌, ap}
use Rattle.lsn_space.specs.Opening.{Opening}
use Rattle.segment_head.specs.Head.{sealed_head}
use Rattle.segment_head.proofs.HeadLemmas.{sealed-pieces}
use Rattle.segment_head.proofs.head.sealed_bytes.Goals as goal

pub returns : goal.returns
returns c =
    let opening : Opening = record { lsn = c.opening.inside.lsn; txn = c.opening.inside.txn; accounts = c.opening.inside.accounts.rows } in
    let lsn = rw (c.to_be_bytes.ensures, c.units.ensures) at c.in_ok-put-2.ensures in
    let txn = rw (c.to_be_bytes-2.ensures) at c.in_ok-put-3.ensures in
    let counted = rw (c.to_be_bytes-3.ensures) at c.in_ok-put-4.ensures in
    sealed-pieces opening c.count-count.result _ _ _ _ _ _ _ c.count-count.ensures c.in-Ok.ensures.items c.in_ok-put.ensures lsn txn counted
    c.in_ok-put_rows.ensures c.in_ok-put-5.ensures
    ∙ ap sealed_head c.opening.view_is
