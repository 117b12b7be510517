use Rattle.std.proofs.Common.{◌++◌, ◌∙◌, ap, sym, take, append_assoc}
use Rattle.std.specs.List.{flat_map}
use Rattle.segment_head.specs.Head.{row_bytes}
use Rattle.segment_head.proofs.HeadLemmas.{row_bytes-front_push}
use Rattle.segment_head.proofs.head.put_rows.Goals as goal

pub accounts-preserved : goal.accounts-preserved
accounts-preserved c =
    let rows = c.args.accounts.now.rows in
    let row = c.at-balance.result in
    let before = flat_map row_bytes (take c.accounts.account rows) in
    c.in_ok-put_row.ensures ∙ ap (λ bytes. bytes ++ row_bytes row) c.accounts.invariant
    ∙ append_assoc c.args.bytes.now.items before (row_bytes row)
    ∙ ap (λ bytes. c.args.bytes.now.items ++ bytes) (sym (row_bytes-front_push rows c.accounts.account row c.at-balance.ensures))
