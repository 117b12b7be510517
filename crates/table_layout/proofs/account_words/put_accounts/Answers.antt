use Rattle.std.proofs.Common.{arith, ◌<◌, length}
use Rattle.std.proofs.lemmas.Option.{slice_get-get_or}
use Rattle.table_layout.proofs.Rows.{puts-more}
use Rattle.table_layout.proofs.account_words.put_accounts.Goals as goal

pub loop-account-preserved : goal.loop-account-preserved
loop-account-preserved c =
    let rows = c.args.accounts.now.rows in
    let below : c.loop-account.account < length rows = omega arith in
    let row-is = slice_get-get_or rows c.loop-account.account (0, 0) below in
    puts-more c.args.ring c.args.slots rows c.loop-account.account c.args.words.now.items c.loop-account.words.items below c.requires.size c.loop-account.invariant
    c.pack.result _ c.account_place.result c.balance_place.result c.account_place.ensures c.balance_place.ensures
    (grind arith steps 400000) (grind arith steps 400000)
