use Rattle.cli_new.proofs.CreationLemmas.{opening-all_balances, made_units-some, made_units-within_most, AllStand-all_hold_new, grows-made, leaves-made}
use Rattle.cli_new.proofs.new_command.make_log.Goals as goal

pub genesis-requires-clause-each : goal.genesis-requires-clause-each
genesis-requires-clause-each g c = opening-all_balances _ _ c.in_ok-accounts.accounts c.in_ok-accounts.ensures.answer

pub create-requires-clause-some : goal.create-requires-clause-some
create-requires-clause-some g c = made_units-some _ _ c.in_ok-accounts.accounts c.in_ok-accounts.ensures.answer _ c.in-Ok.ensures

pub create-requires-clause-most : goal.create-requires-clause-most
create-requires-clause-most g c = made_units-within_most _ _ c.in_ok-accounts.accounts c.in_ok-accounts.ensures.answer _ c.in-Ok.ensures

pub create-requires-clause-stable : goal.create-requires-clause-stable
create-requires-clause-stable g c = λ honest. c.in_ok-finds_none.ensures.gate (c.in_ok-finds_none.ensures.honest.1 honest)

pub returns-in-Ok-create-clause-grows : goal.returns-in-Ok-create-clause-grows
returns-in-Ok-create-clause-grows g c = λ honest.
    grows-made _ _ c.in_ok-accounts.accounts c.in_ok-accounts.ensures.answer _ c.in-Ok.ensures g.D.LogDisk _ c.finds_none.new.disk _
    (c.in_ok-finds_none.ensures.reads honest) (c.in-Ok-create.ensures.length (c.in_ok-finds_none.ensures.honest.0 honest))

pub returns-in-Ok-create-clause-images : goal.returns-in-Ok-create-clause-images
returns-in-Ok-create-clause-images g c = λ honest.
    leaves-made _ _ c.in_ok-accounts.accounts c.in_ok-accounts.ensures.answer _ c.in-Ok.ensures
    g.D.LogDisk.moment g.D.LogDisk.images_since _ _ c.finds_none.new.disk _
    c.in_ok-finds_none.ensures.moments (c.in-Ok-create.ensures.moments (c.in_ok-finds_none.ensures.honest.0 honest))

pub returns-in-Ok-create-clause-made : goal.returns-in-Ok-create-clause-made
returns-in-Ok-create-clause-made g c = λ honest.
    AllStand-all_hold_new _ _ c.in_ok-accounts.accounts c.in_ok-accounts.ensures.answer _ c.in-Ok.ensures _ _
    (c.in-Ok-create.ensures.created (c.in_ok-finds_none.ensures.honest.0 honest))

pub returns-in-Err-clause-images : goal.returns-in-Err-clause-images
returns-in-Err-clause-images g c = λ honest.
    leaves-made _ _ c.in_ok-accounts.accounts c.in_ok-accounts.ensures.answer _ c.in-Ok.ensures
    g.D.LogDisk.moment g.D.LogDisk.images_since _ _ c.finds_none.new.disk _
    c.in_ok-finds_none.ensures.moments (c.in-Err.ensures.moments (c.in_ok-finds_none.ensures.honest.0 honest))

pub returns-in-Err-clause-grows : goal.returns-in-Err-clause-grows
returns-in-Err-clause-grows g c = λ honest.
    grows-made _ _ c.in_ok-accounts.accounts c.in_ok-accounts.ensures.answer _ c.in-Ok.ensures g.D.LogDisk _ c.finds_none.new.disk _
    (c.in_ok-finds_none.ensures.reads honest) (c.in-Err.ensures.length (c.in_ok-finds_none.ensures.honest.0 honest))
