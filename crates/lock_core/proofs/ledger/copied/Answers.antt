use Rattle.std.proofs.Common.{◌≡◌, ◌<◌, ◌∙◌, ◌∷◌, ◌++◌, [], ap, sym, length, get_or, arith}
use Rattle.std.proofs.lemmas.List.{take_more}
use Rattle.std.proofs.lemmas.Option.{get_or_from_slice_get}
use Rattle.lsn_space.specs.Accounts.{Accounts}
use Rattle.lock_core.proofs.ledger.copied.Goals as goal

pub accounts-preserved : goal.accounts-preserved
accounts-preserved c =
    let rows = c.args.accounts.now.rows in let account = c.accounts.account in let counted = c.count-account-end.ensures in let test = c.accounts-test.true in
    let inside : account < length rows = omega arith in
    let same : (c.at-balance.result.0, c.at-balance.result.1) ≡ get_or rows account (0, 0) =
    sym (get_or_from_slice_get rows account c.at-balance.result (0, 0) c.at-balance.ensures) in record {
      end = c.count-account-end.ensures;
      below = omega arith;
      rows = ap (λ (a : Accounts). a.rows) c.push.ensures ∙ (λ i. c.accounts.invariant.rows i ++ same i ∷ []) ∙ sym (take_more rows account (0, 0) inside);
      room = ap (λ (a : Accounts). a.room) c.push.ensures ∙ c.accounts.invariant.room;
    }
