use Rattle.std.proofs.Common.{◌≡◌, ◌⊎◌, ⊎_elim, [], length, refl, sym, ap, subst, arith, rules}
use Rattle.std.proofs.lemmas.List.{get_or_default}
use Rattle.lsn_space.specs.Opening as space
use Rattle.lock_core.specs.AccountRows.{row, opening_of, KeepsRows}
use Rattle.lock_core.specs.Lawful.{base_with}
use Rattle.lock_core.specs.Judging.{IsJudged}
use Rattle.lock_core.proofs.ListLemmas.{all-at}
use Rattle.lock_core.proofs.ledger.Ledger.after.Goals as goal

-- the rows of an opening are those of the history behind which nothing stands yet
rows-open : (opening : space.Opening) → (opening.accounts ≡ []) ⊎ space.IsSnapshot opening → KeepsRows opening.accounts (base_with (opening_of opening) []) []
rows-open opening begins = record {
  count = refl;
  range = λ account inside. ⊎_elim
      (λ none. let no = ap length none in absurd (omega arith))
      (λ snapshot. (all-at (space.IsRow opening.lsn) opening.accounts account (row opening.accounts account) snapshot.each inside
      (sym (get_or_default opening.accounts account (row opening.accounts account) (0, 0) inside))).0)
      begins;
  balance = λ account inside. refl;
  last = λ account inside. refl;
}

pub returns : goal.returns
returns c =
    let rows : c.in_ok-accounts.accounts.rows ≡ c.args.opening.now.accounts = search rules in
    let judged : IsJudged (opening_of c.args.opening.now) c.in_ok-accounts.accounts [] = record {
      lawful = search rules;
      room = c.in_ok-accounts.ensures.room;
      rows = subst (λ rows. KeepsRows rows (base_with (opening_of c.args.opening.now) []) []) (sym rows) (rows-open c.args.opening.now c.requires);
    } in
    record {
      judged = judged;
      begins = search rules;
      transactions = c.in_ok-txns.ensures;
      least = search rules;
      blank = search rules;
    }
