use Rattle.std.proofs.Common.{◌≡◌, ◌∙◌, sym, ap, subst, [], ◌∷◌, ◌++◌, length, arith, map, append-nil, length-append, inl, inr, ⊎_elim, eq-or-lt_of_le}
use Rattle.std.proofs.lemmas.List.{map_push, length-map}
use Rattle.std.proofs.lemmas.List.Elements.{All-push}
use Rattle.lsn_space.specs.Number.{number_text}
use Rattle.log_record.specs.Spelling.{IsBalance}
use Rattle.txn_script.specs.Lines.{lines}
use Rattle.txn_script.specs.Balances.{IsBalancesFault}
use Rattle.txn_script.proofs.BalanceLemmas.{lines_read-push}
use Rattle.txn_script.proofs.opening.balances.Goals as goal

pub returns-in_default-next_balance-clause-fault : goal.returns-in_default-next_balance-clause-fault
returns-in_default-next_balance-clause-fault c =
    let before = c.lines.invariant in
    let count : length c.lines.balances.rows ≡ length before.read = ap length before.rows ∙ length-map before.read _ in
    let none = c.in_default-next_balance.ensures.none in
    subst (IsBalancesFault c.args.bytes.now) (sym c.next_line.ensures) (record {
      before = before.read;
      most = before.most;
      each = before.each;
      rest = lines c.lines.rest.now;
      text = before.text;
      at = omega (arith, count);
      outside = rw (c.in-Some.ensures.line) (⊎_elim
          (λ full. inl full)
          (λ room. inr (none (omega (arith, count, room))))
          (eq-or-lt_of_le before.most));
    })

pub lines-preserved : goal.lines-preserved
lines-preserved c =
    let before = c.lines.invariant in
    let balance = c.in-Some-next_balance.balance in
    let count : length c.lines.balances.rows ≡ length before.read = ap length before.rows ∙ length-map before.read _ in
    record {
      read = before.read ++ balance ∷ [];
      most = omega (arith, length-append before.read (balance ∷ []), count, c.in-Some-next_balance.ensures.room);
      each = All-push IsBalance before.read balance before.each c.in-Some-next_balance.ensures.balance;
      rows = rw (c.push.ensures, before.rows) (sym (map_push (λ n. (n, 0)) before.read balance));
      room = rw (c.push.ensures) before.room;
      text = lines_read-push c.args.bytes.now before.read balance _ c.lines.rest.now c.in-Some.after.now before.text
          c.in-Some.ensures.line c.in-Some-next_balance.ensures.text;
    }

pub returns-clause-read : goal.returns-clause-read
returns-clause-read c =
    let before = c.lines.invariant in
    let count : length c.lines.balances.rows ≡ length before.read = ap length before.rows ∙ length-map before.read _ in
    let whole = before.text ∙ ap (λ rest. map number_text before.read ++ rest) c.in_default.ensures.none ∙ append-nil (map number_text before.read) in
    (before.read, record { some = omega (arith, count); most = before.most; each = before.each; text = whole }, before.rows)

pub returns-then-count-eq0-clause-fault : goal.returns-then-count-eq0-clause-fault
returns-then-count-eq0-clause-fault c =
    let before = c.lines.invariant in
    let count : length c.lines.balances.rows ≡ length before.read = ap length before.rows ∙ length-map before.read _ in
    record {
      before = before.read;
      most = before.most;
      each = before.each;
      rest = [];
      text = before.text ∙ ap (λ rest. map number_text before.read ++ rest) c.in_default.ensures.none;
      at = omega (arith, count);
      outside = omega (arith, count);
    }
