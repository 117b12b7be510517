use Rattle.std.proofs.Common.{rules, arith, ◌≡◌, ◌<◌, ◌∙◌, ◌+◌, ℕ, List, get_or, length, sym, ap, subst}
use Rattle.std.specs.Slots.{slots_items}
use Rattle.lsn_space.specs.Accounts.{Accounts}
use Rattle.slot_word.specs.AccountWord.{last_commit_in}
use Rattle.table_layout.specs.AccountWords.{ReadsRows}
use Rattle.table_layout.specs.Layout.{Account, Balance, index_of}
use Rattle.table_layout.proofs.Rows.{get_elem-get_or, reads-more}
use Rattle.table_layout.proofs.account_words.read_rows.Goals as goal

pub loop-account-preserved : goal.loop-account-preserved
loop-account-preserved c =
    let words : List ℕ = slots_items c.args.closed.now.words in
    let word-is : c.word.result ≡ get_or words (index_of c.args.ring c.args.slots (Account c.loop-account.account)) 0 =
    sym (get_elem-get_or words c.account_place.result c.word.result c.word.ensures) ∙ ap (λ place. get_or words place 0) c.account_place.ensures in
    let balance-is : c.word-balance.result ≡ get_or words (index_of c.args.ring c.args.slots (Balance c.loop-account.account)) 0 =
    sym (get_elem-get_or words c.balance_place.result c.word-balance.result c.word-balance.ensures) ∙ ap (λ place. get_or words place 0) c.balance_place.ensures in
    let below : c.loop-account.account < length c.args.rows.now.rows = omega arith in
    record {
      room = ap (λ (a : Accounts). a.room) c.set.ensures ∙ c.loop-account.invariant.room;
      rows = subst (λ (rows : List (ℕ × ℕ)). ReadsRows c.args.ring c.args.slots (c.loop-account.account + 1) words c.args.rows.now.rows rows)
          (sym (ap (λ (a : Accounts). a.rows) c.set.ensures))
          (reads-more c.args.ring c.args.slots c.loop-account.account words (c.word-balance.result, c.mark.result) _ _ below
          (λ i. (
            balance-is i,
            (c.mark.ensures ∙ (c.unpack-word.ensures.mark ∙ ap last_commit_in word-is)) i,
          )) c.loop-account.invariant.rows);
    }

pub returns-clause-rows : goal.returns-clause-rows
returns-clause-rows c = search rules steps 100000
