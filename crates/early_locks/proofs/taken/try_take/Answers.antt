use Rattle.std.proofs.Common.{rules, ◌<◌, ◌^◌, ◌∙◌, ap, sym}
use Rattle.log_rule.specs.Books.{taking}
use Rattle.log_table.specs.Seats.{Becomes, view_of}
use Rattle.log_rule.specs.AccountViews.{saw_account, took_account, loaded_balance}
use Rattle.slot_word.specs.AccountWord.{word_of}
use Rattle.slot_word.proofs.AccountWordLemmas.{last_commit_back}
use Rattle.early_locks.proofs.taken.try_take.Goals as goal

pub load_balance-balance-requires-clause-next : goal.load_balance-balance-requires-clause-next
load_balance-balance-requires-clause-next c = search rules steps 1200000

pub returns-clause-taken : goal.returns-clause-taken
returns-clause-taken c =
    let loaded = c.load_account-loaded.result in
    let short : loaded.mark < 2 ^ 32 = search rules in
    let becomes : Becomes c.args.seat.now _
    (loaded_balance c.load_balance-balance.result (took_account c.args.account (word_of loaded) (saw_account c.args.account (word_of loaded)
    (view_of c.args.seat.now)))) = search rules steps 1200000 in record {
      account_is = search rules;
      word = loaded;
      free = search rules;
      range = c.load_balance-balance.ensures.range;
      last_commit = c.mark-mark.ensures;
      becomes = becomes;
      books = ap (λ m. m.0.books) becomes.me
          ∙ (λ i. taking (record {
            account = c.args.account;
            balance = c.load_balance-balance.result;
            last_commit = (last_commit_back loaded.held loaded.mark short ∙ sym c.mark-mark.ensures) i;
          }) (view_of c.args.seat.now).books);
    }

pub exchange_account-requires-clause-next : goal.exchange_account-requires-clause-next
exchange_account-requires-clause-next c = search rules steps 1200000

pub returns-then-held-clause-held : goal.returns-then-held-clause-held
returns-then-held-clause-held c = search rules steps 1200000

pub returns-in-Err-clause-held : goal.returns-in-Err-clause-held
returns-in-Err-clause-held c = search rules steps 1200000
