use Rattle.slot_word.proofs.AccountWordLemmas.{fits_64, packed-account_word, held_back, last_commit_back, word_back}
use Rattle.slot_word.proofs.account_packing.account_word_law.Goals as goal

pub returns : goal.returns
returns c = record { fits = fits_64; account = packed-account_word; held = held_back; mark = last_commit_back; word = word_back }
