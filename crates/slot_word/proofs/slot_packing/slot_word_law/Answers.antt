use Rattle.slot_word.proofs.SlotWordLemmas.{fits_64, phase_back, total_back, remaining_back, word_back, word_of-is_slot_word, is_slot_word-some_slot}
use Rattle.slot_word.proofs.SlotWordLemmas.{word_of-injective, subtracted-packed, swapped-pending}
use Rattle.slot_word.proofs.slot_packing.slot_word_law.Goals as goal

pub returns : goal.returns
returns c = record {
  fits = fits_64;
  phase = phase_back;
  total = total_back;
  remaining = remaining_back;
  word = word_back;
  slot = word_of-is_slot_word;
  exact = is_slot_word-some_slot;
  apart = word_of-injective;
  release = subtracted-packed;
  close = swapped-pending;
}
