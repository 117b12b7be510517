use Rattle.std.proofs.Common.{◌≡◌}
use Rattle.std.specs.Slots.{slots_items}
use Rattle.table_layout.specs.AccountWords.{ReadsRows}
use Rattle.table_layout.proofs.account_words.read_rows.Given as goal

abbrev pub invariant-loop-account : goal.invariant-loop-account
invariant-loop-account l = record {
  room : l.rows.room ≡ l.initial.rows.room;
  rows : ReadsRows l.ring l.slots l.account (slots_items l.closed.words) l.initial.rows.rows l.rows.rows;
}
