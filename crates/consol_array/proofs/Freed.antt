-- A member has released its piece of a group.
use Rattle.std.proofs.Common.{◌≡◌, ◌↔◌, ℕ, ◌/◌, Bool, true, subst}
use Rattle.slot_word.specs.declared.slot_word.SlotWord.{SlotWord}
use Rattle.slot_word.specs.SlotWord.{word_of}
use Rattle.log_table.specs.declared.table.LogTable.{LogTable}
use Rattle.log_table.specs.declared.table.Seat.{Seat}
use Rattle.log_table.specs.Seats.{Becomes, IsOf, view_of}
use Rattle.log_rule.specs.SlotViews.{HasToRelease, released_piece}
use Rattle.consol_array.specs.Releasing.{LetsGo}

-- the seat released it by a subtraction, which found this state
pub LetsGo-freed : (table : LogTable) (old mid : Seat) (n : ℕ) (found : SlotWord) (last : Bool) → IsOf table old
    → Becomes old mid (released_piece (word_of found) (view_of old))
    → HasToRelease ((view_of old).constants.ring / 4) n (view_of old).call (word_of found) → (last ≡ true) ↔ (found.remaining ≡ n)
    → LetsGo table n old mid last
LetsGo-freed table old mid n found last of frees told last-is = record {
  found = found;
  told = subst (λ ring. HasToRelease (ring / 4) n (view_of old).call (word_of found)) of.ring told;
  becomes = frees;
  last_is = last-is;
}
