use Rattle.std.proofs.Common.{◌∙◌}
use Rattle.slot_word.specs.SlotWord.{word_of}
use Rattle.consol_array.proofs.Heards.{HasHeard-since, HasOnlyLooked-again}
use Rattle.consol_array.proofs.Told.{IsAtStep-told}
use Rattle.consol_array.proofs.hearing.hear.Goals as goal

pub returns-in-Some-look_told : goal.returns-in-Some-look_told
returns-in-Some-look_told g c =
    let state = c.in-Some-look_told.state in
    let seen = c.in-Some-look_told.ensures.told in
    let last = c.look_told.new.seat in record {
      heard = λ piece waits. HasHeard-since c.args.table.now.ring c.args.joined piece c.args.seat.now last c.hear_told.new.seat c.hear_told.result
          (HasOnlyLooked-again c.args.seat.now c.loop.seat last c.args.joined.slot (word_of state) c.loop.invariant.0 seen.becomes)
          (c.hear_told.ensures.heard piece (IsAtStep-told c.loop.seat last c.args.joined.slot state seen.becomes piece seen.told (c.loop.invariant.1 ∙ waits)));
    }
