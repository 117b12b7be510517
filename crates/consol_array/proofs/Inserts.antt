-- What a seat has at the ends of an insert.
use Rattle.std.proofs.Common.{arith, inr, ◌≡◌, ◌∙◌, ℕ, ◌+◌, ◌/◌, ◌<◌, ◌≤◌, List, [], ◌∷◌, ◌++◌, false, length, ap, sym, refl, le_refl, subst}
use Rattle.std.specs.List.{Contains}
use Rattle.log_record.specs.Spelling.{spelling}
use Rattle.log_rule.specs.declared.group_view.MemberStep.TheVariants.{Fills}
use Rattle.log_table.specs.declared.table.LogTable.{LogTable}
use Rattle.log_table.specs.declared.table.Seat.{Seat}
use Rattle.log_rule.specs.declared.view.Constants.{Constants}
use Rattle.log_rule.specs.Books.{next_of, placing}
use Rattle.log_rule.specs.GroupViews.{placed_piece}
use Rattle.log_table.specs.Seats.{Becomes, IsOf, view_of}
use Rattle.log_rule.specs.SlotViews.{piece_in}
use Rattle.ring_buffer.specs.Calls.{HasEntries, HasOnlySeen, IsSameWorker, Refuses, entry_of, filled_with, with_units}
use Rattle.ring_buffer.specs.Totals.{IsHeard}
use Rattle.ring_buffer.specs.declared.refused.Refused.{Refused}
use Rattle.ring_buffer.proofs.OneStep.{IsSameWorker-becomes}
use Rattle.ring_buffer.proofs.TwoCalls.{IsSameWorker-trans}
use Rattle.consol_array.specs.declared.call.FilledMember.{FilledMember}
use Rattle.consol_array.specs.declared.call.Joined.{Joined}
use Rattle.consol_array.specs.declared.call.Leaver.{Leaver}
use Rattle.consol_array.specs.declared.call.Member.{Member}
use Rattle.consol_array.specs.Hearing.{HasHeardBase, HasHeardRefusal}
use Rattle.consol_array.specs.Inserting.{HasComeTo, JoinsNext, WasRefused}
use Rattle.consol_array.specs.declared.inserting.Way.{Way}
use Rattle.consol_array.specs.declared.inserting.Way.TheVariants.{InGroup}
use Rattle.consol_array.specs.Members.{IsAtStep, IsSamePiece}
use Rattle.consol_array.specs.Releasing.{SeesTheSame}

-- the rounds came to a group
pub HasComeTo-JoinsNext : (table : LogTable) (first joins : Seat) (n : ℕ) (way : Way) (joined : Joined) → way ≡ InGroup joined
    → HasComeTo table first joins n way → JoinsNext table first joins n joined
HasComeTo-JoinsNext table first joins n way joined is = subst (λ (way : Way). HasComeTo table first joins n way) is

-- the seat joined a group, and led it if it was the first
module _ (table : LogTable) (first joins leads : Seat) (n : ℕ) (units : List ℕ) (joined : Joined) (has : JoinsNext table first joins n joined) (stays : HasOnlySeen joins leads)
    (units-are : units ≡ spelling (next_of (view_of first).books)) (n-is : n ≡ length units)
  where
    same-led : IsSameWorker first leads
    same-led = IsSameWorker-trans first joins leads has.same stays.same

    -- it heard where its group's range begins
    module _ (hears : Seat) (member : Member) (heard : HasHeardBase joined has.piece leads hears member) where
      pub IsSameWorker-heard : IsSameWorker first hears
      IsSameWorker-heard = heard.same first same-led (omega (arith, has.same.grows, has.tail_seen)) (omega (arith, has.same.durable, has.durable_seen))

      call-heard : IsAtStep member.slot has.piece (Fills heard.base []) (view_of hears)
      call-heard = subst (λ slot. IsAtStep slot has.piece (Fills heard.base []) (view_of hears)) (sym heard.slot_is) heard.call

      -- and copied its record
      module _ (fills : Seat) (filled : FilledMember) (steps : ℕ) (is : IsSamePiece member filled) (copies : Becomes hears fills (with_units units steps (view_of hears))) where
        call-filled : IsAtStep filled.slot has.piece (Fills heard.base units) (view_of fills)
        call-filled = subst (λ slot. IsAtStep slot has.piece (Fills heard.base units) (view_of fills)) (sym is.slot_is)
            (ap (λ me. me.0.call) copies.me ∙ ap (filled_with units) call-heard)

        pub IsSameWorker-filled : (view_of hears).seen.steps ≤ steps → IsSameWorker first fills
        IsSameWorker-filled later = IsSameWorker-trans first hears fills IsSameWorker-heard (IsSameWorker-becomes hears fills (with_units units steps (view_of hears)) copies record {
          constants = refl;
          standing = refl;
          tail = le_refl (view_of hears).seen.tail;
          exposed = le_refl (view_of hears).seen.exposed;
          durable = le_refl (view_of hears).seen.durable;
          steps = later;
        })

        -- and released it
        module _ (last : Seat) (frees : HasEntries fills last ((view_of fills).entries ++ piece_in (view_of fills).call) (view_of fills).books) where
          at-freed : filled.at ≡ heard.base + has.piece.offset
          at-freed = is.at_is ∙ heard.at_is

          entries-filled : (view_of fills).entries ≡ (view_of first).entries
          entries-filled = ap (λ me. me.0.entries) copies.me ∙ (heard.entries ∙ (stays.entries ∙ has.entries))

          entry-freed : (at : ℕ) → at ≡ filled.at → placed_piece heard.base units has.piece ≡ entry_of at (next_of (view_of first).books)
          entry-freed at at-is = λ i. record {
            start = sym (at-is ∙ at-freed) i;
            size = (has.whole ∙ (n-is ∙ ap length units-are)) i;
            units = units-are i;
            rec = has.rec_is i;
          }

          pub HasEntries-freed : (at : ℕ) → at ≡ filled.at → (view_of hears).seen.steps ≤ steps → (view_of first).contended ≡ false
              → HasEntries first last ((view_of first).entries ++ entry_of at (next_of (view_of first).books) ∷ [])
              (placing (at + length units) (next_of (view_of first).books) (view_of first).books)
          HasEntries-freed at at-is later alone = record {
            same = IsSameWorker-trans first fills last (IsSameWorker-filled later) frees.same;
            idle = frees.idle;
            contended = frees.contended ∙ (ap (λ me. me.0.contended) copies.me ∙ (heard.alone (stays.contended ∙ has.alone) ∙ sym alone));
            entries_are = frees.entries_are
                ∙ ((λ i. entries-filled i ++ piece_in (call-filled i)) ∙ (λ i. (view_of first).entries ++ entry-freed at at-is i ∷ []));
            books_are = frees.books_are ∙ (ap (λ me. me.0.books) copies.me ∙ (heard.books
                ∙ (λ i. placing (sym (at-is ∙ at-freed) i + (has.whole ∙ n-is) i) (has.rec_is i) ((stays.books ∙ has.books) i))));
          }

    -- it heard that its group was refused
    module _ (of : IsOf table first) (hears : Seat) (refused : Refused) (leaver : Leaver)
        (heard : HasHeardRefusal table.ring joined has.piece leads hears refused leaver)
      where
        pub IsSameWorker-refused : IsSameWorker first hears
        IsSameWorker-refused = heard.same first same-led (omega (arith, has.same.grows, has.tail_seen)) (omega (arith, has.same.durable, has.durable_seen))

        -- and left
        module _ (last : Seat) (leaves : HasEntries hears last (view_of hears).entries (view_of hears).books) where
          same-left : IsSameWorker first last
          same-left = IsSameWorker-trans first hears last IsSameWorker-refused leaves.same

          pub HasEntries-left : (view_of first).contended ≡ false → HasEntries first last (view_of first).entries (view_of first).books
          HasEntries-left alone = record {
            same = same-left;
            idle = leaves.idle;
            contended = leaves.contended ∙ (heard.alone (stays.contended ∙ has.alone) ∙ sym alone);
            entries_are = leaves.entries_are ∙ (heard.entries ∙ (stays.entries ∙ has.entries));
            books_are = leaves.books_are ∙ (heard.books ∙ (stays.books ∙ has.books));
          }

          slots-some : 0 < (view_of last).constants.slots
          slots-some = subst (λ slots. 0 < slots) (sym (ap (λ (constants : Constants). constants.slots) same-left.constants ∙ of.slots)) (omega (arith, has.slot_below))

          pub WasRefused-left : SeesTheSame (view_of hears).seen (view_of last).seen → WasRefused first last table.ring (length units) refused
          WasRefused-left seen = record {
            total = heard.total;
            asked = inr record {
              grouped = slots-some;
              within = omega (arith, heard.within, has.whole, n-is);
              few = subst (λ ring. heard.total ≤ ring / 4) (sym (ap (λ (constants : Constants). constants.ring) same-left.constants ∙ of.ring)) heard.few;
              known = subst (λ refusals. Contains refusals (record { size = length units; total = heard.total })) (sym seen.refusals)
                  (subst (λ size. IsHeard (view_of hears).seen.refusals size heard.total) (has.whole ∙ n-is) heard.kept);
            };
            refuses = subst (λ (p : ℕ × ℕ). Refuses table.ring p.0 p.1 heard.total refused) (λ i. (sym seen.tail i, sym seen.durable i)) heard.refuses;
            now = omega (arith, same-led.steps, heard.now, seen.tail_step);
            durable_now = omega (arith, same-led.steps, heard.durable_now, seen.durable_step);
            told = subst (λ (p : List ℕ × ℕ). Contains p.0 p.1) (λ i. (sym seen.lsns i, sym seen.tail i)) heard.told;
          }
