use Rattle.std.proofs.Common.{rules, arith, ◌≡◌, ◌∙◌, ◌+◌, ◌++◌, ◌∷◌, [], ℕ, List, length, ap, sym, refl, subst}
use Rattle.log_record.specs.Spelling.{spelling}
use Rattle.log_rule.specs.Books.{next_of, placing}
use Rattle.log_rule.specs.GroupViews.{follow_up}
use Rattle.log_rule.specs.declared.group_view.After.TheVariants.{Nothing}
use Rattle.log_rule.specs.declared.view.Call.{Call}
use Rattle.log_rule.specs.declared.view.Call.TheVariants.{Filling, Marked}
use Rattle.log_rule.specs.declared.view.Entry.{Entry}
use Rattle.log_table.specs.Seats.{view_of}
use Rattle.ring_buffer.specs.Calls.{HasFilled, filled_with, entry_of}
use Rattle.ring_buffer.specs.declared.call.Range.{Range}
use Rattle.ring_buffer.proofs.Exposing.{HasMarked-marked_call}
use Rattle.ring_buffer.proofs.Inserted.{IsSameWorker-inserted, entries-inserted, idle-inserted, books_behind_placing-unchanged, stop_behind_placing-unchanged, contended_behind_placing-unchanged}
use Rattle.ring_buffer.proofs.TwoCalls.{IsSameWorker-trans}
use Rattle.ring_buffer.proofs.inserting.insert_alone.Goals as goal

pub finish-requires-clause-filled : goal.finish-requires-clause-filled
finish-requires-clause-filled g c =
    let n : ℕ = length c.as_slice.result.now in
    subst (λ (range : Range). HasFilled range (view_of c.fill-filled.new.seat)) (sym c.fill-filled.ensures.range) record {
      entry = record { start = c.in_ok-range.range.start; size = n; units = c.args.units.now; rec = next_of (view_of c.args.seat.now).books };
      call = ap (λ m. m.0.call) c.fill-filled.ensures.becomes.me ∙ ap (filled_with c.args.units.now) c.in_ok-range.ensures.placed.call;
      start = refl;
      size = sym c.in_ok-range.ensures.placed.size;
      full = sym (ap length c.as_slice.ensures.units);
    }

pub expose-requires-clause-marked : goal.expose-requires-clause-marked
expose-requires-clause-marked g c =
    let filling : (view_of c.fill-filled.new.seat).call ≡ filled_with c.args.units.now (view_of c.place_among.new.seat).call =
    ap (λ m. m.0.call) c.fill-filled.ensures.becomes.me in
    HasMarked-marked_call (view_of c.finish.new.seat) Nothing (ap (λ m. m.0.call) c.finish.ensures.becomes.me
    ∙ ap (λ (call : Call). Marked (follow_up call)) (filling ∙ ap (filled_with c.args.units.now) c.in_ok-range.ensures.placed.call))

pub returns : goal.returns
returns g c =
    let placed = c.in_ok-range.ensures.placed in
    let old = view_of c.args.seat.now in
    let mid = view_of c.place_among.new.seat in
    let steps : ℕ = mid.seen.steps + c.in_ok-range.range.size in
    let rec = next_of old.books in
    let entry : Entry = entry_of c.start-at.result rec in
    let length-is = ap length c.as_slice.ensures.units in
    let size : length c.as_slice.result.now ≡ length (spelling rec) = length-is ∙ ap length c.requires.units in
    let start : c.in_ok-range.range.start ≡ c.start-at.result = sym c.start-at.ensures in
    let call : filled_with c.args.units.now mid.call ≡ Filling entry =
    ap (filled_with c.args.units.now) placed.call ∙ (λ i. Filling (record { start = start i; size = size i; units = c.requires.units i; rec = rec })) in
    let same = IsSameWorker-inserted c.place_among.new.seat c.fill-filled.new.seat c.finish.new.seat c.expose.new.seat c.args.units.now steps
    c.fill-filled.ensures.becomes c.finish.ensures.becomes c.expose.result c.expose.ensures.stays c.expose.ensures.over (omega arith) in record {
      inserted = record {
        same = IsSameWorker-trans c.args.seat.now c.place_among.new.seat c.expose.new.seat c.in_ok-range.ensures.same same;
        idle = idle-inserted c.place_among.new.seat c.fill-filled.new.seat c.finish.new.seat c.expose.new.seat c.args.units.now steps
            c.fill-filled.ensures.becomes c.finish.ensures.becomes c.expose.result c.expose.ensures.stays c.expose.ensures.over entry call;
        contended = contended_behind_placing-unchanged c.place_among.new.seat c.fill-filled.new.seat c.finish.new.seat c.expose.new.seat c.args.units.now steps
            c.fill-filled.ensures.becomes c.finish.ensures.becomes c.expose.result c.expose.ensures.stays c.expose.ensures.over ∙ placed.contended;
        entries_are = entries-inserted c.place_among.new.seat c.fill-filled.new.seat c.finish.new.seat c.expose.new.seat c.args.units.now steps
            c.fill-filled.ensures.becomes c.finish.ensures.becomes c.expose.result c.expose.ensures.stays c.expose.ensures.over entry call
            ∙ ap (λ (entries : List Entry). entries ++ entry ∷ []) placed.entries;
        books_are = books_behind_placing-unchanged c.place_among.new.seat c.fill-filled.new.seat c.finish.new.seat c.expose.new.seat c.args.units.now steps
            c.fill-filled.ensures.becomes c.finish.ensures.becomes c.expose.result c.expose.ensures.stays c.expose.ensures.over
            ∙ (placed.books ∙ (λ i. placing (start i + length-is i) rec old.books));
      };
      behind = omega (arith, placed.behind, c.start-at.ensures);
      seen = omega (arith, placed.seen, same.grows, c.start-at.ensures, length-is);
      fits = search rules;
      kept = tt;
      refused = tt;
      stop = stop_behind_placing-unchanged c.place_among.new.seat c.fill-filled.new.seat c.finish.new.seat c.expose.new.seat c.args.units.now steps
          c.fill-filled.ensures.becomes c.finish.ensures.becomes c.expose.result c.expose.ensures.stays c.expose.ensures.over
          ∙ c.place_among.ensures.stop;
    }
