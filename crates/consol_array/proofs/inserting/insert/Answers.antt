use Rattle.std.proofs.Common.{rules, arith, ℕ, ◌+◌, length, ap}
use Rattle.log_table.specs.Seats.{view_of}
use Rattle.ring_buffer.proofs.SameWorkers.{IsOf-same}
use Rattle.consol_array.proofs.Inserts.{HasComeTo-JoinsNext, IsSameWorker-heard, IsSameWorker-filled, HasEntries-freed, HasEntries-left, WasRefused-left, IsSameWorker-refused}
use Rattle.consol_array.proofs.inserting.insert.Goals as goal

pub fill_member-filled-requires-clause-seat : goal.fill_member-filled-requires-clause-seat
fill_member-filled-requires-clause-seat g c =
    let first = c.args.seat.now in
    let joins = c.place_or_join.new.seat in
    let n : ℕ = length c.as_slice.result.now in
    let joined = c.in-InGroup.joined in
    let way = c.in_ok-range.ensures.way in
    let has = HasComeTo-JoinsNext _ first joins n _ joined c.in-InGroup.is way in
    let heard = c.in-Base.ensures.heard has.piece (c.lead_first.ensures.waits has.piece has.call) in
    IsOf-same c.args.table.now first c.hear.new.seat c.requires.seat
    (IsSameWorker-heard c.args.table.now first joins c.lead_first.new.seat n c.args.units.now joined has c.lead_first.ensures.stays c.requires.units
    (ap length c.as_slice.ensures.units) c.hear.new.seat c.in-Base.member heard)

pub release-requires-clause-seat : goal.release-requires-clause-seat
release-requires-clause-seat g c =
    let first = c.args.seat.now in
    let joins = c.place_or_join.new.seat in
    let n : ℕ = length c.as_slice.result.now in
    let joined = c.in-InGroup.joined in
    let way = c.in_ok-range.ensures.way in
    let has = HasComeTo-JoinsNext _ first joins n _ joined c.in-InGroup.is way in
    let heard = c.in-Base.ensures.heard has.piece (c.lead_first.ensures.waits has.piece has.call) in
    IsOf-same c.args.table.now first c.fill_member-filled.new.seat c.requires.seat
    (IsSameWorker-filled c.args.table.now first joins c.lead_first.new.seat n c.args.units.now joined has c.lead_first.ensures.stays c.requires.units
    (ap length c.as_slice.ensures.units) c.hear.new.seat c.in-Base.member heard c.fill_member-filled.new.seat c.fill_member-filled.result
    ((view_of c.hear.new.seat).seen.steps + c.in-Base.member.n) c.fill_member-filled.ensures.piece c.fill_member-filled.ensures.becomes (omega arith))

pub leave_group-requires-clause-seat : goal.leave_group-requires-clause-seat
leave_group-requires-clause-seat g c =
    let first = c.args.seat.now in
    let joins = c.place_or_join.new.seat in
    let n : ℕ = length c.as_slice.result.now in
    let joined = c.in-InGroup.joined in
    let way = c.in_ok-range.ensures.way in
    let has = HasComeTo-JoinsNext _ first joins n _ joined c.in-InGroup.is way in
    let heard = c.in-Refused.ensures.heard has.piece (c.lead_first.ensures.waits has.piece has.call) in
    IsOf-same c.args.table.now first c.hear.new.seat c.requires.seat
    (IsSameWorker-refused c.args.table.now first joins c.lead_first.new.seat n c.args.units.now joined has c.lead_first.ensures.stays c.requires.units
    (ap length c.as_slice.ensures.units) c.requires.seat c.hear.new.seat c.in-Refused.refused c.in-Refused.leaver heard)

pub returns-in-Base : goal.returns-in-Base
returns-in-Base g c =
    let first = c.args.seat.now in
    let joins = c.place_or_join.new.seat in
    let n : ℕ = length c.as_slice.result.now in
    let joined = c.in-InGroup.joined in
    let way = c.in_ok-range.ensures.way in
    let has = HasComeTo-JoinsNext _ first joins n _ joined c.in-InGroup.is way in
    let heard = c.in-Base.ensures.heard has.piece (c.lead_first.ensures.waits has.piece has.call) in record {
      inserted = HasEntries-freed c.args.table.now first joins c.lead_first.new.seat n c.args.units.now joined has c.lead_first.ensures.stays
          c.requires.units (ap length c.as_slice.ensures.units) c.hear.new.seat c.in-Base.member heard c.fill_member-filled.new.seat
          c.fill_member-filled.result ((view_of c.hear.new.seat).seen.steps + c.in-Base.member.n) c.fill_member-filled.ensures.piece
          c.fill_member-filled.ensures.becomes c.release.new.seat c.release.ensures.entries c.release.result.at c.release.ensures.at (omega arith)
          c.requires.ready.alone;
      behind = search rules steps 1200000;
      seen = search rules steps 1200000;
      fits = search rules steps 1200000;
      kept = tt;
      refused = tt;
      stop = search rules steps 1200000;
    }

pub returns-in-Refused : goal.returns-in-Refused
returns-in-Refused g c =
    let first = c.args.seat.now in
    let joins = c.place_or_join.new.seat in
    let n : ℕ = length c.as_slice.result.now in
    let joined = c.in-InGroup.joined in
    let way = c.in_ok-range.ensures.way in
    let has = HasComeTo-JoinsNext _ first joins n _ joined c.in-InGroup.is way in
    let heard = c.in-Refused.ensures.heard has.piece (c.lead_first.ensures.waits has.piece has.call) in record {
      inserted = tt;
      behind = tt;
      seen = tt;
      fits = tt;
      kept = HasEntries-left c.args.table.now first joins c.lead_first.new.seat n c.args.units.now joined has c.lead_first.ensures.stays
          c.requires.units (ap length c.as_slice.ensures.units) c.requires.seat c.hear.new.seat c.in-Refused.refused c.in-Refused.leaver heard
          c.leave_group.new.seat c.leave_group.ensures.entries c.requires.ready.alone;
      refused = WasRefused-left c.args.table.now first joins c.lead_first.new.seat n c.args.units.now joined has c.lead_first.ensures.stays
          c.requires.units (ap length c.as_slice.ensures.units) c.requires.seat c.hear.new.seat c.in-Refused.refused c.in-Refused.leaver heard
          c.leave_group.new.seat c.leave_group.ensures.entries c.leave_group.ensures.seen;
      stop = search rules steps 1200000;
    }

pub returns-in-Alone : goal.returns-in-Alone
returns-in-Alone g c = record {
  inserted = search rules steps 1200000;
  behind = search rules steps 1200000;
  seen = search rules steps 1200000;
  fits = search rules steps 1200000;
  kept = tt;
  refused = tt;
  stop = search rules steps 1200000;
}
