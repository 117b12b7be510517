use Rattle.std.proofs.Common.{rules, arith, ◌≡◌, ◌≤◌, ◌+◌, ◌*◌, ◌^◌, ap, length, sym, subst}
use Rattle.std.specs.List.{Contains}
use Rattle.log_rule.specs.declared.view.Sending.{Sending}
use Rattle.log_rule.specs.declared.view.Constants.{Constants}
use Rattle.log_table.specs.Seats.{key_of, view_of}
use Rattle.log_rule.specs.Views.{sent_to}
use Rattle.segment_file.specs.StandingLog.{IsShut}
use Rattle.segment_file.proofs.FirstFormat.{AllStand-LogStands}
use Rattle.run_rig.proofs.FlusherOver.{MayFlush-over}
use Rattle.run_rig.proofs.daemons.flusher_on.Goals as goal

-- the log of the two accounts stands in each image
pub make-requires-2 : goal.make-requires-2
make-requires-2 g c = record {
  log = λ honest. (_, AllStand-LogStands _ _ _ (c.in-Ok.ensures.created (c.create.ensures.honest.1 honest)));
  unsent = ap (λ (sending : Sending). sending.sent) c.requires.flusher_seat.1.knows.sending;
  unread = ap (λ (sending : Sending). sending.read) c.requires.flusher_seat.1.knows.sending;
}

pub returns-clause-ready : goal.returns-clause-ready
returns-clause-ready g c =
    let hired = c.requires.flusher_seat.1 in
    let view = view_of c.args.seat in
    let start = (key_of c.args.table.now).start in
    let starts = ap (λ (constants : Constants). constants.start) hired.knows.constants in
    let none_sent = ap (λ (sending : Sending). length sending.sent) hired.knows.sending in
    let begins : sent_to view ≡ start = omega (arith, starts, none_sent) in
    let next : c.in-Ok.tail.next ≡ sent_to view = search rules in
    let place : c.in-Ok.tail.at ≤ 2 ^ 63 + 16 * c.in-Ok.tail.next = search rules in
    let shut : g.D.LogDisk.honest c.create.new.disk → IsShut c.in-Ok.tail.at (g.D.LogDisk.images c.create.new.disk) = search rules in
    let room : c.args.table.now.ring ≤ c.in_ok-batch.batch.room = search rules in
    MayFlush-over g.D.LogDisk c.make-2.result c.args.table.now c.args.seat c.in_ok-batch.batch c.in-Ok.tail c.create.new.disk
    (ap (λ table. table.now) c.make-2.ensures.table) c.make-2.ensures.seat c.make-2.ensures.batch c.make-2.ensures.tail
    (ap (λ disk. disk.now) c.make-2.ensures.disk) hired.seat hired.knows.flusher (ap (λ (sending : Sending). sending.read) hired.knows.sending)
    (subst (Contains view.seen.lsns) (sym begins) hired.knows.seen) next place shut room
