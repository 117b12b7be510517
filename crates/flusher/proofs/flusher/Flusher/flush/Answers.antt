use Rattle.std.proofs.Common.{arith, ◌∙◌, sym, ap, refl, length, ◌+◌, ◌++◌}
use Rattle.std.proofs.lemmas.Bool.{eqb-true}
use Rattle.std.proofs.lemmas.Result.{err_from_is_err_and}
use Rattle.log_rule.specs.declared.view.View.{View}
use Rattle.log_table.specs.Seats.{view_of}
use Rattle.log_rule.proofs.SentRecords.{sent-lawfully, read-lawfully}
use Rattle.flusher.proofs.Flushes.{IsOf-becomes, IsSame-same_parts, LogStands-same_batch, MayFlush-step, WritesWhole-same_batch, seen-flushed}
use Rattle.flusher.proofs.Flushes.{seen-newer, sent_to-flushed, tail-appended, tail-place_bounded}
use Rattle.flusher.proofs.Keeps.{KeepsLog-same, KeepsLog-in_flight, KeepsLog-flushed}
use Rattle.flusher.proofs.ReadUp.{Becomes-sent, HasRead-gathered}
use mathlib.Core.Logic.{∥∥₁_map}
use Rattle.flusher.proofs.flusher.Flusher.flush.Goals as goal

-- nothing is written
pub invariant_of-self : goal.invariant_of-self
invariant_of-self g c =
    let is = ap (λ m. m.0) c.load_exposed-to.ensures.view.me in
    record {
      keeps = λ honest.
          ∥∥₁_map (c.args.self.now.keeps honest) (λ keeps. KeepsLog-same g.D.LogDisk _ _ _ _ _ keeps _ _
          (ap (λ (view : View). view.sending.sent) is) (ap (λ (view : View). view.sending.read) is));
    }

-- the batch is written, whole or not at all
pub invariant_of-self-in-Break-1 : goal.invariant_of-self-in-Break-1
invariant_of-self-in-Break-1 g c =
    let at = c.load_exposed-to.ensures in
    let read = HasRead-gathered g.D.LogDisk _ c.requires.ready at.view at.flusher c.eq.ensures c.if-eq.false c.gather.ensures in
    let is = ap (λ m. m.0) read.becomes.me in
    record {
      keeps = λ honest.
          let before = c.append.ensures.honest.1 honest in
          ∥∥₁_map (c.args.self.now.keeps before) (λ keeps.
          KeepsLog-in_flight g.D.LogDisk g.met.D.LogDisk.counts_now g.met.D.LogDisk.only_now _ _ _ _ _ c.requires.ready.unread
          _ _ _ read.in_batch read.some (c.append.ensures.moments before) keeps _ _ _ (ap (λ (view : View). view.sending.sent) is)
          (ap (λ (view : View). view.sending.read) is ∙ ap (λ us. us ++ c.gather.ensures.units) c.requires.ready.unread));
    }

-- it is written, and counts as sent
pub invariant_of-self-2 : goal.invariant_of-self-2
invariant_of-self-2 g c =
    let at = c.load_exposed-to.ensures in
    let read = HasRead-gathered g.D.LogDisk _ c.requires.ready at.view at.flusher c.eq.ensures c.if-eq.false c.gather.ensures in
    let is = ap (λ m. m.0) (Becomes-sent c.args.self.now _ _ _ _ _ read c.store_durable.ensures.view).me in
    record {
      keeps = λ honest.
          let before = c.append.ensures.honest.1 honest in
          ∥∥₁_map (c.args.self.now.keeps before) (λ keeps.
          KeepsLog-flushed g.D.LogDisk g.met.D.LogDisk.counts_now g.met.D.LogDisk.only_now _ _ _ _ _ c.requires.ready.unread
          _ _ _ read.in_batch read.some (c.append.ensures.moments before) keeps _ read.records read.spelled
          (c.in_ok-self.ensures.appended before) _ _
          (ap (λ (view : View). view.sending.sent) is
          ∙ ap (λ us. (view_of c.args.self.now.seat).sending.sent ++ (us ++ c.gather.ensures.units)) c.requires.ready.unread)
          (ap (λ (view : View). view.sending.read) is));
    }

-- nothing is exposed beyond durable
pub returns-then-eq : goal.returns-then-eq
returns-then-eq g c =
    let seat = c.load_exposed-to.ensures.view in
    record {
      flushed = record {
        durable = eqb-true _ _ (sym c.eq.ensures ∙ c.if-eq.true) ∙ c.requires.ready.next;
        seat = seat;
        rest = (_, refl);
      };
      ready = MayFlush-step g.D.LogDisk c.args.self.now c.requires.ready _ _ seat refl refl refl refl (seen-newer _ _) _;
      lost = tt;
      same = IsSame-same_parts g.D.LogDisk c.args.self.now _ _ seat refl refl refl refl refl refl refl
          (λ honest. honest, λ honest. honest) refl (omega arith);
      cause = record { later = omega arith; fine = refl; failed = tt };
    }

-- the disk failed
pub returns-in_err-self : goal.returns-in_err-self
returns-in_err-self g c =
    let failed = err_from_is_err_and c.from_residual.result c.from_residual.ensures.1 in
    let at = c.load_exposed-to.ensures in
    let read = HasRead-gathered g.D.LogDisk _ c.requires.ready at.view at.flusher c.eq.ensures c.if-eq.false c.gather.ensures in
    let put = c.append.ensures in
    rw failed.1 record {
      flushed = tt;
      ready = tt;
      lost = record {
        to = c.load_exposed-to.result;
        units = c.gather.ensures.units;
        some = read.some;
        few = read.few;
        whole = c.gather.ensures.whole ∙ ap (λ n. n + length c.gather.ensures.units) c.requires.ready.next;
        records = read.records;
        spelled = read.spelled;
        seat = read.becomes;
        batch = put.batch ∙ c.gather.ensures.batch;
        tail = refl;
        writes = WritesWhole-same_batch g.D.LogDisk c.args.self.now _ _ _ read.in_batch
            record { moments = put.moments; count = put.count; grows = put.length };
        at_once = c.gather.ensures.at_once;
        lawful = read-lawfully _ _ _ c.gather.ensures.at_once read.role read.all;
      };
      same = IsSame-same_parts g.D.LogDisk c.args.self.now _ _ read.becomes refl refl refl refl refl refl refl
          put.honest put.attached put.later;
      cause = record { later = put.cause.later; fine = tt; failed = c.in_err-self.ensures.cause.failed };
    }

-- the units are on the disk, and durable is raised
pub returns : goal.returns
returns g c =
    let at = c.load_exposed-to.ensures in
    let read = HasRead-gathered g.D.LogDisk _ c.requires.ready at.view at.flusher c.eq.ensures c.if-eq.false c.gather.ensures in
    let seat = Becomes-sent c.args.self.now _ _ _ _ _ read c.store_durable.ensures.view in
    let durable = sent_to-flushed (view_of c.args.self.now.seat) _ _ _ _ (ap (λ m. m.0) seat.me) c.requires.ready.unread
    c.requires.ready.next c.gather.ensures.whole in
    let count = ap length read.in_batch in
    let put = c.append.ensures in
    record {
      flushed = record {
        units = c.gather.ensures.units;
        durable = c.requires.ready.next;
        some = read.below;
        whole = c.gather.ensures.whole;
        records = read.records;
        spelled = read.spelled;
        seat = seat;
        batch = put.batch ∙ c.gather.ensures.batch;
        tail = tail-appended _ _ _ _ read.in_batch c.in_ok-self.ensures.place c.in_ok-self.ensures.next;
        writes = WritesWhole-same_batch g.D.LogDisk c.args.self.now _ _ _ read.in_batch
            record { moments = put.moments; count = put.count; grows = put.length };
        stands = λ honest. LogStands-same_batch g.D.LogDisk c.args.self.now _ _ _ _ read.in_batch (c.in_ok-self.ensures.appended honest);
        settled = λ honest. c.in_ok-self.ensures.settled honest;
        at_once = c.store_durable.ensures.at_once;
        lawful = sent-lawfully _ _ _ c.store_durable.ensures.at_once (ap (λ m. m.0.standing.role) seat.me ∙ c.requires.ready.flusher);
      };
      ready = record {
        seat = IsOf-becomes _ _ _ _ seat refl c.requires.ready.seat;
        flusher = ap (λ m. m.0.standing.role) seat.me ∙ c.requires.ready.flusher;
        unread = ap (λ m. m.0.sending.read) seat.me;
        seen = seen-flushed (view_of c.args.self.now.seat) _ _ _ (ap (λ m. m.0) seat.me) durable;
        next = c.in_ok-self.ensures.next ∙ omega (arith, durable, count, c.gather.ensures.whole);
        place = tail-place_bounded _ _ _ c.in_ok-self.ensures.place c.in_ok-self.ensures.next (omega (arith, count, read.some))
            c.requires.ready.place;
        shut = λ honest. c.in_ok-self.ensures.shut (put.honest.1 honest);
        room = omega (arith, c.requires.ready.room, ap (λ batch. batch.room) (put.batch ∙ c.gather.ensures.batch));
      };
      lost = tt;
      same = IsSame-same_parts g.D.LogDisk c.args.self.now _ _ seat refl refl refl refl refl refl refl
          put.honest put.attached put.later;
      cause = record { later = c.in_ok-self.ensures.cause.later; fine = c.in_ok-self.ensures.cause.fine; failed = tt };
    }
