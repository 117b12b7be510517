use Rattle.std.proofs.Common.{inr, subst, sym, arith}
use Rattle.log_recovery.specs.Opened.{log_of}
use Rattle.log_recovery.specs.Recovery.{IsFaultOf}
use Rattle.cli_standby.proofs.SettledLemmas.{read_tail-stable_gate, is-opened, read_tail-place_within_2_63, read_tail-log_stands, unsaid-fault, settling_failed-answers_unsaid}
use Rattle.cli_standby.proofs.opening.open_standby.Goals as goal

-- the bytes are no lawful log, or there was no memory
pub returns-in-Err-clause-none : goal.returns-in-Err-clause-none
returns-in-Err-clause-none g c = λ honest left left_new.
    let said = c.in-Ok.ensures in
    let is = rw c.as_slice.ensures.value at c.in-Err.ensures.fault in
    rw c.detail_of.ensures (unsaid-fault g.D.LogDisk c.args.disk.now c.image_of.new.disk
    (record { images = said.moments; reads = said.reads honest; count = said.count honest }) left left_new c.in-Err.fault
    (subst (λ bytes. IsFaultOf bytes c.in-Err.fault) (said.bytes honest) is))

pub returns-in-Err-clause-range : goal.returns-in-Err-clause-range
returns-in-Err-clause-range g c = inr (c.in-Err.fault, sym c.detail_of.ensures)

pub settle-requires-clause-stable : goal.settle-requires-clause-stable
settle-requires-clause-stable g c = λ honest.
    let said = c.in-Ok.ensures in
    let found = rw c.as_slice.ensures.value at c.in-Ok-judged.ensures.found in
    read_tail-stable_gate g.D.LogDisk c.args.disk.now c.image_of.new.disk c.in-Ok.bytes.items said.bytes c.in-Ok-judged.both.1 c.in-Ok-judged.both.0
    found said.reads said.settled (said.honest.1 honest)

pub returns-in-Ok-settle-clause-opened : goal.returns-in-Ok-settle-clause-opened
returns-in-Ok-settle-clause-opened g c =
    let said = c.in-Ok.ensures in
    let settled = c.in-Ok-settle.ensures in
    let found = rw c.as_slice.ensures.value at c.in-Ok-judged.ensures.found in
    let stand = read_tail-log_stands g.D.LogDisk c.args.disk.now c.image_of.new.disk c.in-Ok.bytes.items said.bytes c.in-Ok-judged.both.1
    c.in-Ok-judged.both.0 found said.reads said.settled in
    is-opened g.D.LogDisk c.args.disk.now c.image_of.new.disk c.in-Ok.bytes.items said.bytes c.in-Ok-judged.both.1 c.in-Ok-judged.both.0
    found said.reads said.settled c.settle.new.disk
    (λ honest. record { images = said.moments; reads = said.reads honest; count = said.count honest })
    (λ honest. settled.moments (said.honest.0 honest) (log_of found.list) (stand honest)) (λ honest. settled.count (said.honest.0 honest))
    (λ honest. settled.length (said.honest.0 honest)) (λ honest. settled.stand (said.honest.0 honest) (log_of found.list) (stand honest))
    c.in-Ok-settle.tail settled.tail
    (read_tail-place_within_2_63 g.D.LogDisk c.args.disk.now c.image_of.new.disk c.in-Ok.bytes.items said.bytes c.in-Ok-judged.both.1 c.in-Ok-judged.both.0
    found said.reads said.settled (omega arith))
    (λ honest. said.honest.1 (settled.honest.1 honest)) (λ honest. settled.shut (said.honest.0 honest))

pub returns-in-Err-settle-clause-none : goal.returns-in-Err-settle-clause-none
returns-in-Err-settle-clause-none g c = λ honest left left_new.
    let said = c.in-Ok.ensures in
    let settled = c.in-Err-settle.ensures in
    let found = rw c.as_slice.ensures.value at c.in-Ok-judged.ensures.found in
    let stand = read_tail-log_stands g.D.LogDisk c.args.disk.now c.image_of.new.disk c.in-Ok.bytes.items said.bytes c.in-Ok-judged.both.1
    c.in-Ok-judged.both.0 found said.reads said.settled in
    settling_failed-answers_unsaid g.D.LogDisk c.args.disk.now c.image_of.new.disk c.in-Ok.bytes.items said.bytes c.in-Ok-judged.both.1 c.in-Ok-judged.both.0
    found said.reads said.settled c.settle.new.disk
    (λ honest. record { images = said.moments; reads = said.reads honest; count = said.count honest })
    (λ honest. settled.moments (said.honest.0 honest) (log_of found.list) (stand honest)) (λ honest. settled.count (said.honest.0 honest))
    (λ honest. settled.length (said.honest.0 honest)) (λ honest. settled.stand (said.honest.0 honest) (log_of found.list) (stand honest))
    honest left left_new
