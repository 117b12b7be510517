use Rattle.std.proofs.Common.{arith, refl, ◌≡◌, ◌∙◌, sym, ap, subst}
use Rattle.std.proofs.lemmas.Bool.{eqb-true}
use Rattle.log_table.specs.Seats.{Becomes, view_of}
use Rattle.log_rule.specs.Views.{sent_to}
use Rattle.flusher.specs.SentUnits.{asked}
use Rattle.flusher.proofs.Flushes.{MayFlush-step, seen-newer}
use Rattle.flusher.proofs.ReadUp.{Becomes-asked}
use Rattle.flusher.proofs.flusher.Flusher.drained.Goals as goal

pub returns-then-active-gt0 : goal.returns-then-active-gt0
returns-then-active-gt0 g c =
    let seat = c.load_crew-active.ensures.view in
    record {
      asks = (omega arith, seat);
      rest = (_, refl);
      ready = MayFlush-step g.D.LogDisk c.args.self.now c.requires.ready _ _ seat refl refl refl refl (λ x seen. seen) _;
    }

-- no worker is active, and all that is exposed is on the disk
pub returns-then-eq : goal.returns-then-eq
returns-then-eq g c =
    let old = c.args.self.now in
    let seat = Becomes-asked _ _ _ _ _ (omega arith) c.load_crew-active.ensures.view c.load_exposed-exposed.ensures.view in
    let is = ap (λ m. m.0) seat.me in
    let all : c.load_exposed-exposed.result ≡ old.tail.next = eqb-true _ _ (sym c.eq.ensures ∙ c.if-eq.true) in
    record {
      asks = (
        c.requires.ready.next,
        record {
          quiet = ap (λ view. view.sending.quiet) is ∙ c.requires.told;
          looked = ap (λ view. view.sending.looked) is;
          all = ap (λ view. view.sending.exposed) is ∙ all ∙ c.requires.ready.next ∙ sym (ap sent_to is);
        },
        subst (λ n. Becomes old.seat c.load_exposed-exposed.new.seat (asked n (view_of old.seat))) all seat,
      );
      rest = (_, refl);
      ready = MayFlush-step g.D.LogDisk old c.requires.ready _ _ seat refl refl refl refl (seen-newer _ _) _;
    }

-- units are exposed beyond durable
pub returns-else-eq : goal.returns-else-eq
returns-else-eq g c =
    let old = c.args.self.now in
    let seat = Becomes-asked _ _ _ _ _ (omega arith) c.load_crew-active.ensures.view c.load_exposed-exposed.ensures.view in
    record {
      asks = (c.requires.ready.next, grind arith steps 400000, seat);
      rest = (_, refl);
      ready = MayFlush-step g.D.LogDisk old c.requires.ready _ _ seat refl refl refl refl (seen-newer _ _) _;
    }
