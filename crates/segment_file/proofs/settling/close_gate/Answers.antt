use Rattle.std.proofs.Common.{◌≡◌, ◌∷◌, [], length, true≢false, sym, subst, ◌∙◌, ap, ⊎_elim, OnOk, arith}
use Rattle.log_disk.specs.Disk.{put}
use Rattle.log_disk.proofs.Moments.{Leaves-call, Leaves-trans, Leaves-weaken}
use Rattle.log_disk.proofs.Uses.{HasCause-same_before}
use Rattle.segment_file.specs.StandingLog.{LacksGate}
use Rattle.segment_file.specs.declared.layout.TheConstants.{CLOSED}
use Rattle.segment_file.proofs.Results.{OnOk-map_both}
use Rattle.segment_file.proofs.StableGates.{image-stays_closed, lacks_gate-torn_stays_closed, stable_gate-shut, put-shut}
use Rattle.segment_file.proofs.settling.close_gate.Goals as goal

pub returns-then-branch : goal.returns-then-branch
returns-then-branch g c =
    let looks = c.in_ok-lacks_gate.ensures in
    let wrote = c.write_synced.ensures in
    let image = g.met.D.LogDisk.read_is_image c.args.disk.now in
    let lacks : g.D.LogDisk.honest c.args.disk.now → LacksGate c.args.at (g.D.LogDisk.reads c.args.disk.now) =
    λ honest. (looks.found honest).0 c.if-branch.true in
    let written : g.D.LogDisk.honest c.args.disk.now → OnOk c.write_synced.result
    (g.D.LogDisk.reads c.write_synced.new.disk ≡ put c.args.at (CLOSED ∷ []) (g.D.LogDisk.reads c.args.disk.now)) =
    λ honest.
    subst (λ file. OnOk c.write_synced.result (g.D.LogDisk.reads c.write_synced.new.disk ≡ put c.args.at (CLOSED ∷ []) file))
    (looks.keeps.file honest) (wrote.written (looks.honest.0 honest)) in
    record {
      moments = λ honest.
          Leaves-trans g.D.LogDisk.moment g.D.LogDisk.images_since _ _ c.lacks_gate.new.disk _
          (Leaves-call g.D.LogDisk.moment g.D.LogDisk.images_since g.D.LogDisk.images _ _ _ looks.time
          (λ crash left. image-stays_closed c.args.at _ _ (image honest) (c.requires.stable honest) crash ((looks.keeps.image crash).0 left)))
          (Leaves-weaken g.D.LogDisk.moment g.D.LogDisk.images_since _ _ _ _
          (λ crash torn. lacks_gate-torn_stays_closed c.args.at _ _ (image honest) (c.requires.stable honest) (lacks honest) crash
          (torn.0, (looks.keeps.image torn.0).0 torn.1, torn.2)) wrote.moments);
      shut = λ honest.
          OnOk-map_both c.write_synced.result (put-shut c.args.at _ _ _ (c.requires.within honest)) (written honest)
          (wrote.settled (looks.honest.0 honest));
      closed = λ honest lacks. written honest;
      keeps = λ honest has. absurd (has (lacks honest));
      settled = λ honest either. wrote.settled (looks.honest.0 honest);
      count = λ honest. record {
        successes = omega (arith, looks.keeps.count honest, (wrote.count (looks.honest.0 honest)).successes);
        calls = omega (arith, looks.calls honest, (wrote.count (looks.honest.0 honest)).calls);
      };
      later = omega (arith, looks.time.later, wrote.moments.later);
      honest = (λ honest. wrote.honest.0 (looks.honest.0 honest), λ honest. looks.honest.1 (wrote.honest.1 honest));
      attached = wrote.attached ∙ looks.attached;
      cause = HasCause-same_before _ _ _ c.write_synced.result looks.cause.fine wrote.cause;
      length = λ honest. omega (arith, (wrote.torn (looks.honest.0 honest)).no_longer, ap length (looks.keeps.file honest));
    }

pub returns-else-branch : goal.returns-else-branch
returns-else-branch g c =
    let looks = c.in_ok-lacks_gate.ensures in
    let image = g.met.D.LogDisk.read_is_image c.args.disk.now in
    let stays : g.D.LogDisk.honest c.args.disk.now → LacksGate c.args.at (g.D.LogDisk.reads c.args.disk.now) → ⊥ =
    λ honest lacks. true≢false (sym ((looks.found honest).1 lacks) ∙ c.if-branch.false) in
    record {
      moments = λ honest.
          Leaves-call g.D.LogDisk.moment g.D.LogDisk.images_since g.D.LogDisk.images _ _ _ looks.time
          (λ crash left. image-stays_closed c.args.at _ _ (image honest) (c.requires.stable honest) crash ((looks.keeps.image crash).0 left));
      shut = λ honest.
          stable_gate-shut c.args.at _ _ (image honest) (c.requires.stable honest) (stays honest) _
          (λ crash left. (looks.keeps.image crash).0 left);
      closed = λ honest lacks. absurd (stays honest lacks);
      keeps = λ honest has. looks.keeps;
      settled = λ honest either crash left.
          ⊎_elim (λ only. only crash ((looks.keeps.image crash).0 left) ∙ sym (looks.keeps.file honest))
          (λ lacks. absurd (stays honest lacks)) either;
      count = λ honest. record { successes = omega (arith, looks.keeps.count honest); calls = omega (arith, looks.calls honest) };
      later = looks.time.later;
      honest = looks.honest;
      attached = looks.attached;
      cause = record { later = looks.cause.later; fine = looks.cause.fine; failed = tt };
      length = λ honest. omega (arith, ap length (looks.keeps.file honest));
    }
