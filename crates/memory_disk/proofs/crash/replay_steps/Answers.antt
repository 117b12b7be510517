use Rattle.std.proofs.Common.{rules, ◌∙◌, ap, refl, subst, ◌+◌, List, ◌∷◌, [], drop, length, arith}
use Rattle.std.proofs.lemmas.List.{drop_more}
use Rattle.memory_disk.specs.MemoryDisks.{recorded}
use Rattle.memory_disk.specs.declared.step.Step.{Step}
use Rattle.memory_disk.specs.declared.step.Step.TheVariants.{Write}
use Rattle.memory_disk.proofs.Replays.{IsReplayed, replayed-write, replayed-sync}
use Rattle.memory_disk.proofs.crash.replay_steps.Goals as goal
use Rattle.memory_disk.proofs.crash.replay_steps.Goals.{in-Write, in-Sync}

pub steps-preserved : goal.steps-preserved
steps-preserved c =
    let behind = drop (c.steps.step-index + 1) c.args.steps.now in
    let ahead = drop_more c.args.steps.now c.steps.step-index (Write 0 0) (search rules) in
    let from = λ (steps : List Step). IsReplayed c.args.pick c.args.image.now.items (recorded c.args.steps.now c.args.log.now [])
    steps c.steps.rest.now c.steps.digits.left c.steps.image.items c.steps.file.items in
    elim c.match-step.branch [
      | in-Write w ↦
          let was = subst from (ahead ∙ ap (λ (step : Step). step ∷ behind) w.in-Write.is) c.steps.invariant.replayed in
          rw (w.image-is, w.file-is, w.rest-is, w.digits-is) record {
            replayed = replayed-write _ _ _ _ _ _ _ _ _ _ _ _ _ _ _ was w.split_at.ensures.front w.split_at.ensures.back
                record { range = w.tear.ensures.torn; none = w.tear.ensures.none; none_left = w.tear.ensures.none_left; landed = w.tear.ensures.landed }
                w.place.ensures.put;
            image_length = search rules;
            file_length = search rules;
            image_capacity = search rules;
            file_capacity = search rules;
          }
      | in-Sync w ↦
          let was = subst from (ahead ∙ ap (λ (step : Step). step ∷ behind) w.in-Sync.is) c.steps.invariant.replayed in
          rw (w.image-is, w.file-is, w.rest-is, w.digits-is) record {
            replayed = replayed-sync _ _ _ _ _ _ _ _ _ was w.copy_over.ensures.same;
            image_length = search rules;
            file_length = search rules;
            image_capacity = search rules;
            file_capacity = search rules;
          }
    ]

pub steps-init : goal.steps-init
steps-init c = record {
  replayed = record {
    history = [];
    leads_on = refl;
    left = refl;
    picked = record { none = λ zero. refl; none_left = λ zero. c.requires.digits ∙ zero; whole = λ synced. c.requires.digits; landed = tt };
    read = c.requires.same;
    bytes = c.requires.whole;
  };
  image_length = omega arith;
  file_length = omega (arith, ap length c.requires.same);
  image_capacity = omega arith;
  file_capacity = omega arith;
}
