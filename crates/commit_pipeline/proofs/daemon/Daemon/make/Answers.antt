use Rattle.std.proofs.Common.{refl}
use Rattle.commit_pipeline.proofs.ToldSoFar.{HasToldAll-has_told, HasToldAll-made}
use Rattle.commit_pipeline.proofs.daemon.Daemon.make.Goals as goal

pub returns : goal.returns
returns g c = record {
  flusher = refl;
  sink = refl;
  voice = refl;
  done = refl;
  refused = refl;
  fine = refl;
  first = c.of-first.ensures;
  begun = c.of-begun.ensures;
  told = HasToldAll-made g.K.Sink _ _ c.args.voice _ _ c.of-first.ensures c.of-begun.ensures;
}

pub invariant_of-result : goal.invariant_of-result
invariant_of-result g c = record {
  told = ∣ HasToldAll-has_told g.K.Sink _ c.args.voice _ _ _
      (HasToldAll-made g.K.Sink _ _ c.args.voice _ _ c.of-first.ensures c.of-begun.ensures) ∣₁;
}
