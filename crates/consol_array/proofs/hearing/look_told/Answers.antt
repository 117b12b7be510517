use Rattle.std.proofs.Common.{inl, inr, ⊎_elim, ◌≡◌, ◌∙◌, sym}
use Rattle.slot_word.specs.declared.phase.Phase.TheVariants.{Gathering, Pending}
use Rattle.consol_array.proofs.hearing.look_told.Goals as goal

pub returns-in-Gathering-clause-untold : goal.returns-in-Gathering-clause-untold
returns-in-Gathering-clause-untold c =
    record {
      state = c.load_slot-state.result;
      untold = ⊎_elim (λ (is : c.phase.result ≡ Gathering). inl (sym c.phase.ensures.phase ∙ is))
          (λ (is : c.phase.result ≡ Pending). inr (sym c.phase.ensures.phase ∙ is)) c.in-Gathering.is;
      becomes = c.load_slot-state.ensures.view;
    }
