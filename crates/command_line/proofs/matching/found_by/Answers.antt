use Rattle.std.proofs.Common.{◌∙◌, ap, ap₂, sym, subst, inl, inr, List, ℕ}
use Rattle.std.proofs.lemmas.List.{map-id}
use Rattle.clap.specs.Words.{App, IsAmong, Kinds, fault_of, is_simple, is_simple_and_free, kind_of, subcommand_of, takes}
use Rattle.command_line.proofs.Facts.{is_free-aether, is_simple-aether, mismatch-memory}
use Rattle.command_line.proofs.matching.found_by.Goals as goal

pub returns-in-Ok-clause-ok : goal.returns-in-Ok-clause-ok
returns-in-Ok-clause-ok c =
    (c.in-Ok.ensures.matches (ap is_simple c.requires ∙ is_simple-aether)).1
    ∙ ap₂ (λ (a : App) (ws : List (List ℕ)). subcommand_of a ws) c.requires (map-id c.args.words.now)

pub returns-in-Ok-clause-exact : goal.returns-in-Ok-clause-exact
returns-in-Ok-clause-exact c =
    sym (ap₂ (λ (a : App) (ws : List (List ℕ)). fault_of a ws) c.requires (map-id c.args.words.now))
    ∙ c.in-Ok.ensures.kinds (ap is_simple_and_free c.requires ∙ is_free-aether)

pub returns-in-Err-clause-exact : goal.returns-in-Err-clause-exact
returns-in-Err-clause-exact c = mismatch-memory c.args.words.now _ (λ none.
    let same = ap₂ (λ (a : App) (ws : List (List ℕ)). fault_of a ws) c.requires (map-id c.args.words.now) in
    elim (c.in-Err.ensures.kinds (ap is_simple_and_free c.requires ∙ is_free-aether)) [
      | inl h ↦ c.refusal_of.ensures h
      | inr h ↦ absurd (subst (λ (ks : Kinds). IsAmong (kind_of c.in-Err.error) ks) (same ∙ none) h)
    ])

pub returns-in-Err-clause-taken : goal.returns-in-Err-clause-taken
returns-in-Err-clause-taken c = λ taken.
    let same = ap₂ (λ (a : App) (ws : List (List ℕ)). takes a ws) c.requires (map-id c.args.words.now) in
    c.refusal_of.ensures (c.in-Err.ensures.passes (same ∙ taken))

pub returns-in-Ok-clause-taken : goal.returns-in-Ok-clause-taken
returns-in-Ok-clause-taken c = λ taken. tt
