-- What words ask, from the subcommand that they name.
use Rattle.std.proofs.Common.{◌≡◌, ◌⊎◌, ◌<◌, ◌^◌, inl, inr, ◌∙◌, ap, sym, subst, refl, true, ℕ, List, [], ◌∷◌, Option, Some, None, is_some, arith, Result, Ok, Err, IfErr, MatchResult}
use Rattle.std.specs.List.{find}
use Rattle.std.specs.Str.{bytes_eq}
use Rattle.clap.specs.Words.{Row, subcommand_of}
use Rattle.command_line.specs.CommandLine.{aether_command, Answers, AreKnown, AreTaken, Asks, AsksNothing, AsksNumber, HasNumbers, IsCommandLine}
use Rattle.command_line.specs.CommandLine.{IsDemo, IsMismatchOf, IsRefusalOf, NamesBadNumbers, NamesNumbers, NamesSubcommand, log_in, name_of}
use Rattle.command_line.specs.declared.command.Command.{Command}
use Rattle.command_line.specs.declared.command.Command.TheVariants as command
use Rattle.command_line.specs.declared.command.RefusedWords.{RefusedWords}
use Rattle.command_line.specs.declared.command.RefusedWords.TheVariants.{NoMemory, Usage}
use Rattle.command_line.specs.declared.command.Subcommand.{Subcommand}
use Rattle.command_line.specs.declared.command.Subcommand.TheVariants.{New, Run, Recover, Dump, Demo, Cut, Upgrade, Ship, Follow, AsOf, Statement}
use Rattle.command_line.specs.declared.options.RunOptions.{RunOptions}
use Rattle.command_line.proofs.Facts.{named_some, named-one}
use Rattle.command_line.proofs.OptionLemmas.{IsGiven-same, AreOptions-same}

same-pair : {A B : Type 0} (p q : A × B) → Some p ≡ Some q → (p.0 ≡ q.0) × (p.1 ≡ q.1)
same-pair p q same = let equal : p ≡ q = cc in (ap (λ r. r.0) equal, ap (λ r. r.1) equal)

-- the subcommand of a name
abbrev found_as : List ℕ → Option Subcommand
found_as name = find (λ this. bytes_eq (name_of this) name)
    (New ∷ Run ∷ Recover ∷ Dump ∷ Demo ∷ Cut ∷ Upgrade ∷ Ship ∷ Follow ∷ AsOf ∷ Statement ∷ [])

found_as-name_of : (this : Subcommand) → found_as (name_of this) ≡ Some this
found_as-name_of New = refl
found_as-name_of Run = refl
found_as-name_of Recover = refl
found_as-name_of Dump = refl
found_as-name_of Demo = refl
found_as-name_of Cut = refl
found_as-name_of Upgrade = refl
found_as-name_of Ship = refl
found_as-name_of Follow = refl
found_as-name_of AsOf = refl
found_as-name_of Statement = refl

-- subcommands of one name are one
name_of-injective : (this other : Subcommand) → name_of this ≡ name_of other → this ≡ other
name_of-injective this other same =
    let some : Some this ≡ Some other = sym (found_as-name_of this) ∙ ap found_as same ∙ found_as-name_of other in
    cc

-- one command at most is asked by a subcommand with these matches
one-number : (rows : List Row) (argument : List ℕ) (most : ℕ) (with_number : ℕ → Command) (one other : Command) → most < 2 ^ 32
    → AsksNumber rows argument most with_number one → AsksNumber rows argument most with_number other → one ≡ other
one-number rows argument most with_number one other small is also =
    is.2 ∙ ap with_number (IsGiven-same rows argument most is.0 also.0 small is.1 also.1) ∙ sym also.2

one-demo : (rows : List Row) (transfers seed n more-seed : ℕ) (options more : RunOptions) → IsDemo rows transfers seed options
    → IsDemo rows n more-seed more → command.Demo (log_in rows) transfers seed options ≡ command.Demo (log_in rows) n more-seed more
one-demo rows transfers seed n more-seed options more are also =
    let same-n : transfers ≡ n = IsGiven-same rows _ _ transfers n (omega arith) are.transfers_given also.transfers_given in
    let same-seed : seed ≡ more-seed = IsGiven-same rows _ _ seed more-seed (omega arith) are.seed_given also.seed_given in
    let same-options : options ≡ more = AreOptions-same rows options more are.options_are also.options_are in
    λ i. command.Demo (log_in rows) (same-n i) (same-seed i) (same-options i)

one-asked : (this : Subcommand) (rows : List Row) (one other : Command) → Asks this rows one → Asks this rows other → one ≡ other
one-asked New rows one other is also = is ∙ sym also
one-asked Run rows one other is also =
    is.2 ∙ ap (command.Run (log_in rows)) (AreOptions-same rows is.0 also.0 is.1 also.1) ∙ sym also.2
one-asked Recover rows one other is also = is ∙ sym also
one-asked Dump rows one other is also = is ∙ sym also
one-asked Demo rows one other is also = is.4 ∙ one-demo rows is.0 is.1 also.0 also.1 is.2 also.2 is.3 also.3 ∙ sym also.4
one-asked Cut rows one other is also = is ∙ sym also
one-asked Upgrade rows one other is also = is ∙ sym also
one-asked Ship rows one other is also = one-number rows _ _ command.Ship one other (omega arith) is also
one-asked Follow rows one other is also = is ∙ sym also
one-asked AsOf rows one other is also = one-number rows _ _ command.AsOf one other (omega arith) is also
one-asked Statement rows one other is also = one-number rows _ _ command.Statement one other (omega arith) is also

-- a subcommand asks something, but for those that are given numbers
asks-something : (this : Subcommand) (rows : List Row) → ((command : Command) × Asks this rows command) ⊎ HasNumbers this
asks-something New rows = inl (command.New (log_in rows), refl)
asks-something Run rows = inr (inl refl)
asks-something Recover rows = inl (command.Recover, refl)
asks-something Dump rows = inl (command.Dump, refl)
asks-something Demo rows = inr (inr (inl refl))
asks-something Cut rows = inl (command.Cut (log_in rows), refl)
asks-something Upgrade rows = inl (command.Upgrade (log_in rows), refl)
asks-something Ship rows = inr (inr (inr (inl refl)))
asks-something Follow rows = inl (command.Follow (log_in rows), refl)
asks-something AsOf rows = inr (inr (inr (inr (inl refl))))
asks-something Statement rows = inr (inr (inr (inr (inr refl))))

has-numbers : (this : Subcommand) (rows : List Row) → AsksNothing this rows → HasNumbers this
has-numbers this rows none = elim (asks-something this rows) [
  | inl asked ↦ absurd (none asked.0 asked.1)
  | inr has ↦ has
]

some-pair : {X : Type 0} (o : Option X) → is_some o ≡ true → (x : X) × (o ≡ Some x)
some-pair None is = cc
some-pair (Some x) is = (x, refl)

module _ (words : List (List ℕ)) where
  -- words name one subcommand, with the same matches
  same-asked : (this other : Subcommand) (rows more : List Row) (command : Command) → NamesSubcommand words (name_of this) rows
      → NamesSubcommand words (name_of other) more → Asks other more command → Asks this rows command
  same-asked this other rows more command named also asked =
      let same = same-pair (name_of this, rows) (name_of other, more) (sym named ∙ also) in
      subst (λ r. Asks this r command) (sym same.1)
      (subst (λ s. Asks s more command) (sym (name_of-injective this other same.0)) asked)

  pub IsCommandLine-same : (one other : Command) → IsCommandLine words one → IsCommandLine words other → one ≡ other
  IsCommandLine-same one other is also = one-asked is.subcommand is.rows one other is.asked
      (same-asked is.subcommand also.subcommand is.rows also.rows other is.named also.named also.asked)

  -- words that are known ask something, but for subcommands that are given numbers
  pub AreKnown-taken_or_numbers : AreKnown words → AreTaken words ⊎ NamesNumbers words
  AreKnown-taken_or_numbers known =
      let found = some-pair (subcommand_of aether_command words) (named_some words known) in
      let this = named-one words found.0.0 found.0.1 found.1 in
      let named : NamesSubcommand words (name_of this.0) found.0.1 = subst (λ name. NamesSubcommand words name found.0.1) this.1 found.1 in
      elim (asks-something this.0 found.0.1) [
        | inl asks ↦ inl (asks.0, record { known = known; subcommand = this.0; rows = found.0.1; named = named; asked = asks.1 })
        | inr has ↦ inr (this.0, found.0.1, has, named)
      ]

  -- words that the command doesn't take ask nothing
  pub refuses-mismatch : (refused : RefusedWords) → IsMismatchOf words refused → IsRefusalOf words refused
  refuses-mismatch Usage unknown = λ taken. unknown taken.1.known
  refuses-mismatch NoMemory any = tt

  module _ (this : Subcommand) (rows : List Row) (named : NamesSubcommand words (name_of this) rows) where
    none-asked : AsksNothing this rows → AreTaken words → ⊥
    none-asked none taken =
        none taken.0 (same-asked this taken.1.subcommand rows taken.1.rows taken.0 named taken.1.named taken.1.asked)

    -- what is answered for the subcommand that words name is what they ask, or that they ask nothing
    pub Answers-command_or_refusal : AreKnown words → (result : Result Command RefusedWords) → Answers this rows result
        → MatchResult result (IsCommandLine words) (IsRefusalOf words)
    Answers-command_or_refusal known (Ok command) is = record { known = known; subcommand = this; rows = rows; named = named; asked = is }
    Answers-command_or_refusal known (Err fault) (inl memory) = subst (IsRefusalOf words) (sym memory) tt
    Answers-command_or_refusal known (Err fault) (inr usage) = subst (IsRefusalOf words) (sym usage.0) (none-asked usage.1)

    pub Answers-memory_or_numbers : (result : Result Command RefusedWords) → Answers this rows result
        → IfErr result (λ fault. (fault ≡ NoMemory) ⊎ NamesBadNumbers words)
    Answers-memory_or_numbers (Ok command) is = tt
    Answers-memory_or_numbers (Err fault) (inl memory) = inl memory
    Answers-memory_or_numbers (Err fault) (inr usage) = inr (this, rows, has-numbers this rows usage.1, named, usage.1)
