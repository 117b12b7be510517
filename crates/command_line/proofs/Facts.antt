-- What follows of the program's command where it takes the words: a subcommand is named, one of those that there are.
use Rattle.std.proofs.Common.{◌≡◌, ◌⊎◌, ◌||◌, ◌∙◌, ap₂, sym, inl, inr, Bool, true, false, refl, List, [], ◌∷◌, Option, Some, None, is_some}
use Rattle.std.specs.Prelude.{◌&&◌, not, unwrap_or, find, option_map, map}
use Rattle.std.specs.List.{list_any}
use Rattle.clap.specs.declared.error.kind.ErrorKind.TheVariants.{DisplayHelpOnMissingArgumentOrSubcommand, MissingSubcommand}
use Rattle.std.specs.Borrow.{Bor}
use Rattle.clap.specs.Facts.{explicit_source}
use Rattle.clap.specs.Faults.{level_fault, check_fault, defaults_fault, settle_fault, walk_fault}
use Rattle.clap.specs.Kinds.{Kinds, or_else}
use Rattle.clap.specs.Simple.{entered, rows_at, names_of, argument_words}
use Rattle.clap.specs.Walk.{Names, Held, Text, finished, nothing_held, settled, stop_after, walk, walk_from}
use Rattle.clap.specs.Words.{App, Row, Shape, is_simple, is_simple_and_free, subcommand_of, fault_of, built}
use Rattle.command_line.specs.CommandLine.{aether_command, demo_command, run_command, AreKnown, IsMismatchOf, IsSubcommand, NamesSubcommand}
use Rattle.command_line.specs.declared.command.Subcommand.TheVariants as subcommand
use Rattle.command_line.specs.declared.command.RefusedWords.{RefusedWords}
use Rattle.command_line.specs.declared.command.RefusedWords.TheVariants.{NoMemory, Usage}

pub is_simple-aether : is_simple aether_command ≡ true
unfolding aether_command run_command demo_command
is_simple-aether = refl

pub is_free-aether : is_simple_and_free aether_command ≡ true
unfolding aether_command run_command demo_command
is_free-aether = refl

pub both_false : (a b x : Bool) → x ≡ (a || b) → a ≡ false → b ≡ false → x ≡ false
both_false a b x e p q = e ∙ ap₂ (λ (s t : Bool). s || t) p q

-- where there is no fault in two steps, there is none in the second
eq_dec_bool : (b : Bool) → (b ≡ true) ⊎ (b ≡ false)
eq_dec_bool true = inl refl
eq_dec_bool false = inr refl

or_else-none : (first next : Kinds) → or_else first next ≡ [] → next ≡ []
or_else-none [] next none = none
or_else-none (kind ∷ more) next none = cc

-- where a level has no fault, its last check has none
level_fault-check : (s : Shape) (names : Names) (h : Held) (words : List Text) (has : Bool) (below : Kinds)
    → level_fault s names h words has below ≡ [] → check_fault s (finished s.rules (walk s.rules names h words).held) has ≡ []
level_fault-check s names h words has below none =
    let end = (walk s.rules names h words).held in
    or_else-none (defaults_fault (settled s.rules end).rows s.rules) _
    (or_else-none (settle_fault s.rules s.args_override_self end) _
    (or_else-none below _ (or_else-none (walk_fault s names (walk_from h) words) _ none)))

check_fault-some : (s : Shape) (rows : List Row) (has : Bool) → s.subcommand_required ≡ true → check_fault s rows has ≡ [] → has ≡ true
check_fault-some s rows true required none = refl
check_fault-some s rows false required none =
    go (s.arg_required_else_help && not (list_any (λ r. explicit_source r.source) rows)) refl
  where
    go : (help : Bool) → help ≡ (s.arg_required_else_help && not (list_any (λ r. explicit_source r.source) rows)) → false ≡ true
    go true is = let kinds : check_fault s rows false ≡ DisplayHelpOnMissingArgumentOrSubcommand ∷ [] = rw (sym is) refl in cc
    go false is = let kinds : check_fault s rows false ≡ MissingSubcommand ∷ [] = rw (sym is, required) refl in cc

-- where a subcommand is required, the words name one
names_some : (a : App) (words : List Text) → (built a).top.subcommand_required ≡ true → fault_of a words ≡ [] → is_some (subcommand_of a words) ≡ true
names_some a words required none = check_fault-some (built a).top
    (finished (built a).top.rules (walk (built a).top.rules (names_of (built a)) nothing_held (argument_words a words)).held) _ required
    (level_fault-check (built a).top _ _ _ _ _ none)

abbrev pub IsOneOf : List Text → Text → Type 0
IsOneOf [] name = ⊥
IsOneOf (one ∷ more) name = (name ≡ one) ⊎ IsOneOf more name

-- what is found is made of one of these
found-one : {X : Type 0} (f : X → Text × List Row) (xs : List X) (test : X → Bool) (r : Text × List Row)
    → option_map f (find test xs) ≡ Some r → IsOneOf (map (λ x. (f x).0) xs) r.0
found-one f [] test r found = cc
found-one f (x ∷ xs) test r found = elim (eq_dec_bool (test x)) [
  | inl is ↦ inl (let this : Some (f x) ≡ Some r = rw is at found in cc)
  | inr is ↦ inr (found-one f xs test r (rw is at found))
]

-- a subcommand that is entered has one of their names
entered-name : (a : App) (stop : Option (Text × List Text)) (name : Text) (rows : List Row) → entered a stop ≡ Some (name, rows)
    → IsOneOf (map (λ s. s.name) a.subs) name
entered-name a None name rows found = cc
entered-name a (Some p) name rows found = found-one (λ s. rows_at s p.1) a.subs _ (name, rows) found

pub named_some : (words : List Text) → AreKnown words → is_some (subcommand_of aether_command words) ≡ true
unfolding aether_command run_command demo_command
named_some words known = names_some aether_command words refl known

pub named-one : (words : List Text) (name : Text) (rows : List Row) → NamesSubcommand words name rows → IsSubcommand name
unfolding aether_command run_command demo_command
named-one words name rows named =
    let a = built aether_command in
    elim (entered-name a (stop_after a.top.rules (names_of a) (argument_words aether_command words)) name rows named) [
      | inl new ↦ (subcommand.New, new)
      | inr (inl run) ↦ (subcommand.Run, run)
      | inr (inr (inl recover)) ↦ (subcommand.Recover, recover)
      | inr (inr (inr (inl dump))) ↦ (subcommand.Dump, dump)
      | inr (inr (inr (inr (inl demo)))) ↦ (subcommand.Demo, demo)
      | inr (inr (inr (inr (inr (inl cut))))) ↦ (subcommand.Cut, cut)
      | inr (inr (inr (inr (inr (inr (inl upgrade)))))) ↦ (subcommand.Upgrade, upgrade)
      | inr (inr (inr (inr (inr (inr (inr (inl ship))))))) ↦ (subcommand.Ship, ship)
      | inr (inr (inr (inr (inr (inr (inr (inr (inl follow)))))))) ↦ (subcommand.Follow, follow)
      | inr (inr (inr (inr (inr (inr (inr (inr (inr (inl asof))))))))) ↦ (subcommand.AsOf, asof)
      | inr (inr (inr (inr (inr (inr (inr (inr (inr (inr (inl statement)))))))))) ↦ (subcommand.Statement, statement)
      | inr (inr (inr (inr (inr (inr (inr (inr (inr (inr (inr none)))))))))) ↦ elim none [ ]
    ]

-- the text behind a reference that may be missing
pub unwrap_or-text : (text : Option (Bor Text)) (other : Bor Text) → (unwrap_or text other).now ≡ unwrap_or (option_map (λ s. s.now) text) other.now
unwrap_or-text None other = refl
unwrap_or-text (Some text) other = refl

module _ {B : Type 0} (name_of : B → Text) (rows_of : B → List Row) where
  abbrev both : B → Text × List Row
  both b = (name_of b, rows_of b)

  -- what a parse tells of the subcommand that it entered
  pub name_and_rows-option_map_both : (sub : Option B) (name : Text) (rows : List Row) → Some name ≡ option_map name_of sub
      → Some rows ≡ option_map (λ (p : Text × List Row). p.1) (option_map both sub) → option_map both sub ≡ Some (name, rows)
  name_and_rows-option_map_both None name rows is_name is_rows = cc
  name_and_rows-option_map_both (Some b) name rows is_name is_rows = cc

  pub option_map_both-none : (sub : Option B) → false ≡ is_some sub → is_some (option_map both sub) ≡ false
  option_map_both-none None none = refl
  option_map_both-none (Some b) none = cc

-- want of memory is the only refusal of words that the command takes
pub mismatch-memory : (words : List Text) (refused : RefusedWords) → (AreKnown words → refused ≡ NoMemory) → IsMismatchOf words refused
mismatch-memory words NoMemory memory = tt
mismatch-memory words Usage memory = λ known. let never : Usage ≡ NoMemory = memory known in cc
