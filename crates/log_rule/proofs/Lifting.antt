-- A kind of step keeps the rule of the base crate where it leads from sound tables to sound ones.
use Rattle.std.proofs.Common.{◌≡◌, ℕ, ◌<◌, List, length, get_or, set, sym, refl, ◌∙◌, subst, length-set}
use mathlib.Core.Option.{some}
use lib.ListN.{get_elem?}
use Rattle.atomic_table.specs.Table.{Me, keeps, Allows}
use Rattle.log_rule.specs.declared.start.Start.{Start}
use Rattle.log_rule.specs.declared.view.View.{View}
use Rattle.table_layout.specs.Layout.{Word, index_of}
use Rattle.log_rule.specs.Log.{Log}
use Rattle.log_rule.specs.Sound.{IsSound, Ruled}
use Rattle.log_rule.specs.Words.{Words, words_in, word_at, with_word}
use Rattle.log_rule.specs.Events.{IsStep, Leads, Event}
use Rattle.table_layout.proofs.WordPlaces.{Fits}
use Rattle.log_rule.proofs.WordPlaces.{words_of-set, get_or-word_at}

-- what the rule tells of the word, whenever the seat has this view
abbrev pub Tells : Start → ℕ → Word → View → (ℕ → Type 0) → Type 0
Tells key seat word view P = (words : Words) (views : List View) (log : Log) → IsSound key words views log → get_elem? views seat ≡ some view
    → P (word_at words word)

module _ (key : Start) (slots seat : ℕ) (me : Me (Unit {0}) View) (word : Word) (fits : Fits key.ring key.slots (length key.accounts.rows) word) where
  -- a step that finds n, leaves `left n` in the word and `after n` as the seat's view; it may tell what the rule says before it and behind it
  pub allowed-if_told : (left : ℕ → ℕ) (after : ℕ → View) (event : ℕ → Event) (P : ℕ → Type 0)
      → ((words : Words) (views : List View) (log : Log) → IsSound key words views log → get_elem? views seat ≡ some me.0 → (n : ℕ) → word_at words word ≡ n
      → Leads key words (with_word words word (left n)) views (set views seat (after n)) log (event n) → P n)
      → ((n : ℕ) → n < 18446744073709551616 → IsStep key seat word n (left n) me.0 (after n) (event n))
      → Allows (Ruled key) slots seat me (index_of key.ring key.slots word) left (λ n new. (new ≡ (after n, me.1)) × P n)
  allowed-if_told left after event P told step s ruled deep here small =
      let n : ℕ = get_or s.words (index_of key.ring key.slots word) 0 in
      let read : n ≡ word_at (words_in key s.words) word = get_or-word_at key.ring key.slots (length key.accounts.rows) s.words word fits in
      let led = (step n small).leads (words_in key s.words) s.views ruled.1.0 ruled.1.1 here (sym read) in (
        after n,
        keeps,
        tt,
        (
          length-set s.words (index_of key.ring key.slots word) (left n)
              ∙ ruled.0,
          (
            led.after,
            subst (λ (w : Words). IsSound key w (set s.views seat (after n)) led.after)
                (sym (words_of-set key.ring key.slots (length key.accounts.rows) s.words word (left n) fits ruled.0)) led.sound,
          ),
        ),
        (refl, told (words_in key s.words) s.views ruled.1.0 ruled.1.1 here n (sym read) led),
      )

  -- the same where it tells of the word alone
  pub allowed-if_step : (left : ℕ → ℕ) (after : ℕ → View) (event : ℕ → Event) (P : ℕ → Type 0)
      → Tells key seat word me.0 P
      → ((n : ℕ) → n < 18446744073709551616 → IsStep key seat word n (left n) me.0 (after n) (event n))
      → Allows (Ruled key) slots seat me (index_of key.ring key.slots word) left (λ n new. (new ≡ (after n, me.1)) × P n)
  allowed-if_step left after event P tells =
      allowed-if_told left after event P (λ words views log s at n is _. subst P is (tells words views log s at))
