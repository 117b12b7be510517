-- The accounts' words are put in at first and read at the end, one after another.
use Rattle.std.proofs.Common.{◌≡◌, ◌≢◌, ℕ, zero, suc, ◌+◌, ◌*◌, ◌<◌, false, List, [], ◌∷◌, length, get_or, set, sym, ap, ◌∙◌, arith, length-set, get_or-set_same, get_or-set_other}
use mathlib.Core.Logic.{dite}
use mathlib.Core.Option.{some, some-injective, some-ne-none}
use native.Mathlib.Decide.{ℕ_discrete}
use lib.ListN.{get_elem?}
use Rattle.slot_word.specs.AccountWord.{packed, last_commit_in}
use Rattle.table_layout.specs.declared.layout.TheConstants.{STRIDE, RING}
use Rattle.table_layout.specs.Layout.{Account, Balance, index_of, word_count}
use Rattle.table_layout.specs.AccountWords.{PutsAccounts, ReadsRows}

module _ (ring slots : ℕ) (rows : List (ℕ × ℕ)) (n : ℕ) (old new : List ℕ) (below : n < length rows)
    (size : length old ≡ word_count ring slots (length rows)) (puts : PutsAccounts ring slots rows n old new) where
  module _ (word balance place beside : ℕ) (at : place ≡ RING + ring + ring + STRIDE * (slots + slots + n))
      (at-balance : beside ≡ RING + ring + ring + STRIDE * (slots + slots + n) + 1)
      (is : word ≡ packed false (get_or rows n (0, 0)).1) (is-balance : balance ≡ (get_or rows n (0, 0)).0) where
    abbrev mid : List ℕ
    mid = set new place word

    abbrev last : List ℕ
    last = set mid beside balance

    length-mid : length mid ≡ length old
    length-mid = length-set new place word ∙ puts.count

    -- every other word stays
    other : (k : ℕ) → k ≢ place → k ≢ beside → get_or last k 0 ≡ get_or new k 0
    other k differ apart = get_or-set_other mid beside k balance 0 apart ∙ get_or-set_other new place k word 0 differ

    here : get_or last place 0 ≡ word
    here = get_or-set_other mid beside place balance 0 (λ e. omega arith)
        ∙ get_or-set_same new place word 0 (let count = puts.count in omega arith)

    here-balance : get_or last beside 0 ≡ balance
    here-balance = get_or-set_same mid beside balance 0 (let count = length-mid in omega arith)

    pub puts-more : PutsAccounts ring slots rows (n + 1) old last
    puts-more = record {
      count = length-set mid beside balance ∙ length-mid;
      others = λ k low. other k (λ e. omega arith) (λ e. omega arith) ∙ puts.others k low;
      each = λ account lt. dite (ℕ_discrete account n)
          (λ same. ap (λ a. get_or last (RING + ring + ring + STRIDE * (slots + slots + a)) 0) same
          ∙ (ap (λ p. get_or last p 0) (sym at) ∙ (here
          ∙ (is ∙ ap (λ a. packed false (get_or rows a (0, 0)).1) (sym same)))))
          (λ differ. other (RING + ring + ring + STRIDE * (slots + slots + account)) (λ e. omega arith) (λ e. omega arith)
          ∙ puts.each account (omega arith));
      balances = λ account lt. dite (ℕ_discrete account n)
          (λ same. ap (λ a. get_or last (RING + ring + ring + STRIDE * (slots + slots + a) + 1) 0) same
          ∙ (ap (λ p. get_or last p 0) (sym at-balance) ∙ (here-balance
          ∙ (is-balance ∙ ap (λ a. (get_or rows a (0, 0)).0) (sym same)))))
          (λ differ. other (RING + ring + ring + STRIDE * (slots + slots + account) + 1) (λ e. omega arith) (λ e. omega arith)
          ∙ puts.balances account (omega arith));
    }

pub reads-more : (ring slots n : ℕ) (words : List ℕ) (values : ℕ × ℕ) (old new : List (ℕ × ℕ)) → n < length old
    → values ≡ (get_or words (index_of ring slots (Balance n)) 0, last_commit_in (get_or words (index_of ring slots (Account n)) 0))
    → ReadsRows ring slots n words old new → ReadsRows ring slots (n + 1) words old (set new n values)
reads-more ring slots n words values old new below is reads = record {
  count = length-set new n values ∙ reads.count;
  each = λ account lt. dite (ℕ_discrete account n)
      (λ same. ap (λ a. get_or (set new n values) a (0, 0)) same ∙ (get_or-set_same new n values (0, 0) (let count = reads.count in omega arith)
      ∙ (is ∙ ap (λ a. (get_or words (index_of ring slots (Balance a)) 0, last_commit_in (get_or words (index_of ring slots (Account a)) 0))) (sym same))))
      (λ differ. get_or-set_other new n account values (0, 0) differ ∙ reads.each account (omega arith));
}

pub get_elem-get_or : (l : List ℕ) (i a : ℕ) → get_elem? l i ≡ some a → get_or l i 0 ≡ a
get_elem-get_or [] i a e = absurd (some-ne-none a (sym e))
get_elem-get_or (x ∷ xs) zero a e = some-injective x a e
get_elem-get_or (x ∷ xs) (suc i) a e = get_elem-get_or xs i a e
