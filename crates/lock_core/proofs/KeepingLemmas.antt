-- How what is kept of transactions goes on by one entry.
use Rattle.std.proofs.Common.{◌≡◌, ◌≢◌, ◌<◌, ◌⊎◌, inl, inr, ⊎_elim, ℕ, ◌+◌, ◌-◌, ◌||◌, cond, true, false, true≢false, List, [], ◌∷◌, ◌++◌, length}
use Rattle.std.proofs.Common.{take, refl, ap, ◌∙◌, sym, subst, arith, eq-eqb, ne_eqb, length-append}
use Rattle.std.specs.List.{AllByRecursion}
use Rattle.std.proofs.lemmas.List.{get_or_append_left}
use mathlib.Core.Logic.{dite}
use native.Mathlib.Decide.{ℕ_discrete}
use Rattle.log_record.specs.declared.rec.Rec.{Rec}
use Rattle.log_record.specs.declared.rec.Placed.{Placed}
use Rattle.log_record.specs.declared.rec.Rec.TheVariants.{Update}
use Rattle.txn_tables.specs.declared.txn_table.TxnTable.{TxnTable}
use Rattle.txn_tables.specs.Values.{value_at, PutsValue}
use Rattle.lock_core.specs.declared.update.Change.{Change}
use Rattle.lock_core.specs.declared.update_links.TheConstants.{ENDED}
use Rattle.lock_core.specs.declared.update_links.UpdateLink.{UpdateLink}
use Rattle.lock_core.specs.declared.transactions.Transactions.{Transactions}
use Rattle.lock_core.specs.Records.{txn_of, ends, changes_of}
use Rattle.lock_core.specs.Transactions.{recs_of, own_records_of, updates_of, has_end, changes_in}
use Rattle.lock_core.specs.KeptLedger.{no_link, link_at, HasChain, IsOpenAt, KeepsRecords, AreActive, KeepsTransactions}
use Rattle.lock_core.proofs.OneMore.{of_transaction-first_own, of_transaction-first_other}
use Rattle.lock_core.proofs.ChainLemmas.{chain-append, chain-push}

own_records_of-same : (n : ℕ) (entry : Placed) (h : List Placed) → txn_of entry.rec ≡ n → own_records_of n (entry ∷ h) ≡ entry.rec ∷ own_records_of n h
own_records_of-same n entry h is = ap recs_of (of_transaction-first_own n entry h is)

own_records_of-other : (n : ℕ) (entry : Placed) (h : List Placed) → txn_of entry.rec ≢ n → own_records_of n (entry ∷ h) ≡ own_records_of n h
own_records_of-other n entry h other = ap recs_of (of_transaction-first_other n entry h other)

-- ---- the transactions that are active

-- a list without a number that it has: it is shorter, and what none of it is, no other of the list is
record LeavesOut (txn : ℕ) (list : List ℕ) : Type 0 where
  pub rest : List ℕ
  pub shorter : length rest < length list
  pub others : (other : ℕ) → txn ≢ other → AllByRecursion (λ one. one ≢ other) rest → AllByRecursion (λ one. one ≢ other) list

left_out : (txn : ℕ) (list : List ℕ) → AllByRecursion (λ one. one ≢ txn) list ⊎ LeavesOut txn list
left_out txn [] = inl tt
left_out txn (first ∷ list) = dite (ℕ_discrete first txn)
    (λ same. inr (record { rest = list; shorter = omega arith; others = λ other apart all. ((λ is. apart (sym same ∙ is)), all) }))
    (λ apart. ⊎_elim (λ none. inl (apart, none))
    (λ less. inr (record {
      rest = first ∷ less.rest;
      shorter = let less' = less.shorter in omega arith;
      others = λ other differs all. (all.0, less.others other differs all.1);
    }))
    (left_out txn list))

-- a transaction that has its end record is active no more
ended-are_active : (newest newer : TxnTable) (updates : List UpdateLink) (active less txn : ℕ) (list : List ℕ) → PutsValue newest newer txn ENDED
    → value_at newest txn ≢ ENDED → (value_at newest txn ≡ 0 → less ≡ active) → (value_at newest txn ≢ 0 → less ≡ active - 1)
    → AreActive (record { newest = newest; updates = updates; active = active }) list
    → (rest : List ℕ) × AreActive (record { newest = newer; updates = updates; active = less }) rest
ended-are_active newest newer updates active less txn list puts unended same down are = dite (ℕ_discrete (value_at newest txn) 0)
    (λ none. (
      list,
      record {
        count = let is = same none in let most = are.count in omega arith;
        fits = let is = same none in let fits = are.fits in omega arith;
        others = λ other all. after other (λ apart. are.others other all);
      },
    ))
    (λ some. ⊎_elim (λ all. absurd (⊎_elim some unended (are.others txn all)))
    (λ left. (
      left.rest,
      record {
        count = let is = down some in let most = are.count in let shorter = left.shorter in omega arith;
        fits = let is = down some in let fits = are.fits in omega arith;
        others = λ other all. after other (λ apart. are.others other (left.others other apart all));
      },
    ))
    (left_out txn list))
  where
    after : (other : ℕ) → (txn ≢ other → (value_at newest other ≡ 0) ⊎ (value_at newest other ≡ ENDED))
        → (value_at newer other ≡ 0) ⊎ (value_at newer other ≡ ENDED)
    after other before = dite (ℕ_discrete txn other)
        (λ is. inr (puts other ∙ ap (λ b. cond b ENDED (value_at newest other)) (eq-eqb txn other is)))
        (λ apart. subst (λ value. (value ≡ 0) ⊎ (value ≡ ENDED)) (sym (puts other ∙ ap (λ b. cond b ENDED (value_at newest other)) (ne_eqb txn other apart))) (before apart))

-- a transaction that isn't active has neither an Update nor, without its end, a place
module _ (txns : Transactions) (h : List Placed) (kept : KeepsTransactions txns h) (none_active : txns.active ≡ 0) where
  none : (list : List ℕ) → AreActive txns list → (txn : ℕ) → (value_at txns.newest txn ≡ 0) ⊎ (value_at txns.newest txn ≡ ENDED)
  none [] are txn = are.others txn tt
  none (first ∷ list) are txn = absurd (let most = are.count in omega arith)

  one : take 1 txns.updates ≡ no_link ∷ []
  one = first_of txns.updates kept.some kept.first
    where
      first_of : (links : List UpdateLink) → 0 < length links → link_at links 0 ≡ no_link → take 1 links ≡ no_link ∷ []
      first_of [] some is = absurd (omega arith)
      first_of (link ∷ links) some is = ap (λ l. l ∷ []) is

  changes_nothing : (changes : List Change) → HasChain txns.updates 0 changes → changes ≡ []
  changes_nothing [] chain = refl
  changes_nothing (change ∷ changes) chain = absurd (let some = chain.0 in omega arith)

  -- so places are used again where none is active
  pub none_active-keeps_transactions : KeepsTransactions (record txns { updates = take 1 txns.updates }) h
  none_active-keeps_transactions = record {
    some = let length_one = ap length one in omega arith;
    first = ap (λ links. link_at links 0) one;
    each = λ txn. again txn (none kept.active.0 kept.active.1 txn);
    active = ([], record { count = omega arith; fits = let length_one = ap length one in omega arith; others = λ txn all. none kept.active.0 kept.active.1 txn });
  }
    where
      again : (txn : ℕ) → (value_at txns.newest txn ≡ 0) ⊎ (value_at txns.newest txn ≡ ENDED)
          → KeepsRecords (take 1 txns.updates) (value_at txns.newest txn) (own_records_of txn h)
      again txn (inl blank) = record {
        ended = λ is. absurd (omega arith);
        unended = λ other. let open' = (kept.each txn).unended other in record {
          unended = open'.unended;
          chain = subst (HasChain (take 1 txns.updates) (value_at txns.newest txn)) (sym (changes_nothing (updates_of txn h) (subst
              (λ place. HasChain txns.updates place (updates_of txn h)) blank open'.chain))) blank;
        };
      }
      again txn (inr is) = record { ended = (kept.each txn).ended; unended = λ other. absurd (other is) }

  pub none_active-is_open_at : (txn place : ℕ) → IsOpenAt txns.updates place (own_records_of txn h) → (place ≡ 0) × IsOpenAt (take 1 txns.updates) place (own_records_of txn h)
  none_active-is_open_at txn place open' = by (none kept.active.0 kept.active.1 txn)
    where
      by : (value_at txns.newest txn ≡ 0) ⊎ (value_at txns.newest txn ≡ ENDED) → (place ≡ 0) × IsOpenAt (take 1 txns.updates) place (own_records_of txn h)
      by (inl blank) =
          let own = (kept.each txn).unended (λ is. omega arith) in
          let nothing = changes_nothing (updates_of txn h) (subst (λ place'. HasChain txns.updates place' (updates_of txn h)) blank own.chain) in
          let at_none : place ≡ 0 = subst (HasChain txns.updates place) nothing open'.chain in
          (at_none, record { unended = open'.unended; chain = subst (HasChain (take 1 txns.updates) place) (sym nothing) at_none })
      by (inr is) = absurd (true≢false (sym ((kept.each txn).ended is) ∙ open'.unended))

-- a record that neither changes an account nor ends its transaction
pub first_idle-keeps_transactions : (txns : Transactions) (entry : Placed) (h : List Placed) → changes_of entry.rec ≡ [] → ends entry.rec ≡ false → KeepsTransactions txns h
    → KeepsTransactions txns (entry ∷ h)
first_idle-keeps_transactions txns entry h empty off kept = record { some = kept.some; first = kept.first; each = each; active = kept.active }
  where
    more : (place : ℕ) (records : List Rec) → KeepsRecords txns.updates place records → KeepsRecords txns.updates place (entry.rec ∷ records)
    more place records keeps = record {
      ended = λ is. ap (λ b. b || has_end records) off ∙ keeps.ended is;
      unended = λ other. let open' = keeps.unended other in record {
        unended = ap (λ b. b || has_end records) off ∙ open'.unended;
        chain = subst (HasChain txns.updates place) (sym (ap (λ changes. changes ++ changes_in records) empty)) open'.chain;
      };
    }

    each : (txn : ℕ) → KeepsRecords txns.updates (value_at txns.newest txn) (own_records_of txn (entry ∷ h))
    each txn = dite (ℕ_discrete (txn_of entry.rec) txn)
        (λ same. subst (KeepsRecords txns.updates (value_at txns.newest txn)) (sym (own_records_of-same txn entry h same)) (more (value_at txns.newest txn) (own_records_of txn h) (kept.each txn)))
        (λ other. subst (KeepsRecords txns.updates (value_at txns.newest txn)) (sym (own_records_of-other txn entry h other)) (kept.each txn))

-- an end record
pub first_end-keeps_transactions : (newest newer : TxnTable) (updates : List UpdateLink) (active less txn : ℕ) (entry : Placed) (h : List Placed)
    → PutsValue newest newer txn ENDED → value_at newest txn ≢ ENDED → (value_at newest txn ≡ 0 → less ≡ active)
    → (value_at newest txn ≢ 0 → less ≡ active - 1) → txn_of entry.rec ≡ txn → ends entry.rec ≡ true
    → KeepsTransactions (record { newest = newest; updates = updates; active = active }) h
    → KeepsTransactions (record { newest = newer; updates = updates; active = less }) (entry ∷ h)
first_end-keeps_transactions newest newer updates active less txn entry h puts unended same down own on kept = record {
  some = kept.some;
  first = kept.first;
  each = each;
  active = ended-are_active newest newer updates active less txn kept.active.0 puts unended same down kept.active.1;
}
  where
    each : (other : ℕ) → KeepsRecords updates (value_at newer other) (own_records_of other (entry ∷ h))
    each other = dite (ℕ_discrete txn other)
        (λ same. subst (KeepsRecords updates (value_at newer other)) (sym (own_records_of-same other entry h (own ∙ same)))
        (subst (λ value. KeepsRecords updates value (entry.rec ∷ own_records_of other h)) (sym (puts other ∙ ap (λ b. cond b ENDED (value_at newest other)) (eq-eqb txn other same)))
        (record { ended = λ is. ap (λ b. b || has_end (own_records_of other h)) on; unended = λ not_ended. absurd (not_ended refl) })))
        (λ apart. subst (KeepsRecords updates (value_at newer other)) (sym (own_records_of-other other entry h (λ same. apart (sym own ∙ same))))
        (subst (λ value. KeepsRecords updates value (own_records_of other h)) (sym (puts other ∙ ap (λ b. cond b ENDED (value_at newest other)) (ne_eqb txn other apart))) (kept.each other)))

-- a transaction with an Update more is active
updated-are_active : (newest newer : TxnTable) (updates longer : List UpdateLink) (active more txn place : ℕ) (link : UpdateLink) (h : List Placed)
    → longer ≡ updates ++ link ∷ [] → PutsValue newest newer txn place → (link.older ≡ 0 → more ≡ active + 1) → (link.older ≢ 0 → more ≡ active)
    → IsOpenAt updates link.older (own_records_of txn h) → KeepsTransactions (record { newest = newest; updates = updates; active = active }) h
    → (list : List ℕ) × AreActive (record { newest = newer; updates = longer; active = more }) list
updated-are_active newest newer updates longer active more txn place link h pushed puts up same open' kept = dite (ℕ_discrete link.older 0)
    (λ none. (
      txn ∷ list,
      record {
        count = let is = up none in let most = are.count in omega arith;
        fits = let is = up none in let fits = are.fits in omega (arith, parts);
        others = λ other all. stays other all.0 (are.others other all.1);
      },
    ))
    (λ some. (
      list,
      record {
        count = let is = same some in let most = are.count in omega arith;
        fits = let is = same some in let fits = are.fits in omega (arith, parts);
        others = λ other all. stays other (λ is. active_already some (subst (λ n. AllByRecursion (λ one. one ≢ n) list) (sym is) all)) (are.others other all);
      },
    ))
  where
    list : List ℕ
    list = kept.active.0

    are : AreActive (record { newest = newest; updates = updates; active = active }) list
    are = kept.active.1

    parts : length longer ≡ length updates + 1
    parts = ap length pushed ∙ length-append updates (link ∷ [])

    stays : (other : ℕ) → txn ≢ other → (value_at newest other ≡ 0) ⊎ (value_at newest other ≡ ENDED)
        → (value_at newer other ≡ 0) ⊎ (value_at newer other ≡ ENDED)
    stays other apart before = subst (λ value. (value ≡ 0) ⊎ (value ≡ ENDED)) (sym (puts other ∙ ap (λ b. cond b place (value_at newest other)) (ne_eqb txn other apart))) before

    at_none : (changes : List Change) → HasChain updates 0 changes → HasChain updates link.older changes → link.older ≡ 0
    at_none [] chain older = older
    at_none (change ∷ changes) chain older = absurd (let some = chain.0 in omega arith)

    -- one that has an Update is active already
    active_already : link.older ≢ 0 → AllByRecursion (λ one. one ≢ txn) list → ⊥
    active_already some all = ⊎_elim
        (λ blank. some (at_none (changes_in (own_records_of txn h)) (subst (λ p. HasChain updates p (updates_of txn h)) blank ((kept.each txn).unended (λ is. omega arith)).chain) open'.chain))
        (λ is. true≢false (sym ((kept.each txn).ended is) ∙ open'.unended))
        (are.others txn all)

-- an Update
pub first_update-keeps_transactions : (newest newer : TxnTable) (updates longer : List UpdateLink) (active more txn place end : ℕ) (link : UpdateLink)
    (h : List Placed) → longer ≡ updates ++ link ∷ [] → place ≡ length updates → place < ENDED → PutsValue newest newer txn place
    → (link.older ≡ 0 → more ≡ active + 1) → (link.older ≢ 0 → more ≡ active)
    → IsOpenAt updates link.older (own_records_of txn h) → link.count ≡ length (updates_of txn h) + 1
    → KeepsTransactions (record { newest = newest; updates = updates; active = active }) h
    → KeepsTransactions (record { newest = newer; updates = longer; active = more })
    (record { end = end; rec = Update txn link.change.account link.change.delta link.change.prev } ∷ h)
first_update-keeps_transactions newest newer updates longer active more txn place end link h pushed at fits puts up same open' count kept = record {
  some = let parts = ap length pushed ∙ length-append updates (link ∷ []) in omega arith;
  first = ap (λ links. link_at links 0) pushed ∙ get_or_append_left updates (link ∷ []) no_link 0 kept.some ∙ kept.first;
  each = each;
  active = updated-are_active newest newer updates longer active more txn place link h pushed puts up same open' kept;
}
  where
    entry : Placed
    entry = record { end = end; rec = Update txn link.change.account link.change.delta link.change.prev }

    own : KeepsRecords longer place (entry.rec ∷ own_records_of txn h)
    own = record {
      ended = λ is. absurd (omega arith);
      unended = λ not_ended. record {
        unended = open'.unended;
        chain = subst (λ links. HasChain links place (link.change ∷ updates_of txn h)) (sym pushed)
            (subst (λ p. HasChain (updates ++ link ∷ []) p (link.change ∷ updates_of txn h)) (sym at) (chain-push updates link (updates_of txn h) kept.some count open'.chain));
      };
    }

    -- the others stand where they stood
    stays : (value : ℕ) (records : List Rec) → KeepsRecords updates value records → KeepsRecords longer value records
    stays value records keeps = record {
      ended = keeps.ended;
      unended = λ not_ended. let before = keeps.unended not_ended in record {
        unended = before.unended;
        chain = subst (λ links. HasChain links value (changes_in records)) (sym pushed) (chain-append updates (link ∷ []) value (changes_in records) before.chain);
      };
    }

    each : (other : ℕ) → KeepsRecords longer (value_at newer other) (own_records_of other (entry ∷ h))
    each other = dite (ℕ_discrete txn other)
        (λ same. subst (KeepsRecords longer (value_at newer other)) (sym (own_records_of-same other entry h same))
        (subst (λ value. KeepsRecords longer value (entry.rec ∷ own_records_of other h)) (sym (puts other ∙ ap (λ b. cond b place (value_at newest other)) (eq-eqb txn other same)))
        (subst (λ n. KeepsRecords longer place (entry.rec ∷ own_records_of n h)) same own)))
        (λ apart. subst (KeepsRecords longer (value_at newer other)) (sym (own_records_of-other other entry h apart))
        (subst (λ value. KeepsRecords longer value (own_records_of other h)) (sym (puts other ∙ ap (λ b. cond b place (value_at newest other)) (ne_eqb txn other apart)))
        (stays (value_at newest other) (own_records_of other h) (kept.each other))))
