-- The list of a new log: its units, that it is lawful, and its text.
use Rattle.std.proofs.Common.{◌≡◌, ℕ, ◌+◌, ◌*◌, ◌≤◌, ◌<◌, Some, take, slice_get, List, [], ◌∷◌, ◌++◌, length, map, All, refl, ap, ◌∙◌, sym, subst, arith, append_assoc, length-take-le}
use Rattle.std.specs.List.{AllByRecursion}
use Rattle.std.proofs.lemmas.List.{append-nil, length-map, map-append, take_more}
use Rattle.std.proofs.lemmas.List.Elements.{All-tail}
use Rattle.std.proofs.lemmas.Option.{get_or_from_slice_get, slice_get_within}
use Rattle.lsn_space.specs.declared.opening.TheConstants.{MOST_ACCOUNTS}
use Rattle.log_record.specs.declared.rec.Placed.{Placed}
use Rattle.log_record.specs.declared.rec.Rec.TheVariants.{Genesis}
use Rattle.log_record.specs.LogList.{units_of, end_of}
use Rattle.log_record.specs.Spelling.{spelling, IsBalance, IsSpellable}
use Rattle.lock_core.specs.Sums.{no_opening}
use Rattle.lock_core.specs.History.{history, history_from, end_from, entry_at}
use Rattle.lock_core.specs.Lawful.{IsLawful, base_with}
use Rattle.log_recovery.specs.Recovery.{HoldsLawful}
use Rattle.segment_file.specs.File.{HoldsUnits}
use Rattle.segment_file.proofs.FirstFormat.{HoldsUnits-HoldsLog}
use Rattle.lock_core.specs.AccountRows.{KeepsRows}
use Rattle.lock_core.specs.Tests.{IsGenesis}
use Rattle.log_recovery.specs.Text.{rows_text, accounts_text}
use Rattle.lock_core.proofs.JudgingLemmas.{keeps_rows-shows_accounts}
use Rattle.lock_core.proofs.KindLemmas.{all_genesis-accounts_count, keeps_rows-first_genesis, passes-genesis}
use Rattle.log_recovery.proofs.TextLemmas.{rows_text-shown}
use Rattle.cli_shared.specs.Creation.{genesis_from, genesis_list, new_list}

-- one balance more
units_of-more : (first : ℕ) (balances : List ℕ) (balance account : ℕ) → account ≡ first + length balances
    → units_of (genesis_from first (balances ++ balance ∷ []))
    ≡ units_of (genesis_from first balances) ++ spelling (Genesis account balance)
units_of-more first [] balance account is = let same : account ≡ first = omega arith in rw same refl
units_of-more first (one ∷ balances) balance account is =
    ap (λ units. spelling (Genesis first one) ++ units) (units_of-more (first + 1) balances balance account (omega arith))

-- the balances of the accounts below this one
abbrev pub balances_below : ℕ → List (ℕ × ℕ) → List ℕ
balances_below account rows = map (λ (row : ℕ × ℕ). row.0) (take account rows)

length-below : (account : ℕ) (rows : List (ℕ × ℕ)) → account ≤ length rows → length (balances_below account rows) ≡ account
length-below account rows within = length-map (take account rows) (λ (row : ℕ × ℕ). row.0) ∙ length-take-le account rows within

-- one account more
pub units_of-row_more : (rows : List (ℕ × ℕ)) (account : ℕ) (row : ℕ × ℕ) → slice_get rows account ≡ Some row
    → units_of (genesis_list (balances_below (account + 1) rows))
    ≡ units_of (genesis_list (balances_below account rows)) ++ spelling (Genesis account row.0)
units_of-row_more rows account row here =
    let within = slice_get_within rows account row here in
    let taken : take (account + 1) rows ≡ take account rows ++ row ∷ [] =
    take_more rows account row within ∙ ap (λ r. take account rows ++ r ∷ []) (get_or_from_slice_get rows account row row here) in
    let balances : balances_below (account + 1) rows ≡ balances_below account rows ++ row.0 ∷ [] =
    ap (map (λ (r : ℕ × ℕ). r.0)) taken ∙ map-append (λ (r : ℕ × ℕ). r.0) (take account rows) (row ∷ []) in
    let counted = length-below account rows (omega arith) in
    ap (λ bs. units_of (genesis_list bs)) balances
    ∙ units_of-more 0 (balances_below account rows) row.0 account (omega arith)

-- two units for each account
pub end_of-genesis : (account : ℕ) (balances : List ℕ) → end_of (genesis_from account balances) ≡ 2 * length balances
end_of-genesis account [] = refl
end_of-genesis account (balance ∷ balances) = let more = end_of-genesis (account + 1) balances in omega arith

pub end_of-rows_below : (account : ℕ) (rows : List (ℕ × ℕ)) → account ≤ length rows
    → end_of (genesis_list (balances_below account rows)) ≡ 2 * account
end_of-rows_below account rows within =
    let counted = end_of-genesis 0 (balances_below account rows) in let below = length-below account rows within in omega arith

abbrev AreGenesis : List Placed → Type 0
AreGenesis h = AllByRecursion (λ (entry : Placed). IsGenesis entry.rec) h

-- the rows of accounts without a commit
abbrev pub opening_rows : List ℕ → List (ℕ × ℕ)
opening_rows balances = map (λ balance. (balance, 0)) balances

-- a history is lawful, and these rows are its accounts
record Opens (h : List Placed) (rows : List (ℕ × ℕ)) : Type 0 where
  pub lawful : IsLawful no_opening h
  pub kept : KeepsRows rows (base_with no_opening h) h

opens-more : (h : List Placed) (rows : List (ℕ × ℕ)) (account : ℕ) (balances : List ℕ) → AreGenesis h → account ≡ length h
    → AllByRecursion IsBalance balances → Opens h rows
    → Opens (history_from 0 h (genesis_from account balances)) (rows ++ opening_rows balances)
opens-more h rows account [] all next range opened = subst (Opens h) (sym (append-nil rows)) opened
opens-more h rows account (balance ∷ balances) all next range opened =
    let counted = all_genesis-accounts_count no_opening h all in
    let end = (entry_at (end_from 0 h) (Genesis account balance)).end in
    let one : Opens (entry_at (end_from 0 h) (Genesis account balance) ∷ h) (rows ++ (balance, 0) ∷ []) = record {
      lawful = (passes-genesis no_opening h end account balance all refl next, opened.lawful);
      kept = keeps_rows-first_genesis no_opening rows h end account balance opened.kept all (omega (arith, counted, next)) range.0 (λ a. refl);
    } in
    let more = opens-more (entry_at (end_from 0 h) (Genesis account balance) ∷ h) (rows ++ (balance, 0) ∷ []) (account + 1) balances
    (tt, all) (omega arith) range.1 one in
    subst (Opens _) (append_assoc rows ((balance, 0) ∷ []) (opening_rows balances)) more

keeps-none : KeepsRows [] (base_with no_opening []) []
keeps-none = record {
  count = refl;
  range = λ a inside. absurd (omega arith);
  balance = λ a inside. absurd (omega arith);
  last = λ a inside. absurd (omega arith);
}

spellable-genesis : (account : ℕ) (balances : List ℕ) → account + length balances ≤ MOST_ACCOUNTS → AllByRecursion IsBalance balances
    → AllByRecursion IsSpellable (genesis_from account balances)
spellable-genesis account [] few range = tt
spellable-genesis account (balance ∷ balances) few range =
    let below : account < MOST_ACCOUNTS = omega arith in
    ((below, range.0), spellable-genesis (account + 1) balances (omega arith) range.1)

all-each : {X : Type 0} (P : X → Type 0) (xs : List X) → All P xs → AllByRecursion P xs
all-each P [] all = tt
all-each P (x ∷ xs) all = (all 0 x (omega arith), all-each P xs (All-tail P x xs all))

module _ (balances : List ℕ) (few : length balances ≤ MOST_ACCOUNTS) (each : All IsBalance balances) where
  range : AllByRecursion IsBalance balances
  range = all-each IsBalance balances each

  opens-genesis : Opens (history (genesis_list balances)) (opening_rows balances)
  opens-genesis = opens-more [] [] 0 balances tt refl range (record { lawful = tt; kept = keeps-none })

  pub genesis-spellable : AllByRecursion IsSpellable (genesis_list balances)
  genesis-spellable = spellable-genesis 0 balances (omega arith) range

  pub genesis-lawful : IsLawful no_opening (history (genesis_list balances))
  genesis-lawful = opens-genesis.lawful

  pub genesis-keeps_rows : KeepsRows (opening_rows balances) (base_with no_opening (history (genesis_list balances)))
      (history (genesis_list balances))
  genesis-keeps_rows = opens-genesis.kept

  -- bytes that hold its units hold the list, which is lawful
  pub genesis-holds_lawful : (c : List ℕ) → HoldsUnits c (units_of (genesis_list balances)) → HoldsLawful c (new_list balances)
  genesis-holds_lawful c held = record {
    list = record { each = genesis-spellable; holds = HoldsUnits-HoldsLog c (units_of (genesis_list balances)) held };
    lawful = genesis-lawful;
  }

  pub genesis-text : (lsn : ℕ) → lsn ≡ 2 * length balances → rows_text lsn (opening_rows balances) ≡ accounts_text (new_list balances)
  genesis-text lsn is = rows_text-shown lsn (opening_rows balances) (new_list balances) (omega (arith, is, end_of-genesis 0 balances))
      (keeps_rows-shows_accounts _ _ _ opens-genesis.kept)
