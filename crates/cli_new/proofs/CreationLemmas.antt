-- What `new` leaves on a disk, from what it read, found, and created.
use Rattle.std.proofs.Common.{◌≡◌, inl, inr, ℕ, ◌+◌, ◌*◌, ◌≤◌, ◌<◌, List, [], ◌∷◌, length, map, All, Option, Some, None, refl, ap, ◌∙◌, sym, subst, arith}
use Rattle.std.proofs.lemmas.List.Elements.{All-map}
use Rattle.log_disk.specs.Disk.{Leaves}
use Rattle.log_disk.specs.Lengths.{GrowsAtMostTo}
use Rattle.log_disk.specs.declared.disk.LogDisk.{Ghosts}
use Rattle.log_disk.proofs.Lengths.{GrowsAtMostTo-weaken, GrowsAtMostTo-same, GrowsAtMostTo-trans}
use Rattle.log_disk.proofs.Moments.{Leaves-trans, Leaves-weaken}
use Rattle.log_record.specs.LogList.{units_of}
use Rattle.log_record.specs.Spelling.{IsBalance}
use Rattle.log_recovery.specs.Recovery.{HoldsLawful}
use Rattle.lsn_space.specs.Accounts.{Accounts}
use Rattle.segment_file.specs.File.{HoldsUnits}
use Rattle.segment_file.specs.Lengths.{new_end}
use Rattle.segment_file.specs.StandingLog.{HoldsNoneOr, AllStand}
use Rattle.segment_file.specs.declared.scan_result.Tail.{Tail}
use Rattle.segment_file.proofs.StandingLemmas.{StandsAt-HoldsUnits}
use Rattle.txn_script.specs.Balances.{IsBalancesText}
use Rattle.cli_new.specs.Answers.{AreOpening}
use Rattle.cli_shared.specs.Creation.{genesis_list, new_list}
use Rattle.cli_new.specs.Creation.{AllHoldNew, GrowsByNew, IsInput, MayBeLeft}
use Rattle.cli_shared.proofs.GenesisLemmas.{opening_rows, end_of-genesis, genesis-holds_lawful}

firsts : (balances : List ℕ) → map (λ (row : ℕ × ℕ). row.0) (opening_rows balances) ≡ balances
firsts [] = refl
firsts (balance ∷ balances) = ap (λ more. balance ∷ more) (firsts balances)

input-read : (left left_new : Option (List ℕ)) (accounts : Accounts) (opening : AreOpening left left_new accounts) → IsInput left opening.2.0
input-read None left_new accounts opening = tt
input-read (Some all) left_new accounts opening = subst (λ text. IsBalancesText text opening.2.0) opening.1.0 opening.2.1

module _ (left left_new : Option (List ℕ)) (accounts : Accounts) (opening : AreOpening left left_new accounts) where
  abbrev balances : List ℕ
  balances = opening.2.0

  text : IsBalancesText opening.0 balances
  text = opening.2.1

  rows : accounts.rows ≡ opening_rows balances
  rows = opening.2.2

  pub opening-all_balances : All (λ row. IsBalance row.0) accounts.rows
  opening-all_balances = subst (All (λ row. IsBalance row.0)) (sym rows)
      (All-map (λ (row : ℕ × ℕ). IsBalance row.0) (λ balance. (balance, 0)) balances text.each)

  -- the units that are made of them
  module _ (units : List ℕ) (made : units ≡ units_of (genesis_list (map (λ row. row.0) accounts.rows))) where
    units-made : units ≡ units_of (genesis_list balances)
    units-made = made ∙ ap (λ bs. units_of (genesis_list bs)) (ap (map (λ (row : ℕ × ℕ). row.0)) rows ∙ firsts balances)

    pub made_units-length : length units ≡ 2 * length balances
    made_units-length = ap length units-made ∙ end_of-genesis 0 balances

    pub made_units-some : 0 < length units
    made_units-some = omega (arith, made_units-length, text.some)

    pub made_units-within_most : length units ≤ 1048576
    made_units-within_most = omega (arith, made_units-length, text.most)

    lawful-made : (c : List ℕ) → HoldsUnits c units → HoldsLawful c (new_list balances)
    lawful-made c held = genesis-holds_lawful balances text.most text.each c (subst (HoldsUnits c) units-made held)

    new-left : (images : List ℕ → Type 0) (c : List ℕ) → HoldsNoneOr units c → MayBeLeft left images c
    new-left images c (inl none) = inr (inl none)
    new-left images c (inr held) = inr (inr (balances, input-read left left_new accounts opening, lawful-made c held))

    pub AllStand-all_hold_new : (tail : Tail) (images : List ℕ → Type 0) → AllStand tail units images → AllHoldNew left images
    AllStand-all_hold_new tail images stand = (balances, input-read left left_new accounts opening, λ c image. lawful-made c (StandsAt-HoldsUnits tail units c (stand c image)))

    module _ {D : Type 0} (moment : D → ℕ) (images_since : D → ℕ → List ℕ → Type 0) (images : List ℕ → Type 0) where
      pub leaves-made : (old mid new : D) → Leaves moment images_since images old mid → Leaves moment images_since (HoldsNoneOr units) mid new
          → Leaves moment images_since (MayBeLeft left images) old new
      leaves-made old mid new found created = Leaves-trans moment images_since (MayBeLeft left images) old mid new
          (Leaves-weaken moment images_since images (MayBeLeft left images) old mid (λ c image. inl image) found)
          (Leaves-weaken moment images_since (HoldsNoneOr units) (MayBeLeft left images) mid new (new-left images) created)

    -- and the file, which a search for a log left as it was
    pub grows-made : {D : Type 0} (g : Ghosts D) (old mid new : D) → g.reads mid ≡ g.reads old → GrowsAtMostTo g (13 + 8 * length units) mid new
        → GrowsByNew g left old new
    grows-made g old mid new same grows =
        let place : ℕ = new_end (2 * length balances) + 1 in
        inr (
          balances,
          input-read left left_new accounts opening,
          GrowsAtMostTo-trans g place old mid new (GrowsAtMostTo-same g place old mid same)
              (GrowsAtMostTo-weaken g (13 + 8 * length units) place mid new (omega (arith, made_units-length)) grows),
        )
