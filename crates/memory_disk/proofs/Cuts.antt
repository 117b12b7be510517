-- Writes of which a crash left the first bytes, or none.
use Rattle.std.proofs.Common.{◌≡◌, ◌≤◌, ◌<◌, ◌∙◌, sym, ap, subst, ℕ, ◌+◌, ◌/◌, ◌%◌, List, [], ◌∷◌, ◌++◌, length, take, drop, arith}
use Rattle.std.proofs.Math.Nat.{mod-eq_of_lt, div-eq_of_lt, zero-mod}
use Rattle.std.proofs.lemmas.List.{take-append-drop}
use Rattle.log_disk.specs.Disk.{put, IsTorn}
use Rattle.memory_disk.specs.History.{Event, file_after, IsSynced, Images}
use Rattle.memory_disk.specs.History.Event.{Wrote, Synced}

-- behind a sync there is one image
pub Images-synced : (start : List ℕ) (history : List Event) (c : List ℕ) → IsSynced history → Images start history c → c ≡ file_after start history
Images-synced start [] c synced image = image
Images-synced start (Wrote at bytes ∷ earlier) c synced image = absurd synced
Images-synced start (Synced ∷ earlier) c synced image = image

-- a write that was torn in no byte
pub IsTorn_none-unchanged : (at : ℕ) (old new : List ℕ) → IsTorn at 0 old new → new ≡ old
IsTorn_none-unchanged at old new torn =
    let none : at + 0 ≡ at = omega arith in
    let after = subst (λ (n : ℕ). drop n new ≡ drop n old) none torn.after in
    sym (take-append-drop at new) ∙ ap (λ (front : List ℕ). front ++ drop at new) torn.before ∙ ap (λ (back : List ℕ). take at old ++ back) after ∙ take-append-drop at old

-- a write that was torn by a pick of no more than its length: so many of its first bytes
pub picked_torn-put_front : (at left landed rest noisy : ℕ) (bytes old placed new : List ℕ) → left ≤ length bytes
    → landed ≡ left % (length bytes + 1) → rest ≡ left / (length bytes + 1) → noisy ≡ rest % (landed + 1)
    → placed ≡ put at (take landed bytes) old → IsTorn at noisy placed new → new ≡ put at (take left bytes) old
picked_torn-put_front at left landed rest noisy bytes old placed new few landed_is rest_is noisy_is placed_is torn =
    let below : left < length bytes + 1 = omega (arith, few) in
    let all : landed ≡ left = landed_is ∙ mod-eq_of_lt below in
    let quiet : noisy ≡ 0 = noisy_is ∙ ap (λ (n : ℕ). n % (landed + 1)) (rest_is ∙ div-eq_of_lt below) ∙ zero-mod (landed + 1) in
    IsTorn_none-unchanged at placed new (subst (λ (n : ℕ). IsTorn at n placed new) quiet torn) ∙ placed_is ∙ ap (λ (n : ℕ). put at (take n bytes) old) all
