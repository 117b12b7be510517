-- The fields of an account's word stand apart.
use Rattle.std.proofs.Common.{arith, ◌≡◌, ◌<◌, ◌^◌, ℕ, Bool, true, false}
use Rattle.slot_word.specs.AccountWord.{packed, held_in, last_commit_in, IsAccountWord}

pub fits_64 : (held : Bool) (last_commit : ℕ) → last_commit < 2 ^ 32 → packed held last_commit < 2 ^ 64
fits_64 true last_commit m = grind (arith)
fits_64 false last_commit m = grind (arith)

pub packed-account_word : (held : Bool) (last_commit : ℕ) → last_commit < 2 ^ 32 → IsAccountWord (packed held last_commit)
packed-account_word true last_commit m = grind (arith)
packed-account_word false last_commit m = grind (arith)

pub held_back : (held : Bool) (last_commit : ℕ) → last_commit < 2 ^ 32 → held_in (packed held last_commit) ≡ held
held_back true last_commit m = grind (arith)
held_back false last_commit m = grind (arith)

pub last_commit_back : (held : Bool) (last_commit : ℕ) → last_commit < 2 ^ 32 → last_commit_in (packed held last_commit) ≡ last_commit
last_commit_back true last_commit m = grind (arith)
last_commit_back false last_commit m = grind (arith)

pub word_back : (word : ℕ) → word < 2 ^ 64 → IsAccountWord word → packed (held_in word) (last_commit_in word) ≡ word
word_back word w a = grind (arith)
