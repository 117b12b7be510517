-- An account's word: from the highest bit, whether it is held (1 bit), 31 zero bits, and the end LSN of its last commit (32).
use Rattle.std.specs.Prelude.{ℕ, Bool, ◌+◌, ◌<◌, ◌/◌, ◌%◌, ◌^◌, if◌then◌else◌, nat_eq}
use Rattle.slot_word.specs.declared.account_word.AccountWord.{AccountWord}

abbrev pub packed : Bool → ℕ → ℕ
packed held last_commit = (if held then 2 ^ 63 else 0) + last_commit

abbrev pub word_of : AccountWord → ℕ
word_of account = packed account.held account.mark

abbrev pub held_in : ℕ → Bool
held_in word = nat_eq (word / 2 ^ 63) 1

abbrev pub last_commit_in : ℕ → ℕ
last_commit_in word = word % 2 ^ 32

-- the word is an account's: the bits between its two fields are 0
abbrev pub IsAccountWord : ℕ → Type 0
IsAccountWord word = word % 2 ^ 63 < 2 ^ 32
