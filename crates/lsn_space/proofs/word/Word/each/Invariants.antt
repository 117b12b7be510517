use Rattle.std.proofs.Common.{◌≡◌, map, string_bytes}
use Rattle.lsn_space.proofs.word.Word.each.Given as goal

abbrev pub invariant-strings : goal.invariant-strings
invariant-strings l = l.words.items ≡ map string_bytes l.yielded
