use Rattle.std.proofs.Common.{sym}
use Rattle.log_record.proofs.SpellingLemmas.{spelling-append-injective, units_of-injective}
use Rattle.log_record.proofs.laws.one_spelling.Goals as goal

pub returns : goal.returns
returns c = record {
  front = spelling-append-injective;
  back = λ r s x ok begins. sym (spelling-append-injective r s x begins.1 ok begins.0 begins.2).0;
  list = units_of-injective;
}
