use Rattle.std.proofs.Common.{◌≡◌, map}
use Rattle.txn_parts.specs.Desk.{WorksOn, accounts_at, books_at}
use Rattle.txn_making.specs.Holdings.{taken_of}
use Rattle.txn_making.specs.Inserts.{HasAdded}
use Rattle.txn_making.specs.Legs.{HoldsJob, StandsBefore}
use Rattle.txn_making.proofs.legs.make_legs.Given as goal

abbrev pub invariant-legs : goal.invariant-legs
invariant-legs g l = WorksOn g.Q.Relief l.fn.desk l.desk × HasAdded l.fn.desk l.desk
    × HoldsJob (accounts_at l.fn.desk) l.numbered.number l.numbered.job l.holdings (books_at l.desk)
    × StandsBefore l.i l.numbered.number l.numbered.job l.holdings (books_at l.desk)
    × (map taken_of l.holdings ≡ map taken_of l.fn.holdings)
