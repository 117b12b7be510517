use Rattle.std.proofs.Common.{◌∙◌, ap, subst, map, string_bytes}
use Rattle.std.specs.Vec.Iter.{into_iter_items, into_iter_steps}
use Rattle.std.proofs.IntoIterSteps.{All-taken}
use Rattle.lsn_space.proofs.word.Word.each.Goals as goal

pub returns : goal.returns
returns c =
    let strings = c.into_iter-string-iterator in
    let end = subst (λ given. into_iter_steps c.strings.string-iterator given c.next.new.self) c.in-None.is c.next.ensures.steps in
    let all = All-taken strings.result c.strings.yielded (c.next.new.self, (c.strings.string-iterator, c.strings.yielded_by, end)) in
    c.strings.invariant ∙ ap (map string_bytes) (all ∙ ap into_iter_items strings.ensures.into_iter_gives)
