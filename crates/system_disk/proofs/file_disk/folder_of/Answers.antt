use Rattle.std.proofs.Common.{rules, ◌≡◌, ◌<◌, ◌+◌, ◌∙◌, ap, length, arith}
use Rattle.std.proofs.lemmas.Str.{len_utf8_ascii}
use Rattle.system_disk.specs.Folders.{SLASH}
use Rattle.system_disk.proofs.Folders.{finds_none-no_slash, take_found-front, folder_before-some, folder_before-root}
use Rattle.system_disk.proofs.file_disk.folder_of.Goals as goal

pub returns-in-None-clause-behind : goal.returns-in-None-clause-behind
returns-in-None-clause-behind c = λ front name is lacks. absurd (finds_none-no_slash _ front name c.in-None.ensures.cases is)

pub returns-else-is_empty-clause-behind : goal.returns-else-is_empty-clause-behind
returns-else-is_empty-clause-behind c = λ front name is lacks.
    let split = c.in-Some.ensures.cases in
    let some : 0 < length c.in-Some.folder.now = search rules in
    let next : split.1 ≡ split.0 + 1 = omega (arith, split.2.1.ends, len_utf8_ascii SLASH (omega arith)) in
    folder_before-some front _ (split.3 ∙ take_found-front _ _ _ split.2 (omega (arith, next, split.7)) front name is lacks) some

pub returns-then-is_empty-clause-behind : goal.returns-then-is_empty-clause-behind
returns-then-is_empty-clause-behind c = λ front name is lacks.
    let split = c.in-Some.ensures.cases in
    let none : length c.in-Some.folder.now ≡ 0 = search rules in
    let next : split.1 ≡ split.0 + 1 = omega (arith, split.2.1.ends, len_utf8_ascii SLASH (omega arith)) in
    let same = split.3 ∙ take_found-front _ _ _ split.2 (omega (arith, next, split.7)) front name is lacks in
    folder_before-root front (omega (arith, none, ap length same))
