use Rattle.std.proofs.Common.{◌≡◌, [], get_or, ◌∙◌, arith}
use Rattle.std.proofs.lemmas.List.{get_or_read}
use Rattle.test_memory.proofs.tests.designs.first_groups.Goals as goal

pub groups_among-requires-clause-numbers : goal.groups_among-requires-clause-numbers
groups_among-requires-clause-numbers g c =
    let lists = c.in_ok-lists.lists.items in
    let list : c.as_slice.result.now ≡ get_or lists 0 [] =
    c.as_slice.ensures ∙ get_or_read lists 0 c.index.result.now (omega (arith, c.in_ok-lists.ensures.long)) c.index.ensures [] in
    rw (list, ← c.shapes.ensures.is) (c.in_ok-lists.ensures.each 0 (omega arith))
