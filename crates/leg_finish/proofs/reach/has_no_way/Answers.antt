use Rattle.std.proofs.Common.{◌≡◌, length, refl, arith}
use Rattle.std.proofs.lemmas.Bool.Decides.{nat_tests}
use Rattle.std.proofs.lemmas.List.{nil_from_length}
use Rattle.leg_finish.proofs.Ways.{no_starts, no_ends, way_told}
use Rattle.leg_finish.proofs.reach.has_no_way.Goals as goal

pub returns-clause-none : goal.returns-clause-none
returns-clause-none g c =
    let grid = c.args.grid.now in
    let flat = c.args.flat.now in
    let slots = c.args.slots.now in
    let net = c.args.net in
    let starts = c.args.starts.now.slots.items in
    let ends = c.args.ends.now.slots.items in
    let origin = c.as_slice.result.now in
    let around = c.as_slice-3.result.now in
    let law = c.searches_walk_as_nodes.ensures in
    let proper = c.grid_is_sound.ensures.proper in
    let sound = c.grid_is_sound.ensures.library in
    let told = c.requires.told in
    let found = rw (c.deref-3.ensures.value, c.deref-4.ensures.value) at c.in_ok-walk.ensures.found in
    way_told grid flat net starts ends slots origin around
    (λ numbers is. law.shortest grid origin around flat slots net starts ends numbers proper sound told is)
    (λ none. law.none grid origin around flat slots net starts ends proper sound told none)
    (λ v. v.items) c.in_ok-walk.walk c.is_none.result found c.is_none.ensures

pub returns-then-is_empty-clause-none : goal.returns-then-is_empty-clause-none
returns-then-is_empty-clause-none g c =
    let starts = c.args.starts.now.slots in
    let empty : length starts.items ≡ 0 = grind (arith, nat_tests, c.is_empty.ensures, c.if-is_empty.true, starts.ok.0) in
    (λ is. no_starts c.args.grid.now c.args.flat.now c.args.net starts.items c.args.ends.now.slots.items (nil_from_length starts.items empty), λ none. refl)

pub returns-then-is_empty-2-clause-none : goal.returns-then-is_empty-2-clause-none
returns-then-is_empty-2-clause-none g c =
    let ends = c.args.ends.now.slots in
    let empty : length ends.items ≡ 0 = grind (arith, nat_tests, c.is_empty-2.ensures, c.if-is_empty-2.true, ends.ok.0) in
    (λ is. no_ends c.args.grid.now c.args.flat.now c.args.net c.args.starts.now.slots.items ends.items (nil_from_length ends.items empty), λ none. refl)
