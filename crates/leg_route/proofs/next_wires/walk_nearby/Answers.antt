use Rattle.std.proofs.Common.{◌≡◌, ◌↔◌, ℕ, [], map, All, Contains, length, refl, ap, ◌∙◌, arith}
use Rattle.std.proofs.lemmas.Bool.Decides.{nat_tests}
use Rattle.std.proofs.lemmas.List.{length-map, nil_from_length}
use Rattle.leg_route_grid.specs.Steps.Grid.{slot_total}
use Rattle.leg_route_grid.specs.Steps.WalkBounds.{bound_at}
use Rattle.leg_route_access.specs.Steps.NearNeighbours.{IsNeighbourNear}
use Rattle.leg_route_access.specs.Steps.AccessToNet.{IsNodeAdmitted, IsStepAdmitted}
use Rattle.leg_route_search.specs.Steps.SideSteps.{IsStep}
use Rattle.leg_route_search.specs.Steps.Dive.{IsOrigin, AreFar}
use Rattle.leg_route.specs.declared.end_slots.EndSlot.{EndSlot}
use Rattle.leg_route.specs.Steps.EndSlots.{IsFarSlot}
use Rattle.leg_route.proofs.FarSlots.{told_far, found_far, found_nearest}
use Rattle.leg_route.proofs.EndSlots.{slots_within, all_new}
use Rattle.leg_route.proofs.NextWalk.{no_starts, no_ends, origins_are, near_within}
use Rattle.leg_route.proofs.next_wires.walk_nearby.Goals as goal

pub near_walk-requires-clause-ends : goal.near_walk-requires-clause-ends
near_walk-requires-clause-ends g c =
    rw (c.deref.ensures.value, c.in_ok-last.ensures) (slots_within (slot_total c.args.grid.now) c.args.ends.now c.requires.ends_within)

pub near_walk-requires-clause-known : goal.near_walk-requires-clause-known
near_walk-requires-clause-known g c =
    let grid = c.args.grid.now in
    let flat = c.args.flat.now in
    let slots = c.args.slots.now in
    let net = c.args.net in
    let ends = c.args.ends.now in
    let origin = c.as_slice.result.now in
    let far : All (λ (end : EndSlot). IsFarSlot grid flat net origin end.least end.slot) ends = rw c.as_slice.ensures.value c.requires.far in
    let told : AreFar (IsNodeAdmitted slots net) (IsStep (IsNeighbourNear grid origin []) (IsStepAdmitted grid slots net))
    (IsOrigin (slot_total grid) (λ n. bound_at grid origin n))
    c.deref.result.now c.deref_mut.result.now = rw (c.deref.ensures.value, c.in_ok-last.ensures, c.deref_mut.ensures.value, c.in_ok-known.ensures)
    (told_far grid flat slots net origin [] c.grid_is_sound.ensures.proper c.grid_is_sound.ensures.library c.requires.given.told ends far) in
    told

pub returns-clause-answer : goal.returns-clause-answer
returns-clause-answer g c =
    let grid = c.args.grid.now in
    let given = c.requires.given in
    let starts = c.args.starts.now in
    let origin = c.as_slice.result.now in
    let origins : (n : ℕ) → Contains starts.slots.items n ↔ IsOrigin (slot_total grid) (λ n. bound_at grid origin n) n =
    rw c.as_slice.ensures.value (origins_are grid starts.boxes.items starts.slots.items given.within given.boxed) in
    let found =
    found_nearest grid c.args.flat.now c.args.slots.now c.args.net origin [] c.grid_is_sound.ensures.proper c.grid_is_sound.ensures.library given.told
    starts.slots.items given.are origins c.deref.result.now _ _ c.in_ok-walk.ensures.found in
    rw (c.deref.ensures.value, c.in_ok-last.ensures) at found

pub returns-clause-far : goal.returns-clause-far
returns-clause-far g c =
    let grid = c.args.grid.now in
    let flat = c.args.flat.now in
    let slots = c.args.slots.now in
    let net = c.args.net in
    let ends = c.args.ends.now in
    let origin = c.as_slice.result.now in
    let found = c.near_walk.new.known in
    let had = c.in_ok-known.known in
    let last_is : c.deref.result.now ≡ map (λ (end : EndSlot). end.slot) ends = c.deref.ensures.value ∙ c.in_ok-last.ensures in
    let slots_long : length (map (λ (end : EndSlot). end.slot) ends) ≡ length ends = length-map ends (λ (end : EndSlot). end.slot) in
    let had_long : length had.items ≡ length ends = ap length c.in_ok-known.ensures ∙ length-map ends (λ (end : EndSlot). end.least) in
    let found_long : length found ≡ length ends = c.near_walk.ensures.known.one_each ∙ ap length last_is ∙ slots_long in
    let steps : c.deref-2.result.now ≡ found = c.deref-2.ensures.value ∙ all_new found had.items had.len (omega (arith, had_long, found_long, had.ok.0)) in
    let known : AreFar (IsNodeAdmitted slots net) (IsStep (IsNeighbourNear grid origin []) (IsStepAdmitted grid slots net))
    (IsOrigin (slot_total grid) (λ n. bound_at grid origin n))
    (map (λ (end : EndSlot). end.slot) ends) c.deref-2.result.now = rw (steps, ← last_is) c.near_walk.ensures.known in
    let far : All (λ (end : EndSlot). IsFarSlot grid flat net origin end.least end.slot) c.note_steps.new.ends =
    found_far grid flat slots net origin [] c.grid_is_sound.ensures.proper c.grid_is_sound.ensures.library c.requires.given.told ends c.note_steps.new.ends
    c.deref-2.result.now
    c.note_steps.ensures.same c.note_steps.ensures.noted known in
    rw c.as_slice.ensures.value at far

pub returns-clause-within : goal.returns-clause-within
returns-clause-within g c =
    let grid = c.args.grid.now in
    let slots = c.args.slots.now in
    let net = c.args.net in
    let starts = c.args.starts.now.slots.items in
    let ends = c.deref.result.now in
    let origin = c.as_slice.result.now in
    let origins : (a : ℕ) → Contains starts a ↔ IsOrigin (slot_total grid) (λ n. bound_at grid origin n) a =
    rw c.as_slice.ensures.value (origins_are grid c.args.starts.now.boxes.items starts c.requires.given.within c.requires.given.boxed) in
    near_within grid c.args.flat.now slots net origin [] starts ends (λ n. bound_at grid origin n) origins
    (λ numbers is. c.searches_walk_as_numbers.ensures.within grid origin [] slots net starts ends numbers c.requires.given.told.count is) (λ v. v.items)
    c.near_walk.new.left_out
    c.in_ok-walk.walk c.in_ok-walk.ensures.found

pub returns-then-is_empty-clause-answer : goal.returns-then-is_empty-clause-answer
returns-then-is_empty-clause-answer g c =
    let starts = c.args.starts.now.slots in
    let empty : length starts.items ≡ 0 = grind (arith, nat_tests, c.is_empty.ensures, c.if-is_empty.true, starts.ok.0) in
    no_starts c.args.grid.now c.args.flat.now c.args.net starts.items _ c.requires.given.are (nil_from_length starts.items empty) _

pub returns-then-is_empty-2-clause-answer : goal.returns-then-is_empty-2-clause-answer
returns-then-is_empty-2-clause-answer g c =
    let ends = c.args.ends.now in
    let empty : length ends ≡ 0 = grind (arith, nat_tests, c.is_empty-2.ensures, c.if-is_empty-2.true) in
    let none : ends ≡ [] = nil_from_length ends empty in
    no_ends c.args.grid.now c.args.flat.now c.args.net (map (λ (end : EndSlot). end.slot) ends) (rw none refl) _
