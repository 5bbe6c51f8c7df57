use Rattle.std.proofs.Common.{◌≡◌, length, map, Some, slice_get, set, option_map, refl, ap, ◌∙◌}
use Rattle.std.proofs.lemmas.List.{map-set}
use Rattle.std.proofs.lemmas.Option.{slice_get-map, slice_get_read}
use Rattle.leg_finish.proofs.layout.lay_net.Goals as goal

pub returns-clause-laid : goal.returns-clause-laid
returns-clause-laid g c = λ yes.
    let lists = c.args.lists.now.items in
    let there : slice_get lists c.args.net ≡ Some c.index_mut.result.now =
    slice_get_read lists (length lists) c.args.net c.index_mut.result.now refl c.requires.listed c.index_mut.ensures.value in
    record {
      had = c.index_mut.result.now.items;
      wires = c.in-Some.wires.items;
      there = slice_get-map (λ wires. wires.items) lists c.args.net ∙ ap (option_map (λ wires. wires.items)) there;
      is = map-set (λ wires. wires.items) lists c.args.net c.append.new.self
          ∙ ap (λ ws. set (map (λ wires. wires.items) lists) c.args.net ws) c.in_ok-append.ensures.items;
      walks = rw c.in-Some.is at c.in_ok-wires.ensures.walks;
      spelled = rw c.in-Some.is at c.in_ok-wires.ensures.spelled;
      grows = rw c.deref.ensures.value at c.in-Ok.ensures.grows;
    }
