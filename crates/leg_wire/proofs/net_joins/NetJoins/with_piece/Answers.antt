-- The metal of the piece is put behind that of the others.
use Rattle.std.proofs.Common.{◌≡◌, ◌++◌, ◌∙◌, [], ap, get_or, length}
use Rattle.leg_wire.specs.Joins.{metal_of_piece}
use Rattle.leg_wire.specs.Steps.Joins.{first_rects, JoinsNew}
use Rattle.leg_wire.proofs.MergedLists.{HasGrown-onward}
use Rattle.leg_wire.proofs.OnePieceMore.{of_piece, places_more, kept_more}
use Rattle.leg_wire.proofs.net_joins.NetJoins.with_piece.Goals as goal

pub join_new-requires-clause-places : goal.join_new-requires-clause-places
join_new-requires-clause-places g c =
    let metal = c.self.inside.metal.items in
    let sets = c.self.inside.groups.sets in
    let shapes = c.args.shapes.now in
    let all : c.deref-2.result.now ≡ metal ++ metal_of_piece (length sets) shapes =
    c.deref-2.ensures.value ∙ c.in_ok-push_metal.ensures ∙ ap (λ piece. metal ++ metal_of_piece piece shapes) c.in_ok-piece.ensures.number in
    rw all
    (places_more metal (metal_of_piece (length sets) shapes) sets c.add.new.self.sets c.self.invariant.places
    (of_piece (length sets) shapes) c.in_ok-piece.ensures.added)

pub invariant_of-result : goal.invariant_of-result
invariant_of-result g c =
    let metal = c.self.inside.metal.items in
    let sets = c.self.inside.groups.sets in
    let shapes = c.args.shapes.now in
    let lists = c.self.inside.groups.members.items in
    let then : c.push_metal.new.metal.items ≡ metal ++ metal_of_piece (length sets) shapes =
    c.in_ok-push_metal.ensures ∙ ap (λ piece. metal ++ metal_of_piece piece shapes) c.in_ok-piece.ensures.number in
    let index : c.index_all.new.index ≡ first_rects (length metal) metal = rw (← c.deref.ensures.value) c.in_ok-index_all.ensures in
    let joins : JoinsNew (metal ++ metal_of_piece (length sets) shapes) (length c.index_all.new.index) c.add.new.self.sets c.join_new.new.groups.sets =
    rw (← then, ← c.deref-2.ensures.value) c.in_ok-join_new.ensures.joins in
    rw then
    (kept_more metal shapes c.index_all.new.index c.self.inside.index sets c.add.new.self.sets c.join_new.new.groups.sets lists
    c.join_new.new.groups.members.items c.self.inside.given c.self.invariant index c.in_ok-piece.ensures.added
    (record {
      joins = joins;
      count = c.in_ok-join_new.ensures.count;
      groups = c.in_ok-join_new.ensures.listed;
      longer = HasGrown-onward (get_or lists 0 []) (get_or c.add.new.self.members.items 0 []) (get_or c.join_new.new.groups.members.items 0 [])
          c.in_ok-piece.ensures.grown c.in_ok-join_new.ensures.grown;
    }))
