-- The flat has the wire's shapes behind the others, and keeps its limits.
use Rattle.std.proofs.Common.{rules, ◌≡◌, ◌++◌, ◌∷◌, [], ◌<◌, ◌∙◌, List, false, length, set, sym, ap, subst, arith}
use Rattle.std.proofs.lemmas.List.{get_or_default}
use Rattle.leg_lemmas.proofs.Options.{on_err_anyway}
use Rattle.leg_rules.specs.declared.piece.Piece.{Piece}
use Rattle.leg_rules.specs.declared.piece.Piece.TheVariants.{Wire}
use Rattle.leg_rules.specs.declared.shape.Shape.{Shape}
use Rattle.leg_rules.specs.Metal.Flat.{FlatModel}
use Rattle.leg_rules.specs.Metal.MoreWires.{HasOneMoreWire}
use Rattle.leg_flat.proofs.MetalLines.{wire_within}
use Rattle.leg_flat.proofs.OneMoreWire.{some_outlines, metal_count, GetsWire, is_within, has_more, same_pieces, has_pieces}
use Rattle.leg_flat.proofs.flat.Flat.add_wire.Given.{Over}
use Rattle.leg_flat.proofs.flat.Flat.add_wire.Goals as goal

pub shapes_of_wire-requires-clause-within : goal.shapes_of_wire-requires-clause-within
shapes_of_wire-requires-clause-within g c =
    let design = c.args.design.now in
    wire_within design.library design.vias false c.design_is_sound.ensures.library c.args.wire.now c.requires.spelled

pub next_wire-number-requires-clause-are : goal.next_wire-number-requires-clause-are
next_wire-number-requires-clause-are g c =
    let before : FlatModel = record { shapes = c.self.inside.shapes.items; pieces = c.self.inside.pieces.items } in
    let within = subst (λ (f : FlatModel). c.args.net < length f.pieces) (sym c.self.view_is) c.requires.in_range in
    rw c.as_slice-pieces.ensures (has_pieces before c.args.net c.index.result.now c.self.invariant within c.index.ensures)

pub returns-in_err-push-clause-unchanged : goal.returns-in_err-push-clause-unchanged
returns-in_err-push-clause-unchanged g c =
    let shapes = c.reserve.ensures.items in
    let pieces =
    same_pieces c.self.inside.pieces.items c.args.net c.push.new.self c.index_mut.result.now c.in_err-push.ensures.unchanged c.index_mut.ensures.value in
    on_err_anyway c.from_residual-in_err-push.result (rw (shapes, pieces) c.self.view_is)

abbrev gets : (g : Over) (c : goal.After-drop-added-2 g)
    → GetsWire (record { shapes = c.self.inside.shapes.items; pieces = c.self.inside.pieces.items }) c.args.net c.index_mut.result.now
    c.next_wire-number.result c.in_ok-added.added.items
gets g c =
    let design = c.args.design.now in
    let net = c.args.net in
    let nets = c.self.inside.pieces.items in
    let old : List Piece = c.index_mut.result.now in
    let within : net < length nets = subst (λ (f : FlatModel). net < length f.pieces) (sym c.self.view_is) c.requires.in_range in
    let first : List Piece = c.index.result.now in
    let same : old ≡ first = c.index_mut.ensures.value ∙ get_or_default nets net old first within ∙ sym c.index.ensures in
    let count = metal_count design net _ c.args.wire.now c.in_ok-added.added.items c.in_ok-added.ensures in
    let some = some_outlines design c.design_is_sound.ensures.library c.design_is_sound.ensures.proper c.args.wire.now c.requires.spelled in
    record {
      within = c.self.invariant;
      there = within;
      are = c.index_mut.ensures.value;
      next = λ terminals wires are. c.next_wire-number.ensures terminals wires (c.as_slice-pieces.ensures ∙ sym same ∙ are);
      some = omega (arith, count, some);
      few = omega (arith, count, c.wire_shapes.ensures, c.len.ensures, c.if-wire_shapes-len.false, c.self.invariant.shapes);
    }

pub invariant_of-self-2 : goal.invariant_of-self-2
invariant_of-self-2 g c =
    let before : FlatModel = record { shapes = c.self.inside.shapes.items; pieces = c.self.inside.pieces.items } in
    let old : List Piece = c.index_mut.result.now in
    let added : List Shape = c.in_ok-added.added.items in
    let shapes : c.append.new.self.items ≡ before.shapes ++ added = search rules in
    let pieces : c.push.new.self ≡ old ++ Wire c.next_wire-number.result ∷ [] = search rules in
    rw (shapes, pieces) (is_within before c.args.net old c.next_wire-number.result added (gets g c))

pub returns-clause-added : goal.returns-clause-added
returns-clause-added g c =
    let before : FlatModel = record { shapes = c.self.inside.shapes.items; pieces = c.self.inside.pieces.items } in
    let old : List Piece = c.index_mut.result.now in
    let added : List Shape = c.in_ok-added.added.items in
    let shapes : c.append.new.self.items ≡ before.shapes ++ added = search rules in
    let pieces : c.push.new.self ≡ old ++ Wire c.next_wire-number.result ∷ [] = search rules in
    let number = c.next_wire-number.result in
    let each = c.in_ok-added.ensures in
    let net = c.args.net in
    let nets = c.self.inside.pieces.items in
    let within : net < length nets = (gets g c).there in
    let first : List Piece = c.index.result.now in
    let same : length old ≡ length c.as_slice-pieces.result.now =
    ap length (c.index_mut.ensures.value ∙ get_or_default nets net old first within ∙ sym c.index.ensures ∙ sym c.as_slice-pieces.ensures) in
    let made = has_more before net old number added (gets g c) c.args.design.now c.args.wire.now (rw same each) in
    let after : FlatModel = record { shapes = c.append.new.self.items; pieces = set nets net c.push.new.self } in
    let has : HasOneMoreWire c.args.design.now net c.args.wire.now before after = rw (shapes, pieces) made in
    subst (λ (f : FlatModel). HasOneMoreWire c.args.design.now net c.args.wire.now f after) c.self.view_is has
