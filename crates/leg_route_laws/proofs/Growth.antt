-- What a flat has that grew by wires.
use Rattle.std.proofs.Common.{◌≡◌, ◌==◌, ℕ, zero, suc, ◌+◌, Bool, true, false, List, [], ◌∷◌, ◌++◌, length, ◌⊎◌, inl, inr, Some, slice_get, Contains, refl, sym, ap, subst, ◌∙◌, add-zero, arith}
use Rattle.std.proofs.lemmas.Bool.Decides.{nat_tests}
use Rattle.std.proofs.lemmas.List.{length-append, length-map, length-set, append_assoc, append-nil}
use Rattle.std.proofs.lemmas.List.Elements.{Contains-append_left, Contains-append_right, Contains-append_cases}
use Rattle.std.proofs.lemmas.Option.{same_Some, none-some}
use Rattle.leg_lemmas.proofs.Places.{set_here, set_elsewhere}
use Rattle.leg_lib_records.proofs.OneEach.{same_length}
use Rattle.leg_design_records.specs.declared.records.Terminal.{Terminal}
use Rattle.leg_design_records.specs.declared.records.Wire.{Wire}
use Rattle.leg_design_records.specs.Records.{DesignModel}
use Rattle.leg_rules.specs.Metal.Metal.{Metal, wire_outlines}
use Rattle.leg_rules.specs.Metal.Flat.{FlatModel, IsShapeOf, pieces_with}
use Rattle.leg_rules.specs.Metal.MoreWires.{wire_metal, HasOneMoreWire}
use Rattle.leg_route_laws.specs.Growth.{AddedWire, Grows, of_net, wires_added, IsMetalAdded, HasGrown}
use Rattle.leg_route_laws.proofs.Places.{has_like, is_like}
use Rattle.leg_route_laws.proofs.PiecesWith.{same_terminals, same_wires}

pub metal_count : (design : DesignModel) (net k : ℕ) (wire : Wire) → length (wire_metal design net k wire) ≡ length (wire_outlines design wire)
metal_count design net k wire = length-map (wire_outlines design wire) _

-- the wires of a net, where the first added wire is one of it, or isn't
module _ (one : AddedWire) (more : List AddedWire) where
  pub added_here : (net : ℕ) → one.net ≡ net → wires_added net (one ∷ more) ≡ one.wire ∷ wires_added net more
  added_here net same =
      let test : (one.net == net) ≡ true = grind (arith, nat_tests, same) in
      rw test refl

  pub added_elsewhere : (net : ℕ) → ¬ (one.net ≡ net) → wires_added net (one ∷ more) ≡ wires_added net more
  added_elsewhere net other =
      let test : (one.net == net) ≡ false = grind (arith, nat_tests, other) in
      rw test refl

pub same_number : (m n : ℕ) → (m ≡ n) ⊎ (¬ (m ≡ n))
same_number m n = by (m == n) refl where
  by : (same : Bool) → (m == n) ≡ same → (m ≡ n) ⊎ (¬ (m ≡ n))
  by true same = inl (grind (arith, nat_tests, same))
  by false other = inr (λ same. let e : ⊥ = grind (arith, nat_tests, other, same) in e)

module _ (design : DesignModel) (one : AddedWire) (more : List AddedWire) (before between after : FlatModel)
    (step : HasOneMoreWire design one.net one.wire before between) (rest : HasGrown design more between after) where
  -- the pieces in between
  piece_here : slice_get between.pieces one.net ≡ Some (pieces_with step.terminals (step.wires + 1))
  piece_here =
      ap (λ pieces. slice_get pieces one.net) step.pieces
      ∙ set_here before.pieces one.net (pieces_with step.terminals step.wires) (pieces_with step.terminals (step.wires + 1)) step.there

  piece_elsewhere : (net : ℕ) → ¬ (one.net ≡ net) → slice_get between.pieces net ≡ slice_get before.pieces net
  piece_elsewhere net other =
      ap (λ pieces. slice_get pieces net) step.pieces
      ∙ set_elsewhere before.pieces one.net net (pieces_with step.terminals (step.wires + 1)) other

  -- the added metal: that of the first wire, and that of the others
  of_first : (metal : Metal) → Contains (wire_metal design one.net (length step.terminals + step.wires) one.wire) metal
      → IsMetalAdded design (one ∷ more) before metal
  of_first metal there = record {
    net = one.net;
    j = 0;
    wire = one.wire;
    there = rw (added_here one more one.net refl) refl;
    terminals = step.terminals;
    wires = step.wires;
    had = step.there;
    of_wire = subst (λ k. Contains (wire_metal design one.net (length step.terminals + k) one.wire) metal) (sym (add-zero step.wires)) there;
  }

  of_more : (metal : Metal) → IsMetalAdded design more between metal → IsMetalAdded design (one ∷ more) before metal
  of_more metal it = by (same_number one.net it.net) where
    by : (one.net ≡ it.net) ⊎ (¬ (one.net ≡ it.net)) → IsMetalAdded design (one ∷ more) before metal
    by (inl same) =
        let pieces : pieces_with it.terminals it.wires ≡ pieces_with step.terminals (step.wires + 1) =
        same_Some (pieces_with it.terminals it.wires) (pieces_with step.terminals (step.wires + 1))
        (sym it.had ∙ ap (slice_get between.pieces) (sym same) ∙ piece_here) in
        let terminals = same_terminals it.terminals step.terminals it.wires (step.wires + 1) pieces in
        let wires = same_wires it.terminals step.terminals it.wires (step.wires + 1) pieces in
        let number : length it.terminals + (it.wires + it.j) ≡ length step.terminals + (step.wires + suc it.j) = omega (arith, wires, ap length terminals) in
        record {
          net = it.net;
          j = suc it.j;
          wire = it.wire;
          there = ap (λ wires. slice_get wires (suc it.j)) (added_here one more it.net same) ∙ it.there;
          terminals = step.terminals;
          wires = step.wires;
          had = ap (slice_get before.pieces) (sym same) ∙ step.there;
          of_wire = subst (λ k. Contains (wire_metal design it.net k it.wire) metal) number it.of_wire;
        }
    by (inr other) = record {
      net = it.net;
      j = it.j;
      wire = it.wire;
      there = ap (λ wires. slice_get wires it.j) (added_elsewhere one more it.net other) ∙ it.there;
      terminals = it.terminals;
      wires = it.wires;
      had = sym (piece_elsewhere it.net other) ∙ it.had;
      of_wire = it.of_wire;
    }

  abbrev IsFirst : Metal → Type 0
  IsFirst metal = Contains (wire_metal design one.net (length step.terminals + step.wires) one.wire) metal

  first_or_more : (metal : Metal) → IsMetalAdded design (one ∷ more) before metal → IsFirst metal ⊎ IsMetalAdded design more between metal
  first_or_more metal it = by (same_number one.net it.net) where
    by : (one.net ≡ it.net) ⊎ (¬ (one.net ≡ it.net)) → IsFirst metal ⊎ IsMetalAdded design more between metal
    by (inl same) = which it.j (sym (ap (λ wires. slice_get wires it.j) (added_here one more it.net same)) ∙ it.there) it.of_wire where
      pieces : pieces_with it.terminals it.wires ≡ pieces_with step.terminals step.wires
      pieces =
          same_Some (pieces_with it.terminals it.wires) (pieces_with step.terminals step.wires)
          (sym it.had ∙ ap (slice_get before.pieces) (sym same) ∙ step.there)

      terminals : it.terminals ≡ step.terminals
      terminals = same_terminals it.terminals step.terminals it.wires step.wires pieces

      wires : it.wires ≡ step.wires
      wires = same_wires it.terminals step.terminals it.wires step.wires pieces

      which : (j : ℕ) → slice_get (one.wire ∷ wires_added it.net more) j ≡ Some it.wire
          → Contains (wire_metal design it.net (length it.terminals + (it.wires + j)) it.wire) metal → IsFirst metal ⊎ IsMetalAdded design more between metal
      which zero at of_wire =
          let wire : it.wire ≡ one.wire = sym (same_Some one.wire it.wire at) in
          let number : length it.terminals + (it.wires + 0) ≡ length step.terminals + step.wires = omega (arith, wires, ap length terminals) in
          inl (
          subst (λ w. Contains (wire_metal design one.net (length step.terminals + step.wires) w) metal) wire
          (subst (λ n. Contains (wire_metal design n (length step.terminals + step.wires) it.wire) metal) (sym same)
          (subst (λ k. Contains (wire_metal design it.net k it.wire) metal) number of_wire))
          )
      which (suc j) at of_wire =
          let number : length it.terminals + (it.wires + suc j) ≡ length step.terminals + ((step.wires + 1) + j) = omega (arith, wires, ap length terminals) in
          inr (record {
            net = it.net;
            j = j;
            wire = it.wire;
            there = at;
            terminals = step.terminals;
            wires = step.wires + 1;
            had = ap (slice_get between.pieces) (sym same) ∙ piece_here;
            of_wire = subst (λ k. Contains (wire_metal design it.net k it.wire) metal) number of_wire;
          })
    by (inr other) = inr (record {
      net = it.net;
      j = it.j;
      wire = it.wire;
      there = sym (ap (λ wires. slice_get wires it.j) (added_elsewhere one more it.net other)) ∙ it.there;
      terminals = it.terminals;
      wires = it.wires;
      had = piece_elsewhere it.net other ∙ it.had;
      of_wire = it.of_wire;
    })

  abbrev added_metal : List Metal
  added_metal = wire_metal design one.net (length step.terminals + step.wires) one.wire

  one_more : HasGrown design (one ∷ more) before after
  one_more = record {
    more = step.added ++ rest.more;
    shapes = rest.shapes ∙ ap (λ shapes. shapes ++ rest.more) step.shapes ∙ append_assoc before.shapes step.added rest.more;
    count = omega (
      arith,
      length-append step.added rest.more,
      rest.count,
      same_length IsShapeOf added_metal step.added step.each,
      metal_count design one.net (length step.terminals + step.wires) one.wire,
    );
    each = λ shape there. elim (Contains-append_cases step.added rest.more shape there) [
      | inl here ↦ let of = is_like IsShapeOf added_metal step.added shape step.each here in (of.x, of_first of.x of.there, of.like)
      | inr later ↦ let of = rest.each shape later in (of.0, of_more of.0 of.1, of.2)
    ];
    all = λ metal it. elim (first_or_more metal it) [
      | inl first ↦ let has = has_like IsShapeOf added_metal step.added metal step.each first in
          (has.y, Contains-append_left step.added rest.more has.y has.there, has.like)
      | inr later ↦ let has = rest.all metal later in (has.0, Contains-append_right step.added rest.more has.0 has.1, has.2)
    ];
    nets = rest.nets ∙ ap length step.pieces ∙ length-set before.pieces one.net (pieces_with step.terminals (step.wires + 1));
    pieces = pieces;
    others = others;
  } where
    pieces : (net : ℕ) (terminals : List Terminal) (wires : ℕ) → slice_get before.pieces net ≡ Some (pieces_with terminals wires)
        → slice_get after.pieces net ≡ Some (pieces_with terminals (wires + length (wires_added net (one ∷ more))))
    pieces net terminals wires had = by (same_number one.net net) where
      by : (one.net ≡ net) ⊎ (¬ (one.net ≡ net)) → slice_get after.pieces net ≡ Some (pieces_with terminals (wires + length (wires_added net (one ∷ more))))
      by (inl same) =
          let old : pieces_with terminals wires ≡ pieces_with step.terminals step.wires =
          same_Some (pieces_with terminals wires) (pieces_with step.terminals step.wires) (sym had ∙ ap (slice_get before.pieces) (sym same) ∙ step.there) in
          let ts = same_terminals terminals step.terminals wires step.wires old in
          let ws = same_wires terminals step.terminals wires step.wires old in
          let now : slice_get between.pieces net ≡ Some (pieces_with terminals (wires + 1)) =
          ap (slice_get between.pieces) (sym same) ∙ piece_here ∙ (rw (ts, ws) refl) in
          let count : (wires + 1) + length (wires_added net more) ≡ wires + length (wires_added net (one ∷ more)) =
          rw (added_here one more net same) (omega arith) in
          rest.pieces net terminals (wires + 1) now ∙ ap (λ k. Some (pieces_with terminals k)) count
      by (inr other) =
          rest.pieces net terminals wires (piece_elsewhere net other ∙ had)
          ∙ ap (λ (ws : List Wire). Some (pieces_with terminals (wires + length ws))) (sym (added_elsewhere one more net other))

    others : (net : ℕ) → wires_added net (one ∷ more) ≡ [] → slice_get after.pieces net ≡ slice_get before.pieces net
    others net none = by (same_number one.net net) where
      by : (one.net ≡ net) ⊎ (¬ (one.net ≡ net)) → slice_get after.pieces net ≡ slice_get before.pieces net
      by (inl same) = absurd (let e : ⊥ = cc (sym (added_here one more net same) ∙ none) in e)
      by (inr other) = rest.others net (sym (added_elsewhere one more net other) ∙ none) ∙ piece_elsewhere net other

no_more : (design : DesignModel) (before after : FlatModel) → after ≡ before → HasGrown design [] before after
no_more design before after same = rw same (record {
  more = [];
  shapes = sym (append-nil before.shapes);
  count = refl;
  each = λ shape there. absurd (let e : ⊥ = omega (arith, there.1) in e);
  all = λ metal it. absurd (none-some it.wire it.there);
  nets = refl;
  pieces = λ net terminals wires had. had ∙ ap (λ k. Some (pieces_with terminals k)) (sym (add-zero wires));
  others = λ net none. refl;
})

pub has_grown : (design : DesignModel) (added : List AddedWire) (before after : FlatModel) → Grows design added before after
    → HasGrown design added before after
has_grown design [] before after grows = no_more design before after grows
has_grown design (one ∷ more) before after grows =
    one_more design one more before grows.0 after grows.1 (has_grown design more grows.0 after grows.2)

-- a flat that has grown goes on growing
pub grows_then : (design : DesignModel) (first second : List AddedWire) (before between after : FlatModel) → Grows design first before between
    → Grows design second between after → Grows design (first ++ second) before after
grows_then design [] second before between after grows then_grows = subst (λ f. Grows design second f after) grows then_grows
grows_then design (one ∷ more) second before between after grows then_grows =
    (grows.0, grows.1, grows_then design more second grows.0 between after grows.2 then_grows)

-- the wires of a net, with one more at the end
pub added_then : (net : ℕ) (first second : List AddedWire) → wires_added net (first ++ second) ≡ wires_added net first ++ wires_added net second
added_then net [] second = refl
added_then net (one ∷ more) second = by (added_then net more second) (same_number one.net net) where
  by : wires_added net (more ++ second) ≡ wires_added net more ++ wires_added net second → (one.net ≡ net) ⊎ (¬ (one.net ≡ net))
      → wires_added net (one ∷ (more ++ second)) ≡ wires_added net (one ∷ more) ++ wires_added net second
  by rest (inl same) =
      added_here one (more ++ second) net same ∙ ap (λ wires. one.wire ∷ wires) rest
      ∙ ap (λ wires. wires ++ wires_added net second) (sym (added_here one more net same))
  by rest (inr other) =
      added_elsewhere one (more ++ second) net other ∙ rest ∙ ap (λ wires. wires ++ wires_added net second) (sym (added_elsewhere one more net other))

-- wires of one net are that net's
pub added_of_net : (net : ℕ) (wires : List Wire) → wires_added net (of_net net wires) ≡ wires
added_of_net net [] = refl
added_of_net net (wire ∷ wires) = added_here (record { net = net; wire = wire }) (of_net net wires) net refl ∙ ap (λ rest. wire ∷ rest) (added_of_net net wires)

pub added_of_other : (other net : ℕ) (wires : List Wire) → ¬ (net ≡ other) → wires_added other (of_net net wires) ≡ []
added_of_other other net [] differ = refl
added_of_other other net (wire ∷ wires) differ =
    added_elsewhere (record { net = net; wire = wire }) (of_net net wires) other differ ∙ added_of_other other net wires differ
