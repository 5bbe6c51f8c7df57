-- Flats that get wires of a net: how many pieces the net has, and that pieces that are joined stay so.
use Rattle.std.proofs.Common.{◌≡◌, ◌≢◌, ◌+◌, ◌*◌, ◌<◌, ◌≤◌, ℕ, List, [], ◌∷◌, ◌++◌, length, Contains, Option, None, Some, slice_get, refl, sym, ap, ◌∙◌, subst, arith}
use Rattle.std.proofs.lemmas.List.Elements.{All-contains, Contains-append_left}
use Rattle.leg_design_records.specs.declared.limits.TheConstants.{PART_LIMIT}
use Rattle.leg_geom.specs.Plane.{PointModel}
use Rattle.leg_design_records.specs.declared.records.Wire.{Wire}
use Rattle.leg_design_records.specs.Records.{DesignModel}
use Rattle.leg_rules.specs.declared.piece.Piece.{Piece}
use Rattle.leg_rules.specs.declared.shape.Shape.{Shape}
use Rattle.leg_flat.specs.Limits.{ArePieces, IsWithinLimits}
use Rattle.leg_rules.specs.Metal.Flat.{FlatModel, pieces_with}
use Rattle.leg_rules.specs.Metal.MoreWires.{HasOneMoreWire}
use Rattle.leg_rules.specs.Joins.Touch.{piece_count, LiesIn, Touch, AreJoined}
use Rattle.leg_rules.specs.Joins.Touch.Joined.{itself, through}
use Rattle.leg_rules.specs.Joins.Violations.{IsOpen, IsOpenNet}
use Rattle.leg_rules.specs.declared.node.Node.{Node}
use Rattle.leg_rules.specs.Route.MoreWires.{HasMoreWires}
use Rattle.leg_rules.specs.Route.MoreWires.HasMoreWires.{none, one_more}
use Rattle.leg_rules.specs.Route.Spelling.{Spells, AreWiresOf}
use Rattle.leg_rules.specs.Route.Spelling.Spells.{done, along}
use Rattle.leg_rules.specs.Route.Spelling.Spells.{through as by_via}
use Rattle.leg_rules.specs.Route.Spelling.AreWiresOf.{stays, goes}
use Rattle.leg_flat.proofs.LastPiece.{length_of_pieces}
use Rattle.leg_route_laws.proofs.OpenNets.{count_is}
use Rattle.leg_lemmas.proofs.Places.{contains_at}
use Rattle.leg_lemmas.proofs.Places.{set_here, set_elsewhere}

-- how many pieces a net has
pub count_as : (f g : FlatModel) (n : ℕ) → slice_get g.pieces n ≡ slice_get f.pieces n → piece_count g n ≡ piece_count f n
count_as f g n same = rw same refl

count_none : (flat : FlatModel) (net : ℕ) → slice_get flat.pieces net ≡ None → piece_count flat net ≡ 0
count_none flat net there = rw there refl

-- so many at most
pub few_pieces : (flat : FlatModel) (net : ℕ) → IsWithinLimits flat → piece_count flat net ≤ 3 * PART_LIMIT
few_pieces flat net within = by (slice_get flat.pieces net) refl where
  by : (o : Option (List Piece)) → slice_get flat.pieces net ≡ o → piece_count flat net ≤ 3 * PART_LIMIT
  by None is = let count = count_none flat net is in omega (arith, count)
  by (Some own) is =
      let count = count_is flat net own is in
      let few = (All-contains (ArePieces (length flat.shapes)) flat.pieces own within.of_nets (contains_at flat.pieces net own is)).few in
      let shapes = within.shapes in
      omega (arith, count, few, shapes)

module _ (design : DesignModel) (net : ℕ) where
  pub one_piece : (wire : Wire) (f g : FlatModel) → HasOneMoreWire design net wire f g → piece_count g net ≡ piece_count f net + 1
  one_piece wire f g step =
      let here : slice_get g.pieces net ≡ Some (pieces_with step.terminals (step.wires + 1)) =
      ap (λ (ps : List (List Piece)). slice_get ps net) step.pieces
      ∙ set_here f.pieces net (pieces_with step.terminals step.wires) (pieces_with step.terminals (step.wires + 1)) step.there in
      let then = count_is g net (pieces_with step.terminals (step.wires + 1)) here in
      let first = count_is f net (pieces_with step.terminals step.wires) step.there in
      let many = length_of_pieces step.terminals (step.wires + 1) in
      let had = length_of_pieces step.terminals step.wires in
      omega (arith, then, first, many, had)

  pub more_pieces : (wires : List Wire) (f g : FlatModel) → HasMoreWires design net wires f g → piece_count g net ≡ piece_count f net + length wires
  more_pieces wires f g none = omega arith
  more_pieces wires f g (one_more {mid = mid} {wire = wire} {wires = others} step rest) =
      let first = one_piece wire f mid step in
      let then = more_pieces others mid g rest in
      omega (arith, first, then)

  -- one wire more
  pub more_then : (wires : List Wire) (wire : Wire) (f g h : FlatModel) → HasMoreWires design net wires f g → HasOneMoreWire design net wire g h
      → HasMoreWires design net (wires ++ wire ∷ []) f h
  more_then wires wire f g h none step = one_more step none
  more_then wires wire f g h (one_more {mid = mid} {wires = others} first rest) step = one_more first (more_then others wire mid g h rest step)

  -- the shapes are there still
  pub step_shape : (wire : Wire) (f g : FlatModel) → HasOneMoreWire design net wire f g → (shape : Shape) → Contains f.shapes shape → Contains g.shapes shape
  step_shape wire f g step shape there =
      subst (λ (shapes : List Shape). Contains shapes shape) (sym step.shapes) (Contains-append_left f.shapes step.added shape there)

  -- nets that are joined stay so
  module _ (n : ℕ) (other : n ≢ net) where
    pub step_pieces : (wire : Wire) (f g : FlatModel) → HasOneMoreWire design net wire f g → slice_get g.pieces n ≡ slice_get f.pieces n
    step_pieces wire f g step =
        ap (λ (ps : List (List Piece)). slice_get ps n) step.pieces
        ∙ set_elsewhere f.pieces net n (pieces_with step.terminals (step.wires + 1)) (λ same. other (sym same))

    record IsKept (f g : FlatModel) : Type 0 where
      pub pieces : slice_get g.pieces n ≡ slice_get f.pieces n
      pub shapes : (shape : Shape) → Contains f.shapes shape → Contains g.shapes shape

    kept : (wires : List Wire) (f g : FlatModel) → HasMoreWires design net wires f g → IsKept f g
    kept wires f g none = record { pieces = refl; shapes = λ shape there. there }
    kept wires f g (one_more {mid = mid} {wire = wire} {wires = others} step rest) =
        let then = kept others mid g rest in record {
          pieces = then.pieces ∙ step_pieces wire f mid step;
          shapes = λ shape there. then.shapes shape (step_shape wire f mid step shape there);
        }

    module _ (f g : FlatModel) (keeps : IsKept f g) where
      lies : (k layer : ℕ) (p : PointModel) → LiesIn f n k layer p → LiesIn g n k layer p
      lies k layer p h =
          let more = count_as f g n keeps.pieces in record {
            shape = h.shape;
            has = keeps.shapes h.shape h.has;
            of_piece = record { there = subst (λ count. k < count) (sym more) h.of_piece.there; owner = h.of_piece.owner; piece = h.of_piece.piece };
            on_layer = h.on_layer;
            inside = h.inside;
          }

      touch : (a b : ℕ) → Touch f n a b → Touch g n a b
      touch a b h = record {
        layer = h.layer;
        p = h.p;
        q = h.q;
        differ = h.differ;
        p_in_a = lies a h.layer h.p h.p_in_a;
        p_in_b = lies b h.layer h.p h.p_in_b;
        q_in_a = lies a h.layer h.q h.q_in_a;
        q_in_b = lies b h.layer h.q h.q_in_b;
      }

      joined : (a b : ℕ) → AreJoined f n a b → AreJoined g n a b
      joined a b itself = itself
      joined a b (through {b = c} first meet) = through (joined a c first) (touch c b meet)

      open_before : (k : ℕ) → IsOpen design g n k → IsOpen design f n k
      open_before k h = record {
        net = h.net;
        piece = subst (λ count. k < count) (count_as f g n keeps.pieces) h.piece;
        open_piece = λ joins. h.open_piece (joined 0 k joins);
      }

    pub was_open : (wires : List Wire) (f g : FlatModel) → HasMoreWires design net wires f g → IsOpenNet design g n → IsOpenNet design f n
    was_open wires f g more has = (has.0, open_before f g (kept wires f g more) has.0 has.1)

    pub stays_joined : (wires : List Wire) (f g : FlatModel) → HasMoreWires design net wires f g → ¬ IsOpenNet design f n → ¬ IsOpenNet design g n
    stays_joined wires f g more joins has = joins (was_open wires f g more has)

-- a walk has some wire
spells_some : (design : DesignModel) (a : Node) (nodes : List Node) (wires : List Wire) → 0 < length nodes → Spells design a nodes wires → 0 < length wires
spells_some design a nodes wires some done = absurd (omega (arith, some))
spells_some design a nodes wires some (by_via via over rest) = omega arith
spells_some design a nodes wires some (along side run on straight ends line rest) = omega arith

pub wires_some : (design : DesignModel) (nodes : List Node) (wires : List Wire) → AreWiresOf design nodes wires → 0 < length wires
wires_some design nodes wires (stays adds) = omega arith
wires_some design nodes wires (goes {a = a} {b = b} {nodes = others} spelled) = spells_some design a (b ∷ others) wires (omega arith) spelled
