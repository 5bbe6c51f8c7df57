-- Groups of pieces that are joined, and the slots of the nodes that meet them.
use Rattle.std.proofs.Common.{◌≡◌, ◌↔◌, ◌==◌, ℕ, ◌<◌, ◌≤◌, Bool, true, false, List, Contains, length, get_or, Some, slice_get, refl, sym, subst, ap, ◌∙◌, arith}
use Rattle.std.proofs.lemmas.Bool.{eqb-true, eqb-false, eq-eqb, ne_eqb}
use Rattle.std.proofs.lemmas.Option.{same_Some, slice_get_within, slice_get_read, slice_get-get_or, get_or_from_slice_get}
use Rattle.leg_design_records.specs.Records.{DesignModel}
use Rattle.leg_rules.specs.declared.shape.Shape.{Shape}
use Rattle.leg_rules.specs.Metal.Flat.{FlatModel}
use Rattle.leg_wire.specs.NetShapes.{AreNumbersOf}
use Rattle.leg_wire.specs.PieceMarks.{AreFirsts}
use Rattle.leg_rules.specs.Joins.Touch.{piece_count, LiesIn, AreJoined}
use Rattle.leg_rules.specs.Joins.Touch.Joined.{itself}
use Rattle.leg_rules.specs.declared.node.Node.{Node}
use Rattle.leg_route_grid.specs.declared.slot_box.SlotBox.{SlotBox}
use Rattle.leg_route_grid.specs.Steps.Grid.{GridModel, IsNumberOf}
use Rattle.leg_route_grid.specs.Steps.NodeNumbers.{IsOneOf}
use Rattle.leg_rules.specs.Finish.Reach.{MeetsJoinedTo, MeetsOthers, IsUnreachable}
use Rattle.leg_finish.specs.Steps.GroupSlots.{IsJoinedAs, MeetsShapeOf, AreSlotsOf}

-- a piece that is the least of those that it is joined to
pub own_at : (firsts : List ℕ) (k first : ℕ) → k < length firsts → first ≡ get_or firsts k 0 → first ≡ k → slice_get firsts first ≡ Some first
own_at firsts k first within read same = subst (λ j. slice_get firsts j ≡ Some first) (sym same) (slice_get-get_or firsts k 0 within ∙ ap Some (sym read))

-- The pieces of a net, the least that each is joined to, and the laws of pieces that are joined.
module _ (flat : FlatModel) (net : ℕ) (firsts : List ℕ) (firsts_are : AreFirsts (AreJoined flat net) (piece_count flat net) firsts)
    (back : (a b : ℕ) → AreJoined flat net a b → AreJoined flat net b a)
    (onward : (a b c : ℕ) → AreJoined flat net a b → AreJoined flat net b c → AreJoined flat net a c) where
  pub known_within : (k least : ℕ) → slice_get firsts k ≡ Some least → k < piece_count flat net
  known_within k least there = rw (← firsts_are.count) (slice_get_within firsts k least there)

  -- where a piece cannot be reached, the least that it is joined to cannot be either
  least_too : (design : DesignModel) (k least : ℕ) → slice_get firsts k ≡ Some least → IsUnreachable design flat net k → IsUnreachable design flat net least
  least_too design k least there unreachable =
      let is = firsts_are.each k least there in
      record {
        is_open = unreachable.is_open;
        there = is.within;
        none = λ a b nodes start is_end walk.
            unreachable.none a b nodes (record { other = start.other; joined = onward k least start.other is.joined start.joined; meets = start.meets })
            (record {
              other = is_end.other;
              apart = λ joined. is_end.apart (onward least k is_end.other (back k least is.joined) joined);
              meets = is_end.meets;
            }) walk;
      }

  -- so a piece that isn't the least of its group is not the first that cannot be reached
  pub not_least : (design : DesignModel) (k least : ℕ) → slice_get firsts k ≡ Some least → (least ≡ k → ⊥)
      → ((j : ℕ) → j < k → ¬ IsUnreachable design flat net j) → ¬ IsUnreachable design flat net k
  not_least design k least there differ none unreachable =
      let upto : least ≤ k = (firsts_are.each k least there).least k (known_within k least there) itself in
      none least (omega (arith, upto, differ)) (least_too design k least there unreachable)

  module _ (first : ℕ) (own : slice_get firsts first ≡ Some first) where
    -- a piece is joined to the least of a group just where that is the least that it is joined to
    same_first : (k least : ℕ) → slice_get firsts k ≡ Some least → AreJoined flat net first k → least ≡ first
    same_first k least there joined =
        let is = firsts_are.each k least there in
        let here = firsts_are.each first first own in
        let upto : least ≤ first = is.least first here.within (back first k joined) in
        let from : first ≤ least = here.least least is.within (onward first k least joined is.joined) in
        omega (arith, upto, from)

    joined_to : (k least : ℕ) → slice_get firsts k ≡ Some least → least ≡ first → AreJoined flat net first k
    joined_to k least there same = back k first (subst (λ j. AreJoined flat net k j) same (firsts_are.each k least there).joined)

    least_at : (k : ℕ) → k < piece_count flat net → slice_get firsts k ≡ Some (get_or firsts k 0)
    least_at k within = slice_get-get_or firsts k 0 (rw firsts_are.count within)

    module _ (numbers : List ℕ) (are : AreNumbersOf flat.shapes net numbers) where
      meets_piece : (is_joined : Bool) (node : Node) (m : MeetsShapeOf flat.shapes (IsJoinedAs firsts first is_joined) numbers node)
          → LiesIn flat net m.meant.number node.layer node.at
      meets_piece is_joined node m =
          let of_net = are.each m.number m.listed in
          let same : m.shape ≡ of_net.shape = same_Some m.shape of_net.shape (sym m.there ∙ of_net.at) in
          record {
            shape = m.shape;
            has = (m.number, slice_get_within flat.shapes m.number m.shape m.there, get_or_from_slice_get flat.shapes m.number m.shape m.shape m.there);
            of_piece = record {
              there = known_within m.meant.number m.meant.least m.meant.there;
              owner = ap (λ (s : Shape). s.owner) same ∙ of_net.owner;
              piece = m.meant.is;
            };
            on_layer = sym m.lies.on_layer;
            inside = m.lies.inside;
          }

      meets_shape : (is_joined : Bool) (node : Node) (piece least : ℕ) (lies : LiesIn flat net piece node.layer node.at) → slice_get firsts piece ≡ Some least
          → (least == first) ≡ is_joined
          → MeetsShapeOf flat.shapes (IsJoinedAs firsts first is_joined) numbers node
      meets_shape is_joined node piece least lies known same =
          let k = lies.has.0 in
          let there : slice_get flat.shapes k ≡ Some lies.shape = slice_get_read flat.shapes _ k lies.shape refl lies.has.1 (sym lies.has.2) in
          record {
            number = k;
            listed = are.all k (record { shape = lies.shape; at = there; owner = lies.of_piece.owner });
            shape = lies.shape;
            there = there;
            meant = record { number = piece; is = lies.of_piece.piece; least = least; there = known; same = same };
            lies = record { on_layer = sym lies.on_layer; inside = lies.inside };
          }

      module _ (grid : GridModel) (boxes : List SlotBox) (slots : List ℕ) where
        -- the slots in shapes of the group
        pub starts_are : AreSlotsOf grid flat.shapes (IsJoinedAs firsts first true) numbers boxes slots → (n : ℕ)
            → Contains slots n ↔ IsOneOf (IsNumberOf grid) (MeetsJoinedTo flat net first) n
        starts_are told n = (
          λ has.
              let one = (told.are n).0 has in
              let meant = one.holds.meant in
              record {
                node = one.node;
                is = one.is;
                holds = record {
                  other = meant.number;
                  joined = joined_to meant.number meant.least meant.there (eqb-true meant.least first meant.same);
                  meets = meets_piece true one.node one.holds;
                };
              },
          λ one.
              let piece = one.holds.other in
              let least = get_or firsts piece 0 in
              let known : slice_get firsts piece ≡ Some least = least_at piece one.holds.meets.of_piece.there in
              (told.are n).1
              (record {
                node = one.node;
                is = one.is;
                holds = meets_shape true one.node piece least one.holds.meets known (eq-eqb least first (same_first piece least known one.holds.joined));
              }),
        )

        -- those in shapes of the other pieces
        pub ends_are : AreSlotsOf grid flat.shapes (IsJoinedAs firsts first false) numbers boxes slots → (n : ℕ)
            → Contains slots n ↔ IsOneOf (IsNumberOf grid) (MeetsOthers flat net first) n
        ends_are told n = (
          λ has.
              let one = (told.are n).0 has in
              let meant = one.holds.meant in
              record {
                node = one.node;
                is = one.is;
                holds = record {
                  other = meant.number;
                  apart = λ joined. eqb-false meant.least first meant.same (same_first meant.number meant.least meant.there joined);
                  meets = meets_piece false one.node one.holds;
                };
              },
          λ one.
              let piece = one.holds.other in
              let least = get_or firsts piece 0 in
              let known : slice_get firsts piece ≡ Some least = least_at piece one.holds.meets.of_piece.there in
              (told.are n).1
              (record {
                node = one.node;
                is = one.is;
                holds = meets_shape false one.node piece least one.holds.meets known
                    (ne_eqb least first (λ same. one.holds.apart (joined_to piece least known same)));
              }),
        )
