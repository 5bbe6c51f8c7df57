-- What is kept of the joined part of a net: at first, when a net gets a wire, and in terms of the numbers of the net's shapes.
use Rattle.std.proofs.Common.{◌≡◌, ◌+◌, ◌<◌, ◌≤◌, ℕ, Bool, true, false, List, [], length, Contains, get_or, None, Some, slice_get, inl, inr, refl, sym, ap, ◌∙◌, subst, arith}
use Rattle.std.proofs.lemmas.Bool.{cases_eq}
use Rattle.std.proofs.lemmas.List.Elements.{All-nil, Contains-append_cases}
use Rattle.std.proofs.lemmas.Option.{same_Some, none-some, slice_get_within, slice_get_read, slice_get-get_or, get_or_from_slice_get}
use Rattle.leg_sweep.proofs.Lists.{Contains-nil}
use Rattle.leg_geom.specs.Plane.{PointModel}
use Rattle.leg_design_records.specs.declared.records.Wire as records
use Rattle.leg_design_records.specs.Records.{DesignModel}
use Rattle.leg_rules.specs.declared.owner.Owner.TheVariants.{Net}
use Rattle.leg_rules.specs.declared.shape.Shape.{Shape}
use Rattle.leg_rules.specs.Metal.Metal.{OnLayer, Belonging, Metal, wire_outlines}
use Rattle.leg_rules.specs.Metal.Flat.{FlatModel, IsShapeOf}
use Rattle.leg_rules.specs.Metal.MoreWires.{wire_metal, HasOneMoreWire}
use Rattle.leg_wire.specs.NetShapes.{AreNumbersOf}
use Rattle.leg_wire.specs.PieceMarks.{AreMarks}
use Rattle.leg_rules.specs.Joins.Touch.{piece_count, LiesIn, Touch, AreJoined}
use Rattle.leg_rules.specs.Joins.Touch.Joined.{itself, through}
use Rattle.leg_rules.specs.declared.node.Node.{Node}
use Rattle.leg_route_grid.specs.declared.slot_box.SlotBox.{SlotBox}
use Rattle.leg_route_grid.specs.declared.hulls.Hull.{Hull}
use Rattle.leg_route_grid.specs.Steps.WalkBounds.{bound_at, IsBoxOf}
use Rattle.leg_route_grid.specs.Steps.Grid.{GridModel, slot_total}
use Rattle.leg_lemmas.proofs.Places.{comes_from}
use Rattle.leg_flat.proofs.LastPiece.{length_of_pieces}
use Rattle.leg_wire.proofs.NetNumbers.{same_net}
use Rattle.leg_route_laws.proofs.OpenNets.{count_is}
use Rattle.leg_route_laws.proofs.Places.{is_like}
use Rattle.leg_route.specs.Steps.EndSlots.{MeetsPiece, IsFarSlot}
use Rattle.leg_route.specs.Steps.NetEnds.{EndsModel}
use Rattle.leg_route.specs.Steps.NetSlots.{MeetsMarked, IsPartOf}
use Rattle.leg_route.specs.Steps.JoinedPart.{PartModel, MeetsPart, LiesInPiece, IsJoinedPart}
use Rattle.leg_route.proofs.JoinedSlots.{one_as}
use Rattle.leg_route.proofs.FarSlots.{far_grows, node_before}
use Rattle.leg_route.proofs.NetEnds.{net_ends_as}
use Rattle.leg_route.proofs.MoreWires.{count_as, one_piece, step_shape, step_pieces}

-- a piece that is joined has its mark
pub marked_joined : (joined : List Bool) (Is : ℕ → Type 0) (size : ℕ) → AreMarks Is size joined → (k : ℕ) → k < length joined → Is k
    → slice_get joined k ≡ Some true
marked_joined joined Is size marks k low is =
    let read : slice_get joined k ≡ Some (get_or joined k false) = slice_get-get_or joined k false low in
    read ∙ ap Some ((marks.each k (get_or joined k false) read).1 is)

-- of no pieces
pub part_none : (grid : GridModel) (flat : FlatModel) (net : ℕ) (joined : List Bool) (boxes : List SlotBox) (slots : List ℕ) (hulls : List Hull)
    (ends : EndsModel)
    → joined ≡ [] → boxes ≡ [] → slots ≡ [] → hulls ≡ [] → ends ≡ record { near = []; listed = []; far = [] }
    → IsJoinedPart grid flat (record { net = net; joined = joined; boxes = boxes; slots = slots; hulls = hulls; ends = ends })
part_none grid flat net joined boxes slots hulls ends joined_is boxes_is slots_is hulls_is ends_is =
    rw (joined_is, boxes_is, slots_is, hulls_is, ends_is)
    (record {
      few = omega arith;
      still = λ k there. absurd (none-some true there);
      begun = λ some. absurd (omega (arith, some));
      closed = λ a b there. absurd (none-some true there);
      are = λ n. (λ has. absurd (Contains-nil n has), λ one. absurd (none-some true one.holds.marked));
      within = All-nil (λ n. n < slot_total grid);
      boxed = record { corners = All-nil (IsBoxOf grid); inside = All-nil (λ n. bound_at grid [] n ≡ 0); only = λ n within none. absurd (omega (arith, none)) };
      hulled = record { one_each = refl; each = λ k hull there. absurd (none-some hull there) };
      ends_are = record {
        near = λ end has. absurd (Contains-nil end has);
        grouped = λ group has. absurd (Contains-nil group has);
        far = λ group end has is_in. absurd (Contains-nil group has);
        all = λ piece n apart one is_open. absurd (none-some false apart);
      };
    })

-- a net got a wire
module _ (design : DesignModel) (net : ℕ) (wire : records.Wire) (before after : FlatModel) (more : HasOneMoreWire design net wire before after) where
  abbrev pub own : ℕ
  own = length more.terminals + more.wires

  pub own_is : piece_count before net ≡ own
  own_is = count_is before net _ more.there ∙ length_of_pieces more.terminals more.wires

  -- nets have as many pieces at least
  as_many : (n : ℕ) → piece_count before n ≤ piece_count after n
  as_many n = elim (cases_eq n net) [
    | inl same ↦ let one = one_piece design net wire before after more in rw same (omega (arith, one))
    | inr other ↦ let same = count_as before after n (step_pieces design net n other wire before after more) in omega (arith, same)
  ]

  -- a new shape is metal of a piece that the net didn't have
  pub record IsNew (shape : Shape) : Type 0 where
    pub owner : shape.owner ≡ Net net
    pub piece : shape.piece ≡ Some own

  abbrev belongs : Belonging
  belongs = record { owner = Net net; component = None; piece = Some own }

  pub new_shape : (shape : Shape) → Contains more.added shape → IsNew shape
  new_shape shape there =
      let like = is_like IsShapeOf (wire_metal design net own wire) more.added shape more.each there in
      let from = comes_from (λ (m : OnLayer). record { metal = m; belongs = belongs }) (wire_outlines design wire) like.x like.there in
      record {
        owner = like.like.owner ∙ sym (ap (λ (m : Metal). m.belongs.owner) from.2);
        piece = like.like.piece ∙ sym (ap (λ (m : Metal). m.belongs.piece) from.2);
      }

  module _ (n : ℕ) where
    -- what lies in a piece lies in it still
    lies_on : (k layer : ℕ) (p : PointModel) → LiesIn before n k layer p → LiesIn after n k layer p
    lies_on k layer p h =
        let many = as_many n in
        let there = h.of_piece.there in
        record {
          shape = h.shape;
          has = step_shape design net wire before after more h.shape h.has;
          of_piece = record { there = omega (arith, many, there); owner = h.of_piece.owner; piece = h.of_piece.piece };
          on_layer = h.on_layer;
          inside = h.inside;
        }

    not_new : (k : ℕ) (shape : Shape) → k < piece_count before n → shape.owner ≡ Net n → shape.piece ≡ Some k → IsNew shape → ⊥
    not_new k shape low owner piece new =
        let same : n ≡ net = same_net n net (sym owner ∙ new.owner) in
        let last : k ≡ own = same_Some k own (sym piece ∙ new.piece) in
        let count : piece_count before n ≡ own = rw same own_is in
        omega (arith, low, last, count)

    -- and in an old piece no more does
    lies_back : (k layer : ℕ) (p : PointModel) → k < piece_count before n → LiesIn after n k layer p → LiesIn before n k layer p
    lies_back k layer p low h =
        let has = subst (λ (shapes : List Shape). Contains shapes h.shape) more.shapes h.has in
        elim (Contains-append_cases before.shapes more.added h.shape has) [
          | inl old ↦
              record {
                shape = h.shape;
                has = old;
                of_piece = record { there = low; owner = h.of_piece.owner; piece = h.of_piece.piece };
                on_layer = h.on_layer;
                inside = h.inside;
              }
          | inr new ↦ absurd (not_new k h.shape low h.of_piece.owner h.of_piece.piece (new_shape h.shape new))
        ]

    touch_on : (a b : ℕ) → Touch before n a b → Touch after n a b
    touch_on a b h = record {
      layer = h.layer;
      p = h.p;
      q = h.q;
      differ = h.differ;
      p_in_a = lies_on a h.layer h.p h.p_in_a;
      p_in_b = lies_on b h.layer h.p h.p_in_b;
      q_in_a = lies_on a h.layer h.q h.q_in_a;
      q_in_b = lies_on b h.layer h.q h.q_in_b;
    }

    touch_back : (a b : ℕ) → a < piece_count before n → b < piece_count before n → Touch after n a b → Touch before n a b
    touch_back a b a_low b_low h = record {
      layer = h.layer;
      p = h.p;
      q = h.q;
      differ = h.differ;
      p_in_a = lies_back a h.layer h.p a_low h.p_in_a;
      p_in_b = lies_back b h.layer h.p b_low h.p_in_b;
      q_in_a = lies_back a h.layer h.q a_low h.q_in_a;
      q_in_b = lies_back b h.layer h.q b_low h.q_in_b;
    }

    pub joined_on : (a b : ℕ) → AreJoined before n a b → AreJoined after n a b
    joined_on a b itself = itself
    joined_on a b (through {b = c} first meet) = through (joined_on a c first) (touch_on c b meet)

  -- what is kept is right still
  pub part_grows : (grid : GridModel) (part : PartModel) → IsJoinedPart grid before part → IsJoinedPart grid after part
  part_grows grid part had =
      let n = part.net in
      let many = as_many n in
      let few = had.few in
      let on : (node : Node) → MeetsPart before n part.joined node → MeetsPart after n part.joined node =
      λ node meets. record { piece = meets.piece; marked = meets.marked; meets = lies_on n meets.piece node.layer node.at meets.meets } in
      let back : (node : Node) → MeetsPart after n part.joined node → MeetsPart before n part.joined node =
      λ node meets.
      let within = slice_get_within part.joined meets.piece true meets.marked in
      record { piece = meets.piece; marked = meets.marked; meets = lies_back n meets.piece node.layer node.at (omega (arith, within, few)) meets.meets } in
      record {
        few = omega (arith, many, few);
        still = λ k there. joined_on n 0 k (had.still k there);
        begun = had.begun;
        closed = λ a b marked b_low touch.
            let a_low = slice_get_within part.joined a true marked in
            had.closed a b marked b_low (touch_back n a b (omega (arith, a_low, few)) (omega (arith, b_low, few)) touch);
        are = λ m. (
          λ has. one_as grid (MeetsPart before n part.joined) (MeetsPart after n part.joined) on m ((had.are m).0 has),
          λ one. (had.are m).1 (one_as grid (MeetsPart after n part.joined) (MeetsPart before n part.joined) back m one),
        );
        within = had.within;
        boxed = had.boxed;
        hulled = had.hulled;
        ends_are = net_ends_as grid before after n part.joined (LiesInPiece before n) (LiesInPiece after n) (IsFarSlot grid before n part.boxes)
            (IsFarSlot grid after n part.boxes) part.ends
            (λ piece node low. (
              λ lies. lies_on n piece node.layer node.at lies,
              λ lies. lies_back n piece node.layer node.at (omega (arith, low, few)) lies,
            ))
            (far_grows grid n before after (step_shape design net wire before after more) part.boxes)
            (node_before grid n before after (step_shape design net wire before after more)) (joined_on n) had.ends_are;
      }

-- the marked pieces of a net, by the numbers of its shapes
module _ (flat : FlatModel) (net : ℕ) (numbers : List ℕ) (are : AreNumbersOf flat.shapes net numbers) (joined : List Bool)
    (few : length joined ≤ piece_count flat net) where
  meets_part : (node : Node) → MeetsMarked flat.shapes joined true numbers node → MeetsPart flat net joined node
  meets_part node m =
      let of_net = are.each m.number m.listed in
      let same : m.shape ≡ of_net.shape = same_Some m.shape of_net.shape (sym m.there ∙ of_net.at) in
      let within = slice_get_within joined m.marked.number true m.marked.marked in
      record {
        piece = m.marked.number;
        marked = m.marked.marked;
        meets = record {
          shape = m.shape;
          has = (m.number, slice_get_within flat.shapes m.number m.shape m.there, get_or_from_slice_get flat.shapes m.number m.shape m.shape m.there);
          of_piece = record { there = omega (arith, within, few); owner = ap (λ (s : Shape). s.owner) same ∙ of_net.owner; piece = m.marked.is };
          on_layer = sym m.lies.on_layer;
          inside = m.lies.inside;
        };
      }

  meets_numbered : (node : Node) → MeetsPart flat net joined node → MeetsMarked flat.shapes joined true numbers node
  meets_numbered node m =
      let lies = m.meets in
      let k = lies.has.0 in
      let there : slice_get flat.shapes k ≡ Some lies.shape = slice_get_read flat.shapes _ k lies.shape refl lies.has.1 (sym lies.has.2) in
      record {
        number = k;
        listed = are.all k (record { shape = lies.shape; at = there; owner = lies.of_piece.owner });
        shape = lies.shape;
        there = there;
        marked = record { number = m.piece; is = lies.of_piece.piece; marked = m.marked };
        lies = record { on_layer = sym lies.on_layer; inside = lies.inside };
      }

  lies_numbered : (piece : ℕ) (node : Node) → piece < length joined → LiesInPiece flat net piece node → MeetsPiece flat.shapes numbers piece node
  lies_numbered piece node low lies =
      let k = lies.has.0 in
      let there : slice_get flat.shapes k ≡ Some lies.shape = slice_get_read flat.shapes _ k lies.shape refl lies.has.1 (sym lies.has.2) in
      record {
        number = k;
        listed = are.all k (record { shape = lies.shape; at = there; owner = lies.of_piece.owner });
        shape = lies.shape;
        there = there;
        of_piece = lies.of_piece.piece;
        lies = record { on_layer = sym lies.on_layer; inside = lies.inside };
      }

  numbered_lies : (piece : ℕ) (node : Node) → piece < length joined → MeetsPiece flat.shapes numbers piece node → LiesInPiece flat net piece node
  numbered_lies piece node low m =
      let of_net = are.each m.number m.listed in
      let same : m.shape ≡ of_net.shape = same_Some m.shape of_net.shape (sym m.there ∙ of_net.at) in
      record {
        shape = m.shape;
        has = (m.number, slice_get_within flat.shapes m.number m.shape m.there, get_or_from_slice_get flat.shapes m.number m.shape m.shape m.there);
        of_piece = record { there = omega (arith, low, few); owner = ap (λ (s : Shape). s.owner) same ∙ of_net.owner; piece = m.of_piece };
        on_layer = sym m.lies.on_layer;
        inside = m.lies.inside;
      }

  module _ (grid : GridModel) (boxes : List SlotBox) (slots : List ℕ) (hulls : List Hull) (ends : EndsModel) where
    -- what is kept, by these numbers
    pub part_has : IsJoinedPart grid flat (record { net = net; joined = joined; boxes = boxes; slots = slots; hulls = hulls; ends = ends })
        → IsPartOf grid flat net joined numbers boxes slots hulls ends
    part_has part = record {
      starts = record {
        are = λ n. (
          λ has. one_as grid (MeetsPart flat net joined) (MeetsMarked flat.shapes joined true numbers) meets_numbered n ((part.are n).0 has),
          λ one. (part.are n).1 (one_as grid (MeetsMarked flat.shapes joined true numbers) (MeetsPart flat net joined) meets_part n one),
        );
        within = part.within;
        boxed = part.boxed;
      };
      hulled = part.hulled;
      ends_are = net_ends_as grid flat flat net joined (LiesInPiece flat net) (MeetsPiece flat.shapes numbers) (IsFarSlot grid flat net boxes)
          (IsFarSlot grid flat net boxes) ends (λ piece node low. (lies_numbered piece node low, numbered_lies piece node low)) (λ steps n far. far)
          (λ n is_open. is_open) (λ a b joined_are. joined_are) part.ends_are;
    }

    -- and what is to be kept
    pub part_of : AreMarks (AreJoined flat net 0) (piece_count flat net) joined → IsPartOf grid flat net joined numbers boxes slots hulls ends
        → IsJoinedPart grid flat (record { net = net; joined = joined; boxes = boxes; slots = slots; hulls = hulls; ends = ends })
    part_of marks had = record {
      few = few;
      still = λ k there. (marks.each k true there).0 refl;
      begun = λ some. marked_joined joined (AreJoined flat net 0) (piece_count flat net) marks 0 some itself;
      closed = λ a b marked b_low touch. marked_joined joined (AreJoined flat net 0) (piece_count flat net) marks b b_low
          (through ((marks.each a true marked).0 refl) touch);
      are = λ n. (
        λ has. one_as grid (MeetsMarked flat.shapes joined true numbers) (MeetsPart flat net joined) meets_part n ((had.starts.are n).0 has),
        λ one. (had.starts.are n).1 (one_as grid (MeetsPart flat net joined) (MeetsMarked flat.shapes joined true numbers) meets_numbered n one),
      );
      within = had.starts.within;
      boxed = had.starts.boxed;
      hulled = had.hulled;
      ends_are = net_ends_as grid flat flat net joined (MeetsPiece flat.shapes numbers) (LiesInPiece flat net) (IsFarSlot grid flat net boxes)
          (IsFarSlot grid flat net boxes) ends (λ piece node low. (numbered_lies piece node low, lies_numbered piece node low)) (λ steps n far. far)
          (λ n is_open. is_open) (λ a b joined_are. joined_are) had.ends_are;
    }

-- what is kept of this net, by the numbers of its shapes
pub part_had : (grid : GridModel) (flat : FlatModel) (part : PartModel) (net : ℕ) (numbers : List ℕ) → part.net ≡ net → AreNumbersOf flat.shapes net numbers
    → IsJoinedPart grid flat part
    → IsPartOf grid flat net part.joined numbers part.boxes part.slots part.hulls part.ends
part_had grid flat part net numbers same are had =
    subst (λ m. IsPartOf grid flat m part.joined numbers part.boxes part.slots part.hulls part.ends) same
    (part_has flat part.net numbers (rw same are) part.joined had.few grid part.boxes part.slots part.hulls part.ends had)
