-- The marks of a net's joined pieces, where pieces come, and what its part gets by them.
use Rattle.std.proofs.Common.{◌≡◌, ◌⊎◌, ◌-◌, ◌<◌, ◌≤◌, ℕ, Bool, true, false, eqb, List, [], ◌∷◌, ◌++◌, length, get_or, set, take, replicate, All, Contains, Some, slice_get, inl, inr, refl, sym, ap, ◌∙◌, arith}
use Rattle.std.specs.List.{list_any}
use Rattle.std.specs.Cmp.{nat_eq_equiv}
use Rattle.std.proofs.lemmas.Bool.{cases_eq, cases_lt, false≢true, eqb-true}
use Rattle.std.proofs.lemmas.List.{length-append, length-set, length-replicate, get_or_append_left, get_or-append_right, get_or-replicate, get_or-set_same, get_or-set_other, take_all}
use Rattle.std.proofs.lemmas.List.Elements.{Contains-append_left, Contains-append_cases, Contains-push, Contains-push_cases}
use Rattle.std.proofs.lemmas.Map.Views.{Contains-from_any, list_any-from_Contains}
use Rattle.std.proofs.lemmas.Option.{same_Some, slice_get_within, slice_get_read, slice_get-get_or, get_or_from_slice_get}
use Rattle.leg_sweep.proofs.Lists.{All-from_contains, Contains-nil}
use Rattle.leg_rules.specs.declared.node.Node.{Node}
use Rattle.leg_rules.specs.declared.shape.Shape.{Shape}
use Rattle.leg_rules.specs.Metal.Flat.{FlatModel}
use Rattle.leg_rules.specs.Joins.Touch.{piece_count, AreJoined}
use Rattle.leg_wire.specs.declared.piece_shape.PieceShape.{PieceShape}
use Rattle.leg_wire.specs.Joins.{JoinsModel, IsPieceShape, AreJoinsOf, AreNewlyJoined, HasGiven}
use Rattle.leg_wire.specs.NetShapes.{AreNumbersOf}
use Rattle.leg_wire.specs.PieceMarks.{AreMarks}
use Rattle.leg_route_grid.specs.declared.slot_box.SlotBox.{SlotBox}
use Rattle.leg_route_grid.specs.Steps.Grid.{GridModel}
use Rattle.leg_route.specs.Steps.JoinedPart.{PartModel, IsJoinedPart, AreGivenTo, HaveCome, HaveMarked, HaveGotSlots, IsGrowing, MeetsPieces}
use Rattle.leg_route.specs.Steps.NetSlots.{MeetsMarked, AreMarkedSlots}
use Rattle.leg_route.proofs.JoinedParts.{part_had}
use Rattle.leg_route.proofs.JoinedSlots.{one_as}

-- a mark that is set
set_there : (marks : List Bool) (k : ℕ) → slice_get marks k ≡ Some true → (k < length marks) × (get_or marks k false ≡ true)
set_there marks k at = (slice_get_within marks k true at, get_or_from_slice_get marks k true false at)

set_at : (marks : List Bool) (k : ℕ) → k < length marks → get_or marks k false ≡ true → slice_get marks k ≡ Some true
set_at marks k low is = slice_get-get_or marks k false low ∙ ap Some is

-- no piece comes
pub marked_none : (before : List Bool) (count : ℕ) → length before ≤ count
    → HaveMarked before count [] (take count before ++ replicate (count - length before) false)
marked_none before count few =
    let rest = replicate (count - length before) false in
    let many : length rest ≡ count - length before = length-replicate (count - length before) false in
    rw (take_all count before few)
    (record {
      size = (let all = length-append before rest in omega (arith, all, many, few));
      marked = λ k. (
        λ at.
            let there = set_there (before ++ rest) k at in
            elim (cases_lt k (length before)) [
              | inl early ↦ inl (set_at before k early (sym (get_or_append_left before rest false k early) ∙ there.1))
              | inr late ↦
                  let all = length-append before rest in
                  let none : get_or rest (k - length before) false ≡ false =
                  get_or-replicate (count - length before) (k - length before) false false (omega (arith, there.0, all, many, late)) in
                  absurd (false≢true (sym none ∙ sym (get_or-append_right before rest (length before) k false refl late) ∙ there.1))
            ],
        λ is. elim is [
          | inl at ↦
              let there = set_there before k at in
              let all = length-append before rest in
              set_at (before ++ rest) k (omega (arith, there.0, all)) (get_or_append_left before rest false k there.0 ∙ there.1)
          | inr none ↦ absurd (Contains-nil k none)
        ],
      );
    })

-- one more comes
pub marked_more : (before after : List Bool) (count : ℕ) (come : List ℕ) (piece : ℕ) → HaveMarked before count come after → piece < count
    → HaveMarked before count (come ++ piece ∷ []) (set after piece true)
marked_more before after count come piece done low =
    let size : length (set after piece true) ≡ length after = length-set after piece true in
    let within : piece < length after = omega (arith, low, done.size) in
    let here : slice_get (set after piece true) piece ≡ Some true =
    set_at (set after piece true) piece (omega (arith, size, within)) (get_or-set_same after piece true false within) in
    record {
      size = size ∙ done.size;
      marked = λ k. elim (cases_eq k piece) [
        | inl same ↦ rw same (λ at. inr (Contains-push come piece), λ is. here)
        | inr other ↦
            let stays : get_or (set after piece true) k false ≡ get_or after k false = get_or-set_other after piece k true false other in (
              λ at.
                  let there = set_there (set after piece true) k at in
                  elim ((done.marked k).0 (set_at after k (omega (arith, there.0, size)) (sym stays ∙ there.1))) [
                    | inl was ↦ inl was
                    | inr came ↦ inr (Contains-append_left come (piece ∷ []) k came)
                  ],
              λ is.
                  let old : slice_get before k ≡ Some true ⊎ Contains come k = elim is [
                    | inl was ↦ inl was
                    | inr has ↦ elim (Contains-push_cases come piece k has) [ inl came ↦ inr came | inr same ↦ absurd (other (sym same)) ]
                  ] in
                  let there = set_there after k ((done.marked k).1 old) in
                  set_at (set after piece true) k (omega (arith, there.0, size)) (stays ∙ there.1),
            )
      ];
    }

module _ (grid : GridModel) (flat : FlatModel) (net : ℕ) (part : PartModel) (come : List ℕ) (of_net : part.net ≡ net) (had : IsJoinedPart grid flat part)
    (have_come : HaveCome flat net part.joined come) where
  pub come_within : (count : ℕ) → piece_count flat net ≡ count → All (λ piece. piece < count) come
  come_within count counted = All-from_contains (λ piece. piece < count) come (λ piece has. let is = have_come.are piece has in omega (arith, is.0, counted))

  still_joined : (k : ℕ) → slice_get part.joined k ≡ Some true → AreJoined flat net 0 k
  still_joined k at = rw of_net at (had.still k at)

  module _ (count : ℕ) (after : List Bool) (counted : piece_count flat net ≡ count) (have : HaveMarked part.joined count come after) where
    joined_marked : (k : ℕ) → k < piece_count flat net → AreJoined flat net 0 k → slice_get after k ≡ Some true
    joined_marked k low is = (have.marked k).1 (have_come.all k low is)

    -- the marks are those of the joined pieces
    pub marks_are : AreMarks (AreJoined flat net 0) (piece_count flat net) after
    marks_are = record {
      count = have.size ∙ sym counted;
      each = λ k mark at. (
        λ is. elim ((have.marked k).0 (at ∙ ap Some is)) [ inl was ↦ still_joined k was | inr came ↦ (have_come.are k came).1 ],
        λ joined.
            let low = slice_get_within after k mark at in
            same_Some mark true (sym at ∙ joined_marked k (omega (arith, low, have.size, counted)) joined),
      );
    }

    -- what has come to the part with them
    module _ (numbers : List ℕ) (numbers_are : AreNumbersOf flat.shapes net numbers) (joins : JoinsModel) (joins_net : joins.net ≡ net)
        (joins_are : AreJoinsOf flat joins) where
      comes : (node : Node) → MeetsMarked flat.shapes after true numbers node
          → MeetsMarked flat.shapes part.joined true numbers node ⊎ MeetsPieces joins.metal come node
      comes node m = elim ((have.marked m.marked.number).0 m.marked.marked) [
        | inl was ↦
            inl
            (record {
              number = m.number;
              listed = m.listed;
              shape = m.shape;
              there = m.there;
              marked = record { number = m.marked.number; is = m.marked.is; marked = was };
              lies = m.lies;
            })
        | inr came ↦
            let piece : PieceShape = record { piece = m.marked.number; layer = m.shape.layer; rect = m.shape.rect } in
            let own = numbers_are.each m.number m.listed in
            let same : m.shape ≡ own.shape = same_Some m.shape own.shape (sym m.there ∙ own.at) in
            let is : IsPieceShape flat net m.shape piece = record {
              of_piece = record { there = (have_come.are m.marked.number came).0; owner = ap (λ (s : Shape). s.owner) same ∙ own.owner; piece = m.marked.is };
              layer = refl;
              rect = refl;
            } in
            inr
            (record {
              shape = piece;
              has =
                  joins_are.metal.all m.shape piece
                  (m.number, slice_get_within flat.shapes m.number m.shape m.there, get_or_from_slice_get flat.shapes m.number m.shape m.shape m.there)
                  (rw joins_net is);
              of_piece = came;
              lies = m.lies;
            })
      ]

      only : (node : Node) → MeetsPieces joins.metal come node → MeetsMarked flat.shapes after true numbers node
      only node m =
          let from = joins_are.metal.each m.shape m.has in
          let shape = from.0 in
          let at = from.1 in
          let is : IsPieceShape flat net shape m.shape = rw joins_net at from.2 in
          let there : slice_get flat.shapes at.0 ≡ Some shape = slice_get_read flat.shapes _ at.0 shape refl at.1 (sym at.2) in
          record {
            number = at.0;
            listed = numbers_are.all at.0 (record { shape = shape; at = there; owner = is.of_piece.owner });
            shape = shape;
            there = there;
            marked = record { number = m.shape.piece; is = is.of_piece.piece; marked = (have.marked m.shape.piece).1 (inr m.of_piece) };
            lies = rw (← is.layer, ← is.rect) m.lies;
          }

      pub growing : ((k : ℕ) → length part.joined ≤ k → k < length after → get_or after k true ≡ true)
          → IsGrowing grid flat numbers joins.metal come (record part { joined = after })
      growing later = record {
        before = part.joined;
        had = rw of_net (part_had grid flat part net numbers of_net numbers_are had);
        still = λ k at. (have.marked k).1 (inl at);
        marks = rw of_net marks_are;
        long =
            let few : length part.joined ≤ piece_count flat net = rw of_net at had.few in
            let size = have.size in omega (arith, few, size, counted);
        later = later;
        comes = comes;
        only = only;
      }

-- the slots of the part, to which those of the pieces have come
pub starts_grown : (grid : GridModel) (flat : FlatModel) (numbers : List ℕ) (metal : List PieceShape) (come : List ℕ) (part : PartModel)
    → IsGrowing grid flat numbers metal come part
    → (boxes : List SlotBox) (slots : List ℕ) → HaveGotSlots grid (MeetsPieces metal come) part.boxes part.slots boxes slots
    → AreMarkedSlots grid flat.shapes part.joined true numbers boxes slots
starts_grown grid flat numbers metal come part growing boxes slots got = record {
  are = λ n. (
    λ has. elim ((got.are n).0 has) [
      | inl was ↦
          one_as grid (MeetsMarked flat.shapes growing.before true numbers) (MeetsMarked flat.shapes part.joined true numbers) still n
          ((growing.had.starts.are n).0 was)
      | inr one ↦ one_as grid (MeetsPieces metal come) (MeetsMarked flat.shapes part.joined true numbers) growing.only n one
    ],
    λ one. (got.are n).1 (elim (growing.comes one.node one.holds) [
      | inl old ↦ inl ((growing.had.starts.are n).1 (record { node = one.node; is = one.is; holds = old }))
      | inr new ↦ inr (record { node = one.node; is = one.is; holds = new })
    ]),
  );
  within = got.within growing.had.starts.within;
  boxed = got.boxed growing.had.starts.boxed;
}
  where
    still : (node : Node) → MeetsMarked flat.shapes growing.before true numbers node → MeetsMarked flat.shapes part.joined true numbers node
    still node m = record {
      number = m.number;
      listed = m.listed;
      shape = m.shape;
      there = m.there;
      marked = record { number = m.marked.number; is = m.marked.is; marked = growing.still m.marked.number m.marked.marked };
      lies = m.lies;
    }

-- a list has a number or hasn't
has_or_lacks : (xs : List ℕ) (k : ℕ) → Contains xs k ⊎ (Contains xs k → ⊥)
has_or_lacks xs k = by (list_any (eqb k) xs) refl where
  by : (there : Bool) → list_any (eqb k) xs ≡ there → Contains xs k ⊎ (Contains xs k → ⊥)
  by true is = inl (Contains-from_any eqb-true k xs is)
  by false is = inr (λ has. false≢true (sym is ∙ list_any-from_Contains nat_eq_equiv k xs has))

-- the pieces that are taken have come to the part
module _ (grid : GridModel) (flat : FlatModel) (net : ℕ) (part : PartModel) (joins : JoinsModel) (come : List ℕ) (had : IsJoinedPart grid flat part)
    (joins_net : joins.net ≡ net) (given : AreGivenTo part joins) (new : AreNewlyJoined flat joins come) where
  given_marked : (then : List Bool) → (part.net ≡ net → then ≡ part.joined) → (k : ℕ) → Contains joins.given k → slice_get then k ≡ Some true
  given_marked then same k has =
      let is = given k has in
      rw (same (sym is.0 ∙ joins_net)) is.1

  pub have_come : (then : List Bool) → (part.net ≡ net → then ≡ part.joined) → HaveCome flat net then come
  have_come then same = record {
    are = λ k has. let is = (new.are k).0 has in (rw joins_net at is.within, rw joins_net at is.joined);
    all = λ k low joined. elim (has_or_lacks joins.given k) [
      | inl had_it ↦ inl (given_marked then same k had_it)
      | inr lacks ↦ inr ((new.are k).1 (record { within = rw joins_net low; joined = rw joins_net joined; is_new = lacks }))
    ];
  }

  -- and are given to it then
  pub given_then : (marks : List Bool) (after : JoinsModel) (now : PartModel) → AreMarks (AreJoined flat net 0) (piece_count flat net) marks
      → now.net ≡ net → now.joined ≡ marks → HasGiven joins come after → AreGivenTo now after
  given_then marks after now are now_net now_marks has k given_k =
      let of_net : after.net ≡ now.net = has.net ∙ joins_net ∙ sym now_net in
      let is : (k < piece_count flat net) × AreJoined flat net 0 k = elim (Contains-append_cases joins.given come k (rw has.given at given_k)) [
        | inl old ↦
            let was = given k old in
            let same : part.net ≡ net = sym was.0 ∙ joins_net in
            let low = slice_get_within part.joined k true was.1 in
            let within : k < piece_count flat part.net = omega (arith, low, had.few) in
            (rw same at within, rw same at (had.still k was.1))
        | inr came ↦ let now_joined = (new.are k).0 came in (rw joins_net at now_joined.within, rw joins_net at now_joined.joined)
      ] in
      let low : k < length marks = omega (arith, is.0, are.count) in
      let read : slice_get marks k ≡ Some (get_or marks k false) = slice_get-get_or marks k false low in
      (of_net, rw now_marks (read ∙ ap Some ((are.each k (get_or marks k false) read).1 is.1)))

-- what is kept of the net stays right
pub joins_given : (flat : FlatModel) (before after : JoinsModel) (pieces : List ℕ) → AreJoinsOf flat before → HasGiven before pieces after
    → AreJoinsOf flat after
joins_given flat before after pieces are has = record {
  count = rw (has.sets, has.net) are.count;
  metal = rw (has.metal, has.net) are.metal;
  whole = λ told. rw has.net (are.whole (sym has.is_whole ∙ told));
}
