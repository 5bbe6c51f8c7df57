-- A walk to the nearest of the near ends, where all others are farther, and what is kept of the joined part meanwhile.
use Rattle.std.proofs.Common.{◌≡◌, ◌≤◌, ◌++◌, ℕ, Bool, List, [], length, map, take, drop, All, Contains, Option, None, Some, inl, inr, subst, ◌∙◌, arith}
use Rattle.std.proofs.lemmas.List.Elements.{All-contains}
use Rattle.leg_sweep.proofs.Lists.{Contains-nil, Contains-map}
use Rattle.leg_wire.specs.NetShapes.{AreNumbersOf}
use Rattle.leg_wire.specs.PieceMarks.{AreMarks}
use Rattle.leg_rules.specs.Metal.Flat.{FlatModel}
use Rattle.leg_rules.specs.Joins.Touch.{piece_count, AreJoined}
use Rattle.leg_rules.specs.Route.Meets.{MeetsJoined, MeetsRest}
use Rattle.leg_rules.specs.Route.OpenMetal.{IsOpenNode, IsOpenStep}
use Rattle.leg_rules.specs.Route.Walk.{IsShortest, NoWalk}
use Rattle.leg_route_search.specs.Steps.Dive.{IsOrigin}
use Rattle.leg_route_search.proofs.LastSteps.{end_open}
use Rattle.leg_route_grid.specs.declared.slot_box.SlotBox.{SlotBox}
use Rattle.leg_route_access.specs.declared.slot_access.SlotAccess.{SlotAccess}
use Rattle.leg_route_grid.specs.declared.hulls.Hull.{Hull}
use Rattle.leg_route_access.specs.Steps.AccessTable.{IsAccessTable}
use Rattle.leg_route_grid.specs.Steps.WalkBounds.{bound_at}
use Rattle.leg_route_grid.specs.Steps.Grid.{GridModel, IsDesignGrid, IsNumberOf, slot_total}
use Rattle.leg_route_grid.specs.Steps.NodeNumbers.{IsOneOf, IsStepOf, IsNextWalkAt, HasNoWalkAt}
use Rattle.leg_lemmas.proofs.Places.{comes_from}
use Rattle.leg_route.specs.declared.end_slots.EndSlot.{EndSlot}
use Rattle.leg_route.specs.declared.net_ends.EndGroup.{EndGroup}
use Rattle.leg_route.specs.Steps.EndSlots.{MeetsPiece, IsFarSlot, AreSameEnds}
use Rattle.leg_route.specs.Steps.NetEnds.{EndsModel, HasEnd, HaveGrownNear}
use Rattle.leg_route.specs.Steps.NetSlots.{IsPartOf, IsSearchFrom, IsNearestAt, IsNearAnswerAt}
use Rattle.leg_route.proofs.NetSlots.{starts_are}
use Rattle.leg_route.proofs.EndSlots.{all_new, end_rest, rest_piece}
use Rattle.leg_route.proofs.NetEnds.{near_again, ends_near}
use Rattle.leg_route.proofs.NextWalk.{origins_are}

module _ (flat : FlatModel) (net : ℕ) (numbers : List ℕ) (are : AreNumbersOf flat.shapes net numbers) (joined : List Bool)
    (marks : AreMarks (AreJoined flat net 0) (piece_count flat net) joined) (grid : GridModel) (boxes : List SlotBox) (starts : List ℕ) (hulls : List Hull)
    (ends : EndsModel) (part : IsPartOf grid flat net joined numbers boxes starts hulls ends) where
  abbrev Open : ℕ → Type 0
  Open n = IsOneOf (IsNumberOf grid) (IsOpenNode grid.design flat net) n

  abbrev Step : ℕ → ℕ → Type 0
  Step m n = IsStepOf (IsNumberOf grid) (IsOpenStep grid.design flat net) m n

  abbrev slots : List ℕ
  slots = map (λ (end : EndSlot). end.slot) ends.near

  -- what a search is given by the part
  pub search_from : (table : List SlotAccess) → IsAccessTable grid flat table → IsSearchFrom grid flat table net starts boxes hulls
  search_from table told = record {
    told = told;
    are = starts_are flat net numbers are joined marks grid boxes starts part.starts;
    within = part.starts.within;
    boxed = part.starts.boxed;
    hulled = part.hulled;
  }

  origin : (n : ℕ) → IsOneOf (IsNumberOf grid) (MeetsJoined flat net) n → IsOrigin (slot_total grid) (λ n. bound_at grid boxes n) n
  origin n start =
      (origins_are grid boxes starts part.starts.within part.starts.boxed n).0
      ((starts_are flat net numbers are joined marks grid boxes starts part.starts n).1 start)

  near_rest : (n : ℕ) → Contains slots n → IsOneOf (IsNumberOf grid) (MeetsRest flat net) n
  near_rest n has =
      let from = comes_from (λ (end : EndSlot). end.slot) ends.near n has in
      subst (λ k. IsOneOf (IsNumberOf grid) (MeetsRest flat net) k) from.2
      (end_rest flat net numbers are joined marks grid (IsFarSlot grid flat net boxes) from.0 (part.ends_are.near from.0 from.1))

  near_slot : (end : EndSlot) (n : ℕ) → Contains ends.near end → end.slot ≡ n → Contains slots n
  near_slot end n has of_slot = subst (λ k. Contains slots k) of_slot (Contains-map (λ (end : EndSlot). end.slot) ends.near end has)

  end_of : (n : ℕ) → IsOneOf (IsNumberOf grid) (MeetsRest flat net) n → Open n → (piece : ℕ) × HasEnd flat net ends piece n
  end_of n rest is_open =
      let one = rest_piece flat net numbers are joined marks grid n rest in
      (one.piece, part.ends_are.all one.piece n one.apart one.meets is_open)

  pub near_is_next : (walk : List ℕ) → IsShortest Open Step (IsOneOf (IsNumberOf grid) (MeetsJoined flat net)) (Contains slots) walk
      → ((group : EndGroup) → Contains ends.far group → length walk ≤ group.least) → IsNextWalkAt grid flat net walk
  near_is_next walk is beyond = record {
    from = is.from;
    to = is.to;
    start = is.start;
    is_end = near_rest is.to is.is_end;
    walk = is.walk;
    least = λ a b others start rest other.
        let one = (end_of b rest (end_open other)).1 in
        elim one.is [
          | inl has ↦ is.least a b others start (near_slot one.end b has one.of_slot) other
          | inr far ↦
              let more = beyond far.group far.has in
              let long = (part.ends_are.far far.group one.end far.has far.is_in).far a others (origin a start) (rw one.of_slot other) in
              omega (arith, more, long)
        ];
  }

  pub near_is_none : NoWalk Open Step (IsOneOf (IsNumberOf grid) (MeetsJoined flat net)) (Contains slots) → ends.far ≡ [] → HasNoWalkAt grid flat net
  near_is_none none no_far a b nodes start rest walk =
      let one = (end_of b rest (end_open walk)).1 in
      elim one.is [
        | inl has ↦ none a b nodes start (near_slot one.end b has one.of_slot) walk
        | inr far ↦ Contains-nil far.group (subst (λ (far_all : List EndGroup). Contains far_all far.group) no_far far.has)
      ]

  -- so where no end is far
  pub near_answers : (left_out : Bool) (answer : Option (List ℕ)) → IsNearestAt grid flat net slots left_out answer → ends.far ≡ []
      → IsNearAnswerAt grid flat net left_out answer
  near_answers left_out None is no_far = λ closed. near_is_none (is closed) no_far
  near_answers left_out (Some walk) is no_far =
      near_is_next walk is (λ group has. absurd (Contains-nil group (subst (λ (far_all : List EndGroup). Contains far_all group) no_far has)))

-- the part, when groups have come near, and when more is known of the near ends
module _ (grid : GridModel) (flat : FlatModel) (net : ℕ) (joined : List Bool) (numbers : List ℕ) (boxes : List SlotBox) (starts : List ℕ)
    (hulls : List Hull) where
  pub part_near : (reach : ℕ) (before after : EndsModel) → IsDesignGrid grid → AreMarks (AreJoined flat net 0) (piece_count flat net) joined
      → HaveGrownNear grid joined boxes reach before after
      → IsPartOf grid flat net joined numbers boxes starts hulls before → IsPartOf grid flat net joined numbers boxes starts hulls after
  part_near reach before after is_grid marks grown part = record {
    starts = part.starts;
    hulled = part.hulled;
    ends_are = ends_near grid flat net is_grid joined marks (MeetsPiece flat.shapes numbers) boxes reach before after grown part.ends_are;
  }

  pub part_again : (near after listed : List EndSlot) (far : List EndGroup) (len : ℕ) → length near ≡ len → AreSameEnds near after
      → All (λ (end : EndSlot). IsFarSlot grid flat net boxes end.least end.slot) after
      → IsPartOf grid flat net joined numbers boxes starts hulls (record { near = near; listed = listed; far = far })
      → IsPartOf grid flat net joined numbers boxes starts hulls
      (record { near = take len (after ++ drop (length after) near); listed = listed; far = far })
  part_again near after listed far len long same known part =
      rw (all_new after near len (same.one_each ∙ long))
      (record {
        starts = part.starts;
        hulled = part.hulled;
        ends_are = near_again near after same grid flat net joined (MeetsPiece flat.shapes numbers) (IsFarSlot grid flat net boxes) listed far
            (λ end has. All-contains (λ (end : EndSlot). IsFarSlot grid flat net boxes end.least end.slot) after end known has) part.ends_are;
      })
