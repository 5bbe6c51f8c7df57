-- The components that have taken their places so far, and the boxes that these leave no room in.
use Rattle.std.specs.Prelude.{◌≡◌, ◌↔◌, ℕ, ◌<◌, ◌++◌, ◌∷◌, [], List, length, take, All, Contains}
use Rattle.leg_geom.specs.Plane.{RectModel}
use Rattle.leg_geom.specs.declared.place.Place.{Place}
use Rattle.leg_design_records.specs.Records.{DesignModel}
use Rattle.leg_rules.specs.Placement.Box.{placed_box, HasBox}
use Rattle.leg_rules.specs.declared.position.Candidate.{Candidate}
use Rattle.leg_legal_sites.specs.Steps.FreeLists.{RowLists, AreFreeLists}
use Rattle.leg_legal.specs.declared.fault.LegalFault.{LegalFault}
use Rattle.leg_legal.specs.declared.fault.LegalFault.TheVariants.{FixedIllegal, NoSite, NoRoom, Memory}
use Rattle.leg_legal.specs.declared.taken.Taken.{Taken}
use Rattle.leg_legal.specs.declared.turns.TurnKey.{TurnKey}
use Rattle.leg_design_records.specs.Movable.{IsMovable}
use Rattle.leg_rules.specs.Legalise.Free.{IsTaken, IsFree}
use Rattle.leg_rules.specs.Legalise.Run.{LegaliseRun}
use Rattle.leg_legal.specs.Steps.AfterPlaces.{CanTake, placed_all}
use Rattle.leg_legal.specs.Steps.Seats.{IsFreeOf, IsBestAmong}
use Rattle.leg_legal.specs.Steps.TurnKeys.{numbers}

-- component d stays, and is in the box
pub record IsStayingIn (design : DesignModel) (d : ℕ) (box : RectModel) : Type 0 where
  pub stays : ¬ IsMovable design d
  pub stands : HasBox design d box

-- a component of a number below end does
pub record IsStayingBelow (design : DesignModel) (end : ℕ) (box : RectModel) : Type 0 where
  pub d : ℕ
  pub below : d < end
  pub staying : IsStayingIn design d box

-- the lists are those that these boxes have left
pub record KnowStaying (design : DesignModel) (end : ℕ) (free : RowLists) : Type 0 where
  pub boxes : List RectModel
  pub known : AreFreeLists design boxes free
  pub staying : (box : RectModel) → Contains boxes box ↔ IsStayingBelow design end box

-- the lists are those that the boxes of all components that stay and these rectangles have left
pub record KnowBlockages (design : DesignModel) (rects : List RectModel) (free : RowLists) : Type 0 where
  pub boxes : List RectModel
  pub known : AreFreeLists design (boxes ++ rects) free
  pub staying : (box : RectModel) → Contains boxes box ↔ IsStayingBelow design (length design.components) box

-- the lists are those that the boxes have left that are taken
pub record KnowTaken (design now : DesignModel) (done : List ℕ) (free : RowLists) : Type 0 where
  pub boxes : List RectModel
  pub known : AreFreeLists design boxes free
  pub taken : (box : RectModel) → Contains boxes box ↔ IsTaken now done box

-- component c has got the best place among the boxes, and its own box is taken as well
pub record IsSeated (design : DesignModel) (boxes : List RectModel) (c : ℕ) (place : Place) (free : RowLists) : Type 0 where
  pub best : IsBestAmong design boxes c place
  pub known : AreFreeLists design (boxes ++ placed_box best.free.stands.master.size place ∷ []) free

-- no position is free for component c among the boxes
abbrev pub HasNoSeat : DesignModel → List RectModel → ℕ → Type 0
HasNoSeat design boxes c = (position : Candidate) (place : Place) → ¬ IsFreeOf design boxes c position place

-- why component c got no place
abbrev pub IsSeatFault : {A : Type 0} → DesignModel → List RectModel → ℕ → LegalFault A → Type 0
IsSeatFault design boxes c (FixedIllegal faults) = ⊥
IsSeatFault design boxes c (NoSite d) = ⊥
IsSeatFault design boxes c (NoRoom d) = (d ≡ c) × HasNoSeat design boxes c
IsSeatFault design boxes c Memory = Unit {0}

-- the components of this many keys have taken their places
pub record IsUnderWay (design : DesignModel) (keys : List TurnKey) (i : ℕ) (taken : List Taken) (free : RowLists) : Type 0 where
  pub can : All (CanTake design) taken
  pub run : LegaliseRun design (take i (numbers keys)) (placed_all design taken)
  pub known : KnowTaken design (placed_all design taken) (take i (numbers keys)) free

-- those of all keys have
pub record AreAllTaken (design : DesignModel) (keys : List TurnKey) (taken : List Taken) : Type 0 where
  pub can : All (CanTake design) taken
  pub run : LegaliseRun design (numbers keys) (placed_all design taken)

-- when the turn of component c came, no position was free for it
pub record IsStuckAt (design : DesignModel) (order : List ℕ) (c : ℕ) : Type 0 where
  pub done : List ℕ
  pub rest : List ℕ
  pub is : order ≡ done ++ c ∷ rest
  pub now : DesignModel
  pub run : LegaliseRun design done now
  pub full : (position : Candidate) (place : Place) → ¬ IsFree now done c position place

-- why not all have
abbrev pub IsTakingFault : {A : Type 0} → DesignModel → List ℕ → LegalFault A → Type 0
IsTakingFault design order (FixedIllegal faults) = ⊥
IsTakingFault design order (NoSite c) = ⊥
IsTakingFault design order (NoRoom c) = IsStuckAt design order c
IsTakingFault design order Memory = Unit {0}
