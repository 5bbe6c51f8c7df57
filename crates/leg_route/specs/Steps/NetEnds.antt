-- What is kept of the slots at which walks of a net end: near ones, and groups of far ones.
use Rattle.std.specs.Prelude.{◌≡◌, ◌↔◌, ◌⊎◌, ◌+◌, ◌<◌, ◌≤◌, ℕ, Bool, List, length, get_or, Contains, Some, slice_get}
use Rattle.leg_rules.specs.Metal.Flat.{FlatModel}
use Rattle.leg_rules.specs.Joins.Touch.{AreJoined}
use Rattle.leg_rules.specs.declared.node.Node.{Node}
use Rattle.leg_route_grid.specs.declared.slot.Slot.{Slot}
use Rattle.leg_route_grid.specs.declared.slot_box.SlotBox.{SlotBox}
use Rattle.leg_route_grid.specs.Steps.WalkBounds.{nearest, slot_of, IsInBox}
use Rattle.leg_route_grid.specs.Steps.Grid.{GridModel, IsNumberOf, slot_total}
use Rattle.leg_route_grid.specs.Steps.NodeNumbers.{IsOneOf}
use Rattle.leg_route.specs.declared.end_slots.EndSlot.{EndSlot}
use Rattle.leg_route.specs.declared.net_ends.EndGroup.{EndGroup}
use Rattle.leg_route.specs.declared.net_ends.NetEnds.{NetEnds}
use Rattle.leg_route.specs.Steps.EndSlots.{IsApart, IsOpenSlot, IsEndSlot, end_at}

-- near ends, and a list of which groups are far ones
pub record EndsModel : Type 0 where
  pub near : List EndSlot
  pub listed : List EndSlot
  pub far : List EndGroup

-- what the code keeps
abbrev pub ends_in : {A : Type 0} → NetEnds A → EndsModel
ends_in ends = record { near = ends.near.items; listed = ends.listed.items; far = ends.far.items }

-- the end stands in the list from the first of these places to before the last
pub record IsBetween (listed : List EndSlot) (first last : ℕ) (end : EndSlot) : Type 0 where
  pub k : ℕ
  pub from : first ≤ k
  pub below : k < last
  pub there : slice_get listed k ≡ Some end

-- the end is one of the group
abbrev pub IsInGroup : List EndSlot → EndGroup → EndSlot → Type 0
IsInGroup listed group end = IsBetween listed group.first (group.first + group.count) end

-- the slot is one of the grid, and lies in the box
pub record IsSlotWithin (grid : GridModel) (ends : SlotBox) (n : ℕ) : Type 0 where
  pub within : n < slot_total grid
  pub inside : IsInBox ends (slot_of grid n)

-- the ends of the group stand in the list, and their slots lie in its box
pub record IsGroupOf (grid : GridModel) (listed : List EndSlot) (group : EndGroup) : Type 0 where
  pub room : group.first + group.count ≤ length listed
  pub each : (end : EndSlot) → IsInGroup listed group end → IsSlotWithin grid group.within end.slot

-- to none of its ends fewer steps are left than to the group, as they are noted in the list
abbrev pub HasLeast : List EndSlot → EndGroup → Type 0
HasLeast listed group = (end : EndSlot) → IsInGroup listed group end → group.least ≤ end.least

-- each of them is one such
abbrev pub AreGroups : GridModel → List EndSlot → List EndGroup → Type 0
AreGroups grid listed far = (group : EndGroup) → Contains far group → IsGroupOf grid listed group

-- the end is one of these groups
pub record IsFarIn (listed : List EndSlot) (far : List EndGroup) (end : EndSlot) : Type 0 where
  pub group : EndGroup
  pub has : Contains far group
  pub is_in : IsInGroup listed group end

-- an end at this slot, in a piece of the net that is joined to this one, is near or far
pub record HasEnd (flat : FlatModel) (net : ℕ) (ends : EndsModel) (piece n : ℕ) : Type 0 where
  pub end : EndSlot
  pub is : Contains ends.near end ⊎ IsFarIn ends.listed ends.far end
  pub joined : AreJoined flat net end.piece piece
  pub of_slot : end.slot ≡ n

-- the slot is that of a node that meets the piece, which is one of those that have marks, and is so many steps away
pub record IsFarEnd (grid : GridModel) (joined : List Bool) (Meets : ℕ → Node → Type 0) (Far : ℕ → ℕ → Type 0) (steps : ℕ) (end : EndSlot) : Type 0 where
  pub marked : end.piece < length joined
  pub meets : IsOneOf (IsNumberOf grid) (Meets end.piece) end.slot
  pub far : Far steps end.slot

-- The near ends are in pieces that are not joined, and those of groups are or were. At each open slot in such a piece there is one, in that piece
-- or in one that is joined to it.
pub record AreNetEnds (grid : GridModel) (flat : FlatModel) (net : ℕ) (joined : List Bool) (Meets : ℕ → Node → Type 0) (Far : ℕ → ℕ → Type 0)
    (ends : EndsModel) : Type 0 where
  pub near : (end : EndSlot) → Contains ends.near end → IsEndSlot grid (IsApart joined) Meets Far end
  pub grouped : AreGroups grid ends.listed ends.far
  pub far : (group : EndGroup) (end : EndSlot) → Contains ends.far group → IsInGroup ends.listed group end → IsFarEnd grid joined Meets Far group.least end
  pub all : (piece n : ℕ) → IsApart joined piece → IsOneOf (IsNumberOf grid) (Meets piece) n → IsOpenSlot grid flat net n → HasEnd flat net ends piece n

-- all ends of a list are kept: near, or in groups, to each of whose ends no fewer steps are left than to the group
pub record AreKept (grid : GridModel) (ends : List EndSlot) (kept : EndsModel) : Type 0 where
  pub near : (end : EndSlot) → Contains kept.near end → Contains ends end
  pub listed : (end : EndSlot) → Contains kept.listed end → Contains ends end
  pub grouped : AreGroups grid kept.listed kept.far
  pub least : (group : EndGroup) → Contains kept.far group → HasLeast kept.listed group
  pub all : (end : EndSlot) → Contains ends end → Contains kept.near end ⊎ IsFarIn kept.listed kept.far end

-- the groups of the first ends of a list
pub record AreGroupsTo (grid : GridModel) (listed : List EndSlot) (last : ℕ) (far : List EndGroup) : Type 0 where
  pub grouped : AreGroups grid listed far
  pub least : (group : EndGroup) → Contains far group → HasLeast listed group
  pub all : (end : EndSlot) → IsBetween listed 0 last end → IsFarIn listed far end

-- the same group, which is no farther than before, nor than from the boxes
pub record IsGroupFrom (boxes : List SlotBox) (before after : EndGroup) : Type 0 where
  pub first : after.first ≡ before.first
  pub count : after.count ≡ before.count
  pub within : after.within ≡ before.within
  pub least : after.least ≤ before.least
  pub near : (s : Slot) → IsInBox before.within s → after.least ≤ nearest boxes s

-- so of each of the groups
pub record AreGroupsFrom (boxes : List SlotBox) (before after : List EndGroup) : Type 0 where
  pub one_each : length after ≡ length before
  pub each : (k : ℕ) (d : EndGroup) → k < length before → IsGroupFrom boxes (get_or before k d) (get_or after k d)

-- the end is one of these, whose piece is not joined, with how many steps are left to it from the boxes
pub record IsEndFrom (grid : GridModel) (joined : List Bool) (boxes : List SlotBox) (From : EndSlot → Type 0) (end : EndSlot) : Type 0 where
  pub old : EndSlot
  pub from : From old
  pub apart : IsApart joined old.piece
  pub is : end ≡ end_at grid boxes old.piece old.slot

-- those whose pieces are not joined have come to the near ends
pub record HaveComeNear (grid : GridModel) (joined : List Bool) (boxes : List SlotBox) (From : EndSlot → Type 0) (before after : List EndSlot) : Type 0 where
  pub each : (end : EndSlot) → Contains after end → Contains before end ⊎ IsEndFrom grid joined boxes From end
  pub still : (end : EndSlot) → Contains before end → Contains after end
  pub all : (end : EndSlot) → From end → IsApart joined end.piece → Contains after (end_at grid boxes end.piece end.slot)

-- the end is one of a group to which no more than this many steps are left
pub record IsWithin (listed : List EndSlot) (far : List EndGroup) (reach : ℕ) (end : EndSlot) : Type 0 where
  pub group : EndGroup
  pub has : Contains far group
  pub low : group.least ≤ reach
  pub is_in : IsInGroup listed group end

-- exactly the groups to which more steps are left
abbrev pub AreBeyond : ℕ → List EndGroup → List EndGroup → Type 0
AreBeyond reach far left = (group : EndGroup) → Contains left group ↔ (Contains far group × (reach < group.least))

-- the ends of the groups within reach are near now
pub record HaveGrownNear (grid : GridModel) (joined : List Bool) (boxes : List SlotBox) (reach : ℕ) (before after : EndsModel) : Type 0 where
  pub listed : after.listed ≡ before.listed
  pub near : HaveComeNear grid joined boxes (IsWithin before.listed before.far reach) before.near after.near
  pub far : AreBeyond reach before.far after.far
