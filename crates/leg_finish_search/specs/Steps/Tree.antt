-- What is joined of a net on its turn.
use Rattle.std.specs.Prelude.{◌≡◌, ℕ, List}
use Rattle.leg_finish_search.specs.Slots.{AreSlots, AreSlotLists}

-- how many groups the net has, the slots from which walks may begin, and the walks that were laid
pub record TreeModel : Type 0 where
  pub groups : ℕ
  pub sources : List ℕ
  pub walks : List (List ℕ)

-- it is of a net of this many groups, and its slots are those of a grid of this size
pub record IsTreeOf (size groups : ℕ) (tree : TreeModel) : Type 0 where
  pub count : tree.groups ≡ groups
  pub sources : AreSlots size tree.sources
  pub walks : AreSlotLists size tree.walks
