-- What is kept of a net that was laid.
use Rattle.std.specs.Prelude.{ℕ, List}
use Rattle.leg_finish_search.specs.Slots.{AreSlots, AreSlotLists}

-- its walks, and the slots whose node, or step up, its metal is in conflict with
pub record LaidModel : Type 0 where
  pub walks : List (List ℕ)
  pub nodes : List ℕ
  pub vias : List ℕ

-- all of them are of a grid of this size
pub record IsLaidIn (size : ℕ) (laid : LaidModel) : Type 0 where
  pub walks : AreSlotLists size laid.walks
  pub nodes : AreSlots size laid.nodes
  pub vias : AreSlots size laid.vias
