-- Open nets by their places in a list of them.
use Rattle.std.specs.Prelude.{◌≡◌, ◌≢◌, ◌<◌, ℕ, List, [], All, AllPairs, Some, slice_get}
use Rattle.leg_finish.specs.declared.groups.OpenNet.{OpenNet}

-- places in a list of so many, in increasing order, and there are some
pub record ArePlacesIn (count : ℕ) (places : List ℕ) : Type 0 where
  pub some : places ≢ []
  pub increasing : AllPairs (λ a b. a < b) places
  pub within : All (λ place. place < count) places

-- the net of this number stands at this place
pub record IsNetAt {A : Type 0} (open_nets : List (OpenNet A)) (place net : ℕ) : Type 0 where
  pub one : OpenNet A
  pub there : slice_get open_nets place ≡ Some one
  pub is : one.net ≡ net
