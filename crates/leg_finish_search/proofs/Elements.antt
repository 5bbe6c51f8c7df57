-- Elements of lists.
use Rattle.std.proofs.Common.{◌≡◌, ◌<◌, ℕ, List, [], ◌∷◌, All, length, map, ◌++◌, take, drop, subst, sym, ◌∙◌, arith}
use Rattle.std.proofs.lemmas.List.{take_all, take-append-le}
use Rattle.std.proofs.lemmas.List.Elements.{All-nil, All-cons, All-head, All-tail}
use Rattle.leg_finish_search.specs.Slots.{AreSlots}
use Rattle.leg_finish_search.specs.Steps.NetWalks.{LaidModel, IsLaidIn}

-- a net without walks is laid in any grid
pub none : (size : ℕ) (laid : LaidModel) → laid ≡ record { walks = []; nodes = []; vias = [] } → IsLaidIn size laid
none size laid is = subst (IsLaidIn size) (sym is) (record { walks = All-nil (AreSlots size); nodes = All-nil (λ n. n < size); vias = All-nil (λ n. n < size) })

-- what holds of the elements of a list that was mapped holds of the images of those of the list
pub all_before : {X Y : Type 0} (P : Y → Type 0) (f : X → Y) (xs : List X) → All P (map f xs) → All (λ x. P (f x)) xs
all_before P f [] all = All-nil (λ x. P (f x))
all_before P f (x ∷ xs) all =
    All-cons (λ x. P (f x)) x xs (All-head P (f x) (map f xs) all) (all_before P f xs (All-tail P (f x) (map f xs) all))

-- a list of which all elements were written, as a slice of them all is written back
pub written : {X : Type 0} (n : ℕ) (new items : List X) → n ≡ length items → length new ≡ length items → take n (new ++ drop (length new) items) ≡ new
written n new items whole len =
    take-append-le n new (drop (length new) items) (omega (arith, len, whole)) ∙ take_all n new (omega (arith, len, whole))
