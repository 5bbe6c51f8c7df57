-- Lists that stand one for one.
use Rattle.std.proofs.Common.{◌≡◌, suc, List, [], ◌∷◌, ◌++◌, length, refl, ap}
use Rattle.leg_lib_records.specs.Scale.{OneForOne}

pub same_length : {X Y : Type 0} (R : X → Y → Type 0) (xs : List X) (ys : List Y) → OneForOne R xs ys → length xs ≡ length ys
same_length R [] [] each = refl
same_length R [] (y ∷ ys) each = absurd each
same_length R (x ∷ xs) [] each = absurd each
same_length R (x ∷ xs) (y ∷ ys) each = ap suc (same_length R xs ys each.1)

-- one element more of both
pub push_pair : {X Y : Type 0} (R : X → Y → Type 0) (xs : List X) (ys : List Y) (x : X) (y : Y) → OneForOne R xs ys → R x y
    → OneForOne R (xs ++ x ∷ []) (ys ++ y ∷ [])
push_pair R [] [] x y before same = (same, tt)
push_pair R [] (z ∷ ys) x y before same = absurd before
push_pair R (w ∷ xs) [] x y before same = absurd before
push_pair R (w ∷ xs) (z ∷ ys) x y before same = (before.0, push_pair R xs ys x y before.1 same)
