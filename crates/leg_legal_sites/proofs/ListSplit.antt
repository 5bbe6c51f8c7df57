-- One element of a list is replaced by two.
use Rattle.std.proofs.Common.{◌≡◌, ℕ, ◌+◌, ◌<◌, List, [], ◌∷◌, ◌++◌, length, get_or, set, take, drop, append_assoc, sym, ap, ◌∙◌, arith}
use Rattle.std.specs.List.{insert}
use Rattle.std.proofs.lemmas.List.{take_more, set_at, length-take-le}

pub split_is : {X : Type 0} (xs : List X) (at : ℕ) (x left right : X) → at < length xs
    → set (insert xs (at + 1) right) at left ≡ take at xs ++ (left ∷ right ∷ []) ++ drop (at + 1) xs
split_is xs at x left right within =
    let front = take_more xs at x within in
    let old : insert xs (at + 1) right ≡ take at xs ++ (get_or xs at x ∷ (right ∷ drop (at + 1) xs)) =
    ap (λ f. f ++ (right ∷ drop (at + 1) xs)) front ∙ append_assoc (take at xs) (get_or xs at x ∷ []) (right ∷ drop (at + 1) xs) in
    ap (λ l. set l at left) old
    ∙ set_at (take at xs) (get_or xs at x) (right ∷ drop (at + 1) xs) left at (length-take-le at xs (omega arith))
    ∙ sym (append_assoc (take at xs) (left ∷ right ∷ []) (drop (at + 1) xs))
