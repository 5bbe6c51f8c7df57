-- Places of numbers in an order.
use Rattle.std.proofs.Common.{◌≡◌, ℕ, ◌<◌, ◌≤◌, List, length, get_or, take, Contains, IsPermutation, sym, ◌∙◌, arith}
use Rattle.std.specs.List.{range_with_len}
use Rattle.std.proofs.lemmas.List.{get_or-take, get_or_default, length-take-le}
use Rattle.std.proofs.lemmas.List.FromFn.{length-range_with_len, get_or-range_with_len}
use Rattle.std.proofs.lemmas.List.Sorted.{Contains-permutation}

-- what stands in the front of a list has a place there
pub place_in_front : (xs : List ℕ) (i x : ℕ) → i ≤ length xs → Contains (take i xs) x → (a : ℕ) × (a < i) × (get_or xs a 0 ≡ x)
place_in_front xs i x within (k, below, is) =
    let short : k < i = omega (arith, length-take-le i xs within, below) in
    (k, short, get_or_default xs k 0 x (omega arith) ∙ sym (get_or-take i xs k x short) ∙ is)

-- a number of the order has a place in it
pub place_of : (order : List ℕ) (x : ℕ) → Contains order x → (a : ℕ) × (a < length order) × (get_or order a 0 ≡ x)
place_of order x (k, within, is) = (k, within, get_or_default order k 0 x within ∙ is)

-- all numbers in another order contain each of them
pub numbers_contain : (order : List ℕ) (n x : ℕ) → IsPermutation (range_with_len 0 n) order → x < n → Contains order x
numbers_contain order n x moved below =
    let c : Contains (range_with_len 0 n) x = (x, omega (arith, length-range_with_len 0 n), get_or-range_with_len 0 n x x below ∙ omega arith) in
    Contains-permutation (range_with_len 0 n) order x moved c
