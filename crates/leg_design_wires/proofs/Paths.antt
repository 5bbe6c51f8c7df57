-- The items of a path, one after the other.
use Rattle.std.proofs.Common.{◌≡◌, ℕ, ℤ, ◌+◌, ◌<◌, ◌≤◌, true, false, List, length, get_or, drop, Option, refl}
use Rattle.std.proofs.lemmas.List.{drop_all}
use Rattle.leg_lex.proofs.EachElement.{at_front}
use Rattle.leg_geom.specs.Plane.{PointModel, RectModel}
use Rattle.leg_grammar.specs.declared.path_item.Item.{Item}
use Rattle.leg_grammar.specs.declared.path_item.Item.TheVariants.{ToPoint, ToVirtual, AtVia, AtArray, AtRect}
use Rattle.leg_grammar.specs.declared.via_array.ViaArray.{ViaArray}
use Rattle.leg_grammar.specs.Def.Path.{next_spot, is_same_spot, last_given, extension_at}

-- no item is left
pub extension_ends : (at : PointModel) (given : Option ℤ) (items : List Item) (i : ℕ) → length items ≤ i → extension_at at given (drop i items) ≡ given
unfolding extension_at
extension_ends at given items i past = rw (drop_all i items past) refl

-- the path leaves the point
pub extension_leaves : (at : PointModel) (given : Option ℤ) (items : List Item) (i : ℕ) (item : Item) (x y extension : Option ℤ) → i < length items
    → item ≡ get_or items i item → item ≡ ToPoint x y extension → is_same_spot at (next_spot at x y) ≡ false → extension_at at given (drop i items) ≡ given
unfolding extension_at
extension_leaves at given items i item x y extension less is point leaves = rw (at_front items i item less is, point, leaves) refl

-- the path stays at the point
pub extension_stays : (at : PointModel) (given : Option ℤ) (items : List Item) (i : ℕ) (item : Item) (x y extension : Option ℤ) → i < length items
    → item ≡ get_or items i item → item ≡ ToPoint x y extension → is_same_spot at (next_spot at x y) ≡ true
    → extension_at at given (drop i items) ≡ extension_at at (last_given given extension) (drop (i + 1) items)
unfolding extension_at
extension_stays at given items i item x y extension less is point stays = rw (at_front items i item less is, point, stays) refl

-- the path leaves the point for a virtual one
pub extension_at_virtual : (at : PointModel) (given : Option ℤ) (items : List Item) (i : ℕ) (item : Item) (x y : Option ℤ) → i < length items
    → item ≡ get_or items i item → item ≡ ToVirtual x y → extension_at at given (drop i items) ≡ given
unfolding extension_at
extension_at_virtual at given items i item x y less is leaves = rw (at_front items i item less is, leaves) refl

-- a via, an array of one or a rectangle says no extension
pub extension_at_via : (at : PointModel) (given : Option ℤ) (items : List Item) (i : ℕ) (item : Item) (via : ℕ) → i < length items → item ≡ get_or items i item
    → item ≡ AtVia via → extension_at at given (drop i items) ≡ extension_at at given (drop (i + 1) items)
unfolding extension_at
extension_at_via at given items i item via less is named = rw (at_front items i item less is, named) refl

pub extension_at_array : (at : PointModel) (given : Option ℤ) (items : List Item) (i : ℕ) (item : Item) (via : ℕ) (array : ViaArray) → i < length items
    → item ≡ get_or items i item → item ≡ AtArray via array → extension_at at given (drop i items) ≡ extension_at at given (drop (i + 1) items)
unfolding extension_at
extension_at_array at given items i item via array less is named = rw (at_front items i item less is, named) refl

pub extension_at_rect : (at : PointModel) (given : Option ℤ) (items : List Item) (i : ℕ) (item : Item) (rect : RectModel) → i < length items
    → item ≡ get_or items i item → item ≡ AtRect rect → extension_at at given (drop i items) ≡ extension_at at given (drop (i + 1) items)
unfolding extension_at
extension_at_rect at given items i item rect less is drawn = rw (at_front items i item less is, drawn) refl
