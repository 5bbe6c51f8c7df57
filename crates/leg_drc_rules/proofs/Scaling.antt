-- Rules in database units.
use Rattle.std.proofs.Common.{◌≡◌, ℕ, zero, suc, ◌+◌, ◌<◌, ◌≤◌, List, [], ◌∷◌, ◌++◌, length, get_or, take, Option, None, Some, ℤ, ◌*ℤ◌, pos, refl, sym, ap, ◌∙◌, subst, arith, All}
use Rattle.std.specs.Prelude.{slice_get}
use Rattle.std.proofs.lemmas.List.{take_all, take_more}
use Rattle.std.proofs.lemmas.Int.{ints}
use Rattle.leg_lib_records.specs.declared.records.Layer.{Layer}
use Rattle.leg_lib_records.specs.Scale.{IsLengthAt, OneForOne}
use Rattle.leg_lib_records.proofs.OneEach.{push_pair}
use Rattle.leg_drc_rules.specs.declared.raw.RawLineEnd.{RawLineEnd}
use Rattle.leg_drc_rules.specs.declared.records.LineEnd.{LineEnd}
use Rattle.leg_drc_rules.specs.Records.{RowModel, TableModel, RawLayerRulesModel, RawDeckModel, LayerRulesModel, DeckModel, AreSpacingsWithin, no_rules}
use Rattle.leg_drc_rules.specs.Scale.{flat, IsLengthOr, IsRowAt, IsTableAt, IsAnyTableAt, IsLineEndAt, AreRulesAt, AreAnyRulesAt, AreLayersAt, IsDeckAt, width_of}
use Rattle.std.proofs.lemmas.List.Elements.{All-cons}
use Rattle.leg_lex.specs.Number.{IsNumber}
use Rattle.leg_lib_records.specs.Records.{LibraryModel}
use Rattle.leg_lib_records.specs.Sound.{IsSoundLayer}

module _ {X Y : Type 0} (R : X → Y → Type 0) where
  -- one more element
  pub pair_more : (xs : List X) (ys : List Y) (i : ℕ) (x : X) (y : Y) → i < length xs → x ≡ get_or xs i x → OneForOne R (take i xs) ys → R x y
      → OneForOne R (take (i + 1) xs) (ys ++ y ∷ [])
  pair_more xs ys i x y less is before same =
      let more : take (i + 1) xs ≡ take i xs ++ x ∷ [] = take_more xs i x less ∙ ap (λ z. take i xs ++ z ∷ []) (sym is) in
      rw more (push_pair R (take i xs) ys x y before same)

  -- no element is left
  pub pair_all : (xs : List X) (ys : List Y) (i : ℕ) → length xs ≤ i → OneForOne R (take i xs) ys → OneForOne R xs ys
  pair_all xs ys i past before = subst (λ zs. OneForOne R zs ys) (take_all i xs past) before

  -- an element that nothing stands for
  pub pair_none : (xs : List X) (i : ℕ) (x : X) → i < length xs → x ≡ get_or xs i x → ((y : Y) → ¬ R x y) → (ys : List Y) → ¬ OneForOne R xs ys
  pair_none [] i x less is none ys = absurd (omega arith)
  pair_none (w ∷ xs) i x less is none [] = λ all. all
  pair_none (w ∷ xs) zero x less is none (y ∷ ys) = λ all. none y (rw is all.0)
  pair_none (w ∷ xs) (suc i) x less is none (y ∷ ys) = λ all. pair_none xs i x (omega arith) is none ys all.1

  -- where each element has one that stands for it, a list has one list
  pub pair_one : ((x : X) (y z : Y) → R x y → R x z → y ≡ z) → (xs : List X) (ys zs : List Y) → OneForOne R xs ys → OneForOne R xs zs → ys ≡ zs
  pair_one one [] [] [] all every = refl
  pair_one one [] [] (z ∷ zs) all every = absurd every
  pair_one one [] (y ∷ ys) zs all every = absurd all
  pair_one one (x ∷ xs) [] zs all every = absurd all
  pair_one one (x ∷ xs) (y ∷ ys) [] all every = absurd every
  pair_one one (x ∷ xs) (y ∷ ys) (z ∷ zs) all every =
      ap (λ w. w ∷ ys) (one x y z all.0 every.0) ∙ ap (λ ws. z ∷ ws) (pair_one one xs ys zs all.1 every.1)

pub no_any_table : (n : ℕ) (raw : TableModel) → ((table : TableModel) → ¬ IsTableAt n raw table) → (table : Option TableModel) → ¬ IsAnyTableAt n
    (Some raw) table
no_any_table n raw none None = λ is. is
no_any_table n raw none (Some table) = λ is. none table is

-- one more layer
pub layers_more : (n : ℕ) (layers : List Layer) (raws : List (Option RawLayerRulesModel)) (before : List LayerRulesModel) (i : ℕ) (layer : Layer)
    (rules : LayerRulesModel)
    → i < length layers → layer ≡ get_or layers i layer → AreLayersAt n (take i layers) raws before → AreAnyRulesAt n layer (flat (slice_get raws i)) rules
    → AreLayersAt n (take (suc i) layers) raws (before ++ rules ∷ [])
layers_more n [] raws before i layer rules less is all at = absurd (omega arith)
layers_more n (first ∷ layers) [] [] zero layer rules less is all at = (rw (← is) at, refl)
layers_more n (first ∷ layers) (raw ∷ raws) [] zero layer rules less is all at = (rw (← is) at, refl)
layers_more n (first ∷ layers) raws (r ∷ before) zero layer rules less is all at = absurd (let e : ⊥ = cc in e)
layers_more n (first ∷ layers) raws [] (suc i) layer rules less is all at = absurd all
layers_more n (first ∷ layers) [] (r ∷ before) (suc i) layer rules less is all at =
    (all.0, layers_more n layers [] before i layer rules (omega arith) is all.1 at)
layers_more n (first ∷ layers) (raw ∷ raws) (r ∷ before) (suc i) layer rules less is all at =
    (all.0, layers_more n layers raws before i layer rules (omega arith) is all.1 at)

-- a layer whose rules have no units
pub layers_none : (n : ℕ) (layers : List Layer) (raws : List (Option RawLayerRulesModel)) (i : ℕ) (layer : Layer)
    → i < length layers → layer ≡ get_or layers i layer → ((rules : LayerRulesModel) → ¬ AreAnyRulesAt n layer (flat (slice_get raws i)) rules)
    → (rules : List LayerRulesModel) → ¬ AreLayersAt n layers raws rules
layers_none n [] raws i layer less is none rules = absurd (omega arith)
layers_none n (first ∷ layers) raws i layer less is none [] = λ all. all
layers_none n (first ∷ layers) [] zero layer less is none (r ∷ rules) = λ all. none r (rw is all.0)
layers_none n (first ∷ layers) (raw ∷ raws) zero layer less is none (r ∷ rules) = λ all. none r (rw is all.0)
layers_none n (first ∷ layers) [] (suc i) layer less is none (r ∷ rules) =
    λ all. layers_none n layers [] i layer (omega arith) is none rules all.1
layers_none n (first ∷ layers) (raw ∷ raws) (suc i) layer less is none (r ∷ rules) =
    λ all. layers_none n layers raws i layer (omega arith) is none rules all.1

-- Lengths in database units are within the limit of numbers
none_within : {X : Type 0} (P : X → Type 0) → All P []
none_within P k d less = absurd (omega arith)

first_of_all : {X : Type 0} (P : X → Type 0) (x : X) (xs : List X) → All P (x ∷ xs) → P x
first_of_all P x xs all = all 0 x (omega arith)

rest_of_all : {X : Type 0} (P : X → Type 0) (x : X) (xs : List X) → All P (x ∷ xs) → All P xs
rest_of_all P x xs all k d less = all (suc k) d (omega arith)

numbers_within : (n : ℕ) (raws values : List ℤ) → OneForOne (IsLengthAt n) raws values → All IsNumber values
numbers_within n [] [] each = none_within IsNumber
numbers_within n [] (u ∷ values) each = absurd each
numbers_within n (m ∷ raws) [] each = absurd each
numbers_within n (m ∷ raws) (u ∷ values) each = All-cons IsNumber u values each.0.within (numbers_within n raws values each.1)

abbrev HasNumbers : RowModel → Type 0
HasNumbers row = All IsNumber row.values

rows_within : (n : ℕ) (raws rows : List RowModel) → OneForOne (IsRowAt n) raws rows → All HasNumbers rows
rows_within n [] [] each = none_within HasNumbers
rows_within n [] (row ∷ rows) each = absurd each
rows_within n (raw ∷ raws) [] each = absurd each
rows_within n (raw ∷ raws) (row ∷ rows) each =
    All-cons HasNumbers row rows (numbers_within n raw.values row.values each.0.values) (rows_within n raws rows each.1)

table_within : (n : ℕ) (raw any : Option TableModel) → IsAnyTableAt n raw any → (table : TableModel) → any ≡ Some table → All HasNumbers table.rows
table_within n None None at table is = absurd (let e : ⊥ = cc in e)
table_within n None (Some found) at table is = absurd at
table_within n (Some raw) None at table is = absurd at
table_within n (Some raw) (Some found) at table is =
    let same : found ≡ table = cc in
    rw (← same) (rows_within n raw.rows found.rows at.rows)

length_within : (n : ℕ) (other : ℤ) (raw : Option ℤ) (u : ℤ) → IsNumber other → IsLengthOr n other raw u → IsNumber u
length_within n other None u within at = rw at within
length_within n other (Some m) u within at = at.within

rules_within : (n : ℕ) (layer : Layer) (raw : RawLayerRulesModel) (rules : LayerRulesModel) → IsSoundLayer layer → AreRulesAt n layer raw rules →
    AreSpacingsWithin rules
rules_within n layer raw rules sound at = record {
  net = length_within n layer.spacing raw.net_spacing rules.net_spacing sound.spacing.within at.net_spacing;
  table = table_within n raw.table rules.table at.table;
}

any_rules_within : (n : ℕ) (layer : Layer) (raw : Option RawLayerRulesModel) (rules : LayerRulesModel) → IsSoundLayer layer → AreAnyRulesAt n layer raw rules
    → AreSpacingsWithin rules
any_rules_within n layer None rules sound at = rules_within n layer no_rules rules sound at
any_rules_within n layer (Some raw) rules sound at = rules_within n layer raw rules sound at

pub layers_within : (n : ℕ) (layers : List Layer) (raws : List (Option RawLayerRulesModel)) (rules : List LayerRulesModel) → All IsSoundLayer layers
    → AreLayersAt n layers raws rules → All AreSpacingsWithin rules
layers_within n [] raws rules sound all = rw all (none_within AreSpacingsWithin)
layers_within n (layer ∷ layers) raws [] sound all = absurd all
layers_within n (layer ∷ layers) [] (r ∷ rules) sound all =
    All-cons AreSpacingsWithin r rules (any_rules_within n layer None r (first_of_all IsSoundLayer layer layers sound) all.0)
    (layers_within n layers [] rules (rest_of_all IsSoundLayer layer layers sound) all.1)
layers_within n (layer ∷ layers) (raw ∷ raws) (r ∷ rules) sound all =
    All-cons AreSpacingsWithin r rules (any_rules_within n layer raw r (first_of_all IsSoundLayer layer layers sound) all.0)
    (layers_within n layers raws rules (rest_of_all IsSoundLayer layer layers sound) all.1)

-- What is stated is one thing in database units at most
one_length : (n : ℕ) (m u v : ℤ) → IsLengthAt n m u → IsLengthAt n m v → u ≡ v
one_length n m u v p q =
    let same : u *ℤ pos 1000000 ≡ v *ℤ pos 1000000 = p.exact ∙ sym q.exact in
    omega (arith, ints, same)

one_or : (n : ℕ) (other : ℤ) (raw : Option ℤ) (u v : ℤ) → IsLengthOr n other raw u → IsLengthOr n other raw v → u ≡ v
one_or n other None u v p q = p ∙ sym q
one_or n other (Some m) u v p q = one_length n m u v p q

one_row : (n : ℕ) (raw a b : RowModel) → IsRowAt n raw a → IsRowAt n raw b → a ≡ b
one_row n raw a b p q =
    let at : ℤ → List ℤ → RowModel = λ width values. record { width = width; values = values } in
    ap (λ v. at v a.values) (one_length n raw.width a.width b.width p.width q.width)
    ∙ ap (λ v. at b.width v) (pair_one (IsLengthAt n) (one_length n) raw.values a.values b.values p.values q.values)

one_table : (n : ℕ) (raw a b : TableModel) → IsTableAt n raw a → IsTableAt n raw b → a ≡ b
one_table n raw a b p q =
    let at : List ℤ → List RowModel → TableModel = λ runs rows. record { runs = runs; rows = rows } in
    ap (λ v. at v a.rows) (pair_one (IsLengthAt n) (one_length n) raw.runs a.runs b.runs p.runs q.runs)
    ∙ ap (λ v. at b.runs v) (pair_one (IsRowAt n) (one_row n) raw.rows a.rows b.rows p.rows q.rows)

one_any_table : (n : ℕ) (raw a b : Option TableModel) → IsAnyTableAt n raw a → IsAnyTableAt n raw b → a ≡ b
one_any_table n None None None p q = refl
one_any_table n None None (Some b) p q = absurd q
one_any_table n None (Some a) b p q = absurd p
one_any_table n (Some raw) None b p q = absurd p
one_any_table n (Some raw) (Some a) None p q = absurd q
one_any_table n (Some raw) (Some a) (Some b) p q = ap Some (one_table n raw a b p q)

one_line_end : (n : ℕ) (raw : RawLineEnd) (a b : LineEnd) → IsLineEndAt n raw a → IsLineEndAt n raw b → a ≡ b
one_line_end n raw a b p q =
    let at : ℤ → ℤ → ℤ → LineEnd = λ spacing width within. record { spacing = spacing; width = width; within = within } in
    ap (λ v. at v a.width a.within) (one_length n raw.spacing a.spacing b.spacing p.spacing q.spacing)
    ∙ ap (λ v. at b.spacing v a.within) (one_length n raw.width a.width b.width p.width q.width)
    ∙ ap (λ v. at b.spacing b.width v) (one_length n raw.within a.within b.within p.within q.within)

one_rules : (n : ℕ) (layer : Layer) (raw : RawLayerRulesModel) (a b : LayerRulesModel) → AreRulesAt n layer raw a → AreRulesAt n layer raw b → a ≡ b
one_rules n layer raw a b p q =
    let at : Option ℤ → ℤ → ℤ → Option TableModel → List LineEnd → LayerRulesModel = λ area width net_spacing table line_ends.
    record { area = area; width = width; net_spacing = net_spacing; table = table; line_ends = line_ends } in
    ap (λ v. at v a.width a.net_spacing a.table a.line_ends) (p.area ∙ sym q.area)
    ∙ ap (λ v. at b.area v a.net_spacing a.table a.line_ends) (one_or n (width_of layer.kind) raw.width a.width b.width p.width q.width)
    ∙ ap (λ v. at b.area b.width v a.table a.line_ends) (one_or n layer.spacing raw.net_spacing a.net_spacing b.net_spacing p.net_spacing q.net_spacing)
    ∙ ap (λ v. at b.area b.width b.net_spacing v a.line_ends) (one_any_table n raw.table a.table b.table p.table q.table)
    ∙ ap (λ v. at b.area b.width b.net_spacing b.table v)
    (pair_one (IsLineEndAt n) (one_line_end n) raw.line_ends a.line_ends b.line_ends p.line_ends q.line_ends)

one_any_rules : (n : ℕ) (layer : Layer) (raw : Option RawLayerRulesModel) (a b : LayerRulesModel) → AreAnyRulesAt n layer raw a → AreAnyRulesAt n
    layer raw b → a ≡ b
one_any_rules n layer None a b p q = one_rules n layer no_rules a b p q
one_any_rules n layer (Some raw) a b p q = one_rules n layer raw a b p q

one_layers : (n : ℕ) (layers : List Layer) (raws : List (Option RawLayerRulesModel)) (a b : List LayerRulesModel) → AreLayersAt n layers raws a →
    AreLayersAt n layers raws b
    → a ≡ b
one_layers n [] raws a b p q = p ∙ sym q
one_layers n (layer ∷ layers) raws [] b p q = absurd p
one_layers n (layer ∷ layers) [] (r ∷ a) [] p q = absurd q
one_layers n (layer ∷ layers) (raw ∷ raws) (r ∷ a) [] p q = absurd q
one_layers n (layer ∷ layers) [] (r ∷ a) (s ∷ b) p q =
    ap (λ v. v ∷ a) (one_any_rules n layer None r s p.0 q.0) ∙ ap (λ v. s ∷ v) (one_layers n layers [] a b p.1 q.1)
one_layers n (layer ∷ layers) (raw ∷ raws) (r ∷ a) (s ∷ b) p q =
    ap (λ v. v ∷ a) (one_any_rules n layer raw r s p.0 q.0) ∙ ap (λ v. s ∷ v) (one_layers n layers raws a b p.1 q.1)

pub one_deck : (library : LibraryModel) (raw : RawDeckModel) (a b : DeckModel) → IsDeckAt library raw a → IsDeckAt library raw b → a ≡ b
one_deck library raw a b p q =
    let at : Option ℤ → List LayerRulesModel → DeckModel = λ grid layers. record { grid = grid; layers = layers } in
    ap (λ v. at v a.layers) (p.grid ∙ sym q.grid)
    ∙ ap (λ v. at b.grid v) (one_layers library.units library.layers raw.layers a.layers b.layers p.layers q.layers)

-- where the rules of some layer have no units, those of the library have none
pub no_deck_at : (library : LibraryModel) (raw : RawDeckModel) (n : ℕ) (layers : List Layer) (raws : List (Option RawLayerRulesModel)) → n ≡ library.units
    → layers ≡ library.layers → raws ≡ raw.layers → ((rules : List LayerRulesModel) → ¬ AreLayersAt n layers raws rules) → (deck : DeckModel) → ¬
    IsDeckAt library raw deck
no_deck_at library raw n layers raws units all stated none deck = λ is. none deck.layers (rw (units, all, stated) is.layers)
