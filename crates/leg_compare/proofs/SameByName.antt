-- Designs between which there is no difference.
use Rattle.std.proofs.Common.{◌≡◌, ◌≢◌, ℕ, ◌<◌, List, [], length, get_or, map, Option, None, Some, refl, sym, ap, ◌∙◌, subst, arith}
use Rattle.std.specs.List.{All}
use Rattle.std.proofs.lemmas.List.{length-map, get_or-map}
use Rattle.std.proofs.lemmas.List.Elements.{Contains-get_or}
use Rattle.std.proofs.lemmas.Option.{slice_get-get_or}
use Rattle.leg_lex.specs.NameLookup.{place_of, AreApart}
use Rattle.leg_lex.proofs.NameLookup.{place_stands}
use Rattle.leg_lib_records.specs.Records.{LibraryModel, ViaModel}
use Rattle.leg_geom.specs.declared.place.Place.{Place}
use Rattle.leg_design_records.specs.declared.records.Status.{Status}
use Rattle.leg_design_records.specs.declared.records.Status.TheVariants as status
use Rattle.leg_design_records.specs.declared.records.Component.{Component}
use Rattle.leg_design_records.specs.Movable.{MayMove}
use Rattle.leg_design_records.specs.Records.{DesignModel, PinModel, NetModel}
use Rattle.leg_design_records.specs.WellFormed.{IsWellFormed}
use Rattle.leg_design_records.specs.WellFormedParts.{IsPlaced, IsComponent}
use Rattle.leg_rules.specs.declared.difference.Part.TheVariants.{Name, Divider, BusBits, Die, Rows, Tracks, Blockages}
use Rattle.leg_rules.specs.declared.difference.Section.{Section}
use Rattle.leg_rules.specs.declared.difference.Section.TheVariants.{Vias, Components, Pins, SpecialNets, Nets}
use Rattle.leg_rules.specs.declared.difference.Change.{Change}
use Rattle.leg_rules.specs.declared.difference.Change.TheVariants.{Shapes, Macro, Place as OtherPlace, Status as OtherStatus, NetName, Direction, Usage, Ports, Terminals, LostWires, MoreWires}
use Rattle.leg_rules.specs.declared.difference.Difference.{Difference}
use Rattle.leg_rules.specs.declared.difference.Difference.TheVariants.{Whole, Gone, Changed, Added}
use Rattle.leg_rules.specs.Compare.Sections.{names_of}
use Rattle.leg_rules.specs.Compare.Spelling.{spelled_terminals, spelled_wires}
use Rattle.leg_rules.specs.Compare.Differences.{DiffersAsVia, DiffersAsComponent, DiffersAsPin, DiffersAsNet, DifferAt, IsDifference}
use Rattle.leg_compare.specs.Same.{HasSame, AreSameByName, IsSameNet, IsSameDesign}
use Rattle.leg_compare.proofs.Alike.{names_apart}
use Rattle.leg_compare.proofs.TerminalSets.{terminals_told}
use Rattle.leg_compare.proofs.Codes.{told_in, same_if, words_told, vias_told, places_told, statuses_told, ports_told, wires_told, numbers_told, names_told}

-- Lists of named elements of which none is missing in the other, and none has changed, are the same by name.
module _ {X : Type 0} (name_of : X → List ℕ) (Differs : Change → X → X → Type 0) (Same : X → X → Type 0) (Good : X → Type 0) (xs ys : List X)
    (good_xs : All Good xs) (good_ys : All Good ys) (apart : AreApart (map name_of ys))
    (none_gone : (i : ℕ) → i < length (map name_of xs) → place_of (get_or (map name_of xs) i []) (map name_of ys) ≢ None)
    (none_added : (j : ℕ) → j < length (map name_of ys) → place_of (get_or (map name_of ys) j []) (map name_of xs) ≢ None)
    (none_changed : (change : Change) (i j : ℕ) → i < length (map name_of xs) → place_of (get_or (map name_of xs) i []) (map name_of ys) ≡ Some j
    → ¬ DifferAt (Differs change) xs ys i j)
    (decide : (x y : X) → Good x → Good y → name_of x ≡ name_of y → ((change : Change) → ¬ Differs change x y) → Same x y) where
  -- two elements at numbers of one name
  pair : (i j : ℕ) (d : X) → i < length xs → j < length ys → place_of (get_or (map name_of xs) i []) (map name_of ys) ≡ Some j
      → Same (get_or xs i d) (get_or ys j d)
  pair i j d less within found =
      decide (get_or xs i d) (get_or ys j d) (good_xs i d less) (good_ys j d within)
      (sym (get_or-map name_of xs i d [] less) ∙ sym ((place_stands (get_or (map name_of xs) i []) (map name_of ys) j found).there [])
      ∙ get_or-map name_of ys j d [] within)
      (λ change differ. none_changed change i j (omega (arith, length-map xs name_of)) found
      (record { x = get_or xs i d; y = get_or ys j d; at_first = slice_get-get_or xs i d less; at_second = slice_get-get_or ys j d within; differ = differ }))

  some : (o : Option ℕ) → o ≢ None → (j : ℕ) × (o ≡ Some j)
  some None not = absurd (not refl)
  some (Some j) not = (j, refl)

  of_first : (i : ℕ) (x : X) → i < length xs → get_or xs i x ≡ x → HasSame name_of Same ys x
  of_first i x less is =
      let inside : i < length (map name_of xs) = omega (arith, length-map xs name_of) in
      let found = some (place_of (get_or (map name_of xs) i []) (map name_of ys)) (none_gone i inside) in
      let stands = place_stands (get_or (map name_of xs) i []) (map name_of ys) found.0 found.1 in
      let within : found.0 < length ys = omega (arith, length-map ys name_of, stands.within) in
      record {
        y = get_or ys found.0 x;
        there = Contains-get_or ys found.0 x within;
        name = sym (get_or-map name_of ys found.0 x [] within) ∙ stands.there [] ∙ get_or-map name_of xs i x [] less ∙ ap name_of is;
        same = subst (λ (z : X). Same z (get_or ys found.0 x)) is (pair i found.0 x less within found.1);
      }

  of_second : (j : ℕ) (y : X) → j < length ys → get_or ys j y ≡ y → HasSame name_of (λ b a. Same a b) xs y
  of_second j y within is =
      let inside : j < length (map name_of ys) = omega (arith, length-map ys name_of) in
      let found = some (place_of (get_or (map name_of ys) j []) (map name_of xs)) (none_added j inside) in
      let stands = place_stands (get_or (map name_of ys) j []) (map name_of xs) found.0 found.1 in
      let less : found.0 < length xs = omega (arith, length-map xs name_of, stands.within) in
      let back : place_of (get_or (map name_of xs) found.0 []) (map name_of ys) ≡ Some j = ap (λ n. place_of n (map name_of ys)) (stands.there [])
      ∙ apart j inside in
      record {
        y = get_or xs found.0 y;
        there = Contains-get_or xs found.0 y less;
        name = sym (get_or-map name_of xs found.0 y [] less) ∙ stands.there [] ∙ get_or-map name_of ys j y [] within ∙ ap name_of is;
        same = subst (λ (z : X). Same (get_or xs found.0 y) z) is (pair found.0 j y less within back);
      }

  pub same_by_name : AreSameByName name_of Same xs ys
  same_by_name = record { first = λ x h. of_first h.0 x h.1 h.2; second = λ y h. of_second h.0 y h.1 h.2 }

-- statuses of one place that both may move are one
one_status : (a b : Status) (place : Option Place) → IsPlaced a place → IsPlaced b place → MayMove a → MayMove b → a ≡ b
one_status status.Unplaced status.Unplaced place p q m n = refl
one_status status.Placed status.Placed place p q m n = refl
one_status status.Unplaced status.Placed None p q m n = absurd q
one_status status.Unplaced status.Placed (Some place) p q m n = absurd p
one_status status.Placed status.Unplaced None p q m n = absurd p
one_status status.Placed status.Unplaced (Some place) p q m n = absurd q
one_status status.Fixed b place p q m n = absurd m
one_status status.Cover b place p q m n = absurd m
one_status status.Unplaced status.Fixed place p q m n = absurd n
one_status status.Unplaced status.Cover place p q m n = absurd n
one_status status.Placed status.Fixed place p q m n = absurd n
one_status status.Placed status.Cover place p q m n = absurd n

module _ (first second : DesignModel) (library : first.library ≡ second.library) (proper : IsWellFormed first) (proper_second : IsWellFormed second)
    (none : (d : Difference) → ¬ IsDifference first second d) where
  -- entries of one name that differ in nothing
  vias_same : (x y : ViaModel) → Unit {0} → Unit {0} → x.name ≡ y.name → ((change : Change) → ¬ DiffersAsVia change x y) → x ≡ y
  vias_same x y _ _ name never = same_if (vias_told first x y) (never Shapes)

  statuses_same : (x y : Component) → IsPlaced x.status x.place → IsPlaced y.status y.place → x.place ≡ y.place → ¬ DiffersAsComponent OtherStatus x y
      → x.status ≡ y.status
  statuses_same x y p q place never =
      same_if (statuses_told first x x.status y.status)
      (λ other. never (record {
        other = other;
        fixed = λ both. other
            (one_status x.status y.status x.place p (subst (IsPlaced y.status) (sym place) q) both.0 both.1);
      }))

  components_same : (x y : Component) → IsComponent first.library x → IsComponent first.library y → x.name ≡ y.name
      → ((change : Change) → ¬ DiffersAsComponent change x y) → x ≡ y
  components_same x y p q name never =
      let master = same_if (numbers_told x.master y.master) (never Macro) in
      let place = same_if (places_told first x x.place y.place) (never OtherPlace) in
      let status = statuses_same x y p.placed q.placed place (never OtherStatus) in
      λ i. record { name = name i; master = master i; status = status i; place = place i }

  pins_same : (x y : PinModel) → Unit {0} → Unit {0} → x.name ≡ y.name → ((change : Change) → ¬ DiffersAsPin change x y) → x ≡ y
  pins_same x y _ _ name never =
      let net = same_if (words_told first x.net_name y.net_name) (never NetName) in
      let direction = same_if (words_told first x.direction y.direction) (never Direction) in
      let usage = same_if (words_told first x.usage y.usage) (never Usage) in
      let ports = same_if (ports_told first x x.ports y.ports) (never Ports) in
      λ i. record { name = name i; net_name = net i; direction = direction i; usage = usage i; ports = ports i }

  nets_same : (x y : NetModel) → Unit {0} → Unit {0} → x.name ≡ y.name → ((change : Change) → ¬ DiffersAsNet first second change x y)
      → IsSameNet first second x y
  nets_same x y _ _ name never = record {
    usage = same_if (words_told first x.usage y.usage) (never Usage);
    terminals = same_if (terminals_told (spelled_terminals first x.terminals) (spelled_terminals second y.terminals)) (never Terminals);
    wires = same_if (wires_told first (spelled_wires first x.wires) (spelled_wires second y.wires))
        (λ other. never LostWires (λ goes_on. never MoreWires (record { goes_on = goes_on; some = λ same. other (sym same) })));
  }

  any : {X : Type 0} (xs : List X) → All (λ x. Unit {0}) xs
  any xs = λ k d within. tt

  -- of any section none is gone, added or changed
  none_gone : (section : Section) (i : ℕ) → i < length (names_of section first)
      → place_of (get_or (names_of section first) i []) (names_of section second) ≢ None
  none_gone section i within gone = none (Gone section i) (record { there = within; gone = gone })

  none_added : (section : Section) (j : ℕ) → j < length (names_of section second)
      → place_of (get_or (names_of section second) j []) (names_of section first) ≢ None
  none_added section j within gone = none (Added section j) (record { there = within; gone = gone })

  all_same : IsSameDesign first second
  all_same = record {
    name = same_if (names_told first.name second.name) (none (Whole Name));
    divider = same_if (words_told first first.divider second.divider) (none (Whole Divider));
    bus = same_if (words_told first first.bus second.bus) (none (Whole BusBits));
    die = same_if (told_in (λ x. record first { die = x }) (λ (e : DesignModel). e.die) (λ x. refl) first.die second.die) (none (Whole Die));
    rows = same_if (told_in (λ x. record first { rows = x }) (λ (e : DesignModel). e.rows) (λ x. refl) first.rows second.rows) (none (Whole Rows));
    tracks = same_if (told_in (λ x. record first { tracks = x }) (λ (e : DesignModel). e.tracks) (λ x. refl) first.tracks second.tracks) (none (Whole Tracks));
    blockages = same_if (told_in (λ x. record first { blockages = x }) (λ (e : DesignModel). e.blockages) (λ x. refl) first.blockages second.blockages)
        (none (Whole Blockages));
    vias =
        same_by_name (λ (v : ViaModel). v.name) DiffersAsVia (λ a b. a ≡ b) (λ v. Unit {0}) first.vias second.vias (any first.vias) (any second.vias)
        (names_apart second proper_second Vias)
        (none_gone Vias) (none_added Vias) (λ change i j within found differ. none (Changed Vias change i)
        (record { j = j; one_name = record { there = within; found = found }; changed = differ })) vias_same;
    components =
        same_by_name (λ (c : Component). c.name) DiffersAsComponent (λ a b. a ≡ b) (IsComponent first.library) first.components second.components
        proper.components.each
        (subst (λ (l : LibraryModel). All (IsComponent l) second.components) (sym library) proper_second.components.each)
        (names_apart second proper_second Components)
        (none_gone Components) (none_added Components) (λ change i j within found differ. none (Changed Components change i)
        (record { j = j; one_name = record { there = within; found = found }; changed = differ })) components_same;
    pins =
        same_by_name (λ (p : PinModel). p.name) DiffersAsPin (λ a b. a ≡ b) (λ p. Unit {0}) first.pins second.pins (any first.pins) (any second.pins)
        (names_apart second proper_second Pins)
        (none_gone Pins) (none_added Pins) (λ change i j within found differ. none (Changed Pins change i)
        (record { j = j; one_name = record { there = within; found = found }; changed = differ })) pins_same;
    special =
        same_by_name (λ (n : NetModel). n.name) (DiffersAsNet first second) (IsSameNet first second) (λ n. Unit {0}) first.special second.special
        (any first.special) (any second.special) (names_apart second proper_second SpecialNets)
        (none_gone SpecialNets) (none_added SpecialNets) (λ change i j within found differ. none (Changed SpecialNets change i)
        (record { j = j; one_name = record { there = within; found = found }; changed = differ })) nets_same;
    nets =
        same_by_name (λ (n : NetModel). n.name) (DiffersAsNet first second) (IsSameNet first second) (λ n. Unit {0}) first.nets second.nets (any first.nets)
        (any second.nets) (names_apart second proper_second Nets)
        (none_gone Nets) (none_added Nets) (λ change i j within found differ. none (Changed Nets change i)
        (record { j = j; one_name = record { there = within; found = found }; changed = differ })) nets_same;
  }

-- designs of one library between which there is no difference are the same but for the order of named entries
pub same_without_difference : (first second : DesignModel) → first.library ≡ second.library → IsWellFormed first → IsWellFormed second
    → ((d : Difference) → ¬ IsDifference first second d) → IsSameDesign first second
same_without_difference first second library proper proper_second none = all_same first second library proper proper_second none
