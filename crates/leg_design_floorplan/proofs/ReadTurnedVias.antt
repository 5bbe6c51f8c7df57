-- Vias that words turn come behind those before, with names of their own, and rectangles on layers with metal.
use Rattle.std.proofs.Common.{◌≡◌, ℕ, zero, suc, ◌+◌, false, List, [], ◌∷◌, ◌++◌, length, map, append_assoc, append-nil, Option, None, Some, option_map, is_some, refl, sym, ap, ◌∙◌}
use Rattle.std.specs.Option.{option_or}
use Rattle.std.specs.List.{list_all}
use Rattle.std.proofs.lemmas.List.Elements.{All-nil}
use Rattle.leg_lex.specs.NameLookup.{place_of}
use Rattle.leg_lex.specs.Words.{Words, is_name, next_at}
use Rattle.leg_lex.specs.Statements.{at_end}
use Rattle.leg_lex.proofs.GivesAll.{until_gives, over_gives}
use Rattle.leg_lib_records.specs.declared.records.Shape.{Shape}
use Rattle.leg_lib_records.specs.Records.{LibraryModel, ViaModel, via_names}
use Rattle.leg_design_records.specs.Records.{design_via_names}
use Rattle.leg_design_records.specs.WellFormedParts.{IsMetalShape, IsDesignVia, AreVias}
use Rattle.leg_grammar.specs.Def.Guard.{when}
use Rattle.leg_grammar.specs.Def.CutArray.{is_room_for_shapes}
use Rattle.leg_grammar.specs.Def.Turns.{orient_suffix, turn_number}
use Rattle.leg_grammar.specs.Def.NetScope.{via_of_number, number_of_via}
use Rattle.leg_grammar.specs.Def.PortVia.{via_shape}
use Rattle.leg_grammar.specs.Def.TurnedVia.{TurnedVias, TurnOfVia, origin, turned_shape, stays, numbered_name, new_name_from, turn_at, turned_via, with_turned_via, with_new_turn, with_turn_of, turn_of_word, turned_vias_at}
use Rattle.leg_design_common.proofs.Gives.{Gives, gives_none, gives_some, gives_bind, gives_skip, gives_if, gives_choice, when_gives}
use Rattle.leg_design_floorplan.proofs.PortVias.{shape_gives}
use Rattle.leg_design_floorplan.proofs.ReadVias.{with_via}

-- a name that isn't found is neither among the first nor among the second
neither : (first second : Option ℕ) (f : ℕ → ℕ) → is_some (option_or first (option_map f second)) ≡ false → (first ≡ None) × (second ≡ None)
neither None None f none = (refl, refl)
neither None (Some k) f none = absurd (let e : ⊥ = cc in e)
neither (Some k) second f none = absurd (let e : ⊥ = cc in e)

-- the vias are these and others behind them
pub record AreBehind (before vias : List ViaModel) : Type 0 where
  pub others : List ViaModel
  pub behind : vias ≡ before ++ others

module _ (library : LibraryModel) where
  -- no via has this name
  record IsFree (vias : List ViaModel) (name : List ℕ) : Type 0 where
    new : place_of name (via_names library) ≡ None
    here : place_of name (design_via_names vias) ≡ None

  name_gives_free : (vias : List ViaModel) (name : List ℕ) (more number : ℕ) → Gives (IsFree vias) (new_name_from library vias name more number)
  unfolding new_name_from
  name_gives_free vias name zero number = gives_none
  name_gives_free vias name (suc more) number =
      let numbered = numbered_name name number in
      gives_choice (is_some (number_of_via library vias numbered)) (λ taken. name_gives_free vias name more (number + 1)) (λ free.
      let parts = neither (place_of numbered (via_names library)) (place_of numbered (design_via_names vias)) (λ k. length library.vias + k) free in
      gives_some numbered (record { new = parts.0; here = parts.1 }))

  pub turned_gives : (vias : List ViaModel) (turn : TurnOfVia) (shapes : List Shape)
      → Gives (λ via. IsDesignVia library via × (place_of via.name (design_via_names vias) ≡ None)) (turned_via library vias turn shapes)
  unfolding turned_via
  turned_gives vias turn shapes =
      gives_skip (when (is_room_for_shapes vias (length shapes))) (λ room.
      gives_bind (name_gives_free vias (turn.name ++ orient_suffix turn.orient) (suc (length library.vias + length vias)) 0) (λ name free.
      gives_bind (when_gives (is_name name)) (λ word named.
      gives_bind (over_gives _ (via_shape library origin) (shape_gives library origin) [] (map (turned_shape turn.orient) shapes)
      (All-nil (IsMetalShape library))) (λ turned each.
      gives_some _ (record { name = named; new = free.new; default_via = refl; good = refl; shapes = each }, free.here)))))

  turn_are : (made : TurnedVias) (found : Option TurnOfVia) → AreVias library made.vias
      → Gives (λ (next : TurnedVias). AreVias library next.vias) (with_turn_of library made found)
  unfolding with_turn_of with_new_turn with_turned_via
  turn_are made None are = gives_some made are
  turn_are made (Some turn) are =
      gives_if (is_some (turn_number made.turned turn.via turn.orient)) (gives_some made are)
      (gives_skip (via_of_number library made.vias turn.via) (λ via.
      gives_if (list_all (stays turn.orient) via.shapes) (gives_some _ are)
      (gives_bind (turned_gives made.vias turn via.shapes) (λ turned holds. gives_some _ (with_via library made.vias turned are holds.0 holds.1)))))

  word_are : (made : TurnedVias) (words : Words) → AreVias library made.vias
      → Gives (λ (said : TurnedVias × Words). AreVias library said.0.vias) (turn_of_word library made words)
  unfolding turn_of_word
  word_are made words are =
      gives_skip (next_at words) (λ word.
      gives_bind (turn_are made (turn_at library made.vias words) are) (λ next holds. gives_some _ holds))

  -- All that the words turn are vias of a design.
  pub turned_vias_are : (made : TurnedVias) (words : Words) → AreVias library made.vias
      → Gives (λ (said : TurnedVias × Words). AreVias library said.0.vias) (turned_vias_at library made words)
  unfolding turned_vias_at
  turned_vias_are made words are = until_gives (λ (next : TurnedVias). AreVias library next.vias) at_end (turn_of_word library) word_are made words are

  module _ (before : List ViaModel) where
    turn_behind : (made : TurnedVias) (found : Option TurnOfVia) → AreBehind before made.vias
        → Gives (λ (next : TurnedVias). AreBehind before next.vias) (with_turn_of library made found)
    unfolding with_turn_of with_new_turn with_turned_via
    turn_behind made None more = gives_some made more
    turn_behind made (Some turn) more =
        gives_if (is_some (turn_number made.turned turn.via turn.orient)) (gives_some made more)
        (gives_skip (via_of_number library made.vias turn.via) (λ via.
        gives_if (list_all (stays turn.orient) via.shapes) (gives_some _ more)
        (gives_skip (turned_via library made.vias turn via.shapes) (λ turned.
        gives_some _ (record {
          others = more.others ++ turned ∷ [];
          behind = ap (λ vias. vias ++ turned ∷ []) more.behind ∙ append_assoc before more.others (turned ∷ []);
        })))))

    word_behind : (made : TurnedVias) (words : Words) → AreBehind before made.vias
        → Gives (λ (said : TurnedVias × Words). AreBehind before said.0.vias) (turn_of_word library made words)
    unfolding turn_of_word
    word_behind made words more =
        gives_skip (next_at words) (λ word.
        gives_bind (turn_behind made (turn_at library made.vias words) more) (λ next holds. gives_some _ holds))

  -- They come behind those before.
  pub turned_vias_behind : (made : TurnedVias) (words : Words)
      → Gives (λ (said : TurnedVias × Words). AreBehind made.vias said.0.vias) (turned_vias_at library made words)
  unfolding turned_vias_at
  turned_vias_behind made words =
      until_gives (λ (next : TurnedVias). AreBehind made.vias next.vias) at_end (turn_of_word library) (word_behind made.vias) made words
      (record { others = []; behind = sym (append-nil made.vias) })
