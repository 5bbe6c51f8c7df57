-- What entries of PINS say in the narrow profile they say in each: their ports have no polygons, no vias and no masks.
use Rattle.std.proofs.Common.{◌≡◌, ℕ, Bool, true, false, List, [], ◌∷◌, ◌++◌, length, map, Option, None, Some, codes, refl}
use Rattle.std.specs.Prelude.{nat_le}
use Rattle.std.specs.Char.{to_ascii_lowercase}
use Rattle.std.specs.Str.{bytes_eq}
use Rattle.leg_lex.specs.Words.{Words, ◌>>=◌, is_at, is_keyword, keyword_at, mark_at, next_at, nothing_at}
use Rattle.leg_lex.specs.Statements.{statement_at, clauses_of}
use Rattle.leg_lex.proofs.NameLookup.{same_name}
use Rattle.leg_geom.specs.Plane.{RectModel}
use Rattle.leg_design_records.specs.declared.limits.TheConstants.{ENTRY_LIMIT}
use Rattle.leg_design_records.specs.Records.{PinModel, pin_names}
use Rattle.leg_grammar.specs.declared.profile.Profile.{Profile}
use Rattle.leg_grammar.specs.declared.profile.Profile.TheVariants.{Narrow, Wide}
use Rattle.leg_grammar.specs.declared.profile.Masks.TheVariants.{Refused, Dropped}
use Rattle.leg_grammar.specs.Def.Guard.{when, unless}
use Rattle.leg_grammar.specs.Def.Clause.{is_clause, past_number}
use Rattle.leg_grammar.specs.Mask.{past_mask}
use Rattle.leg_lib_records.specs.Records.{RuleModel}
use Rattle.leg_grammar.specs.Def.NetScope.{NetScopeModel}
use Rattle.leg_grammar.specs.Def.Placement.{says_place, spot_at, rect_at}
use Rattle.leg_grammar.specs.Def.Layers.{layer_named_at, with_rect}
use Rattle.leg_grammar.specs.Def.Port.{past_rules, layer_rect, layer_polygon}
use Rattle.leg_grammar.specs.Def.PortVia.{with_via}
use Rattle.leg_grammar.specs.Def.PinClauses.{PinClauses, last_port, all_ports, no_pin_clauses, port_start, port_rect, port_polygon, port_via, port_place, pin_net_clause, direction_clause, pin_use_clause, pin_clause}
use Rattle.leg_grammar.specs.Def.Pin.{pin_head, pin_in, pin_entry, pins_at}
use Rattle.leg_profile_laws.proofs.Keeps.{Keeps, keeps_none, keeps_itself, keeps_bind, keeps_if, over_keeps}
use Rattle.leg_profile_laws.proofs.Sections.{section_keeps}
use Rattle.leg_profile_laws.proofs.Scopes.{read_as}

-- what the words of a rectangle say behind the name of its layer
abbrev corners : ℕ → Words → Option (ℕ × RectModel)
corners layer words =
    past_rules words >>= λ rules.
    rect_at rules.1 >>= λ rect.
    nothing_at rect.1 >>= λ end.
    Some (layer, rect.0)

-- no other word comes before a point than its parenthesis
no_point : (word : List ℕ) (words : Words) → bytes_eq word (40 ∷ []) ≡ false → rect_at (word ∷ words) ≡ None
unfolding rect_at spot_at mark_at next_at
no_point word words other = rw other refl

no_number : (keyword word : List ℕ) (words : Words) → is_keyword keyword word ≡ false → past_number keyword (word ∷ words) ≡ Some (tt, word ∷ words)
unfolding past_number
no_number keyword word words other = rw other refl

no_rules : (word : List ℕ) (words : Words) → map to_ascii_lowercase word ≡ map to_ascii_lowercase (codes "MASK")
    → past_rules (word ∷ words) ≡ Some (tt, word ∷ words)
unfolding past_rules
no_rules word words same =
    rw (no_number (codes "SPACING") word words (rw same refl), no_number (codes "DESIGNRULEWIDTH") word words (rw same refl)) refl

-- a rectangle doesn't begin with MASK
no_mask : (layer : ℕ) (words : Words) → is_at (codes "MASK") words ≡ true → corners layer words ≡ None
no_mask layer [] there = absurd (let e : ⊥ = cc in e)
no_mask layer (word ∷ words) there = by (bytes_eq word (40 ∷ [])) refl where
  same : map to_ascii_lowercase word ≡ map to_ascii_lowercase (codes "MASK")
  same = same_name (map to_ascii_lowercase word) (map to_ascii_lowercase (codes "MASK")) there

  by : (mark : Bool) → bytes_eq word (40 ∷ []) ≡ mark → corners layer (word ∷ words) ≡ None
  by true is =
      let this : word ≡ 40 ∷ [] = same_name word (40 ∷ []) is in
      absurd (let e : ⊥ = cc (rw this at same) in e)
  by false is = rw (no_rules word words same, no_point word words is) refl

corners_same : (profile : Profile) (layer : ℕ) (words : Words) → Keeps (corners layer words) (past_mask profile words >>= λ mask. corners layer mask.1)
unfolding past_mask past_number
corners_same Narrow layer words = keeps_itself (corners layer words)
corners_same (Wide Refused soft) layer words = keeps_itself (corners layer words)
corners_same (Wide Dropped soft) layer words = by (is_at (codes "MASK") words) refl where
  by : (test : Bool) → is_at (codes "MASK") words ≡ test → Keeps (corners layer words) (past_mask (Wide Dropped soft) words >>= λ mask. corners layer mask.1)
  by true there = rw (no_mask layer words there) (keeps_none _)
  by false there = rw there (keeps_itself (corners layer words))

module _ (profile : Profile) (scope : NetScopeModel) (rules : List RuleModel) where
  abbrev narrow : NetScopeModel
  narrow = read_as Narrow [] scope

  abbrev other : NetScopeModel
  other = read_as profile rules scope

  rect_same : (clause : Words) → Keeps (layer_rect Narrow scope.library clause) (layer_rect profile scope.library clause)
  unfolding layer_rect past_mask
  rect_same clause =
      keeps_bind (keeps_itself (keyword_at (codes "LAYER") clause)) (λ start.
      keeps_bind (keeps_itself (layer_named_at scope.library start.1)) (λ layer.
      corners_same profile layer.0 layer.1))

  port_rect_same : (parts : PinClauses) (clause : Words) → Keeps (port_rect narrow parts clause) (port_rect other parts clause)
  unfolding port_rect
  port_rect_same parts clause =
      keeps_bind (rect_same clause) (λ on.
      keeps_itself (Some (record parts { last = Some (record (last_port parts) { shapes = with_rect scope.library on.0 on.1 (last_port parts).shapes }) })))

  port_polygon_same : (parts : PinClauses) (clause : Words) → Keeps (port_polygon narrow parts clause) (port_polygon other parts clause)
  unfolding port_polygon layer_polygon
  port_polygon_same parts clause = keeps_none (port_polygon other parts clause)

  port_via_same : (parts : PinClauses) (clause : Words) → Keeps (port_via narrow parts clause) (port_via other parts clause)
  unfolding port_via with_via
  port_via_same parts clause = keeps_none (port_via other parts clause)

  clause_same : (parts : PinClauses) (clause : Words) → Keeps (pin_clause narrow parts clause) (pin_clause other parts clause)
  unfolding pin_clause
  clause_same parts clause =
      keeps_if (is_at (codes "NET") clause) (keeps_itself (pin_net_clause parts clause))
      (keeps_if (is_at (codes "DIRECTION") clause) (keeps_itself (direction_clause parts clause))
      (keeps_if (is_at (codes "USE") clause) (keeps_itself (pin_use_clause parts clause))
      (keeps_if (is_at (codes "PORT") clause) (keeps_itself (port_start parts clause))
      (keeps_if (is_at (codes "LAYER") clause) (port_rect_same parts clause)
      (keeps_if (says_place clause) (keeps_itself (port_place parts clause))
      (keeps_if (is_at (codes "VIA") clause) (port_via_same parts clause)
      (keeps_if (is_at (codes "POLYGON") clause) (port_polygon_same parts clause)
      (keeps_if (is_at (codes "MASK") clause) (keeps_none None)
      (keeps_itself (when (is_clause clause) >>= λ _. Some parts))))))))))

  pin_same : (names : List (List ℕ)) (clauses : List Words) → Keeps (pin_in narrow names clauses) (pin_in other names clauses)
  unfolding pin_in
  pin_same names [] = keeps_none None
  pin_same names (head ∷ clauses) =
      keeps_bind (keeps_itself (pin_head names head)) (λ name.
      keeps_bind (over_keeps (pin_clause narrow) (pin_clause other) clause_same no_pin_clauses clauses) (λ parts.
      keeps_itself (Some (record { name = name; net_name = parts.net_name; direction = parts.direction; usage = parts.usage; ports = all_ports parts }))))

  entry_same : (pins : List PinModel) (words : Words) → Keeps (pin_entry narrow pins words) (pin_entry other pins words)
  unfolding pin_entry
  entry_same pins words =
      keeps_bind (keeps_itself (unless (nat_le ENTRY_LIMIT (length pins)))) (λ room.
      keeps_bind (keeps_itself (statement_at words)) (λ statement.
      keeps_bind (pin_same (pin_names pins) (clauses_of statement.0)) (λ pin.
      keeps_itself (Some (pins ++ pin ∷ [], statement.1)))))

  -- What the section says in the narrow profile.
  pub pins_keep : (words : Words) → Keeps (pins_at narrow words) (pins_at other words)
  unfolding pins_at
  pins_keep words = section_keeps (codes "PINS") (pin_entry narrow) (pin_entry other) entry_same [] words
