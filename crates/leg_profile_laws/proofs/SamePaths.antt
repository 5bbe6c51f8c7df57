-- What paths of NETS and SPECIALNETS say in the narrow profile they say in each.
use Rattle.std.proofs.Common.{◌≡◌, ℕ, ◌+◌, ℤ, nat_lt, Bool, true, false, ◌&&◌, ◌==◌, List, [], ◌∷◌, ◌++◌, length, map, suc, if◌then◌else◌, Option, None, Some, codes, refl, sym, ◌∙◌, arith}
use Rattle.std.proofs.lemmas.Bool.{and_parts}
use Rattle.std.proofs.lemmas.Bool.Decides.{nat_tests}
use Rattle.std.specs.Char.{to_ascii_lowercase}
use Rattle.std.specs.Str.{bytes_eq}
use Rattle.leg_lex.specs.Words.{Words, ◌>>=◌, is_at, is_keyword, keyword_at, mark_at, name_at, next_at}
use Rattle.leg_lex.specs.Until.{until}
use Rattle.leg_lex.specs.Statements.{is_plus}
use Rattle.leg_lex.proofs.NameLookup.{same_name}
use Rattle.leg_lex.proofs.Gives.{Gives, gives_some, gives_skip}
use Rattle.leg_geom.specs.Plane.{PointModel}
use Rattle.leg_design_records.specs.declared.records.Wire.{Wire}
use Rattle.leg_design_records.specs.declared.records.Wire.TheVariants.{ViaAt, Patch}
use Rattle.leg_lib_records.specs.Records.{RuleModel}
use Rattle.leg_grammar.specs.declared.profile.Profile.{Profile}
use Rattle.leg_grammar.specs.declared.profile.Profile.TheVariants.{Narrow, Wide}
use Rattle.leg_grammar.specs.declared.path_item.Item.{Item}
use Rattle.leg_grammar.specs.declared.path_item.Item.TheVariants.{ToPoint, ToVirtual, AtVia, AtArray, AtRect}
use Rattle.leg_grammar.specs.Def.NetScope.{NetScopeModel}
use Rattle.leg_grammar.specs.Def.ViaArray.{array_vias}
use Rattle.leg_grammar.specs.declared.path_width.PathWidth.{PathWidth}
use Rattle.leg_grammar.specs.declared.path_width.PathWidth.TheVariants.{OfLayers, OfRule, Written}
use Rattle.leg_grammar.specs.Def.PathItem.{first_point_at, one_item, at_path_end}
use Rattle.leg_grammar.specs.Def.Path.{extension_at, next_spot, is_same_spot, plain_segment, segment_to, across, wires_from, path_wires}
use Rattle.leg_grammar.specs.Def.Wiring.{routing_at, past_taper, written_width_at, at_no_shape, past_shape, taper_at, path_width_at, path_at, at_no_new, new_path, paths_at, at_shape_clause, wires_at, wiring_start, wiring_at}
use Rattle.leg_profile_laws.proofs.Keeps.{Keeps, keeps_none, keeps_itself, keeps_known, keeps_bind, keeps_if, keeps_new, steps_keep}
use Rattle.leg_profile_laws.proofs.Scopes.{read_as}
use Rattle.leg_profile_laws.proofs.SameItems.{lower_is, items_keep}

-- a plus has no capitals
lower_plus : (b : ℕ) → (to_ascii_lowercase b == 43) ≡ (b == 43)
lower_plus b = by (nat_lt b 65) refl (nat_lt b 91) refl where
  by : (small : Bool) → nat_lt b 65 ≡ small → (letter : Bool) → nat_lt b 91 ≡ letter → (to_ascii_lowercase b == 43) ≡ (b == 43)
  by true s letter l = rw s refl
  by false s true l =
      let lower : (b + 32 == 43) ≡ false = grind (arith, nat_tests) in
      let upper : (b == 43) ≡ false = grind (arith, nat_tests) in
      rw (s, l, lower, upper) refl
  by false s false l = rw (s, l) refl

plus_is : (word : List ℕ) → is_keyword (codes "+") word ≡ is_plus word
plus_is [] = refl
plus_is (b ∷ []) = rw (lower_plus b) refl
plus_is (b ∷ c ∷ bytes) = rw (lower_plus b) refl

-- a path doesn't begin with a plus
no_path : (scope : NetScopeModel) (special : Bool) (words : Words) → is_at (codes "+") words ≡ true → paths_at scope special words ≡ None
unfolding paths_at path_at routing_at name_at next_at
no_path scope special [] there = absurd (let e : ⊥ = cc in e)
no_path scope special (word ∷ words) there =
    let plus : word ≡ codes "+" = same_name word (codes "+") (sym (plus_is word) ∙ there) in
    rw plus refl

no_shape : (scope : NetScopeModel) (special : Bool) (words : Words) → (special && at_shape_clause words) ≡ true → paths_at scope special words ≡ None
no_shape scope true words there = no_path scope true words ((and_parts (is_at (codes "+") words) _ there).0)
no_shape scope false words there = absurd (let e : ⊥ = cc in e)

-- TAPERRULE is not TAPER, and before no point
no_taper : (words : Words) → is_at (codes "TAPERRULE") words ≡ true → past_taper words ≡ Some (tt, words)
unfolding past_taper
no_taper [] there = absurd (let e : ⊥ = cc in e)
no_taper (word ∷ words) there =
    let same = lower_is (codes "TAPERRULE") word there in
    rw same refl

no_point : (words : Words) → is_at (codes "TAPERRULE") words ≡ true → first_point_at words ≡ None
unfolding first_point_at mark_at next_at
no_point [] there = absurd (let e : ⊥ = cc in e)
no_point (word ∷ words) there = by (bytes_eq word (codes "(")) refl where
  same : map to_ascii_lowercase word ≡ map to_ascii_lowercase (codes "TAPERRULE")
  same = lower_is (codes "TAPERRULE") word there

  by : (open_ : Bool) → bytes_eq word (codes "(") ≡ open_ → first_point_at (word ∷ words) ≡ None
  by true is =
      let this : word ≡ codes "(" = same_name word (codes "(") is in
      absurd (let e : ⊥ = cc (rw this at same) in e)
  by false is = rw is refl

-- the width of a path under no rule
abbrev HasNoRule : PathWidth → Type 0
HasNoRule OfLayers = Unit {0}
HasNoRule (OfRule rule) = ⊥
HasNoRule (Written width) = Unit {0}

module _ (scope : NetScopeModel) (rules : List RuleModel) (profile : Profile) (special : Bool) where
  abbrev narrow : NetScopeModel
  narrow = read_as Narrow [] scope

  abbrev other : NetScopeModel
  other = read_as profile rules scope

  across_same : (via layer : ℕ) → Keeps (across narrow via layer) (across other via layer)
  unfolding across
  across_same via layer = keeps_itself (across narrow via layer)

  -- the segment of a path under no rule
  segment_same : (width : PathWidth) → HasNoRule width → (layer : ℕ) (at : PointModel) (extension : Option ℤ) (to : PointModel) (there : Option ℤ)
      → Keeps (segment_to narrow width layer at extension to there) (segment_to other width layer at extension to there)
  unfolding segment_to
  segment_same OfLayers none layer at extension to there = keeps_itself (plain_segment scope.library None layer at extension to there)
  segment_same (OfRule rule) none layer at extension to there = absurd none
  segment_same (Written width) none layer at extension to there = keeps_itself (plain_segment scope.library (Some width) layer at extension to there)

  wires_same : (width : PathWidth) → HasNoRule width → (layer : ℕ) (at : PointModel) (extension : Option ℤ) (items : List Item)
      → Keeps (wires_from narrow width layer at extension items) (wires_from other width layer at extension items)
  unfolding wires_from
  wires_same width none layer at extension [] = keeps_itself (Some [])
  wires_same width none layer at extension (ToPoint x y given ∷ items) =
      let there = next_spot at x y in
      let extension_there = extension_at there given items in
      keeps_if (is_same_spot at there) (wires_same width none layer at extension items)
      (keeps_bind (segment_same width none layer at extension there extension_there) (λ segment.
      keeps_bind (wires_same width none layer there extension_there items) (λ others.
      keeps_itself (Some (segment ∷ others)))))
  wires_same width none layer at extension (ToVirtual x y ∷ items) =
      wires_same width none layer (next_spot at x y) (extension_at (next_spot at x y) None items) items
  wires_same width none layer at extension (AtVia via ∷ items) =
      keeps_bind (across_same via layer) (λ beyond.
      keeps_bind (wires_same width none beyond at extension items) (λ others.
      keeps_itself (Some (ViaAt via at ∷ others))))
  wires_same width none layer at extension (AtArray via array ∷ items) =
      keeps_bind (across_same via layer) (λ beyond.
      keeps_bind (keeps_itself (array_vias via array at)) (λ vias.
      keeps_bind (wires_same width none beyond at extension items) (λ others.
      keeps_itself (Some (vias ++ others)))))
  wires_same width none layer at extension (AtRect rect ∷ items) =
      keeps_bind (wires_same width none layer at extension items) (λ others.
      keeps_itself (Some (Patch layer at rect ∷ others)))

  -- a path behind its width
  abbrev behind_width : NetScopeModel → ℕ → PathWidth × Words → Option (List Wire × Words)
  behind_width of layer width =
      first_point_at width.1 >>= λ first. until at_path_end (one_item of special) [] first.1
      >>= λ items. path_wires of width.0 layer first.0.0 first.0.1 items.0 >>= λ wires. Some (wires, items.1)

  rest_same : (layer : ℕ) (width : PathWidth × Words) → HasNoRule width.0 → Keeps (behind_width narrow layer width) (behind_width other layer width)
  rest_same layer width none =
      keeps_bind (keeps_itself (first_point_at width.1)) (λ first.
      keeps_bind (items_keep scope rules profile special (suc (length first.1)) [] first.1) (λ items.
      keeps_bind (wires_same width.0 none layer first.0.0 (extension_at first.0.0 first.0.1 items.0) items.0) (λ wires.
      keeps_itself (Some (wires, items.1)))))

  -- a path from its width on: TAPERRULE is before no point
  special_same : (layer : ℕ) (words : Words) → Keeps (path_width_at narrow true words >>= behind_width narrow layer)
      (path_width_at other true words >>= behind_width other layer)
  unfolding path_width_at
  special_same layer words =
      keeps_known (keeps_itself (path_width_at narrow true words)) (written_gives words) (λ width none. rest_same layer width none) where
        written_gives : (words : Words) → Gives (λ (width : PathWidth × Words). HasNoRule width.0) (path_width_at narrow true words)
        written_gives words = gives_skip (written_width_at words) (λ width. gives_skip (until at_no_shape past_shape tt width.1) (λ shapes. gives_some _ tt))

  plain_same : (layer : ℕ) (words : Words) → (said : Option (Unit {0} × Words))
      → Keeps ((said >>= λ taper. Some (OfLayers, taper.1)) >>= behind_width narrow layer)
      ((said >>= λ taper. Some (OfLayers, taper.1)) >>= behind_width other layer)
  plain_same layer words None = keeps_none None
  plain_same layer words (Some taper) = rest_same layer (OfLayers, taper.1) tt

  without_rule : (layer : ℕ) (words : Words) (taper : Bool) → is_at (codes "TAPER") words ≡ taper
      → Keeps ((past_taper words >>= λ past. Some (OfLayers, past.1)) >>= behind_width narrow layer)
      ((if is_at (codes "TAPER") words then (keyword_at (codes "TAPER") words >>= λ past. Some (OfLayers, past.1)) else Some (OfLayers, words))
      >>= behind_width other layer)
  unfolding past_taper
  without_rule layer words true is = rw is (plain_same layer words (keyword_at (codes "TAPER") words))
  without_rule layer words false is = rw is (rest_same layer (OfLayers, words) tt)

  taper_same : (layer : ℕ) (words : Words) (of : Profile)
      → Keeps (taper_at Narrow narrow words >>= behind_width narrow layer) (taper_at of other words >>= behind_width other layer)
  unfolding taper_at
  taper_same layer words Narrow = plain_same layer words (past_taper words)
  taper_same layer words (Wide masks soft) = by (is_at (codes "TAPERRULE") words) refl where
    by : (rule : Bool) → is_at (codes "TAPERRULE") words ≡ rule
        → Keeps (taper_at Narrow narrow words >>= behind_width narrow layer) (taper_at (Wide masks soft) other words >>= behind_width other layer)
    by true is = rw (no_taper words is, no_point words is) (keeps_none _)
    by false is = rw is (without_rule layer words (is_at (codes "TAPER") words) refl)

  width_same : (layer : ℕ) (words : Words) → (kind : Bool)
      → Keeps (path_width_at narrow kind words >>= behind_width narrow layer) (path_width_at other kind words >>= behind_width other layer)
  unfolding path_width_at
  width_same layer words true = special_same layer words
  width_same layer words false = taper_same layer words profile

  path_same : (words : Words) → Keeps (path_at narrow special words) (path_at other special words)
  unfolding path_at
  path_same words = keeps_bind (keeps_itself (routing_at scope.library words)) (λ layer. width_same layer.0 layer.1 special)

  new_path_same : (wires : List Wire) (words : Words) → Keeps (new_path narrow special wires words) (new_path other special wires words)
  unfolding new_path
  new_path_same wires words =
      keeps_bind (keeps_itself (keyword_at (codes "NEW") words)) (λ start.
      keeps_bind (path_same start.1) (λ path.
      keeps_itself (Some (wires ++ path.0, path.1))))

  paths_same : (words : Words) → Keeps (paths_at narrow special words) (paths_at other special words)
  unfolding paths_at
  paths_same words =
      keeps_bind (path_same words) (λ first.
      steps_keep at_no_new (new_path narrow special) (new_path other special) new_path_same (suc (length first.1)) first.0 first.1)

module _ (scope : NetScopeModel) (rules : List RuleModel) (special : Bool) where
  behind_same : (profile : Profile) (words : Words)
      → Keeps (wires_at Narrow (read_as Narrow [] scope) special words) (wires_at profile (read_as profile rules scope) special words)
  unfolding wires_at
  behind_same Narrow words = paths_same scope rules Narrow special words
  behind_same (Wide masks soft) words =
      keeps_new (special && at_shape_clause words) _ (no_shape (read_as Narrow [] scope) special words) (paths_same scope rules (Wide masks soft) special words)

  -- What a clause with wiring says in the narrow profile.
  pub wiring_keeps : (profile : Profile) (clause : Words)
      → Keeps (wiring_at (read_as Narrow [] scope) special clause) (wiring_at (read_as profile rules scope) special clause)
  unfolding wiring_at
  wiring_keeps profile clause = keeps_bind (keeps_itself (wiring_start clause)) (λ start. behind_same profile start.1)
