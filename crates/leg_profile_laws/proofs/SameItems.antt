-- What items of a path say in the narrow profile they say in each: none of them is a virtual point or an array of vias, and none has a mask.
use Rattle.std.proofs.Common.{◌≡◌, ℕ, Bool, true, false, not, ◌&&◌, List, [], ◌∷◌, ◌++◌, map, None, Some, codes, inr, refl, sym, ap, ◌∙◌}
use Rattle.std.specs.Char.{to_ascii_lowercase}
use Rattle.std.specs.Str.{bytes_eq}
use Rattle.leg_lex.specs.Words.{Words, is_at, is_keyword, is_name, name_at, next_at}
use Rattle.leg_lex.specs.Until.{steps}
use Rattle.leg_lex.proofs.NameLookup.{same_name}
use Rattle.leg_lex.proofs.Parts.{rest_is}
use Rattle.leg_lib_records.specs.Joins.{is_wiring_word}
use Rattle.leg_lib_records.specs.Records.{RuleModel}
use Rattle.leg_grammar.specs.declared.profile.Profile.{Profile}
use Rattle.leg_grammar.specs.declared.profile.Profile.TheVariants.{Narrow, Wide}
use Rattle.leg_grammar.specs.declared.profile.Masks.TheVariants.{Refused, Dropped}
use Rattle.leg_grammar.specs.declared.path_item.Item.{Item}
use Rattle.leg_grammar.specs.declared.path_item.Item.TheVariants.{AtVia}
use Rattle.leg_grammar.specs.Def.NetScope.{NetScopeModel}
use Rattle.leg_grammar.specs.Mask.{past_mask}
use Rattle.leg_grammar.specs.Def.PathItem.{point_item, rect_item, via_at, turn_of_via_at, via_item, array_of_via, via_or_array_item, other_item, item_without_mask, item_at, one_item, at_path_end}
use Rattle.leg_profile_laws.proofs.Scopes.{read_as}
use Rattle.leg_profile_laws.proofs.Keeps.{Keeps, keeps_none, keeps_itself, keeps_new}
use Rattle.leg_profile_laws.proofs.KeepsUnless.{KeepsUnless, unless_kept, unless_bind, unless_if, unless_made, steps_keep_unless}

-- DO comes next, which is none of an item's words in the narrow profile
pub record IsAtDo (words : Words) : Type 0 where
  pub there : is_at (codes "DO") words ≡ true

-- the word is this keyword in all but capitals
pub lower_is : (keyword word : List ℕ) → is_keyword keyword word ≡ true → map to_ascii_lowercase word ≡ map to_ascii_lowercase keyword
lower_is keyword word there = same_name (map to_ascii_lowercase word) (map to_ascii_lowercase keyword) there

-- a word that means something else in wiring is no via
no_via : (scope : NetScopeModel) (word : List ℕ) (words : Words) → is_wiring_word word ≡ true → via_item scope (word ∷ words) ≡ None
unfolding via_item via_at name_at next_at
no_via scope word words other = by (is_name word) refl where
  by : (named : Bool) → is_name word ≡ named → via_item scope (word ∷ words) ≡ None
  by true named = rw (named, other) refl
  by false named = rw named refl

no_virtual : (scope : NetScopeModel) (words : Words) → is_at (codes "VIRTUAL") words ≡ true → via_item scope words ≡ None
no_virtual scope [] there = absurd (let e : ⊥ = cc in e)
no_virtual scope (word ∷ words) there =
    let same = lower_is (codes "VIRTUAL") word there in
    no_via scope word words (rw same refl)

-- an item begins with no other word of wiring than RECT
no_item : (scope : NetScopeModel) (special : Bool) (word : List ℕ) (words : Words) → is_wiring_word word ≡ true → is_keyword (codes "(") word ≡ false
    → is_keyword (codes "RECT") word ≡ false → item_at (read_as Narrow [] scope) special (word ∷ words) ≡ None
unfolding item_at past_mask item_without_mask other_item
no_item scope special word words other point rect = rw (point, rect, no_via (read_as Narrow [] scope) word words other) refl

no_mask : (scope : NetScopeModel) (special : Bool) (words : Words) → is_at (codes "MASK") words ≡ true → item_at (read_as Narrow [] scope) special words ≡ None
no_mask scope special [] there = absurd (let e : ⊥ = cc in e)
no_mask scope special (word ∷ words) there =
    let same = lower_is (codes "MASK") word there in
    no_item scope special word words (rw same refl) (rw same refl) (rw same refl)

no_do : (scope : NetScopeModel) (special : Bool) (words : Words) → IsAtDo words → item_at (read_as Narrow [] scope) special words ≡ None
no_do scope special [] at = let e : ⊥ = cc (at.there) in absurd e
no_do scope special (word ∷ words) at =
    let same = lower_is (codes "DO") word at.there in
    no_item scope special word words (rw same refl) (rw same refl) (rw same refl)

-- a path doesn't end at DO
no_end : (words : Words) → IsAtDo words → at_path_end words ≡ false
no_end [] at = let e : ⊥ = cc (at.there) in absurd e
no_end (word ∷ words) at = by (bytes_eq word (codes "+")) refl where
  same : map to_ascii_lowercase word ≡ map to_ascii_lowercase (codes "DO")
  same = lower_is (codes "DO") word at.there

  by : (plus : Bool) → bytes_eq word (codes "+") ≡ plus → at_path_end (word ∷ words) ≡ false
  by true is =
      let this : word ≡ codes "+" = same_name word (codes "+") is in
      absurd (let e : ⊥ = cc (rw this at same) in e)
  by false is = rw (same, is) refl

module _ (scope : NetScopeModel) (rules : List RuleModel) where
  array_same : (via : ℕ) (words : Words) → KeepsUnless IsAtDo (Some (AtVia via, words)) (array_of_via via words)
  unfolding array_of_via
  array_same via words = by (is_at (codes "DO") words) refl where
    by : (test : Bool) → is_at (codes "DO") words ≡ test → KeepsUnless IsAtDo (Some (AtVia via, words)) (array_of_via via words)
    by true is = record { kept = λ item rest said. inr (record { there = ap (is_at (codes "DO")) (sym (rest_is (AtVia via) item words rest said)) ∙ is }) }
    by false is = rw is (unless_kept (keeps_itself (Some (AtVia via, words))))

  other_same : (profile : Profile) (special : Bool) (words : Words)
      → KeepsUnless IsAtDo (other_item Narrow (read_as Narrow [] scope) special words) (other_item profile (read_as profile rules scope) special words)
  unfolding other_item via_item via_or_array_item via_at turn_of_via_at
  other_same Narrow special words = unless_kept (keeps_itself (via_item (read_as Narrow [] scope) words))
  other_same (Wide masks soft) true words = unless_bind (keeps_itself (via_at (read_as Narrow [] scope) words)) (λ via. array_same via.0 via.1)
  other_same (Wide masks soft) false words =
      unless_kept (keeps_new (is_at (codes "VIRTUAL") words) _ (no_virtual (read_as Narrow [] scope) words) (keeps_itself (via_item (read_as Narrow [] scope) words)))

  plain_same : (profile : Profile) (special : Bool) (words : Words)
      → KeepsUnless IsAtDo (item_without_mask (read_as Narrow [] scope) special words) (item_without_mask (read_as profile rules scope) special words)
  unfolding item_without_mask
  plain_same profile special words =
      unless_if (is_at (codes "(") words) (unless_kept (keeps_itself (point_item words)))
      (unless_if (is_at (codes "RECT") words && not special) (unless_kept (keeps_itself (rect_item words))) (other_same profile special words))

  item_same : (profile : Profile) (special : Bool) (words : Words)
      → KeepsUnless IsAtDo (item_at (read_as Narrow [] scope) special words) (item_at (read_as profile rules scope) special words)
  unfolding item_at past_mask
  item_same Narrow special words = plain_same Narrow special words
  item_same (Wide Refused soft) special words = plain_same (Wide Refused soft) special words
  item_same (Wide Dropped soft) special words = by (is_at (codes "MASK") words) refl where
    by : (test : Bool) → is_at (codes "MASK") words ≡ test
        → KeepsUnless IsAtDo (item_at (read_as Narrow [] scope) special words) (item_at (read_as (Wide Dropped soft) rules scope) special words)
    by true there = rw (no_mask scope special words there) (unless_kept (keeps_none (item_at (read_as (Wide Dropped soft) rules scope) special words)))
    by false there = rw there (plain_same (Wide Dropped soft) special words)

  module _ (profile : Profile) (special : Bool) where
    one_item_same : (items : List Item) (words : Words)
        → KeepsUnless IsAtDo (one_item (read_as Narrow [] scope) special items words) (one_item (read_as profile rules scope) special items words)
    unfolding one_item
    one_item_same items words =
        unless_made (λ item. items ++ item ∷ []) (item_at (read_as Narrow [] scope) special words) (item_at (read_as profile rules scope) special words)
        (item_same profile special words)

    no_more : (items : List Item) (words : Words) → IsAtDo words → one_item (read_as Narrow [] scope) special items words ≡ None
    unfolding one_item
    no_more items words at = rw (no_do scope special words at) refl

    -- What all items of a path say in the narrow profile.
    pub items_keep : (n : ℕ) (items : List Item) (words : Words)
        → Keeps (steps at_path_end (one_item (read_as Narrow [] scope) special) n items words)
        (steps at_path_end (one_item (read_as profile rules scope) special) n items words)
    items_keep n items words =
        steps_keep_unless at_path_end (one_item (read_as Narrow [] scope) special) (one_item (read_as profile rules scope) special) IsAtDo no_end no_more
        one_item_same n items words
