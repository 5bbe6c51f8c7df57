-- The items of a path: each takes a word at least, and where they end.
use Rattle.std.proofs.Common.{◌≡◌, ℕ, suc, ◌<◌, Bool, true, false, not, ◌&&◌, ◌||◌, List, [], ◌∷◌, ◌++◌, length, map, get_or, nat_lt, nat_le, ◌+◌, ◌*◌, ◌==◌, unsigned_abs, Option, None, Some, codes, int_lt, pos, refl, sym, ap, ◌∙◌, arith}
use Rattle.std.specs.Char.{to_ascii_lowercase}
use Rattle.std.specs.Str.{bytes_eq}
use Rattle.std.proofs.lemmas.Bool.Decides.{nat_tests}
use Rattle.leg_lex.specs.Words.{Words, ◌>>=◌, is_keyword, is_at, next_at, mark_at}
use Rattle.leg_lex.proofs.NameLookup.{same_name, names_apart}
use Rattle.leg_lex.proofs.Until.{Below, Shortens, below_some, below_bind, below_ask, below_if, below_more}
use Rattle.leg_lex.proofs.Shorter.{next_below, keyword_below, mark_below, name_below, whole_below}
use Rattle.leg_lib_records.specs.Joins.{is_wiring_word}
use Rattle.leg_lib_records.specs.Measure.{rect_between}
use Rattle.leg_geom.specs.declared.orient.Orient.{Orient}
use Rattle.leg_grammar.specs.declared.turned_via.TurnedVia.{TurnedVia}
use Rattle.leg_grammar.specs.declared.path_item.Item.{Item}
use Rattle.leg_grammar.specs.declared.path_item.Item.TheVariants.{ToPoint, ToVirtual, AtVia, AtArray, AtRect}
use Rattle.leg_design_records.specs.declared.limits.TheConstants.{PART_LIMIT}
use Rattle.leg_grammar.specs.declared.profile.Profile.{Profile}
use Rattle.leg_grammar.specs.declared.profile.Profile.TheVariants.{Narrow, Wide}
use Rattle.leg_grammar.specs.Def.Count.{count_at}
use Rattle.leg_grammar.specs.Def.ViaArray.{number_from_one, array_at}
use Rattle.leg_grammar.specs.Mask.{at_mask, mask_at, past_mask}
use Rattle.leg_grammar.specs.Def.Guard.{when, unless}
use Rattle.leg_grammar.specs.Def.Placement.{orient_of, orient_at}
use Rattle.leg_grammar.specs.Def.Turns.{turn_number}
use Rattle.leg_grammar.specs.Def.NetScope.{NetScopeModel, via_named}
use Rattle.leg_grammar.specs.Def.PathItem.{coordinate_at, extension_in_point, point_item, first_point_at, rect_item, past_north, turn_of_via_at, upright_via_at, via_at, via_item, array_of_via, via_or_array_item, virtual_item, other_item, item_without_mask, item_at, one_item, at_path_end}
use Rattle.leg_design_common.proofs.Either.{below_either}

-- a word that isn't this keyword isn't this mark
pub no_mark : (words : Words) → is_at (codes "(") words ≡ false → mark_at 40 words ≡ None
unfolding mark_at next_at
no_mark [] other = refl
no_mark (word ∷ words) other = by (bytes_eq word (40 ∷ [])) refl where
  by : (test : Bool) → bytes_eq word (40 ∷ []) ≡ test → mark_at 40 (word ∷ words) ≡ None
  by true is =
      let same = same_name word (40 ∷ []) is in
      absurd (let e : ⊥ = cc (rw same at other) in e)
  by false is = rw is refl

pub count_below : (words : Words) → Below (length words) (count_at words)
unfolding count_at
count_below words =
    below_bind (omega arith) (whole_below words) (λ z less.
    below_ask (unless (int_lt z.0 (pos 0))) (λ some.
    below_some z.0 z.1 less))

coordinate_below : (words : Words) → Below (length words) (coordinate_at words)
unfolding coordinate_at
coordinate_below words =
    below_if (is_at (codes "*") words)
    (below_bind (omega arith) (mark_below 42 words) (λ star less. below_some None star.1 less))
    (below_bind (omega arith) (whole_below words) (λ z less. below_some (Some z.0) z.1 less))

-- a point may lack an extension
extension_below : (words : Words) → Below (suc (length words)) (extension_in_point words)
unfolding extension_in_point
extension_below words =
    below_if (is_at (codes ")") words)
    (below_some None words (omega arith))
    (below_bind (omega arith) (count_below words) (λ z less. below_some (Some z.0) z.1 less))

point_item_below : (words : Words) → Below (length words) (point_item words)
unfolding point_item
point_item_below words =
    below_bind (omega arith) (mark_below 40 words) (λ open_ less.
    below_bind (omega arith) (coordinate_below open_.1) (λ x fewer.
    below_bind (omega arith) (coordinate_below x.1) (λ y shorter.
    below_bind (omega arith) (extension_below y.1) (λ extension no_more.
    below_bind (omega arith) (mark_below 41 extension.1) (λ close last.
    below_some (ToPoint x.0 y.0 extension.0) close.1 last)))))

pub first_point_below : (words : Words) → Below (length words) (first_point_at words)
unfolding first_point_at
first_point_below words =
    below_bind (omega arith) (mark_below 40 words) (λ open_ less.
    below_bind (omega arith) (whole_below open_.1) (λ x fewer.
    below_bind (omega arith) (whole_below x.1) (λ y shorter.
    below_bind (omega arith) (extension_below y.1) (λ extension no_more.
    below_bind (omega arith) (mark_below 41 extension.1) (λ close last.
    below_some (record { x = x.0; y = y.0 }, extension.0) close.1 last)))))

rect_item_below : (words : Words) → Below (length words) (rect_item words)
unfolding rect_item
rect_item_below words =
    below_bind (omega arith) (keyword_below (codes "RECT") words) (λ start first.
    below_bind (omega arith) (mark_below 40 start.1) (λ open_ less.
    below_bind (omega arith) (whole_below open_.1) (λ a w.
    below_bind (omega arith) (whole_below a.1) (λ b x.
    below_bind (omega arith) (whole_below b.1) (λ c y.
    below_bind (omega arith) (whole_below c.1) (λ d z.
    below_bind (omega arith) (mark_below 41 d.1) (λ close last.
    below_ask (rect_between (record { x = a.0; y = b.0 }) (record { x = c.0; y = d.0 })) (λ rect.
    below_some (AtRect rect) close.1 last))))))))

past_north_below : (words : Words) → Below (suc (length words)) (past_north words)
unfolding past_north
past_north_below words =
    below_if (is_at (codes "N") words)
    (below_more (omega arith) (keyword_below (codes "N") words))
    (below_some tt words (omega arith))

orient_below : (words : Words) → Below (length words) (orient_at words)
unfolding orient_at
orient_below words =
    below_bind (omega arith) (next_below words) (λ word less. below_ask (orient_of word.0) (λ orient. below_some orient word.1 less))

turn_of_via_below : (scope : NetScopeModel) (via : ℕ) (words : Words) → Below (suc (length words)) (turn_of_via_at scope via words)
unfolding turn_of_via_at
turn_of_via_below scope via words =
    below_bind (omega arith) (orient_below words) (λ orient less.
    below_ask (turn_number scope.turned via orient.0) (λ number. below_some number orient.1 (omega (arith, less))))

-- the number of a turned via, by the orientation that comes next
abbrev turn_by : List TurnedVia → ℕ → Option (Orient × Words) → Option (ℕ × Words)
turn_by turned via orient = do
  way ← orient
  number ← turn_number turned via way.0
  Some (number, way.1)

-- where no via is turned, no orientation is read
pub none_is_turned : (scope : NetScopeModel) (via : ℕ) (words : Words) → length scope.turned ≡ 0 → turn_of_via_at scope via words ≡ None
unfolding turn_of_via_at
none_is_turned scope via words none = by scope.turned none (orient_at words) where
  by : (turned : List TurnedVia) → length turned ≡ 0 → (orient : Option (Orient × Words))
      → turn_by turned via orient ≡ None
  by [] nothing None = refl
  by [] nothing (Some orient) = refl
  by (one ∷ others) nothing orient = absurd (omega (arith, nothing))

upright_via_below : (via : ℕ) (words : Words) → Below (suc (length words)) (upright_via_at via words)
unfolding upright_via_at
upright_via_below via words = below_bind (omega arith) (past_north_below words) (λ north last. below_some via north.1 last)

pub via_below : (scope : NetScopeModel) (words : Words) → Below (length words) (via_at scope words)
unfolding via_at
via_below scope words =
    below_bind (omega arith) (name_below words) (λ name less.
    below_ask (unless (is_wiring_word name.0)) (λ other.
    below_ask (via_named scope name.0) (λ via.
    below_more (omega arith) (below_either _ _ (turn_of_via_below scope via name.1) (upright_via_below via name.1)))))

via_item_below : (scope : NetScopeModel) (words : Words) → Below (length words) (via_item scope words)
unfolding via_item
via_item_below scope words =
    below_bind (omega arith) (via_below scope words) (λ via less. below_some (AtVia via.0) via.1 less)

number_from_one_below : (words : Words) → Below (length words) (number_from_one words)
unfolding number_from_one
number_from_one_below words =
    below_bind (omega arith) (count_below words) (λ number less.
    below_ask (when (not (unsigned_abs number.0 == 0))) (λ some.
    below_some (unsigned_abs number.0) number.1 less))

array_below : (words : Words) → Below (length words) (array_at words)
unfolding array_at
array_below words =
    below_bind (omega arith) (keyword_below (codes "DO") words) (λ start first.
    below_bind (omega arith) (number_from_one_below start.1) (λ columns c.
    below_bind (omega arith) (keyword_below (codes "BY") columns.1) (λ by b.
    below_bind (omega arith) (number_from_one_below by.1) (λ rows r.
    below_ask (when (nat_le (columns.0 * rows.0) PART_LIMIT)) (λ few.
    below_bind (omega arith) (keyword_below (codes "STEP") rows.1) (λ step s.
    below_bind (omega arith) (whole_below step.1) (λ x less.
    below_bind (omega arith) (whole_below x.1) (λ y last.
    below_some (record { columns = columns.0; rows = rows.0; x_step = x.0; y_step = y.0 }) y.1 last))))))))

-- behind a via there may be no more of it
array_of_via_below : (via : ℕ) (words : Words) → Below (suc (length words)) (array_of_via via words)
unfolding array_of_via
array_of_via_below via words =
    below_if (is_at (codes "DO") words)
    (below_bind (omega arith) (array_below words) (λ array less. below_some (AtArray via array.0) array.1 (omega arith)))
    (below_some (AtVia via) words (omega arith))

via_or_array_below : (scope : NetScopeModel) (words : Words) → Below (length words) (via_or_array_item scope words)
unfolding via_or_array_item
via_or_array_below scope words =
    below_bind (omega arith) (via_below scope words) (λ via less.
    below_more (omega arith) (array_of_via_below via.0 via.1))

virtual_item_below : (words : Words) → Below (length words) (virtual_item words)
unfolding virtual_item
virtual_item_below words =
    below_bind (omega arith) (keyword_below (codes "VIRTUAL") words) (λ start first.
    below_bind (omega arith) (mark_below 40 start.1) (λ open_ less.
    below_bind (omega arith) (coordinate_below open_.1) (λ x fewer.
    below_bind (omega arith) (coordinate_below x.1) (λ y shorter.
    below_bind (omega arith) (mark_below 41 y.1) (λ close last.
    below_some (ToVirtual x.0 y.0) close.1 last)))))

other_item_below : (profile : Profile) (scope : NetScopeModel) (special : Bool) (words : Words) → Below (length words) (other_item profile scope special words)
unfolding other_item
other_item_below Narrow scope special words = via_item_below scope words
other_item_below (Wide masks soft) scope special words =
    below_if special (via_or_array_below scope words)
    (below_if (is_at (codes "VIRTUAL") words) (virtual_item_below words) (via_item_below scope words))

without_mask_below : (scope : NetScopeModel) (special : Bool) (words : Words) → Below (length words) (item_without_mask scope special words)
unfolding item_without_mask
without_mask_below scope special words =
    below_if (is_at (codes "(") words) (point_item_below words)
    (below_if (is_at (codes "RECT") words && not special) (rect_item_below words) (other_item_below scope.profile scope special words))

pub mask_below : (words : Words) → Below (length words) (mask_at words)
unfolding mask_at
mask_below words =
    below_bind (omega arith) (keyword_below (codes "MASK") words) (λ start less.
    below_bind (omega arith) (whole_below start.1) (λ number last. below_some tt number.1 last))

past_mask_below : (profile : Profile) (words : Words) → Below (suc (length words)) (past_mask profile words)
unfolding past_mask
past_mask_below profile words =
    below_if (at_mask profile words)
    (below_more (omega arith) (mask_below words))
    (below_some tt words (omega arith))

-- a form that takes a word, behind one that may take none
after_left : {X Y : Type 0} (n : ℕ) (said : Option (X × Words)) (next : X × Words → Option (Y × Words)) → Below (suc n) said
    → ((x : X × Words) → Below (length x.1) (next x)) → (y : Y) (rest : Words) → (said >>= next) ≡ Some (y, rest) → length rest < n
after_left n None next first more y rest is = absurd (let e : ⊥ = cc in e)
after_left n (Some x) next first more y rest is =
    let no_more = first.left x.0 x.1 refl in
    let less = (more x).left y rest is in
    omega arith

item_below : (scope : NetScopeModel) (special : Bool) (words : Words) → Below (length words) (item_at scope special words)
unfolding item_at
item_below scope special words = record {
  left = after_left (length words) (past_mask scope.profile words) (λ mask. item_without_mask scope special mask.1)
      (past_mask_below scope.profile words) (λ mask. without_mask_below scope special mask.1);
}

pub one_item_shortens : (scope : NetScopeModel) (special : Bool) → Shortens (one_item scope special)
unfolding one_item
one_item_shortens scope special items words =
    below_bind (omega arith) (item_below scope special words) (λ item less. below_some (items ++ item.0 ∷ []) item.1 less)

pub one_item_shorter : (scope : NetScopeModel) (special : Bool) (items next : List Item) (words rest : Words)
    → one_item scope special items words ≡ Some (next, rest) → length rest < length words
one_item_shorter scope special items next words rest said = (one_item_shortens scope special items words).left next rest said

-- in small letters, only the plus is the plus
small_plus : (b : ℕ) → to_ascii_lowercase b ≡ 43 → b ≡ 43
small_plus b is = by (nat_lt b 65) refl (nat_lt b 91) refl where
  by : (low : Bool) → nat_lt b 65 ≡ low → (high : Bool) → nat_lt b 91 ≡ high → b ≡ 43
  by true low high _ = rw low at is
  by false low true high = absurd (let sum : b + 32 ≡ 43 = rw (low, high) at is in grind (arith, nat_tests, sum, low))
  by false low false high = rw (low, high) at is

plus_alone : (word : List ℕ) → map to_ascii_lowercase word ≡ 43 ∷ [] → word ≡ 43 ∷ []
plus_alone [] is = absurd (let e : ⊥ = cc in e)
plus_alone (b ∷ []) is = ap (λ c. c ∷ []) (small_plus b (ap (λ bytes. get_or bytes 0 0) is))
plus_alone (b ∷ c ∷ bytes) is = absurd (let e : ⊥ = cc in e)

-- whether a word is the plus, asked in small letters or not
plus_either_way : (word : List ℕ) → is_keyword (codes "+") word ≡ bytes_eq word (codes "+")
plus_either_way word = by (bytes_eq word (43 ∷ [])) refl (bytes_eq (map to_ascii_lowercase word) (43 ∷ [])) refl where
  by : (plain : Bool) → bytes_eq word (43 ∷ []) ≡ plain → (small : Bool) → bytes_eq (map to_ascii_lowercase word) (43 ∷ []) ≡ small
      → is_keyword (codes "+") word ≡ bytes_eq word (codes "+")
  by true p true q = q ∙ sym p
  by false p false q = q ∙ sym p
  by true p false q = absurd (names_apart (map to_ascii_lowercase word) (43 ∷ []) q (ap (map to_ascii_lowercase) (same_name word (43 ∷ []) p)))
  by false p true q = absurd (names_apart word (43 ∷ []) p (plus_alone word (same_name (map to_ascii_lowercase word) (43 ∷ []) q)))

-- where the items end
pub path_ends : (words : Words) → words ≡ [] → at_path_end words ≡ true
path_ends words none = rw none refl

pub path_ends_at_word : (words : Words) → (words ≡ [] → ⊥) → at_path_end words ≡ (is_at (codes "NEW") words || is_at (codes "+") words)
path_ends_at_word [] some = absurd (some refl)
path_ends_at_word (word ∷ words) some = rw (plus_either_way word) refl
