-- The shapes of ports and of obstructions: the words after a layer's name, and how many words are left.
use Rattle.std.proofs.Common.{◌≡◌, ℕ, suc, ◌+◌, ◌<◌, ◌≤◌, Bool, true, false, ◌&&◌, List, [], ◌∷◌, ◌++◌, length, take, get_or, map, None, Some, codes, refl, sym, ap, ◌∙◌, append_assoc, append-nil, arith}
use Rattle.std.specs.List.{list_all}
use Rattle.std.proofs.lemmas.Bool.{and_parts}
use Rattle.std.proofs.lemmas.List.{take_more, take_all, map-append}
use Rattle.leg_lex.specs.Words.{Words, is_word, is_at, next_at, word_at}
use Rattle.leg_lex.specs.Until.{over}
use Rattle.leg_lex.proofs.Parts.{rest_is}
use Rattle.leg_lex.proofs.Shorter.{word_below}
use Rattle.leg_lex.proofs.Statements.{statements_below}
use Rattle.leg_lex.proofs.Until.{Below, below_some, below_bind, below_ask}
use Rattle.leg_geom.specs.Plane.{RectModel}
use Rattle.leg_lib_records.specs.declared.raw.RawShape.{RawShape}
use Rattle.leg_lib_records.specs.Records.{RawLibraryModel}
use Rattle.leg_grammar.specs.declared.profile.Profile.{Profile}
use Rattle.leg_grammar.specs.Lef.Geometry.{refuses_exceptions, says_nothing, nothing_drawn, shapes_on, geometry_part, geometry_at}

-- one more word that says nothing
pub nothing_more_said : (profile : Profile) (words rest : Words) (word : List ℕ) (all : Bool) → word_at words ≡ Some (word, rest)
    → (refuses_exceptions profile && is_at (codes "EXCEPTPGNET") words) ≡ false → list_all (says_nothing profile) words ≡ all
    → list_all (says_nothing profile) rest ≡ all
unfolding word_at next_at
nothing_more_said profile [] rest word all said other before = absurd (let e : ⊥ = cc in e)
nothing_more_said profile (first ∷ words) rest word all said other before = by (is_word first) refl where
  by : (test : Bool) → is_word first ≡ test → list_all (says_nothing profile) rest ≡ all
  by false is = absurd (let e : ⊥ = cc (rw is at said) in e)
  by true is =
      let same : words ≡ rest = rest_is first word words rest (rw is at said) in
      rw (← same) (rw (is, other) at before)

-- a word that is no name and not quoted, which may not stand there
pub other_said : (profile : Profile) (words : Words) → word_at words ≡ None → (words ≡ [] → ⊥) → list_all (says_nothing profile) words ≡ false
unfolding word_at next_at
other_said profile [] said some = absurd (some refl)
other_said profile (first ∷ words) said some = by (is_word first) refl where
  by : (test : Bool) → is_word first ≡ test → list_all (says_nothing profile) (first ∷ words) ≡ false
  by false is = rw is refl
  by true is = absurd (let e : ⊥ = cc (rw is at said) in e)

pub exception_said : (profile : Profile) (words : Words) → (refuses_exceptions profile && is_at (codes "EXCEPTPGNET") words) ≡ true
    → list_all (says_nothing profile) words ≡ false
exception_said profile [] there = absurd (let e : ⊥ = cc (and_parts (refuses_exceptions profile) false there).1 in e)
exception_said profile (first ∷ words) there = by (is_word first) refl where
  by : (test : Bool) → is_word first ≡ test → list_all (says_nothing profile) (first ∷ words) ≡ false
  by false is = rw is refl
  by true is = rw (is, there) refl

pub all_said_nothing : (profile : Profile) (words : Words) → words ≡ [] → list_all (says_nothing profile) words ≡ true
all_said_nothing profile words none = rw none refl

pub word_shorter : (words rest : Words) (word : List ℕ) → word_at words ≡ Some (word, rest) → length rest < length words
word_shorter words rest word said = (word_below words).left word rest said

-- a port may have no statements
pub geometry_below : (profile : Profile) (library : RawLibraryModel) (words : Words) → Below (suc (length words)) (geometry_at profile library words)
unfolding geometry_at
geometry_below profile library words =
    below_bind (omega arith) (statements_below words) (λ body less.
    below_ask (over (geometry_part profile library) nothing_drawn body.0) (λ drawn.
    below_some drawn.shapes body.1 less))

-- rectangles that become shapes of a layer, one after the other
pub no_shape_more : (layer : ℕ) (shapes : List RawShape) (rects : List RectModel) → shapes ≡ shapes ++ shapes_on layer (take 0 rects)
no_shape_more layer shapes rects = sym (append-nil shapes)

pub one_shape_more : (layer : ℕ) (before made next : List RawShape) (rects : List RectModel) (i : ℕ) (rect : RectModel) → i < length rects
    → rect ≡ get_or rects i rect → made ≡ before ++ shapes_on layer (take i rects) → next ≡ made ++ record { layer = layer; rect = rect } ∷ []
    → next ≡ before ++ shapes_on layer (take (i + 1) rects)
one_shape_more layer before made next rects i rect less is so_far more =
    let shape : RectModel → RawShape = λ r. record { layer = layer; rect = r } in
    let taken : take (i + 1) rects ≡ take i rects ++ rect ∷ [] = take_more rects i rect less ∙ ap (λ r. take i rects ++ r ∷ []) (sym is) in
    let mapped : shapes_on layer (take (i + 1) rects) ≡ shapes_on layer (take i rects) ++ shape rect ∷ [] =
    ap (map shape) taken ∙ map-append shape (take i rects) (rect ∷ []) in
    more ∙ ap (λ s. s ++ shape rect ∷ []) so_far ∙ append_assoc before (shapes_on layer (take i rects)) (shape rect ∷ [])
    ∙ ap (λ s. before ++ s) (sym mapped)

pub all_shapes : (layer : ℕ) (before made : List RawShape) (rects : List RectModel) (i : ℕ) → length rects ≤ i
    → made ≡ before ++ shapes_on layer (take i rects) → made ≡ before ++ shapes_on layer rects
all_shapes layer before made rects i past so_far = so_far ∙ ap (λ r. before ++ shapes_on layer r) (take_all i rects past)
