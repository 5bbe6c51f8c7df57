-- What is read as a name is one, and a size has area.
use Rattle.std.proofs.Common.{◌≡◌, true, ◌&&◌, Some, IsTrue, ℤ, pos, int_lt, codes}
use Rattle.std.proofs.lemmas.Bool.{and_parts}
use Rattle.leg_lemmas.proofs.Integers.{lt_from_test}
use Rattle.leg_lex.specs.Words.{Words, is_name, next_at, keyword_at, name_at, length_at, end_of, nothing_at}
use Rattle.leg_lex.specs.Until.{until}
use Rattle.leg_lex.specs.Statements.{statements_at, the, at_end}
use Rattle.leg_lex.proofs.Gives.{Gives, gives_none, gives_some, gives_bind, gives_skip, gives_choice}
use Rattle.leg_lib_records.specs.declared.raw.RawLayer.{RawLayer}
use Rattle.leg_lib_records.specs.declared.raw.RawSite.{RawSite}
use Rattle.leg_lib_records.specs.Measure.{HasArea}
use Rattle.leg_lib_records.specs.Records.{RawLibraryModel, RawViaModel, RawMasterModel}
use Rattle.leg_grammar.specs.declared.profile.Profile.{Profile}
use Rattle.leg_grammar.specs.Lef.Layer.{kind_in, spacing_of, layer_at}
use Rattle.leg_grammar.specs.Lef.Point.{size_in}
use Rattle.leg_grammar.specs.Lef.Site.{site_at}
use Rattle.leg_grammar.specs.Lef.Via.{flags_at, via_parts_in, via_at}
use Rattle.leg_grammar.specs.Lef.Macro.{macro_part, no_macro_parts, macro_said, macro_at}

pub name_gives : (words : Words) → Gives (λ said. IsTrue (is_name said.0)) (name_at words)
unfolding name_at
name_gives words =
    gives_skip (next_at words) (λ next.
    gives_choice (is_name next.0) (λ named. gives_some _ named) (λ none. gives_none))

both_above : (width height : ℤ) → (int_lt (pos 0) width && int_lt (pos 0) height) ≡ true → HasArea (record { width = width; height = height })
both_above width height above =
    let each = and_parts (int_lt (pos 0) width) (int_lt (pos 0) height) above in
    record { wide = lt_from_test (pos 0) width each.0; high = lt_from_test (pos 0) height each.1 }

size_gives : (statement : Words) → Gives HasArea (size_in statement)
unfolding size_in
size_gives statement =
    gives_skip (keyword_at (codes "SIZE") statement) (λ start.
    gives_skip (length_at start.1) (λ width.
    gives_skip (keyword_at (codes "BY") width.1) (λ by.
    gives_skip (length_at by.1) (λ height.
    gives_skip (nothing_at height.1) (λ end.
    gives_choice (int_lt (pos 0) width.0 && int_lt (pos 0) height.0) (λ above. gives_some _ (both_above width.0 height.0 above)) (λ none. gives_none))))))

layer_gives : (words : Words) → Gives (λ said. IsTrue (is_name said.0.name)) (layer_at words)
unfolding layer_at
layer_gives words =
    gives_skip (keyword_at (codes "LAYER") words) (λ start.
    gives_bind (name_gives start.1) (λ name named.
    gives_skip (statements_at name.1) (λ body.
    gives_skip (kind_in body.0) (λ kind.
    gives_skip (spacing_of body.0) (λ spacing.
    gives_skip (end_of name.0 body.1) (λ end.
    gives_some _ named))))))

pub layer_is_named : (words rest : Words) (layer : RawLayer) → layer_at words ≡ Some (layer, rest) → IsTrue (is_name layer.name)
layer_is_named words rest layer said = (layer_gives words).given (layer, rest) said

site_gives : (words : Words) → Gives (λ said. HasArea said.0.size × IsTrue (is_name said.0.name)) (site_at words)
unfolding site_at
site_gives words =
    gives_skip (keyword_at (codes "SITE") words) (λ start.
    gives_bind (name_gives start.1) (λ name named.
    gives_skip (statements_at name.1) (λ body.
    gives_skip (the (codes "SIZE") body.0) (λ statement.
    gives_bind (size_gives statement) (λ size area.
    gives_skip (end_of name.0 body.1) (λ end.
    gives_some _ (area, named)))))))

pub site_is_named : (words rest : Words) (site : RawSite) → site_at words ≡ Some (site, rest) → IsTrue (is_name site.name)
site_is_named words rest site said = ((site_gives words).given (site, rest) said).1

pub site_has_area : (words rest : Words) (site : RawSite) → site_at words ≡ Some (site, rest) → HasArea site.size
site_has_area words rest site said = ((site_gives words).given (site, rest) said).0

via_gives : (profile : Profile) (library : RawLibraryModel) (words : Words) → Gives (λ said. IsTrue (is_name said.0.name)) (via_at profile library words)
unfolding via_at
via_gives profile library words =
    gives_skip (keyword_at (codes "VIA") words) (λ start.
    gives_bind (name_gives start.1) (λ name named.
    gives_skip (statements_at (flags_at name.1).1) (λ body.
    gives_skip (via_parts_in profile library body.0) (λ parts.
    gives_skip (end_of name.0 body.1) (λ end.
    gives_some _ named)))))

pub via_is_named : (profile : Profile) (library : RawLibraryModel) (words rest : Words) (via : RawViaModel) → via_at profile library words ≡ Some (via, rest)
    → IsTrue (is_name via.name)
via_is_named profile library words rest via said = (via_gives profile library words).given (via, rest) said

macro_gives : (profile : Profile) (library : RawLibraryModel) (words : Words) → Gives (λ said. IsTrue (is_name said.0.name)) (macro_at profile library words)
unfolding macro_at
macro_gives profile library words =
    gives_skip (keyword_at (codes "MACRO") words) (λ start.
    gives_bind (name_gives start.1) (λ name named.
    gives_skip (until at_end (macro_part profile library) no_macro_parts name.1) (λ parts.
    gives_skip (macro_said library parts.0.statements) (λ said.
    gives_skip (end_of name.0 parts.1) (λ end.
    gives_some _ named)))))

pub macro_is_named : (profile : Profile) (library : RawLibraryModel) (words rest : Words) (master : RawMasterModel)
    → macro_at profile library words ≡ Some (master, rest)
    → IsTrue (is_name master.name)
macro_is_named profile library words rest master said = (macro_gives profile library words).given (master, rest) said
