-- Sites (LEF/DEF 5.8, "Site"; that a second definition of the same size adds nothing is lefdef's own rule).
use Rattle.std.specs.Prelude.{ℕ, Bool, ◌&&◌, if◌then◌else◌, List, [], ◌∷◌, ◌++◌, Option, None, Some, codes, slice_get}
use Rattle.std.specs.Ordering.{int_eq}
use Rattle.leg_lex.specs.Words.{Words, ◌>>=◌, keyword_at, name_at, end_of}
use Rattle.leg_lex.specs.Statements.{statements_at, the}
use Rattle.leg_lex.specs.NameLookup.{place_of}
use Rattle.leg_lib_records.specs.declared.raw.RawSite.{RawSite}
use Rattle.leg_lib_records.specs.Measure.{ExtentModel}
use Rattle.leg_lib_records.specs.Records.{RawLibraryModel, raw_site_names}
use Rattle.leg_grammar.specs.Lef.Point.{size_in}

-- SITE NAME statements END NAME: the one SIZE gives its size, and the rest is read past
unfoldable pub site_at : Words → Option (RawSite × Words)
site_at words = do
  start ← keyword_at (codes "SITE") words
  name ← name_at start.1
  body ← statements_at name.1
  statement ← the (codes "SIZE") body.0
  size ← size_in statement
  end ← end_of name.0 body.1
  Some (record { name = name.0; size = size }, end.1)

abbrev pub is_same_size : ExtentModel → ExtentModel → Bool
is_same_size a b = int_eq a.width b.width && int_eq a.height b.height

-- A site under a new name is added. A second definition of a name adds nothing where the size is the
-- same, and else has no meaning.
abbrev pub add_site : Option RawSite → RawSite → RawLibraryModel → Option RawLibraryModel
add_site None site library = Some (record library { sites = library.sites ++ site ∷ [] })
add_site (Some before) site library = if is_same_size before.size site.size then Some library else None

abbrev pub site_named : List ℕ → RawLibraryModel → Option RawSite
site_named name library = place_of name (raw_site_names library) >>= λ k. slice_get library.sites k

unfoldable pub with_site : RawLibraryModel → Words → Option (RawLibraryModel × Words)
with_site library words = do
  site ← site_at words
  added ← add_site (site_named site.0.name library) site.0 library
  Some (added, site.1)
