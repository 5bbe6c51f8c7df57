-- The text of a design with lines of moves after it says what the text of the design says.
use Rattle.std.proofs.Common.{◌≡◌, ℕ, ◌≤◌, Bool, true, false, if◌then◌else◌, List, [], ◌∷◌, ◌++◌, length, length-append, All, ℤ, pos, int_lt, Option, codes, refl, sym, subst, arith}
use Rattle.std.specs.Fmt.{signed_decimal}
use Rattle.std.proofs.lemmas.List.{append_assoc}
use Rattle.std.proofs.lemmas.List.Elements.{All-head, All-tail}
use Rattle.leg_lex.specs.declared.limits.TheConstants.{TEXT_LIMIT}
use Rattle.leg_lex.specs.Words.{Words, is_name}
use Rattle.leg_lex.specs.Denotes.{Denotes}
use Rattle.leg_print_words.proofs.Lines.{Lines, lines_nil, lines_append}
use Rattle.leg_lib_records.specs.Records.{LibraryModel}
use Rattle.leg_design_records.specs.declared.records.Component.{Component}
use Rattle.leg_design_records.specs.Records.{DesignModel}
use Rattle.leg_design_records.specs.WellFormedParts.{IsComponent}
use Rattle.leg_design_records.specs.WellFormed.{IsWellFormed}
use Rattle.leg_output.specs.Text.Header.{header_text}
use Rattle.leg_output.specs.Text.Whole.{rows_text, tracks_text, vias_text, components_text, pins_text, blockages_text, nets_text, design_text}
use Rattle.leg_output.specs.Commands.Legalise.{move_line, move_lines, length_line, total_lines, legalised_text}
use Rattle.leg_app_laws.proofs.NoFeeds.{HasNoFeed, feed_append, name_feed, number_feed}
use Rattle.leg_app_laws.proofs.Comments.{EndsLine, comment_line, says_before}

-- what the text of a design has before its last line
abbrev before_end : DesignModel → List ℕ
before_end design =
    header_text design ++ rows_text design design.rows ++ tracks_text design design.tracks
    ++ vias_text design design.vias ++ components_text design design.components
    ++ pins_text design design.pins ++ blockages_text design design.blockages
    ++ nets_text design true design.special ++ nets_text design false design.nets

pub text_ends : (design : DesignModel) → EndsLine (design_text design)
unfolding design_text
text_ends design = record {
  front = before_end design ++ codes "END DESIGN";
  is = sym (append_assoc (before_end design) (codes "END DESIGN") (10 ∷ []));
}

-- The lines of moves, of their sum and of the greatest are comments.
if_lines : (test : Bool) (text : List ℕ) → Lines text [] → Lines (if test then text else []) []
if_lines true text lines = lines
if_lines false text lines = lines_nil

move_comment : (component : Component) (distance : ℤ) → is_name component.name ≡ true → Lines (move_line component distance) []
move_comment component distance name =
    let front = codes " move " ++ component.name in
    let numbered = front ++ codes " " in
    if_lines (int_lt (pos 0) distance) (codes "# move " ++ component.name ++ codes " " ++ signed_decimal distance ++ codes "\n")
    (comment_line (numbered ++ signed_decimal distance)
    (feed_append numbered (signed_decimal distance)
    (feed_append front (codes " ") (feed_append (codes " move ") component.name refl (name_feed component.name name)) refl)
    (number_feed distance)))

move_comments : (library : LibraryModel) (components : List Component) (distances : List ℤ) → All (IsComponent library) components
    → Lines (move_lines components distances) []
move_comments library [] distances each = lines_nil
move_comments library (component ∷ components) [] each = lines_nil
move_comments library (component ∷ components) (distance ∷ distances) each =
    let here = All-head (IsComponent library) component components each in
    lines_append (move_comment component distance here.name)
    (move_comments library components distances (All-tail (IsComponent library) component components each))

length_comment : (bytes : List ℕ) (z : ℤ) → HasNoFeed bytes → Lines (length_line (35 ∷ bytes) z) []
length_comment bytes z none = comment_line (bytes ++ signed_decimal z) (feed_append bytes (signed_decimal z) none (number_feed z))

total_comments : (total greatest : ℤ) → Lines (total_lines total greatest) []
total_comments total greatest = lines_append (length_comment (codes " total ") total refl) (length_comment (codes " greatest ") greatest refl)

-- the text of the design is no longer than that with lines after it
pub design_fits : (design : DesignModel) (distances : List ℤ) (total greatest : ℤ) → length (legalised_text design distances total greatest) ≤ TEXT_LIMIT
    → length (design_text design) ≤ TEXT_LIMIT
design_fits design distances total greatest fits =
    let moves = move_lines design.components distances in
    omega (arith, length-append (design_text design ++ moves) (total_lines total greatest), length-append (design_text design) moves)

pub says_with_moves : {Said : Type 0} (reading : Words → Option Said) (said : Said) (design : DesignModel) (distances : List ℤ) (total greatest : ℤ)
    → IsWellFormed design
    → length (legalised_text design distances total greatest) ≤ TEXT_LIMIT → Denotes reading (design_text design) said
    → Denotes reading (legalised_text design distances total greatest) said
says_with_moves reading said design distances total greatest well fits says =
    let moves = move_lines design.components distances in
    let totals = total_lines total greatest in
    let whole : design_text design ++ (moves ++ totals) ≡ legalised_text design distances total greatest =
    sym (append_assoc (design_text design) moves totals) in
    let comments : Lines (moves ++ totals) [] =
    lines_append (move_comments design.library design.components distances well.components.each) (total_comments total greatest) in
    subst (λ t. Denotes reading t said) whole
    (says_before reading (design_text design) (moves ++ totals) said (text_ends design) comments (subst (λ t. length t ≤ TEXT_LIMIT) (sym whole) fits) says)
