use Rattle.std.proofs.Common.{◌≡◌, ◌+◌, true, false, Some, length, codes, sym, subst}
use Rattle.std.specs.List.{after_first}
use Rattle.std.specs.Str.{bytes_eq}
use Rattle.std.proofs.lemmas.Grind.{common_steps}
use Rattle.std.proofs.Common.{arith}
use Rattle.leg_lex.specs.Words.{Words, keyword_at, name_at}
use Rattle.leg_drc_rules.specs.Section.{is_end, at_semicolon}
use Rattle.leg_drc_rules.specs.Steps.Memory.{AreBehindEnd}
use Rattle.leg_drc_rules.proofs.Memories.{named_rest, section_there, section_within}
use Rattle.leg_drc_rules.proofs.section.section_from.Goals as goal

pub look_behind_end-requires : goal.look_behind_end-requires
look_behind_end-requires c =
    let first : keyword_at (codes "LAYER") c.args.words.now ≡ Some (c.in-Ok._layer, c.keyword.new.self) = cc (c.in-Ok.ensures.reads) in
    let two = named_rest (codes "LAYER") c.in-Ok._layer c.in-Ok-name.name.now c.args.words.now c.keyword.new.self c.name.new.self first
    c.in-Ok-name.ensures.reads in
    subst (λ (ws : Words). AreBehindEnd ws c.args.behind.now) (sym two) c.requires

pub returns-in_default-name-2-clause-kept : goal.returns-in_default-name-2-clause-kept
returns-in_default-name-2-clause-kept c =
    let first : keyword_at (codes "LAYER") c.args.words.now ≡ Some (c.in-Ok._layer, c.keyword.new.self) = cc (c.in-Ok.ensures.reads) in
    let two = named_rest (codes "LAYER") c.in-Ok._layer c.in-Ok-name.name.now c.args.words.now c.keyword.new.self c.name.new.self first
    c.in-Ok-name.ensures.reads in
    subst (λ (ws : Words). AreBehindEnd ws c.look_behind_end.new.behind) two c.look_behind_end.ensures.kept

pub returns-then-is_at_semicolon-clause-kept : goal.returns-then-is_at_semicolon-clause-kept
returns-then-is_at_semicolon-clause-kept c =
    let first : keyword_at (codes "LAYER") c.args.words.now ≡ Some (c.in-Ok._layer, c.keyword.new.self) = cc (c.in-Ok.ensures.reads) in
    let two = named_rest (codes "LAYER") c.in-Ok._layer c.in-Ok-name.name.now c.args.words.now c.keyword.new.self c.name.new.self first
    c.in-Ok-name.ensures.reads in
    subst (λ (ws : Words). AreBehindEnd ws c.look_behind_end.new.behind) two c.look_behind_end.ensures.kept

pub returns-then-ne-clause-kept : goal.returns-then-ne-clause-kept
returns-then-ne-clause-kept c =
    let first : keyword_at (codes "LAYER") c.args.words.now ≡ Some (c.in-Ok._layer, c.keyword.new.self) = cc (c.in-Ok.ensures.reads) in
    let two = named_rest (codes "LAYER") c.in-Ok._layer c.in-Ok-name.name.now c.args.words.now c.keyword.new.self c.name.new.self first
    c.in-Ok-name.ensures.reads in
    subst (λ (ws : Words). AreBehindEnd ws c.look_behind_end.new.behind) two c.look_behind_end.ensures.kept

pub returns-clause-kept : goal.returns-clause-kept
returns-clause-kept c =
    let first : keyword_at (codes "LAYER") c.args.words.now ≡ Some (c.in-Ok._layer, c.keyword.new.self) = cc (c.in-Ok.ensures.reads) in
    let two = named_rest (codes "LAYER") c.in-Ok._layer c.in-Ok-name.name.now c.args.words.now c.keyword.new.self c.name.new.self first
    c.in-Ok-name.ensures.reads in
    subst (λ (ws : Words). AreBehindEnd ws c.look_behind_end.new.behind) two c.look_behind_end.ensures.kept

pub returns-clause-found : goal.returns-clause-found
returns-clause-found c =
    let first : keyword_at (codes "LAYER") c.args.words.now ≡ Some (c.in-Ok._layer, c.keyword.new.self) = cc (c.in-Ok.ensures.reads) in
    let third : name_at (after_first is_end c.name.new.self) ≡ Some (c.in-Ok-name-2.end.now, c.name-2.new.self) =
    cc (c.in-Ok-name-2.ensures.reads, c.look_behind_end.ensures.found) in
    let no_mark : at_semicolon c.name.new.self ≡ false = cc (c.is_at_semicolon.ensures, c.if-is_at_semicolon.false) in
    let same : bytes_eq c.in-Ok-name-2.end.now c.in-Ok-name.name.now ≡ true = grind (arith, common_steps, c.ne.ensures, c.if-ne.false) in
    let many : c.len-left.result + 1 ≡ length (after_first is_end c.name.new.self) + 1 = cc (c.len-left.ensures, c.look_behind_end.ensures.found) in
    section_there c.in-Ok._layer c.in-Ok-name.name.now c.in-Ok-name-2.end.now c.args.words.now c.keyword.new.self c.name.new.self c.name-2.new.self
    (c.len-left.result + 1) first c.in-Ok-name.ensures.reads third no_mark same many

pub returns-clause-within : goal.returns-clause-within
returns-clause-within c =
    let third : name_at (after_first is_end c.name.new.self) ≡ Some (c.in-Ok-name-2.end.now, c.name-2.new.self) =
    cc (c.in-Ok-name-2.ensures.reads, c.look_behind_end.ensures.found) in
    let many : c.len-left.result + 1 ≡ length (after_first is_end c.name.new.self) + 1 = cc (c.len-left.ensures, c.look_behind_end.ensures.found) in
    section_within c.in-Ok-name-2.end.now c.name.new.self c.name-2.new.self (c.len-left.result + 1) third many
