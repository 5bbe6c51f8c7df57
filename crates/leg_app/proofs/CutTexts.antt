-- A text that is cut beyond the limit says what the whole of it says, and nothing else.
use Rattle.std.proofs.Common.{◌≡◌, ◌≤◌, ◌<◌, ℕ, List, [], ◌∷◌, length, map, take, inl, inr, sym, subst, arith}
use Rattle.std.proofs.lemmas.Bool.{cases_lt}
use Rattle.std.proofs.lemmas.List.{take_all, length-take-le}
use Rattle.leg_lex.specs.declared.limits.TheConstants.{TEXT_LIMIT}
use Rattle.leg_lex.specs.Words.{Words}
use Rattle.std.proofs.Common.{Option}
use Rattle.leg_lex.specs.Denotes.{Denotes}
use Rattle.leg_lib_records.specs.Records.{LibraryModel}
use Rattle.leg_grammar.specs.declared.profile.Profile.{Profile}
use Rattle.leg_grammar.specs.Lef.Form.{LefParts, no_lef_parts, lef_in}
use Rattle.leg_grammar.specs.Lef.Library.{Extend}
use Rattle.leg_design_records.specs.Records.{DesignModel}
use Rattle.leg_grammar.specs.Def.Header.{units_in}
use Rattle.leg_grammar.specs.Def.Form.{design_in}
use Rattle.leg_app_input.specs.declared.command.Command.{Command}
use Rattle.leg_app.specs.declared.status.Status.{Status}
use Rattle.leg_app.specs.declared.status.Status.TheVariants.{Success, Violations, Refused, Unsolved, Memory}
use Rattle.leg_grammar.specs.Texts.{DenoteDesign}
use Rattle.leg_app.specs.Results.{PrintsMade, ReportsUnsolved}
use Rattle.leg_app.specs.Answer.{ListsViolations, ReportsWirelength, IsAnswer}

-- a limit beyond that of texts
module _ (limit : ℕ) (beyond : TEXT_LIMIT < limit) where
  -- a cut text that isn't too long is whole
  whole : (text : List ℕ) → length (take limit text) ≤ TEXT_LIMIT → take limit text ≡ text
  whole text short =
      elim (cases_lt (length text) limit) [
        | inl fits ↦ take_all limit text (omega (arith, fits))
        | inr long ↦ absurd (let size = length-take-le limit text long in omega (arith, beyond, size, short))
      ]

  whole_text : (text : List ℕ) → length text ≤ TEXT_LIMIT → take limit text ≡ text
  whole_text text short = take_all limit text (omega (arith, beyond, short))

  module _ {Said : Type 0} (reading : Words → Option Said) (text : List ℕ) (said : Said) where
    cut_says : Denotes reading (take limit text) said → Denotes reading text said
    cut_says says = subst (λ t. Denotes reading t said) (whole text says.fits) says

    says_cut : Denotes reading text said → Denotes reading (take limit text) said
    says_cut says = subst (λ t. Denotes reading t said) (sym (whole_text text says.fits)) says

  cut_extends : (before parts : LefParts) (lefs : List (List ℕ)) → Extend before (map (take limit) lefs) parts → Extend before lefs parts
  cut_extends before parts [] extends = extends
  cut_extends before parts (lef ∷ lefs) extends = (extends.0, cut_says (lef_in before) lef extends.0 extends.1, cut_extends extends.0 parts lefs extends.2)

  extends_cut : (before parts : LefParts) (lefs : List (List ℕ)) → Extend before lefs parts → Extend before (map (take limit) lefs) parts
  extends_cut before parts [] extends = extends
  extends_cut before parts (lef ∷ lefs) extends = (extends.0, says_cut (lef_in before) lef extends.0 extends.1, extends_cut extends.0 parts lefs extends.2)

  module _ (profile : Profile) (lefs : List (List ℕ)) (def : List ℕ) where
    cut_designs : (library : LibraryModel) (design : DesignModel) → DenoteDesign profile (map (take limit) lefs) (take limit def) library design
        → DenoteDesign profile lefs def library design
    cut_designs library design say = record {
      under = record {
        raw = say.under.raw;
        units = say.under.units;
        lef = (say.under.lef.0, cut_extends (no_lef_parts profile) say.under.lef.0 lefs say.under.lef.1, say.under.lef.2);
        unit = cut_says units_in def say.under.units say.under.unit;
        scaled = say.under.scaled;
      };
      said = cut_says (design_in profile library) def design say.said;
    }

    designs_cut : (library : LibraryModel) (design : DesignModel) → DenoteDesign profile lefs def library design
        → DenoteDesign profile (map (take limit) lefs) (take limit def) library design
    designs_cut library design say = record {
      under = record {
        raw = say.under.raw;
        units = say.under.units;
        lef = (say.under.lef.0, extends_cut (no_lef_parts profile) say.under.lef.0 lefs say.under.lef.1, say.under.lef.2);
        unit = says_cut units_in def say.under.units say.under.unit;
        scaled = say.under.scaled;
      };
      said = says_cut (design_in profile library) def design say.said;
    }

    cut_lists : (command : Command) (status : Status) (text : List ℕ) → ListsViolations command profile (map (take limit) lefs) (take limit def) status text
        → ListsViolations command profile lefs def status text
    cut_lists command status text lists = record {
      library = lists.library;
      design = lists.design;
      flat = lists.flat;
      violations = lists.violations;
      say = cut_designs lists.library lists.design lists.say;
      shown = lists.shown;
      list = lists.list;
      is = lists.is;
    }

    cut_measures : (command : Command) (text : List ℕ) → ReportsWirelength command profile (map (take limit) lefs) (take limit def) text
        → ReportsWirelength command profile lefs def text
    cut_measures command text told = record {
      measures = told.measures;
      library = told.library;
      design = told.design;
      length = told.length;
      say = cut_designs told.library told.design told.say;
      measured = told.measured;
      is = told.is;
    }

    cut_made : (command : Command) (text : List ℕ) → PrintsMade command profile (map (take limit) lefs) (take limit def) text
        → PrintsMade command profile lefs def text
    cut_made command text printed = record {
      library = printed.library;
      design = printed.design;
      say = cut_designs printed.library printed.design printed.say;
      made = printed.made;
    }

    cut_unsolved : (command : Command) (text : List ℕ) → ReportsUnsolved command profile (map (take limit) lefs) (take limit def) text
        → ReportsUnsolved command profile lefs def text
    cut_unsolved command text told = record {
      library = told.library;
      design = told.design;
      say = cut_designs told.library told.design told.say;
      reason = told.reason;
    }

    pub cut_answers : (command : Command) (status : Status) (text : List ℕ) → IsAnswer command profile (map (take limit) lefs) (take limit def) status text
        → IsAnswer command profile lefs def status text
    cut_answers command Success text (inl lists) = inl (cut_lists command Success text lists)
    cut_answers command Success text (inr (inl told)) = inr (inl (cut_measures command text told))
    cut_answers command Success text (inr (inr printed)) = inr (inr (cut_made command text printed))
    cut_answers command Unsolved text told = cut_unsolved command text told
    cut_answers command Violations text answer = cut_lists command Violations text answer
    cut_answers command Memory text answer = answer
    cut_answers command Refused text (inl refusal) = inl (record {
      nothing = λ library design say. refusal.nothing library design (designs_cut library design say);
      reason = refusal.reason;
    })
    cut_answers command Refused text (inr much) = inr (record {
      flattens = much.flattens;
      many = record {
        library = much.many.library;
        design = much.many.design;
        say = cut_designs much.many.library much.many.design much.many.say;
        many = much.many.many;
      };
      is = much.is;
    })
