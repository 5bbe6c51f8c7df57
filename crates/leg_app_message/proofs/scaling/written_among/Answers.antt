use Rattle.std.proofs.Common.{rules, ◌≡◌, get_or}
use Rattle.leg_lex.specs.Word.{Word}
use Rattle.leg_app_message.specs.Form.{from_form, words_of_form}
use Rattle.leg_app_message.proofs.Forms.{begins_with}
use Rattle.leg_app_message.proofs.scaling.written_among.Goals as goal

pub returns-clause-there : goal.returns-clause-there
returns-clause-there g c =
    let name = c.args.fault.now.name in
    let words = c.args.words.now in
    let form : Word = record { text = c.form.inside.text.now; line = c.form.inside.line } in
    let first : get_or c.from_form-rest.result.now 0 form ≡ form = search rules in
    let rest : c.from_form-rest.result.now ≡ from_form name words = rw c.bytes-name.ensures at c.from_form-rest.ensures in
    let of : c.up_to_end.result.now ≡ words_of_form name words = rw (c.bytes-name.ensures, rest) at c.up_to_end.ensures in (
      begins_with name words c.from_form-rest.result.now form form rest c.in-len1-up.len_at_least first,
      rw (of, ← c.length.view_is) at c.in_ok-length.ensures.there,
    )

pub returns-clause-kept : goal.returns-clause-kept
returns-clause-kept g c = rw (← c.length.view_is) at c.in_ok-length.ensures.kept
