use Rattle.std.proofs.Common.{◌≡◌, IfOk, inl, inr, subst}
use Rattle.std.proofs.lemmas.Result.{IfOk-weaker}
use Rattle.leg_grammar.specs.Lef.Library.{DenoteLibrary}
use Rattle.leg_app_message.specs.Texts.{TextsModel}
use Rattle.leg_app_message.specs.Message.{scale_reason, name_message}
use Rattle.leg_app_message.proofs.scaling.scale_message.Goals as goal

pub returns-in-Some : goal.returns-in-Some
returns-in-Some g c =
    let shown = c.in-Some.written in
    let there = rw c.text.ensures at c.in-Some.ensures.there in
    IfOk-weaker c.written_message.result _ _
    (λ m is. inl (record {
      number = c.loop-number.number;
      line = shown.line;
      form = shown.form.now;
      written = shown.length.now;
      words = there.0;
      are = there.1;
      there = there.2;
      library = c.in-Ok.library;
      of_lefs = subst (λ (t : TextsModel). DenoteLibrary t.profile t.lefs c.in-Ok.library) c.texts.view_is c.in-Ok.ensures.found;
      kept = c.in-Some.ensures.kept;
      has = c.in-Some.ensures.has;
      is = is;
    }))
    c.written_message.ensures

pub returns : goal.returns
returns g c =
    IfOk-weaker c.name_message-2.result _ _ (λ m is. inr is)
    (subst (λ (t : TextsModel). IfOk c.name_message-2.result (λ m. m.items ≡ name_message t.profile c.args.fault.now.name
    (scale_reason c.args.fault.now.kind c.args.units)))
    c.texts.view_is c.name_message-2.ensures)
