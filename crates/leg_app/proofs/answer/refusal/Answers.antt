use Rattle.std.proofs.Common.{◌≢◌, inl, inr}
use Rattle.std.proofs.lemmas.Result.{IfOk-weaker}
use Rattle.leg_lib_records.specs.declared.scale_fault.ScaleKind.TheVariants as scale
use Rattle.leg_app.proofs.answer.refusal.Goals as goal

pub returns-in-Read : goal.returns-in-Read
returns-in-Read g c =
    IfOk-weaker c.unread.result _ _
    (λ answer all profile lefs def refused units of_master. all profile lefs def (rw c.in-Read.is at refused) (rw c.in-Read.is at of_master))
    c.unread.ensures

pub returns-in_ok-text-in-Scale : goal.returns-in_ok-text-in-Scale
returns-in_ok-text-in-Scale g c = λ profile lefs def refused units of_master.
    let fault = c.in-Scale.fault in
    let not_memory : fault.kind ≢ scale.Memory = λ is. (let same = rw is at c.if-ne.ensures in cc) in
    let nothing = (rw c.in-Scale.is at refused) not_memory in
    let told = c.in_ok-text-in-Scale.ensures in
    record {
      answer = inl (record { nothing = nothing; reason = inr (record { name = fault.name; kind = fault.kind; not_memory = not_memory; is = told }) });
      explains = (tt, (not_memory, told), record { nothing = nothing; units_are = rw c.in-Scale.is at units });
    }
