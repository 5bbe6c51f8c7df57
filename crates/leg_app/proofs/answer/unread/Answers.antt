use Rattle.std.proofs.Common.{◌≢◌, inl}
use Rattle.leg_lex.specs.declared.read_fault.FaultKind.TheVariants as kinds
use Rattle.leg_app.proofs.answer.unread.Goals as goal

pub returns : goal.returns
returns g c = λ profile lefs def refused of_master.
    let fault = c.args.fault in
    let not_memory : fault.kind ≢ kinds.Memory = λ is. (let same = rw is at c.if-eq.ensures in cc) in
    let nothing = refused not_memory in
    let told = c.in_ok-text.ensures in
    record {
      answer = inl (record { nothing = nothing; reason = inl (record { fault = fault; not_memory = not_memory; is = told }) });
      explains = (tt, (not_memory, told), record { nothing = nothing; of_library = of_master not_memory });
    }
