use Rattle.std.proofs.Common.{◌≢◌, inl}
use Rattle.leg_lex.specs.declared.read_fault.FaultKind.TheVariants as kinds
use Rattle.leg_app.specs.Comparison.{printed_number}
use Rattle.leg_app.specs.declared.status.Status.TheVariants.{Refused}
use Rattle.leg_app.proofs.Comparisons.{nothing_of, tells_none}
use Rattle.leg_app.proofs.compare.not_read.Goals as goal

pub returns : goal.returns
returns g c = λ profile lefs before after refused of_master.
    let fault = c.args.fault in
    let not_memory : fault.kind ≢ kinds.Memory = λ is. (let same = rw is at c.if-eq.ensures in cc) in
    let nothing = refused not_memory in
    let told = rw c.printed_number.ensures at c.in_ok-text.ensures in
    rw c.refused.ensures (record {
      answer =
          record {
            nothing = nothing_of c.args.side profile lefs before after nothing;
            reason = inl (record { fault = record fault { file = printed_number c.args.side fault.file }; not_memory = not_memory; is = told });
          };
      explains = (tt, (not_memory, told), record { nothing = nothing; of_library = of_master not_memory });
      tells = tells_none profile lefs before after Refused (λ no. cc);
    })
