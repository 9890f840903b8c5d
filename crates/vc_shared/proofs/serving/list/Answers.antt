use Rattle.vc_pack.specs.declared.fault.AnswerFault.TheVariants.{Fault}
use Rattle.vc_fetch.specs.AdvertView.{advert_text}
use Rattle.vc_files.specs.declared.faults.Fault.TheVariants.{Memory}
use Rattle.vc_shared.specs.Serving.{IsRefusedList}
use Rattle.vc_shared.proofs.ServingFaults.{refuses}
use Rattle.vc_shared.proofs.serving.list.Goals as goal

pub returns-in_err-bytes-clause-refused : goal.returns-in_err-bytes-clause-refused
returns-in_err-bytes-clause-refused g c honest =
    refuses (IsRefusedList (g.F.Files.content c.args.files.now)) (Fault Memory) c.from_residual-in_err-bytes.result c.from_residual-in_err-bytes.ensures.1 tt

pub returns-clause-listed : goal.returns-clause-listed
returns-clause-listed g c honest = record { advert = advert_text c.in_ok-advert.advert; tells = c.in_ok-advert.ensures.told honest; spelled = c.in_ok-bytes.ensures }
