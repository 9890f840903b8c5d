use Rattle.vc_pack.specs.AnswerFault.{IsRefusedAnswer}
use Rattle.vc_pack.specs.declared.fault.AnswerFault.TheVariants.{Fault}
use Rattle.vc_fetch.specs.PackView.{pack_text}
use Rattle.vc_files.specs.declared.faults.Fault.TheVariants.{Memory}
use Rattle.vc_shared.proofs.ServingFaults.{refuses}
use Rattle.vc_shared.proofs.serving.answer.Goals as goal

pub returns-in_err-begin-clause-refused : goal.returns-in_err-begin-clause-refused
returns-in_err-begin-clause-refused g c honest =
    refuses (IsRefusedAnswer (g.F.Files.content c.args.files.now) c.args.want.now.wants.items) (Fault Memory) c.from_residual-in_err-begin.result c.from_residual-in_err-begin.ensures.1 tt

pub returns-in_err-bytes-clause-refused : goal.returns-in_err-bytes-clause-refused
returns-in_err-bytes-clause-refused g c honest =
    refuses (IsRefusedAnswer (g.F.Files.content c.args.files.now) c.args.want.now.wants.items) (Fault Memory) c.from_residual-in_err-bytes.result c.from_residual-in_err-bytes.ensures.1 tt

pub returns-clause-answered : goal.returns-clause-answered
returns-clause-answered g c honest = record {
  pack = pack_text c.in_ok-pack.pack;
  answers = record {
    ours = c.in_ok-pack.ensures.ours honest;
    sent = c.in_ok-pack.ensures.objects honest;
    sorted = c.in_ok-pack.ensures.sorted honest;
    first = c.in_ok-pack.ensures.ack honest;
  };
  spelled = c.in_ok-bytes.ensures;
}
