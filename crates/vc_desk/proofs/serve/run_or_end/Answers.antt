use Rattle.std.proofs.Common.{ap, map}
use Rattle.vc_desk.specs.Talk.{receipt_text}
use Rattle.vc_desk.proofs.Talking.{refused_worker}
use Rattle.vc_desk.proofs.serve.run_or_end.Goals as goal

pub returns-then-load : goal.returns-then-load
returns-then-load g c = refused_worker c.args.place.0 _ c.args.place.1 _ _ _ (ap (map receipt_text) c.new.ensures.items)
