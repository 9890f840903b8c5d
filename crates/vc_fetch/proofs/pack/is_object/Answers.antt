use Rattle.std.proofs.Common.{refl, arith}
use Rattle.vc_fetch.proofs.Packs.{ok_object, err_object}
use Rattle.vc_fetch.proofs.pack.is_object.Goals as goal

pub returns-in-Ok : goal.returns-in-Ok
returns-in-Ok c = ok_object c.args.kind c.args.body.now (c.in-Ok.ensures.exact.0 refl)

pub returns-in-Err : goal.returns-in-Err
returns-in-Err c = err_object c.args.kind c.args.body.now (omega arith) (λ h. let e = c.in-Err.ensures.exact.1 h in cc e)
