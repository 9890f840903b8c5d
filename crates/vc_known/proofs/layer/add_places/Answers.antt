use Rattle.std.proofs.Common.{◌∙◌, length, take, ap}
use Rattle.std.proofs.Math.Seq.{take-append_seam}
use Rattle.vc_known.proofs.layer.add_places.Goals as goal

pub returns-in-Err-clause-err : goal.returns-in-Err-clause-err
returns-in-Err-clause-err c =
    let old = c.args.places.now.entries in
    let more = c.in-Err.ensures.front in
    c.truncate.ensures.entries ∙ ap (λ n. take n c.put_places.new.places.entries) c.len-before.ensures.len ∙ ap (take (length old)) more.1 ∙ take-append_seam old more.0
