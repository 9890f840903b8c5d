use Rattle.std.proofs.Common.{◌≡◌, ap, arith, rules, length, ◌<◌, ◌^◌}
use Rattle.vc_object.specs.Decoding.{stored_object}
use Rattle.vc_pkt.specs.Written.{object_text}
use Rattle.vc_pkt.proofs.WrittenStreams.{object_text_short}
use Rattle.vc_pkt.proofs.object_writer.object_text.Goals as goal

pub returns-clause-short : goal.returns-clause-short
returns-clause-short c =
    let is : c.extend_from_slice-3.new.self.items ≡ object_text (stored_object c.args.kind c.args.body.now) = search rules in
    let fits : length c.args.body.now < 2 ^ 64 = omega arith in
    omega (arith, ap length is, object_text_short (stored_object c.args.kind c.args.body.now) fits)
