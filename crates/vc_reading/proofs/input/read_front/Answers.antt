use Rattle.vc_reading.proofs.BodyLemmas.{front_of_take}
use Rattle.vc_reading.proofs.input.read_front.Goals as goal

pub returns-clause-front : goal.returns-clause-front
returns-clause-front g c = front_of_take g.I.Read.remaining c.take.result c.args.stream c.args.limit c.in_ok-body.body.items c.read_to_end.new.buf.items c.take.ensures.limit c.take.ensures.inner c.in_ok-body.ensures.items c.in_ok-read_to_end.ensures.bytes
