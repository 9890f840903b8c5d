use Rattle.std.specs.Prelude.{◌-◌, vec_len}
use Rattle.vc_desk.proofs.serve.make_room.Given as goal

abbrev pub decreases-flags : goal.decreases-flags
decreases-flags g l = l.count - vec_len l.flags
