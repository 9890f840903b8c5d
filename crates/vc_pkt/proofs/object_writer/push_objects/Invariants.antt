use Rattle.std.specs.Map.{values_of}
use Rattle.vc_pkt.proofs.WrittenStreams.{IsLeft}
use Rattle.vc_pkt.proofs.object_writer.push_objects.Given as goal

abbrev pub invariant-objects : goal.invariant-objects
invariant-objects l = IsLeft l.fn.out.items l.out.items (values_of l.objects.by_name.entries) l.object-iterator
