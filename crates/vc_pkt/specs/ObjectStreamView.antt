-- The reader of object streams without where its parts lie in memory.
use Rattle.std.specs.Prelude.{List}
use Rattle.vc_object.specs.Decoding.{StoredObject}
use Rattle.vc_pkt.specs.ObjectStream.{Progress, between, inside, ObjectStepped, going_on, full, over, SetState}
use Rattle.vc_pkt.specs.Incoming.{incoming}
use Rattle.vc_pkt.specs.StreamObjectView.{stored, objects_of}
use Rattle.vc_pkt.specs.declared.carried.CarriedObjects.{CarriedObjects}
use Rattle.vc_pkt.specs.declared.progress.StreamProgress.{StreamProgress}
use Rattle.vc_pkt.specs.declared.progress.StreamProgress.TheVariants.{Between, Inside}
use Rattle.vc_pkt.specs.declared.progress.ObjectStep.{ObjectStep}
use Rattle.vc_pkt.specs.declared.progress.ObjectStep.TheVariants.{More, Object, End}
use Rattle.vc_pkt.specs.declared.object_stream.ObjectStream.{ObjectStream}

abbrev pub progress_of : StreamProgress → Progress
progress_of Between = between
progress_of (Inside part) = inside part.first part.kind part.size part.body.items

abbrev pub object_stepped : ObjectStep → ObjectStepped
object_stepped (More progress) = going_on (progress_of progress)
object_stepped (Object first object) = full first (stored object)
object_stepped End = over

abbrev pub carried : CarriedObjects → List StoredObject
carried objects = objects_of objects.by_name.entries

abbrev pub set_state : ObjectStream → SetState
set_state stream = record { set = incoming stream.objects; progress = progress_of stream.progress }
