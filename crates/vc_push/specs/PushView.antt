-- A Push, and its reader, without where they lie in memory.
use Rattle.std.specs.Prelude.{Bool, List, map, Result, Ok, Err}
use Rattle.vc_pkt.specs.Incoming.{incoming}
use Rattle.vc_pkt.specs.ObjectStream.{Gathered}
use Rattle.vc_pkt.specs.ObjectStreamView.{carried, progress_of}
use Rattle.vc_pkt.specs.StreamObjectView.{stored}
use Rattle.vc_pkt.specs.declared.carried.CarriedObjects.{CarriedObjects}
use Rattle.vc_pkt.specs.declared.carried.StreamObject.{StreamObject}
use Rattle.vc_pkt.specs.declared.incoming.IncomingObjects.{IncomingObjects}
use Rattle.vc_push.specs.Push.{CommandText, Carried, HeadText, PushText, PushState, commanding, streaming}
use Rattle.vc_push.specs.declared.command.Command.{Command}
use Rattle.vc_push.specs.declared.command.CommandLine.{CommandLine}
use Rattle.vc_push.specs.declared.command.PushHead.{PushHead}
use Rattle.vc_push.specs.declared.push.Push.{Push}
use Rattle.vc_push.specs.declared.push.PushStream.{PushStream}
use Rattle.vc_push.specs.declared.push.PushReader.{PushReader}
use Rattle.vc_push.specs.declared.push.PushReader.TheVariants.{Commands, Objects}

abbrev pub command_of : Command → CommandText
command_of command = record { old = command.old; new = command.new; name = command.name.items }

abbrev pub command_lent : CommandLine → CommandText × Bool
command_lent line = (record { old = line.old; new = line.new; name = line.name.now }, line.atomic)

abbrev pub commands_of : List Command → List CommandText
commands_of commands = map command_of commands

abbrev pub head_text : PushHead → HeadText
head_text head = record { atomic = head.atomic; commands = commands_of head.commands.items }

abbrev pub carried_view : Result CarriedObjects StreamObject → Carried
carried_view (Ok objects) = Ok (carried objects)
carried_view (Err bad) = Err (stored bad)

abbrev pub push_text : Push → PushText
push_text push = record { atomic = push.atomic; commands = commands_of push.commands.items; carried = carried_view push.carried }

abbrev pub incoming_view : Result IncomingObjects StreamObject → Carried
incoming_view (Ok objects) = Ok (incoming objects)
incoming_view (Err bad) = Err (stored bad)

abbrev pub stream_state : PushStream → Gathered Carried
stream_state stream = record { set = incoming_view stream.carried; progress = progress_of stream.progress }

abbrev pub push_state : PushReader → PushState
push_state (Commands head) = commanding (head_text head)
push_state (Objects head stream) = streaming (head_text head) (stream_state stream)
