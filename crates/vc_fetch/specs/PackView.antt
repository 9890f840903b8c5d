-- A Pack, and its reader, without where they lie in memory.
use Rattle.vc_pkt.specs.ObjectStreamView.{carried, set_state}
use Rattle.vc_fetch.specs.Pack.{PackText, PackState, starting, streaming}
use Rattle.vc_fetch.specs.declared.pack.Pack.{Pack}
use Rattle.vc_fetch.specs.declared.pack.PackReader.{PackReader}
use Rattle.vc_fetch.specs.declared.pack.PackReader.TheVariants.{Start, Objects}

abbrev pub pack_text : Pack → PackText
pack_text pack = record { ack = pack.ack; objects = carried pack.objects }

abbrev pub pack_state : PackReader → PackState
pack_state Start = starting
pack_state (Objects ack stream) = streaming ack.value (set_state stream)
