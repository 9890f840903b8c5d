-- What is known of stored objects agrees with them where each of them stays: for who keeps what is known between calls.
use Rattle.vc_files.specs.FileMap.{FileMap}
use Rattle.vc_history.specs.Stored.{KeepsObjects}
use Rattle.vc_known.proofs.StaysLemmas.{Agrees-grown}
use Rattle.vc_known.specs.Known.{Agrees}
use Rattle.vc_known.specs.declared.known.Known.{Known}
use Rattle.vc_object_map.specs.Store.{objects}

pub known_kept : (old new : FileMap) (known : Known) → KeepsObjects old new → Agrees (objects old) known → Agrees (objects new) known
known_kept old new known keeps agrees = Agrees-grown (objects old) known agrees (objects new) keeps.at
