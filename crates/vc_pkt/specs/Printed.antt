-- What a refusal is printed as: its number and its name, and of some the place.
use Rattle.std.specs.Prelude.{ℕ, List, ◌++◌, codes, decimal}
use Rattle.vc_object.specs.Printed.{object_fault_text}
use Rattle.vc_object.specs.declared.fault.ObjectFault.TheVariants as object
use Rattle.vc_pkt.specs.declared.fault.PktFault.{PktFault}
use Rattle.vc_pkt.specs.declared.fault.PktFault.TheVariants.{BadLength, BadRecord, CutMessage, SizeMismatch, TooLarge, TooMany}

abbrev pub pkt_fault_text : PktFault → List ℕ
pkt_fault_text (BadLength place) = codes "80 BadLength" ++ (codes "(" ++ (decimal place ++ codes ")"))
pkt_fault_text (BadRecord line) = codes "81 BadRecord" ++ (codes "(" ++ (decimal line ++ codes ")"))
pkt_fault_text SizeMismatch = codes "82 SizeMismatch"
pkt_fault_text CutMessage = codes "83 CutMessage"
pkt_fault_text TooMany = codes "84 TooMany"
pkt_fault_text TooLarge = object_fault_text object.TooLarge
