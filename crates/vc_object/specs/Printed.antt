-- What a refusal is printed as: its number and its name.
use Rattle.std.specs.Prelude.{ℕ, List, codes}
use Rattle.vc_object.specs.declared.fault.ObjectFault.{ObjectFault}
use Rattle.vc_object.specs.declared.fault.ObjectFault.TheVariants.{BadCommit, BadHeader, BadMode, BadName, BadSize, BadTag, Cut, DuplicateName, NotSorted, TooLarge}

abbrev pub object_fault_text : ObjectFault → List ℕ
object_fault_text BadHeader = codes "1 BadHeader"
object_fault_text BadSize = codes "2 BadSize"
object_fault_text TooLarge = codes "3 TooLarge"
object_fault_text BadMode = codes "4 BadMode"
object_fault_text BadName = codes "5 BadName"
object_fault_text NotSorted = codes "6 NotSorted"
object_fault_text DuplicateName = codes "7 DuplicateName"
object_fault_text BadCommit = codes "8 BadCommit"
object_fault_text BadTag = codes "9 BadTag"
object_fault_text Cut = codes "10 Cut"
