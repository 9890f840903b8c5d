-- What a refusal is printed as: its number and its name.
use Rattle.std.specs.Prelude.{ℕ, List, codes}
use Rattle.vc_refname.specs.declared.fault.NameFault.{NameFault}
use Rattle.vc_refname.specs.declared.fault.NameFault.TheVariants.{AtBrace, BadByte, DotBegin, EdgeSlash, FinalDot, LockEnd, NoSlash, SingleAt, TooLong, TwoDots, TwoSlashes}

abbrev pub name_fault_text : NameFault → List ℕ
name_fault_text SingleAt = codes "20 SingleAt"
name_fault_text NoSlash = codes "21 NoSlash"
name_fault_text DotBegin = codes "22 DotBegin"
name_fault_text LockEnd = codes "23 LockEnd"
name_fault_text TwoDots = codes "24 TwoDots"
name_fault_text BadByte = codes "25 BadByte"
name_fault_text AtBrace = codes "26 AtBrace"
name_fault_text EdgeSlash = codes "27 EdgeSlash"
name_fault_text TwoSlashes = codes "28 TwoSlashes"
name_fault_text FinalDot = codes "29 FinalDot"
name_fault_text TooLong = codes "30 TooLong"
