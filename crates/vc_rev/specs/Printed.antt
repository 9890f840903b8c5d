-- What a refusal is printed as: its number and its name.
use Rattle.std.specs.Prelude.{ℕ, List, codes}
use Rattle.vc_object_map.specs.Printed.{store_fault_text}
use Rattle.vc_rev.specs.declared.refusal.Refusal.{Refusal}
use Rattle.vc_rev.specs.declared.refusal.Refusal.TheVariants.{Unknown, Ambiguous, TooShort, NoSuchParent, WrongKind, NoSuchPath}
use Rattle.vc_rev.specs.declared.refusal.RevFault.{RevFault}
use Rattle.vc_rev.specs.declared.refusal.RevFault.TheVariants.{Refused, Missing, NotACommit, Source}
use Rattle.vc_rev.specs.declared.refusal.SourceFault.{SourceFault}
use Rattle.vc_rev.specs.declared.refusal.SourceFault.TheVariants.{Store, BadRefFile, HeadLoop, BadIndex}

abbrev pub refusal_text : Refusal → List ℕ
refusal_text Unknown = codes "51 Unknown"
refusal_text Ambiguous = codes "52 Ambiguous"
refusal_text TooShort = codes "53 TooShort"
refusal_text NoSuchParent = codes "54 NoSuchParent"
refusal_text WrongKind = codes "55 WrongKind"
refusal_text NoSuchPath = codes "56 NoSuchPath"

abbrev pub source_text : SourceFault → List ℕ
source_text (Store fault) = store_fault_text fault
source_text (BadRefFile path) = codes "33 BadRefFile"
source_text HeadLoop = codes "34 HeadLoop"
source_text (BadIndex place) = codes "62 BadIndex"

abbrev pub rev_fault_text : RevFault → List ℕ
rev_fault_text (Refused refusal) = refusal_text refusal
rev_fault_text (Missing id) = codes "40 Missing"
rev_fault_text (NotACommit id) = codes "41 NotACommit"
rev_fault_text (Source fault) = source_text fault
