-- What a refusal is about, and the line that tells it to a person.
use Rattle.std.specs.Prelude.{◌≡◌, ◌==◌, ◌||◌, ◌+◌, ◌-◌, ◌/◌, ◌%◌, ℕ, if◌then◌else◌, nat_le, List, [], ◌∷◌, ◌++◌, Option, None, Some, MatchOption, Vec, codes, decimal, get_or, string_bytes}
use Rattle.std.specs.Global.{Global}
use Rattle.std.specs.List.{flat_map}
use Rattle.hex.specs.Hex.{encode_lower}
use Rattle.vc_history.specs.declared.fault.HistoryFault.{HistoryFault}
use Rattle.vc_history.specs.declared.fault.HistoryFault.TheVariants as bases
use Rattle.vc_local.specs.declared.fault.NodeFault.{NodeFault}
use Rattle.vc_local.specs.declared.fault.NodeFault.TheVariants as nodes
use Rattle.vc_pkt.specs.declared.fault.PktFault.{PktFault}
use Rattle.vc_pkt.specs.declared.fault.PktFault.TheVariants as pkt
use Rattle.vc_refs.specs.declared.faults.RefFault.{RefFault}
use Rattle.vc_refs.specs.declared.faults.RefFault.TheVariants as ref_faults
use Rattle.vc_rev.specs.declared.refusal.RevFault.{RevFault}
use Rattle.vc_rev.specs.declared.refusal.RevFault.TheVariants as revs
use Rattle.vc_rev.specs.declared.refusal.SourceFault.{SourceFault}
use Rattle.vc_rev.specs.declared.refusal.SourceFault.TheVariants as sources
use Rattle.vc_object_map.specs.declared.faults.StoreFault.{StoreFault}
use Rattle.vc_object_map.specs.declared.faults.StoreFault.TheVariants as stores
use Rattle.vc_cli.specs.declared.failure.Failure.{Failure}
use Rattle.vc_cli.specs.declared.failure.Failure.TheVariants.{LocalChange, InTheWay, BadPath, NotText, Node, Revision, Store, History, Refs, Unread, Incomplete}

-- a byte by three octal digits behind a backslash
abbrev pub octal : ℕ → List ℕ
octal byte = 92 ∷ ((48 + byte / 64) ∷ ((48 + (byte / 8) % 8) ∷ ((48 + byte % 8) ∷ [])))

-- a byte as git writes it in a path: a quote or a backslash behind a backslash, 7 to 13 by their letters, and what ASCII
-- doesn't print by its digits
abbrev pub quoted_byte : ℕ → List ℕ
quoted_byte byte =
    if byte == 34 || byte == 92 then 92 ∷ byte ∷ []
    else if nat_le byte 6 || nat_le 127 byte then octal byte
    else if nat_le byte 13 then 92 ∷ get_or (codes "abtnvfr") (byte - 7) 0 ∷ []
    else if nat_le byte 31 then octal byte
    else byte ∷ []

-- the bytes that were found are this place, or none where there is none
abbrev pub IsPlace : Option (List ℕ) → Option (Vec ℕ Global) → Type 0
IsPlace place found = MatchOption found (place ≡ None) (λ bytes. place ≡ Some bytes.items)

-- the line that tells what is at fault
abbrev pub at_line : List ℕ → List ℕ
at_line place = codes "vcs: at \"" ++ (flat_map quoted_byte place ++ codes "\"\n")

-- bytes that name something: none is the path of a tree's root
abbrev pub named : List ℕ → Option (List ℕ)
named [] = None
named (byte ∷ rest) = Some (byte ∷ rest)

-- an object that is absent or damaged
abbrev pub of_store : StoreFault → Option (List ℕ)
of_store (stores.Absent id) = Some (encode_lower id.0)
of_store (stores.Damaged id) = Some (encode_lower id.0)
of_store _ = None

-- the ref that is in the way, or the file that stands for none
abbrev pub of_ref : RefFault → Option (List ℕ)
of_ref (ref_faults.Conflict name) = named name
of_ref (ref_faults.BadRefFile path) = named (string_bytes path)
of_ref ref_faults.HeadLoop = Some (codes "HEAD")
of_ref _ = None

abbrev pub of_source : SourceFault → Option (List ℕ)
of_source (sources.Store fault) = of_store fault
of_source (sources.BadRefFile path) = named (string_bytes path)
of_source sources.HeadLoop = Some (codes "HEAD")
of_source (sources.BadIndex place) = Some (codes "index")

abbrev pub of_revision : RevFault → Option (List ℕ)
of_revision (revs.Missing id) = Some (encode_lower id.0)
of_revision (revs.NotACommit id) = Some (encode_lower id.0)
of_revision (revs.Source fault) = of_source fault
of_revision (revs.Refused refusal) = None

abbrev pub of_history : HistoryFault → Option (List ℕ)
of_history (bases.Missing id) = Some (encode_lower id.0)
of_history (bases.NotACommit id) = Some (encode_lower id.0)
of_history (bases.Store fault) = of_store fault

abbrev pub of_node : NodeFault → Option (List ℕ)
of_node (nodes.Store fault) = of_store fault
of_node (nodes.Ref fault) = of_ref fault
of_node (nodes.Missing id) = Some (encode_lower id.0)
of_node (nodes.NotACommit id) = Some (encode_lower id.0)
of_node (nodes.BadIndex place) = Some (codes "index")
of_node (nodes.WrongEntry path) = named path.items
of_node _ = None

-- the byte at which no line begins, or the line that the message has not there, both from 0
abbrev pub of_message : PktFault → Option (List ℕ)
of_message (pkt.BadLength place) = Some (codes "byte " ++ decimal place)
of_message (pkt.BadRecord line) = Some (codes "line " ++ decimal line)
of_message _ = None

-- what a failure itself names: a path of the work tree, an object, a ref, a file of the store
abbrev pub of_failure : Failure → Option (List ℕ)
of_failure (LocalChange path) = named path.items
of_failure (InTheWay path) = named path.items
of_failure (BadPath path) = named path.items
of_failure (NotText path) = named path.items
of_failure (Node fault) = of_node fault
of_failure (Revision fault) = of_revision fault
of_failure (Store fault) = of_store fault
of_failure (History fault) = of_history fault
of_failure (Refs fault) = of_ref fault
of_failure (Unread fault) = of_message fault
of_failure (Incomplete id) = Some (encode_lower id.0)
of_failure _ = None
