-- How a failure is told: its text, its line, and what stands behind it.
use Rattle.std.specs.Io.KnownBytes.{Appends}
use Rattle.std.specs.Prelude.{ℕ, nat_lt, Bool, ◌||◌, if◌then◌else◌, List, [], ◌∷◌, ◌++◌, flat_map, encode_utf8, Option, None, Some, codes, string_bytes}
use Rattle.hex.specs.Hex.{encode_lower}
use Rattle.vc_expression.specs.Printed.{parse_fault_text}
use Rattle.vc_files.specs.Printed.{fault_text}
use Rattle.vc_history.specs.Printed.{history_fault_text}
use Rattle.vc_local.specs.Printed.{node_fault_text}
use Rattle.vc_local.specs.declared.fault.NodeFault.TheVariants as node
use Rattle.vc_message.specs.Printed.{incoming_fault_text}
use Rattle.vc_message.specs.declared.incoming_fault.IncomingFault.TheVariants as incoming
use Rattle.vc_object.specs.declared.id.ObjectId.{ObjectId}
use Rattle.vc_object.specs.Printed.{object_fault_text}
use Rattle.vc_object_map.specs.Printed.{store_fault_text}
use Rattle.vc_pkt.specs.Printed.{pkt_fault_text}
use Rattle.vc_pkt.specs.declared.fault.PktFault.{PktFault}
use Rattle.vc_pkt.specs.declared.fault.PktFault.TheVariants.{BadLength, BadRecord, CutMessage, SizeMismatch, TooLarge, TooMany}
use Rattle.vc_refname.specs.Printed.{name_fault_text}
use Rattle.vc_refs.specs.Printed.{ref_fault_text}
use Rattle.vc_rev.specs.Printed.{refusal_text, rev_fault_text}
use Rattle.vc_rev.specs.declared.refusal.Refusal.TheVariants as refusal
use Rattle.vc_cli.specs.declared.failure.Failure.{Failure}
use Rattle.vc_cli.specs.declared.failure.Failure.TheVariants as failed
use Rattle.vc_cli.specs.declared.faults.Faults.{Faults}

-- what a terminal shows of a byte that another program sent: a letter, digit or mark, and any other as a question mark
abbrev pub shown_byte : ℕ → ℕ
shown_byte byte = if nat_lt byte 32 || nat_lt 126 byte then 63 else byte

-- what a text is written as that another program sent: each byte as the character that is shown of it
abbrev pub shown_text : List ℕ → List ℕ
shown_text text = flat_map (λ byte. encode_utf8 (shown_byte byte)) text

-- what is printed if bytes are no message: the number and the name, without the place
abbrev pub unread_text : PktFault → List ℕ
unread_text (BadLength place) = codes "80 BadLength"
unread_text (BadRecord line) = codes "81 BadRecord"
unread_text SizeMismatch = pkt_fault_text SizeMismatch
unread_text CutMessage = pkt_fault_text CutMessage
unread_text TooMany = pkt_fault_text TooMany
unread_text TooLarge = pkt_fault_text TooLarge

-- what a failure is printed as: its number and its name, what a served store said, or what is off in the command line
abbrev pub failure_text : Failure → List ℕ
failure_text (failed.Syntax fault) = parse_fault_text fault
failure_text (failed.Revision fault) = rev_fault_text fault
failure_text (failed.Node fault) = node_fault_text fault
failure_text (failed.LocalChange path) = codes "70 LocalChange"
failure_text (failed.InTheWay path) = codes "71 InTheWay"
failure_text (failed.BadPath path) = node_fault_text node.BadPath
failure_text (failed.NotText path) = codes "72 NotText"
failure_text failed.NoSuchPath = refusal_text refusal.NoSuchPath
failure_text (failed.Object fault) = object_fault_text fault
failure_text (failed.Store fault) = store_fault_text fault
failure_text (failed.History fault) = history_fault_text fault
failure_text (failed.Name fault) = name_fault_text fault
failure_text (failed.Refs fault) = ref_fault_text fault
failure_text (failed.Refused text) = shown_text text.items
failure_text failed.ReadFailed = incoming_fault_text incoming.Failed
failure_text failed.WriteFailed = codes "116 WriteFailed"
failure_text (failed.Unread fault) = unread_text fault
failure_text failed.Unexpected = codes "91 NothingAwaited"
failure_text (failed.Incomplete id) = codes "92 Incomplete"
failure_text failed.BadScript = codes "114 BadScript"
failure_text (failed.Busy text) = string_bytes text
failure_text (failed.Usage text) = string_bytes text
failure_text (failed.Fault fault) = fault_text fault

-- the line of a failure
abbrev pub failure_line : List ℕ → List ℕ
failure_line text = codes "vcs: " ++ (text ++ 10 ∷ [])

-- the line behind it: what is at fault, on a terminal alone
abbrev pub line_behind : Bool → Option (List ℕ) → List ℕ
line_behind is_terminal None = []
line_behind is_terminal (Some line) = if is_terminal then line else []

-- what a branch was before it was set or removed
abbrev pub old_branch_line : List ℕ → ObjectId → List ℕ
old_branch_line name id = codes "vcs: refs/heads/" ++ (name ++ (codes " was " ++ (encode_lower id.0 ++ 10 ∷ [])))

-- the line of a failure was written, and what stands behind it
abbrev pub AppendsFailure : {W : Type 0} → (W → Option (List ℕ)) → Faults W → Faults W → Option (List ℕ) → List ℕ → Type 0
AppendsFailure contents old new behind text = Appends (contents old.stream) (contents new.stream) (failure_line text ++ line_behind old.is_terminal behind)
