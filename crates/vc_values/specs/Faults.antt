-- What the machine's rules say of bodies: the number of the fault of one, or that it is a body of its kind.
use Rattle.std.specs.Prelude.{◌≡◌, ℕ, Option, Some, None}
use Rattle.vc_format.specs.Git.{kind_of}
use Rattle.vc_model.specs.Object.{Object}
use Rattle.vc_object.specs.Object.{IsObject}
use Rattle.vc_object.specs.ObjectFault.{BodyFault}
use Rattle.vc_object.specs.declared.fault.ObjectFault.{ObjectFault}
use Rattle.vc_object.specs.declared.fault.ObjectFault.TheVariants as object

-- the number of each refusal
abbrev pub object_number : ObjectFault → ℕ
object_number object.BadHeader = 1
object_number object.BadSize = 2
object_number object.TooLarge = 3
object_number object.BadMode = 4
object_number object.BadName = 5
object_number object.NotSorted = 6
object_number object.DuplicateName = 7
object_number object.BadCommit = 8
object_number object.BadTag = 9
object_number object.Cut = 10

abbrev pub FaultGives : Object → Option ℕ → Type 0
FaultGives o (Some n) = (e : ObjectFault) × BodyFault (kind_of o.kind) o.body e × (n ≡ object_number e)
FaultGives o None = IsObject (kind_of o.kind) o.body
