use Rattle.vc_object.proofs.Uniqueness.{tags_unique}
use Rattle.vc_object.proofs.laws.tags.Goals as goal

pub returns : goal.returns
returns c = record { unique = tags_unique }
