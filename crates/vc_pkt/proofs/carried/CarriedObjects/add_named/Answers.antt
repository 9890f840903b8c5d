use Rattle.std.proofs.Common.{rules, ◌≡◌, None, is_some, ap, ◌∙◌}
use Rattle.std.specs.Map.{lookup}
use Rattle.std.specs.BTreeMap.{is_at}
use Rattle.vc_object.specs.ObjectId.{id_cmp}
use Rattle.vc_pkt.specs.StreamObjectView.{objects_of}
use Rattle.vc_pkt.proofs.CarriedLaws.{added, present, stays_named}
use Rattle.vc_pkt.proofs.carried.CarriedObjects.add_named.Goals as goal

pub invariant_of-self-in-Vacant : goal.invariant_of-self-in-Vacant
invariant_of-self-in-Vacant c =
    let none : lookup (is_at (id_cmp c.args.id)) c.args.self.now.by_name.entries ≡ None = search rules in
    record { named = stays_named _ _ c.args.id c.args.object c.requires c.args.self.now.named (ap is_some none) (search rules) }

pub returns-in-Vacant-clause-ok : goal.returns-in-Vacant-clause-ok
returns-in-Vacant-clause-ok c =
    let none : lookup (is_at (id_cmp c.args.id)) c.args.self.now.by_name.entries ≡ None = search rules in
    ap objects_of (search rules) ∙ added _ c.args.id c.args.object c.requires c.args.self.now.named (ap is_some none)

pub returns-in-Occupied-clause-ok : goal.returns-in-Occupied-clause-ok
returns-in-Occupied-clause-ok c =
    ap objects_of (search rules) ∙ present _ c.args.id c.args.object c.requires c.args.self.now.named (search rules)
