use Rattle.std.proofs.Common.{◌≡◌, false, [], ◌∷◌, rules}
use Rattle.std.specs.List.{IsDistinct}
use Rattle.vc_object.specs.ObjectId.{id_eq}
use Rattle.rows_objects.proofs.ids.sorted.Goals as goal

-- Two ids that differ are a list of distinct ones.
pub sorted_by_name-requires : goal.sorted_by_name-requires
unfolding IsDistinct
sorted_by_name-requires c =
    let items : c.push-2.new.self.items ≡ c.args.a ∷ c.args.b ∷ [] = search rules in
    let apart : id_eq c.args.a c.args.b ≡ false = search rules in
    record { distinct = rw items ((apart, tt), (tt, tt)) }
