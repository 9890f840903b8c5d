use Rattle.std.proofs.Common.{rules, ◌≡◌, ◌-◌, length, slice_get, Some, refl, sym, ◌∙◌, true≢false}
use Rattle.std.specs.declared.cmp.Ordering.TheVariants.{Less}
use Rattle.vc_object.specs.ObjectId.{id_cmp}
use Rattle.vc_pkt.proofs.Rows.{above_all, last_below}
use Rattle.vc_pkt.proofs.incoming.ObjectRow.is_below.Goals as goal

pub returns-in-Less : goal.returns-in-Less
returns-in-Less c =
    let at : slice_get c.args.self.now.items.items (length c.args.self.now.items.items - 1) ≡ Some c.in-Some.last.now = search rules in
    let less : id_cmp c.in-Some.last.now.0 c.args.id.now ≡ Less = search rules in
    ((λ _. above_all c.args.id.now c.in-Some.last.now c.args.self.now.items.items c.args.self.now.sorted at less), λ _. refl)

pub returns-in_default : goal.returns-in_default
returns-in_default c =
    let at : slice_get c.args.self.now.items.items (length c.args.self.now.items.items - 1) ≡ Some c.in-Some.last.now = search rules in
    ((λ f. absurd (true≢false (sym f))), λ a. absurd (c.in_default.not-Less (c.cmp.ensures ∙ last_below c.args.id.now c.in-Some.last.now c.args.self.now.items.items at a)))
