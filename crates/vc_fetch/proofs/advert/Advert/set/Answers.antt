use Rattle.std.proofs.Common.{rules, ◌≡◌, sym, ap, ◌∙◌, subst, ◌≤◌, length}
use Rattle.std.specs.FinMap.{entries, insert}
use Rattle.std.specs.List.{AllByRecursion}
use Rattle.vc_fetch.specs.Advert.{Ref, RefIds}
use Rattle.vc_fetch.specs.AdvertView.{ref_ids}
use Rattle.vc_fetch.proofs.RefMaps.{ref_ids-set, short_insert}
use Rattle.vc_fetch.proofs.advert.Advert.set.Goals as goal

pub returns-clause-ok : goal.returns-clause-ok
returns-clause-ok c =
    let key : c.in_ok-to_vec.field-0.items ≡ c.args.name.now = search rules in
    let refs = ref_ids-set c.args.self.now.refs c.insert.new.self c.in_ok-to_vec.field-0.items c.args.id c.in_ok-insert.ensures.updates in
    ap (λ (m : RefIds). record { head = c.args.self.now.head; refs = m }) (refs ∙ ap (λ k. insert (ref_ids c.args.self.now.refs) k c.args.id) key)

pub returns-clause-short : goal.returns-clause-short
returns-clause-short c = λ few all.
    let key : c.in_ok-to_vec.field-0.items ≡ c.args.name.now = search rules in
    let refs = ref_ids-set c.args.self.now.refs c.insert.new.self c.in_ok-to_vec.field-0.items c.args.id c.in_ok-insert.ensures.updates in
    subst (λ (m : RefIds). AllByRecursion (λ (ref : Ref). length ref.0 ≤ 65450) (entries m)) (sym (refs ∙ ap (λ k. insert (ref_ids c.args.self.now.refs) k c.args.id) key))
    (short_insert (ref_ids c.args.self.now.refs) c.args.name.now c.args.id few all)
