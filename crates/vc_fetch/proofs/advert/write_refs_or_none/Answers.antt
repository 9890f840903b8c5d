use Rattle.std.proofs.Common.{rules, ◌≡◌, length}
use Rattle.std.specs.FinMap.{entries}
use Rattle.vc_fetch.specs.AdvertView.{ref_ids}
use Rattle.vc_fetch.proofs.RefMaps.{entries-none, entries-some}
use Rattle.vc_fetch.proofs.WrittenAdverts.{none_written, some_written}
use Rattle.vc_fetch.proofs.advert.write_refs_or_none.Goals as goal

pub returns-then-is_empty : goal.returns-then-is_empty
returns-then-is_empty c =
    let none : length c.args.refs.now.entries ≡ 0 = search rules in
    none_written c.write_ref.result _ (entries (ref_ids c.args.refs.now)) c.args.out.now.items c.write_ref.new.out.items (entries-none c.args.refs.now none) c.write_ref.ensures

pub returns : goal.returns
returns c =
    let some : length c.args.refs.now.entries ≡ 0 → ⊥ = search rules in
    some_written c.write_refs.result _ (entries (ref_ids c.args.refs.now)) c.args.out.now.items c.write_refs.new.out.items (entries-some c.args.refs.now some) c.write_refs.ensures
