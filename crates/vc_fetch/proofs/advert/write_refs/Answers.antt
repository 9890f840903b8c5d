use Rattle.std.proofs.Common.{◌≡◌, ◌++◌, ◌≤◌, ap, sym, ◌∙◌, subst, length, List}
use Rattle.std.specs.FinMap.{entries}
use Rattle.std.specs.List.{AllByRecursion, flat_map}
use Rattle.vc_pkt.specs.Line.{spelling}
use Rattle.vc_fetch.specs.Advert.{Ref, ref_lines}
use Rattle.vc_fetch.specs.AdvertView.{ref_ids}
use Rattle.vc_fetch.proofs.RefMaps.{seen, entries-ref_ids}
use Rattle.vc_fetch.proofs.advert.write_refs.Goals as goal

pub refs-init : goal.refs-init
refs-init c =
    let same : entries (ref_ids c.args.refs.now) ≡ seen c.into_iter-name-iterator.result =
    entries-ref_ids c.args.refs.now c.into_iter-name-iterator.ensures.into_iter_gives.5 ∙ ap seen (sym c.into_iter-name-iterator.ensures.into_iter_gives.0) in (
      ap (λ es. c.args.out.now.items ++ flat_map spelling (ref_lines c.args.tail.now es)) (sym same),
      subst (λ (es : List Ref). AllByRecursion (λ (ref : Ref). length ref.0 ≤ 65450) es) same c.requires.short,
      c.requires.tail,
    )
