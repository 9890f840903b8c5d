use Rattle.std.proofs.Common.{◌≡◌, ◌++◌, ◌≤◌, length}
use Rattle.std.specs.FinMap.{entries}
use Rattle.std.specs.List.{AllByRecursion, flat_map}
use Rattle.vc_pkt.specs.Line.{spelling}
use Rattle.vc_fetch.specs.Advert.{Ref, ref_lines}
use Rattle.vc_fetch.specs.AdvertView.{ref_ids}
use Rattle.vc_fetch.proofs.RefMaps.{seen}
use Rattle.vc_fetch.proofs.advert.write_refs.Given as goal

-- what is written, and the lines of what is left, are all lines; what is left is short
abbrev pub invariant-refs : goal.invariant-refs
invariant-refs l =
    (l.out.items ++ flat_map spelling (ref_lines l.tail (seen l.name-iterator)) ≡ l.fn.out.items ++ flat_map spelling (ref_lines l.fn.tail (entries (ref_ids l.refs))))
    × AllByRecursion (λ (ref : Ref). length ref.0 ≤ 65450) (seen l.name-iterator)
    × (length l.tail ≤ 24)
