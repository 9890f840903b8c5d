use Rattle.std.proofs.Common.{rules, ◌≡◌, true, refl}
use Rattle.std.specs.FinMap.{insert}
use Rattle.std.specs.FinMap as files
use Rattle.std.specs.Prelude.{is_none}
use Rattle.vc_refs.specs.Refs.{packed_path}
use Rattle.vc_refs.specs.Packed.{packed_text}
use Rattle.vc_refs.specs.RefMap.{IsRefMap}
use Rattle.vc_refs.proofs.ApartLemmas.{IsRefMap-less}
use Rattle.vc_refs.proofs.LayeredChangeLemmas.{unpacked, unpacked_absent}
use Rattle.vc_refs.proofs.LayeredLemmas.{packed_map-IsRefMap}
use Rattle.vc_refs.proofs.layered.removing.unpack.Goals as goal

pub returns-then-is_none-clause-unpacked : goal.returns-then-is_none-clause-unpacked
returns-then-is_none-clause-unpacked g c = λ honest read.
    let none : is_none (files.get c.args.packed c.args.name.now) ≡ true = search rules in
    unpacked_absent _ _ c.args.packed c.args.name.now read none refl

pub returns-clause-unpacked : goal.returns-clause-unpacked
returns-clause-unpacked g c = λ honest read.
    let content = g.F.Files.content in
    let made : content c.write_packed.new.files ≡ insert (content c.args.files.now) packed_path (packed_text c.remove.new.self) = c.in_ok-write_packed.ensures.written honest in
    let map : IsRefMap (files.get c.remove.new.self) = IsRefMap-less c.args.packed c.remove.new.self c.args.name.now (packed_map-IsRefMap (content c.args.files.now) c.args.packed read) c.remove.ensures in
    rw made (unpacked (content c.args.files.now) c.args.packed c.remove.new.self c.args.name.now read c.remove.ensures (c.in_ok-write_packed.ensures.read map))
