use Rattle.std.proofs.Common.{rules, ◌≡◌, inl, inr, refl, length}
use Rattle.std.proofs.lemmas.List.{nil_from_length}
use Rattle.std.specs.FinMap.{insert}
use Rattle.vc_files.proofs.WearLemmas.{writes_both, writes_told}
use Rattle.vc_refs.specs.Packed.{packed_text}
use Rattle.vc_refs.specs.Packing.{LosesSome}
use Rattle.vc_refs.specs.Refs.{packed_path}
use Rattle.vc_refs.specs.SetAll.{names_in}
use Rattle.vc_refs.proofs.layered.setting_all.pack_loose.Goals as goal

pub returns-then-is_empty-clause-some : goal.returns-then-is_empty-clause-some
returns-then-is_empty-clause-some g c = λ honest. inl refl

pub returns-then-is_empty-clause-packed : goal.returns-then-is_empty-clause-packed
returns-then-is_empty-clause-packed g c = λ honest.
    let none : length c.args.loose.now ≡ 0 = search rules in
    inl (nil_from_length c.args.loose.now none, refl)

pub returns-in_err-write_packed-clause-some : goal.returns-in_err-write_packed-clause-some
returns-in_err-write_packed-clause-some g c = λ honest. inl (search (rules, c.in_err-write_packed.ensures.err honest))

pub returns-in_err-remove_loose-clause-some : goal.returns-in_err-remove_loose-clause-some
returns-in_err-remove_loose-clause-some g c = λ honest.
    let content = g.F.Files.content in
    let written : content c.write_packed.new.files ≡ insert (content c.args.files.now) packed_path (packed_text c.args.present.now) = c.in_ok-write_packed.ensures.written honest in
    let lost : LosesSome (names_in c.args.loose.now) (insert (content c.args.files.now) packed_path (packed_text c.args.present.now)) (content c.remove_loose.new.files) = rw written at (c.in_err-remove_loose.ensures.lost honest) in
    inr (record { read = c.in_ok-write_packed.ensures.read; lost = lost })

pub returns-in_err-remove_loose-clause-wear : goal.returns-in_err-remove_loose-clause-wear
returns-in_err-remove_loose-clause-wear g c = writes_both c.in_ok-write_packed.ensures.wear (search rules) (writes_told c.in_err-remove_loose.ensures.wear (search rules) (search rules))

pub returns-clause-some : goal.returns-clause-some
returns-clause-some g c = λ honest.
    let content = g.F.Files.content in
    let written : content c.write_packed.new.files ≡ insert (content c.args.files.now) packed_path (packed_text c.args.present.now) = c.in_ok-write_packed.ensures.written honest in
    let lost : LosesSome (names_in c.args.loose.now) (insert (content c.args.files.now) packed_path (packed_text c.args.present.now)) (content c.remove_loose.new.files) = rw written at (c.in_ok-remove_loose.ensures.lost honest) in
    inr (record { read = c.in_ok-write_packed.ensures.read; lost = lost })

pub returns-clause-packed : goal.returns-clause-packed
returns-clause-packed g c = λ honest.
    let content = g.F.Files.content in
    let written : content c.write_packed.new.files ≡ insert (content c.args.files.now) packed_path (packed_text c.args.present.now) = c.in_ok-write_packed.ensures.written honest in
    let lost : LosesSome (names_in c.args.loose.now) (insert (content c.args.files.now) packed_path (packed_text c.args.present.now)) (content c.remove_loose.new.files) = rw written at (c.in_ok-remove_loose.ensures.lost honest) in
    inr (record { read = c.in_ok-write_packed.ensures.read; lost = lost }, c.in_ok-remove_loose.ensures.gone honest)

pub returns-clause-wear : goal.returns-clause-wear
returns-clause-wear g c = writes_both c.in_ok-write_packed.ensures.wear (search rules) (writes_told c.in_ok-remove_loose.ensures.wear (search rules) (search rules))
