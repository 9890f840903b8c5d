use Rattle.std.proofs.Common.{rules, ◌≡◌, inl, inr, Err, Some, length, sym, ap, ◌∙◌, subst}
use Rattle.std.proofs.lemmas.List.{nil_from_length}
use Rattle.vc_files.specs.declared.faults.Fault.TheVariants.{Device}
use Rattle.vc_files.proofs.WearLemmas.{wears_then, wears_writes, writes_both, writes_told}
use Rattle.vc_refs.specs.Packing.{AreInRefs}
use Rattle.vc_refs.specs.Refs.{packed_map}
use Rattle.vc_refs.specs.SetAll.{BlamesSetAll, TellsDeviceOfAll}
use Rattle.vc_refs.specs.declared.changes.SetAllFault.TheVariants.{Whole}
use Rattle.vc_refs.specs.declared.faults.RefFault.TheVariants.{Fault}
use Rattle.vc_refs.proofs.LookLemmas.{wears_both}
use Rattle.vc_refs.proofs.SetAllLemmas.{all_written, is_read, may_all, packing_done, packing_ended, same_after, sets_done, sets_ended, sets_nothing, sets_refused}
use Rattle.vc_refs.proofs.layered.setting_all.set_all.Goals as goal

pub returns-then-is_empty-clause-sets : goal.returns-then-is_empty-clause-sets
returns-then-is_empty-clause-sets g c = let none : length c.args.changes.now ≡ 0 = search rules in sets_nothing (nil_from_length c.args.changes.now none)

pub returns-then-is_empty-clause-allowed : goal.returns-then-is_empty-clause-allowed
returns-then-is_empty-clause-allowed g c = λ honest. let none : length c.args.changes.now ≡ 0 = search rules in inl (nil_from_length c.args.changes.now none)

pub returns-in_err-packed-clause-refused : goal.returns-in_err-packed-clause-refused
returns-in_err-packed-clause-refused g c = λ honest.
    let told : BlamesSetAll (g.F.Files.content c.args.files.now) c.args.changes.now (Whole c.in_err-packed.field-0.0) = c.in_err-packed.ensures.refused honest in
    let is : c.from_residual.result ≡ Err (Whole c.in_err-packed.field-0.0) = search rules in
    rw is told

pub returns-in_err-packed-clause-sets : goal.returns-in_err-packed-clause-sets
returns-in_err-packed-clause-sets g c = sets_refused (search rules) c.in_err-packed.ensures.same

pub returns-in_err-packed-clause-wear : goal.returns-in_err-packed-clause-wear
returns-in_err-packed-clause-wear g c = writes_told (wears_writes c.in_err-packed.ensures.wear (search rules)) (search rules) (search rules)

pub returns-in_err-loose-clause-refused : goal.returns-in_err-loose-clause-refused
returns-in_err-loose-clause-refused g c = λ honest.
    let content = g.F.Files.content c.args.files.now in
    let read : packed_map content ≡ Some c.in_ok-packed.packed = c.in_ok-packed.ensures.found honest in
    let told : BlamesSetAll content c.args.changes.now c.in_err-loose.field-0.0 = rw c.in_ok-packed.ensures.same at (c.in_err-loose.ensures.refused honest (rw c.in_ok-packed.ensures.same read)) in
    search (rules, told)

pub returns-in_err-loose-clause-sets : goal.returns-in_err-loose-clause-sets
returns-in_err-loose-clause-sets g c = sets_refused (search rules) (c.in_err-loose.ensures.same ∙ c.in_ok-packed.ensures.same)

pub returns-in_err-loose-clause-wear : goal.returns-in_err-loose-clause-wear
returns-in_err-loose-clause-wear g c = wears_then c.in_ok-packed.ensures.wear (search rules) (search rules) (writes_told (wears_writes c.in_err-loose.ensures.wear (search rules)) (search rules) (search rules))

pub returns-in_err-loose-clause-looks : goal.returns-in_err-loose-clause-looks
returns-in_err-loose-clause-looks g c = λ honest.
    let from : TellsDeviceOfAll c.from_residual-in_err-loose.result → c.in_err-loose.field-0.0 ≡ Whole (Fault Device) = search rules in
    inr (wears_both c.in_ok-packed.ensures.wear c.in_err-loose.ensures.wear (λ told. ap Err (from told)))

pub put_over-requires : goal.put_over-requires
put_over-requires g c = subst AreInRefs (sym c.deref.ensures.value) c.in_ok-loose.ensures.inside

pub returns-in_err-present-clause-sets : goal.returns-in_err-present-clause-sets
returns-in_err-present-clause-sets g c = sets_refused (search rules) (c.in_ok-loose.ensures.same ∙ c.in_ok-packed.ensures.same)

pub returns-in_err-present-clause-wear : goal.returns-in_err-present-clause-wear
returns-in_err-present-clause-wear g c = wears_then c.in_ok-packed.ensures.wear (search rules) (search rules) (writes_told (wears_writes c.in_ok-loose.ensures.wear (search rules)) (search rules) (search rules))

pub returns-in_err-present-clause-looks : goal.returns-in_err-present-clause-looks
returns-in_err-present-clause-looks g c = λ honest. inl (may_all c.in_ok-packed.ensures.same (c.in_ok-packed.ensures.found honest) (c.in_ok-loose.ensures.allowed honest))

pub returns-in_err-pack_loose-clause-sets : goal.returns-in_err-pack_loose-clause-sets
returns-in_err-pack_loose-clause-sets g c = sets_ended (search rules) (search rules) (λ honest.
    let read = is_read c.in_ok-packed.ensures.same (c.in_ok-packed.ensures.found honest) (c.in_ok-loose.ensures.allowed honest) (c.in_ok-loose.ensures.found honest) c.deref-2.ensures.value c.deref.ensures.value c.in_ok-present.ensures c.requires in
    packing_ended read (c.in_ok-loose.ensures.same ∙ c.in_ok-packed.ensures.same) (c.in_err-pack_loose.ensures.some honest))

pub returns-in_err-pack_loose-clause-wear : goal.returns-in_err-pack_loose-clause-wear
returns-in_err-pack_loose-clause-wear g c = wears_then c.in_ok-packed.ensures.wear (search rules) (search rules)
    (wears_then c.in_ok-loose.ensures.wear (search rules) (search rules) (writes_told c.in_err-pack_loose.ensures.wear (search rules) (search rules)))

pub returns-in_err-pack_loose-clause-looks : goal.returns-in_err-pack_loose-clause-looks
returns-in_err-pack_loose-clause-looks g c = λ honest. inl (may_all c.in_ok-packed.ensures.same (c.in_ok-packed.ensures.found honest) (c.in_ok-loose.ensures.allowed honest))

pub returns-in_err-after-clause-sets : goal.returns-in_err-after-clause-sets
returns-in_err-after-clause-sets g c = sets_ended (search rules) (search rules) (λ honest.
    let read = is_read c.in_ok-packed.ensures.same (c.in_ok-packed.ensures.found honest) (c.in_ok-loose.ensures.allowed honest) (c.in_ok-loose.ensures.found honest) c.deref-2.ensures.value c.deref.ensures.value c.in_ok-present.ensures c.requires in
    (packing_done read (c.in_ok-loose.ensures.same ∙ c.in_ok-packed.ensures.same) (c.in_ok-pack_loose.ensures.packed honest)).same)

pub returns-in_err-after-clause-wear : goal.returns-in_err-after-clause-wear
returns-in_err-after-clause-wear g c = wears_then c.in_ok-packed.ensures.wear (search rules) (search rules)
    (wears_then c.in_ok-loose.ensures.wear (search rules) (search rules) (writes_told c.in_ok-pack_loose.ensures.wear (search rules) (search rules)))

pub returns-in_err-after-clause-looks : goal.returns-in_err-after-clause-looks
returns-in_err-after-clause-looks g c = λ honest. inl (may_all c.in_ok-packed.ensures.same (c.in_ok-packed.ensures.found honest) (c.in_ok-loose.ensures.allowed honest))

pub returns-in_err-write_packed-clause-sets : goal.returns-in_err-write_packed-clause-sets
returns-in_err-write_packed-clause-sets g c = sets_ended (search rules) (search rules) (λ honest.
    let content = g.F.Files.content in
    let read = is_read c.in_ok-packed.ensures.same (c.in_ok-packed.ensures.found honest) (c.in_ok-loose.ensures.allowed honest) (c.in_ok-loose.ensures.found honest) c.deref-2.ensures.value c.deref.ensures.value c.in_ok-present.ensures c.requires in
    let unwritten : content c.write_packed.new.files ≡ content c.pack_loose.new.files = search (rules, c.in_err-write_packed.ensures.err honest) in
    same_after unwritten (packing_done read (c.in_ok-loose.ensures.same ∙ c.in_ok-packed.ensures.same) (c.in_ok-pack_loose.ensures.packed honest)).same)

pub returns-in_err-write_packed-clause-wear : goal.returns-in_err-write_packed-clause-wear
returns-in_err-write_packed-clause-wear g c = wears_then c.in_ok-packed.ensures.wear (search rules) (search rules)
    (wears_then c.in_ok-loose.ensures.wear (search rules) (search rules) (writes_both c.in_ok-pack_loose.ensures.wear (search rules) (writes_told c.in_err-write_packed.ensures.wear (search rules) (search rules))))

pub returns-in_err-write_packed-clause-looks : goal.returns-in_err-write_packed-clause-looks
returns-in_err-write_packed-clause-looks g c = λ honest. inl (may_all c.in_ok-packed.ensures.same (c.in_ok-packed.ensures.found honest) (c.in_ok-loose.ensures.allowed honest))

pub returns-clause-sets : goal.returns-clause-sets
returns-clause-sets g c = sets_done (λ honest. may_all c.in_ok-packed.ensures.same (c.in_ok-packed.ensures.found honest) (c.in_ok-loose.ensures.allowed honest)) (λ honest.
    let read = is_read c.in_ok-packed.ensures.same (c.in_ok-packed.ensures.found honest) (c.in_ok-loose.ensures.allowed honest) (c.in_ok-loose.ensures.found honest) c.deref-2.ensures.value c.deref.ensures.value c.in_ok-present.ensures c.requires in
    all_written read (packing_done read (c.in_ok-loose.ensures.same ∙ c.in_ok-packed.ensures.same) (c.in_ok-pack_loose.ensures.packed honest)) c.in_ok-after.ensures c.in_ok-write_packed.ensures.read (c.in_ok-write_packed.ensures.written honest))

pub returns-clause-allowed : goal.returns-clause-allowed
returns-clause-allowed g c = λ honest. inr (may_all c.in_ok-packed.ensures.same (c.in_ok-packed.ensures.found honest) (c.in_ok-loose.ensures.allowed honest))

pub returns-clause-wear : goal.returns-clause-wear
returns-clause-wear g c = wears_then c.in_ok-packed.ensures.wear (search rules) (search rules)
    (wears_then c.in_ok-loose.ensures.wear (search rules) (search rules) (writes_both c.in_ok-pack_loose.ensures.wear (search rules) (writes_told c.in_ok-write_packed.ensures.wear (search rules) (search rules))))

pub returns-clause-looks : goal.returns-clause-looks
returns-clause-looks g c = λ honest. inl (may_all c.in_ok-packed.ensures.same (c.in_ok-packed.ensures.found honest) (c.in_ok-loose.ensures.allowed honest))
