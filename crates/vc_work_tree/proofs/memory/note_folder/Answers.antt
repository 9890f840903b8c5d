use Rattle.std.proofs.Common.{rules, ◌≡◌, true, refl}
use Rattle.std.specs.Prelude.{string_bytes}
use Rattle.vc_work_tree.specs.Folders.{folders_of}
use Rattle.vc_work_tree.proofs.HeldLemmas.{held_set, noted_none, noted_more}
use Rattle.vc_work_tree.proofs.memory.note_folder.Goals as goal

pub returns-in-None-clause-noted : goal.returns-in-None-clause-noted
returns-in-None-clause-noted c = noted_none c.args.path.now (folders_of c.args.folders.now) _ c.in-None.ensures refl

pub returns-in_ok-insert-in-Some-clause-noted : goal.returns-in_ok-insert-in-Some-clause-noted
returns-in_ok-insert-in-Some-clause-noted c =
    let key : string_bytes c.in_ok-from_str-in-Some.field-0 ≡ c.in-Some.folder.now = search rules in
    noted_more c.args.path.now (folders_of c.args.folders.now) (folders_of c.insert.new.self) c.in-Some.folder.now c.in-Some.ensures
    (held_set c.args.folders.now c.insert.new.self c.in-Some.folder.now true (rw (← key) c.in_ok-insert-in-Some.ensures.updates))
