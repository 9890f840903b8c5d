use Rattle.vc_local.proofs.LookLemmas.{looks_none, looks_then, looks_told}
use Rattle.vc_files.proofs.WearLemmas.{wears_then, wears_writes, writes_both, writes_none, writes_told}
use Rattle.std.proofs.Common.{◌≡◌, ◌∙◌, rules, inl, inr, sym, ap, subst}
use Rattle.std.specs.Prelude.{IfSome, codes}
use Rattle.vc_files.specs.FileMap.{FileMap, SameOutside}
use Rattle.vc_object_map.specs.Store.{objects}
use Rattle.vc_local.specs.Commit.{parents_of_commit}
use Rattle.vc_local.specs.IndexFile.{SpellsIndex, BlamesIndex}
use Rattle.vc_local.specs.Making.{LeavesSaid, AreLines, BlamesLook, BlamesParents, BlamesMaking, LeftByCommit}
use Rattle.vc_local.specs.Making.BlamesMaking.{of_lines, of_look, of_conflict, of_parents, of_index, of_objects}
use Rattle.vc_local.specs.Shown.{shown}
use Rattle.vc_local.proofs.MakingLemmas.{cut_by, left_on, looked, may_make, told_on, writes_there, trees_there, stored_shown, committed_shown}
use Rattle.vc_local.proofs.RefusalLemmas.{moving_blamed}
use Rattle.vc_local.proofs.StoringLemmas.{memory_blamed, files_blamed}
use Rattle.vc_local.specs.Reads.{IsAtHead, IsOfCommit, IsReachedByOne, NoneRead, TellsRead}
use Rattle.vc_local.proofs.CommitReads.{at_head_read, made_read, moving_read, nothing_read, reached_read}
use Rattle.vc_local.proofs.committing.commit.Goals as goal

pub kept_or_read-requires : goal.kept_or_read-requires
kept_or_read-requires g c = λ honest.
    let content = g.F.Files.content in
    let third : content c.parents_with.new.files ≡ content c.args.files.now = c.in_ok-parents.ensures.same ∙ c.in_ok-refuse_bad_parents.ensures.same ∙ c.in_ok-head.ensures.same in
    subst (λ (m : FileMap). IfSome c.args.kept (SpellsIndex m)) (sym third) (c.requires honest)

pub returns-clause-committed : goal.returns-clause-committed
returns-clause-committed g c = λ honest.
    let w = c.args.words in
    let content = g.F.Files.content in
    let found = looked w.author.now w.committer.now c.in_ok-head.ensures.same c.in_ok-refuse_bad_parents.ensures.same c.in_ok-parents.ensures.same c.in_ok-index.ensures.same
    (c.in_ok-refuse_lines.ensures.author, c.in_ok-refuse_lines.ensures.committer) (c.in_ok-head.ensures.found honest) (c.in_ok-head.ensures.free honest) (c.in_ok-refuse_bad_parents.ensures.good honest)
    (c.in_ok-parents.ensures.parents honest) (c.in_ok-index.ensures.spelled honest) in
    record {
      head = c.in_ok-head.head;
      head_is = c.in_ok-head.ensures.found honest;
      free = c.in_ok-head.ensures.free honest;
      map = c.in_ok-index.index;
      spelled = found.spelled;
      parents = found.may.parents;
      after = objects (content c.write_objects-2.new.files);
      writes = writes_there g.F.Files.honest _ _ _ _ _ _ _ _ _ _ honest (c.deref-2.ensures.value ∙ found.parents_are) (ap objects found.same) c.in_ok-id.ensures.written;
      is = committed_shown _ _ _ _ c.in_ok-head.head c.in_ok-id.id found.same (c.in_ok-id.ensures.outside honest) (c.in_ok-move_head.ensures.moved honest);
    }

-- ---- what refuses it

pub returns-in_err-refuse_lines-clause-refused : goal.returns-in_err-refuse_lines-clause-refused
returns-in_err-refuse_lines-clause-refused g c = λ honest.
    let w = c.args.words in
    let blames : BlamesMaking (g.F.Files.content c.args.files.now) c.args.extra.now w.author.now w.committer.now w.message.now c.in_err-refuse_lines.field-0.0 = of_lines c.in_err-refuse_lines.ensures.refused in
    search (rules, blames)

pub returns-in_err-head-clause-refused : goal.returns-in_err-head-clause-refused
returns-in_err-head-clause-refused g c = λ honest.
    let w = c.args.words in
    let lines : AreLines w.author.now w.committer.now = (c.in_ok-refuse_lines.ensures.author, c.in_ok-refuse_lines.ensures.committer) in
    let blames : BlamesMaking (g.F.Files.content c.args.files.now) c.args.extra.now w.author.now w.committer.now w.message.now c.in_err-head.field-0.0 =
    elim (c.in_err-head.ensures.refused honest) [ inl look ↦ of_look look | inr conflict ↦ of_conflict lines conflict ] in
    told_on (BlamesMaking (g.F.Files.content c.args.files.now) c.args.extra.now w.author.now w.committer.now w.message.now) c.in_err-head.field-0.0 c.from_residual-in_err-head.result c.from_residual-in_err-head.ensures.1 blames

pub returns-in_err-refuse_bad_parents-clause-refused : goal.returns-in_err-refuse_bad_parents-clause-refused
returns-in_err-refuse_bad_parents-clause-refused g c = λ honest.
    let w = c.args.words in
    let content = g.F.Files.content in
    let e = c.in_err-refuse_bad_parents.field-0.0 in
    let lines : AreLines w.author.now w.committer.now = (c.in_ok-refuse_lines.ensures.author, c.in_ok-refuse_lines.ensures.committer) in
    let first : content c.free_head.new.files ≡ content c.args.files.now = c.in_ok-head.ensures.same in
    let told = subst (λ (m : FileMap). BlamesParents m c.args.extra.now e) first (c.in_err-refuse_bad_parents.ensures.refused honest) in
    let blames : BlamesMaking (content c.args.files.now) c.args.extra.now w.author.now w.committer.now w.message.now e =
    of_parents c.in_ok-head.head lines (c.in_ok-head.ensures.found honest) (c.in_ok-head.ensures.free honest) told in
    told_on (BlamesMaking (g.F.Files.content c.args.files.now) c.args.extra.now w.author.now w.committer.now w.message.now) e c.from_residual-in_err-refuse_bad_parents.result c.from_residual-in_err-refuse_bad_parents.ensures.1 blames

pub returns-in_err-parents-clause-refused : goal.returns-in_err-parents-clause-refused
returns-in_err-parents-clause-refused g c = λ honest.
    let w = c.args.words in
    let content = g.F.Files.content in
    let e = c.in_err-parents.field-0.0 in
    let second : content c.refuse_bad_parents.new.files ≡ content c.args.files.now = c.in_ok-refuse_bad_parents.ensures.same ∙ c.in_ok-head.ensures.same in
    let blames : BlamesMaking (content c.args.files.now) c.args.extra.now w.author.now w.committer.now w.message.now e = of_look (subst (λ (m : FileMap). BlamesLook m e) second (c.in_err-parents.ensures.refused honest)) in
    search (rules, blames)

pub returns-in_err-index-clause-refused : goal.returns-in_err-index-clause-refused
returns-in_err-index-clause-refused g c = λ honest.
    let w = c.args.words in
    let content = g.F.Files.content in
    let e = c.in_err-index.field-0.0 in
    let third : content c.parents_with.new.files ≡ content c.args.files.now = c.in_ok-parents.ensures.same ∙ c.in_ok-refuse_bad_parents.ensures.same ∙ c.in_ok-head.ensures.same in
    let blames : BlamesMaking (content c.args.files.now) c.args.extra.now w.author.now w.committer.now w.message.now e = of_index (subst (λ (m : FileMap). BlamesIndex m e) third (c.in_err-index.ensures.refused honest)) in
    search (rules, blames)

pub returns-in_err-write_objects-clause-refused : goal.returns-in_err-write_objects-clause-refused
returns-in_err-write_objects-clause-refused g c = λ honest.
    let w = c.args.words in
    let content = g.F.Files.content in
    let extra = c.args.extra.now in
    let e = c.in_err-write_objects.field-0.0 in
    let found = looked w.author.now w.committer.now c.in_ok-head.ensures.same c.in_ok-refuse_bad_parents.ensures.same c.in_ok-parents.ensures.same c.in_ok-index.ensures.same
    (c.in_ok-refuse_lines.ensures.author, c.in_ok-refuse_lines.ensures.committer) (c.in_ok-head.ensures.found honest) (c.in_ok-head.ensures.free honest) (c.in_ok-refuse_bad_parents.ensures.good honest)
    (c.in_ok-parents.ensures.parents honest) (c.in_ok-index.ensures.spelled honest) in
    let blames : BlamesMaking (content c.args.files.now) extra w.author.now w.committer.now w.message.now e =
    of_objects c.in_ok-index.index found.may found.spelled
    (memory_blamed (Unit {0}) tt _ (content c.args.files.now) c.in_ok-index.index _ (parents_of_commit (content c.args.files.now) extra) w.author.now w.committer.now w.message.now c.new-memory.ensures (c.deref.ensures.value ∙ found.parents_are) e c.in_err-write_objects.ensures.refused) in
    told_on (BlamesMaking (content c.args.files.now) c.args.extra.now w.author.now w.committer.now w.message.now) e c.from_residual-in_err-write_objects.result c.from_residual-in_err-write_objects.ensures.1 blames

pub returns-in_err-id-clause-refused : goal.returns-in_err-id-clause-refused
returns-in_err-id-clause-refused g c = λ honest.
    let w = c.args.words in
    let content = g.F.Files.content in
    let extra = c.args.extra.now in
    let e = c.in_err-id.field-0.0 in
    let found = looked w.author.now w.committer.now c.in_ok-head.ensures.same c.in_ok-refuse_bad_parents.ensures.same c.in_ok-parents.ensures.same c.in_ok-index.ensures.same
    (c.in_ok-refuse_lines.ensures.author, c.in_ok-refuse_lines.ensures.committer) (c.in_ok-head.ensures.found honest) (c.in_ok-head.ensures.free honest) (c.in_ok-refuse_bad_parents.ensures.good honest)
    (c.in_ok-parents.ensures.parents honest) (c.in_ok-index.ensures.spelled honest) in
    let blames : BlamesMaking (content c.args.files.now) extra w.author.now w.committer.now w.message.now e =
    of_objects c.in_ok-index.index found.may found.spelled
    (files_blamed g.F.Files.honest honest _ (content c.args.files.now) c.in_ok-index.index _ (parents_of_commit (content c.args.files.now) extra) w.author.now w.committer.now w.message.now found.same (c.deref-2.ensures.value ∙ found.parents_are) e c.in_err-id.ensures.refused) in
    told_on (BlamesMaking (content c.args.files.now) c.args.extra.now w.author.now w.committer.now w.message.now) e c.from_residual-in_err-id.result c.from_residual-in_err-id.ensures.1 blames

pub returns-in_err-move_head-clause-refused : goal.returns-in_err-move_head-clause-refused
returns-in_err-move_head-clause-refused g c = λ honest.
    let w = c.args.words in
    let content = g.F.Files.content in
    let e = c.in_err-move_head.field-0.0 in
    let fourth : content c.kept_or_read.new.files ≡ content c.args.files.now = c.in_ok-index.ensures.same ∙ c.in_ok-parents.ensures.same ∙ c.in_ok-refuse_bad_parents.ensures.same ∙ c.in_ok-head.ensures.same in
    let outside = subst (λ (m : FileMap). SameOutside (codes "objects/") m (content c.write_objects-2.new.files)) fourth (c.in_ok-id.ensures.outside honest) in
    let blames : BlamesMaking (content c.args.files.now) c.args.extra.now w.author.now w.committer.now w.message.now e =
    of_look (moving_blamed (content c.args.files.now) (content c.write_objects-2.new.files) outside c.in_ok-head.head (c.in_ok-head.ensures.free honest) e (c.in_err-move_head.ensures.refused honest)) in
    told_on (BlamesMaking (content c.args.files.now) c.args.extra.now w.author.now w.committer.now w.message.now) e c.from_residual-in_err-move_head.result c.from_residual-in_err-move_head.ensures.1 blames

-- ---- what it leaves

pub returns-in_err-id-clause-left : goal.returns-in_err-id-clause-left
returns-in_err-id-clause-left g c = λ honest.
    let w = c.args.words in
    let content = g.F.Files.content in
    let found = looked w.author.now w.committer.now c.in_ok-head.ensures.same c.in_ok-refuse_bad_parents.ensures.same c.in_ok-parents.ensures.same c.in_ok-index.ensures.same
    (c.in_ok-refuse_lines.ensures.author, c.in_ok-refuse_lines.ensures.committer) (c.in_ok-head.ensures.found honest) (c.in_ok-head.ensures.free honest) (c.in_ok-refuse_bad_parents.ensures.good honest)
    (c.in_ok-parents.ensures.parents honest) (c.in_ok-index.ensures.spelled honest) in
    let left : LeftByCommit (content c.args.files.now) c.args.extra.now w.author.now w.committer.now w.message.now (content c.write_objects-2.new.files) =
    cut_by found c.deref.ensures.value c.in_ok-write_objects.ensures.written _ (objects (content c.write_objects-2.new.files))
    (inl (trees_there g.F.Files.honest c.in_ok-index.index _ _ _ honest (ap objects found.same) c.in_err-id.ensures.left))
    (stored_shown (content c.args.files.now) (content c.kept_or_read.new.files) (content c.write_objects-2.new.files) found.same (c.in_err-id.ensures.outside honest)) in
    let all : LeavesSaid (content c.args.files.now) c.args.extra.now w (content c.write_objects-2.new.files) = record { left = left; outside = search rules } in
    left_on _ c.in_err-id.field-0.0 c.from_residual-in_err-id.result c.from_residual-in_err-id.ensures.1 all

pub returns-in_err-move_head-clause-left : goal.returns-in_err-move_head-clause-left
returns-in_err-move_head-clause-left g c = λ honest.
    let w = c.args.words in
    let content = g.F.Files.content in
    let extra = c.args.extra.now in
    let found = looked w.author.now w.committer.now c.in_ok-head.ensures.same c.in_ok-refuse_bad_parents.ensures.same c.in_ok-parents.ensures.same c.in_ok-index.ensures.same
    (c.in_ok-refuse_lines.ensures.author, c.in_ok-refuse_lines.ensures.committer) (c.in_ok-head.ensures.found honest) (c.in_ok-head.ensures.free honest) (c.in_ok-refuse_bad_parents.ensures.good honest)
    (c.in_ok-parents.ensures.parents honest) (c.in_ok-index.ensures.spelled honest) in
    let made = writes_there g.F.Files.honest c.in_ok-index.index _ (parents_of_commit (content c.args.files.now) extra) w.author.now w.committer.now w.message.now _ (objects (content c.args.files.now)) _ c.in_ok-id.id honest
    (c.deref-2.ensures.value ∙ found.parents_are) (ap objects found.same) c.in_ok-id.ensures.written in
    let left : LeftByCommit (content c.args.files.now) extra w.author.now w.committer.now w.message.now (content c.move_head.new.files) =
    cut_by found c.deref.ensures.value c.in_ok-write_objects.ensures.written _ (objects (content c.write_objects-2.new.files)) (inr (c.in_ok-id.id, made))
    (ap shown (c.in_err-move_head.ensures.err honest) ∙ stored_shown (content c.args.files.now) (content c.kept_or_read.new.files) (content c.write_objects-2.new.files) found.same (c.in_ok-id.ensures.outside honest)) in
    let all : LeavesSaid (content c.args.files.now) c.args.extra.now w (content c.move_head.new.files) = record { left = left; outside = search rules } in
    left_on _ c.in_err-move_head.field-0.0 c.from_residual-in_err-move_head.result c.from_residual-in_err-move_head.ensures.1 all

pub returns-in_err-head-clause-wear : goal.returns-in_err-head-clause-wear
returns-in_err-head-clause-wear g c = writes_told (wears_writes c.in_err-head.ensures.wear (search rules)) (search rules) (search rules)

pub returns-in_err-refuse_bad_parents-clause-wear : goal.returns-in_err-refuse_bad_parents-clause-wear
returns-in_err-refuse_bad_parents-clause-wear g c = wears_then c.in_ok-head.ensures.wear (search rules) (search rules) (writes_told (wears_writes c.in_err-refuse_bad_parents.ensures.wear (search rules)) (search rules) (search rules))

pub returns-in_err-parents-clause-wear : goal.returns-in_err-parents-clause-wear
returns-in_err-parents-clause-wear g c = wears_then c.in_ok-head.ensures.wear (search rules) (search rules) (wears_then c.in_ok-refuse_bad_parents.ensures.wear (search rules) (search rules) (writes_told (wears_writes c.in_err-parents.ensures.wear (search rules)) (search rules) (search rules)))

pub returns-in_err-index-clause-wear : goal.returns-in_err-index-clause-wear
returns-in_err-index-clause-wear g c = wears_then c.in_ok-head.ensures.wear (search rules) (search rules) (wears_then c.in_ok-refuse_bad_parents.ensures.wear (search rules) (search rules) (wears_then c.in_ok-parents.ensures.wear (search rules) (search rules) (writes_told (wears_writes c.in_err-index.ensures.wear (search rules)) (search rules) (search rules))))

pub returns-in_err-write_objects-clause-wear : goal.returns-in_err-write_objects-clause-wear
returns-in_err-write_objects-clause-wear g c = wears_then c.in_ok-head.ensures.wear (search rules) (search rules) (wears_then c.in_ok-refuse_bad_parents.ensures.wear (search rules) (search rules) (wears_then c.in_ok-parents.ensures.wear (search rules) (search rules) (writes_told (wears_writes c.in_ok-index.ensures.wear (search rules)) (search rules) (search rules))))

pub returns-in_err-id-clause-wear : goal.returns-in_err-id-clause-wear
returns-in_err-id-clause-wear g c = wears_then c.in_ok-head.ensures.wear (search rules) (search rules) (wears_then c.in_ok-refuse_bad_parents.ensures.wear (search rules) (search rules) (wears_then c.in_ok-parents.ensures.wear (search rules) (search rules) (wears_then c.in_ok-index.ensures.wear (search rules) (search rules) (writes_told c.in_err-id.ensures.wear (search rules) (search rules)))))

pub returns-in_err-move_head-clause-wear : goal.returns-in_err-move_head-clause-wear
returns-in_err-move_head-clause-wear g c = wears_then c.in_ok-head.ensures.wear (search rules) (search rules) (wears_then c.in_ok-refuse_bad_parents.ensures.wear (search rules) (search rules) (wears_then c.in_ok-parents.ensures.wear (search rules) (search rules) (wears_then c.in_ok-index.ensures.wear (search rules) (search rules) (writes_both c.in_ok-id.ensures.wear (search rules) (writes_told c.in_err-move_head.ensures.wear (search rules) (search rules))))))

pub returns-clause-wear : goal.returns-clause-wear
returns-clause-wear g c = wears_then c.in_ok-head.ensures.wear (search rules) (search rules) (wears_then c.in_ok-refuse_bad_parents.ensures.wear (search rules) (search rules) (wears_then c.in_ok-parents.ensures.wear (search rules) (search rules) (wears_then c.in_ok-index.ensures.wear (search rules) (search rules) (writes_both c.in_ok-id.ensures.wear (search rules) (writes_told c.in_ok-move_head.ensures.wear (search rules) (search rules))))))

pub returns-in_err-refuse_lines-clause-wear : goal.returns-in_err-refuse_lines-clause-wear
returns-in_err-refuse_lines-clause-wear g c = writes_none (search rules)

-- ---- a bad file that it tells

pub returns-in_err-head-clause-file : goal.returns-in_err-head-clause-file
returns-in_err-head-clause-file g c = λ honest.
    let w = c.args.words in
    let content = g.F.Files.content in
    let old = content c.args.files.now in
    let extra = c.args.extra.now in
    let e = c.in_err-head.field-0.0 in
    told_on (TellsRead (IsOfCommit old extra w.author.now w.committer.now w.message.now) (IsAtHead old)) e c.from_residual-in_err-head.result c.from_residual-in_err-head.ensures.1
    (at_head_read old extra w.author.now w.committer.now w.message.now e (c.in_err-head.ensures.file honest))

pub returns-in_err-refuse_bad_parents-clause-file : goal.returns-in_err-refuse_bad_parents-clause-file
returns-in_err-refuse_bad_parents-clause-file g c = λ honest.
    let w = c.args.words in
    let content = g.F.Files.content in
    let old = content c.args.files.now in
    let extra = c.args.extra.now in
    let e = c.in_err-refuse_bad_parents.field-0.0 in
    let first : content c.free_head.new.files ≡ old = c.in_ok-head.ensures.same in
    told_on (TellsRead (IsOfCommit old extra w.author.now w.committer.now w.message.now) (IsAtHead old)) e c.from_residual-in_err-refuse_bad_parents.result c.from_residual-in_err-refuse_bad_parents.ensures.1
    (reached_read old extra w.author.now w.committer.now w.message.now e (subst (λ (m : FileMap). TellsRead (IsReachedByOne m extra) NoneRead e) first (c.in_err-refuse_bad_parents.ensures.file honest)))

pub returns-in_err-parents-clause-file : goal.returns-in_err-parents-clause-file
returns-in_err-parents-clause-file g c = λ honest.
    let w = c.args.words in
    let content = g.F.Files.content in
    let old = content c.args.files.now in
    let extra = c.args.extra.now in
    let e = c.in_err-parents.field-0.0 in
    let first : content c.free_head.new.files ≡ old = c.in_ok-head.ensures.same in
    let second : content c.refuse_bad_parents.new.files ≡ old = c.in_ok-refuse_bad_parents.ensures.same ∙ first in
    told_on (TellsRead (IsOfCommit old extra w.author.now w.committer.now w.message.now) (IsAtHead old)) e c.from_residual-in_err-parents.result c.from_residual-in_err-parents.ensures.1
    (at_head_read old extra w.author.now w.committer.now w.message.now e (subst (λ (m : FileMap). TellsRead NoneRead (IsAtHead m) e) second (c.in_err-parents.ensures.file honest)))

pub returns-in_err-write_objects-clause-file : goal.returns-in_err-write_objects-clause-file
returns-in_err-write_objects-clause-file g c = λ honest.
    let w = c.args.words in
    let content = g.F.Files.content in
    let old = content c.args.files.now in
    let extra = c.args.extra.now in
    let e = c.in_err-write_objects.field-0.0 in
    let found = looked w.author.now w.committer.now c.in_ok-head.ensures.same c.in_ok-refuse_bad_parents.ensures.same c.in_ok-parents.ensures.same c.in_ok-index.ensures.same
    (c.in_ok-refuse_lines.ensures.author, c.in_ok-refuse_lines.ensures.committer) (c.in_ok-head.ensures.found honest) (c.in_ok-head.ensures.free honest) (c.in_ok-refuse_bad_parents.ensures.good honest)
    (c.in_ok-parents.ensures.parents honest) (c.in_ok-index.ensures.spelled honest) in
    told_on (TellsRead (IsOfCommit old extra w.author.now w.committer.now w.message.now) (IsAtHead old)) e c.from_residual-in_err-write_objects.result c.from_residual-in_err-write_objects.ensures.1
    (made_read old extra w.author.now w.committer.now w.message.now c.in_ok-index.index found.spelled _ (c.deref.ensures.value ∙ found.parents_are) e c.in_err-write_objects.ensures.file)

pub returns-in_err-id-clause-file : goal.returns-in_err-id-clause-file
returns-in_err-id-clause-file g c = λ honest.
    let w = c.args.words in
    let content = g.F.Files.content in
    let old = content c.args.files.now in
    let extra = c.args.extra.now in
    let e = c.in_err-id.field-0.0 in
    let found = looked w.author.now w.committer.now c.in_ok-head.ensures.same c.in_ok-refuse_bad_parents.ensures.same c.in_ok-parents.ensures.same c.in_ok-index.ensures.same
    (c.in_ok-refuse_lines.ensures.author, c.in_ok-refuse_lines.ensures.committer) (c.in_ok-head.ensures.found honest) (c.in_ok-head.ensures.free honest) (c.in_ok-refuse_bad_parents.ensures.good honest)
    (c.in_ok-parents.ensures.parents honest) (c.in_ok-index.ensures.spelled honest) in
    told_on (TellsRead (IsOfCommit old extra w.author.now w.committer.now w.message.now) (IsAtHead old)) e c.from_residual-in_err-id.result c.from_residual-in_err-id.ensures.1
    (made_read old extra w.author.now w.committer.now w.message.now c.in_ok-index.index found.spelled _ (c.deref-2.ensures.value ∙ found.parents_are) e c.in_err-id.ensures.file)

pub returns-in_err-move_head-clause-file : goal.returns-in_err-move_head-clause-file
returns-in_err-move_head-clause-file g c = λ honest.
    let w = c.args.words in
    let content = g.F.Files.content in
    let old = content c.args.files.now in
    let extra = c.args.extra.now in
    let e = c.in_err-move_head.field-0.0 in
    let fourth : content c.kept_or_read.new.files ≡ old = c.in_ok-index.ensures.same ∙ c.in_ok-parents.ensures.same ∙ c.in_ok-refuse_bad_parents.ensures.same ∙ c.in_ok-head.ensures.same in
    let outside = subst (λ (m : FileMap). SameOutside (codes "objects/") m (content c.write_objects-2.new.files)) fourth (c.in_ok-id.ensures.outside honest) in
    told_on (TellsRead (IsOfCommit old extra w.author.now w.committer.now w.message.now) (IsAtHead old)) e c.from_residual-in_err-move_head.result c.from_residual-in_err-move_head.ensures.1
    (at_head_read old extra w.author.now w.committer.now w.message.now e (moving_read old (content c.write_objects-2.new.files) outside c.in_ok-head.head (c.in_ok-head.ensures.found honest) (c.in_ok-head.ensures.free honest) e (c.in_err-move_head.ensures.file honest)))

pub returns-in_err-index-clause-file : goal.returns-in_err-index-clause-file
returns-in_err-index-clause-file g c = λ honest.
    let w = c.args.words in
    let old = g.F.Files.content c.args.files.now in
    let extra = c.args.extra.now in
    let e = c.in_err-index.field-0.0 in
    told_on (TellsRead (IsOfCommit old extra w.author.now w.committer.now w.message.now) (IsAtHead old)) e c.from_residual-in_err-index.result c.from_residual-in_err-index.ensures.1
    (nothing_read old extra w.author.now w.committer.now w.message.now e c.in_err-index.ensures.file)

pub returns-in_err-refuse_lines-clause-file : goal.returns-in_err-refuse_lines-clause-file
returns-in_err-refuse_lines-clause-file g c = λ honest.
    let w = c.args.words in
    let old = g.F.Files.content c.args.files.now in
    let extra = c.args.extra.now in
    let e = c.in_err-refuse_lines.field-0.0 in
    let read : TellsRead (IsOfCommit old extra w.author.now w.committer.now w.message.now) (IsAtHead old) e =
    subst (TellsRead (IsOfCommit old extra w.author.now w.committer.now w.message.now) (IsAtHead old)) (sym c.in_err-refuse_lines.ensures.refused.0) tt in
    search (rules, read)

-- ---- what it may spend

pub returns-in_err-refuse_lines-clause-looks : goal.returns-in_err-refuse_lines-clause-looks
returns-in_err-refuse_lines-clause-looks g c = λ honest. inr (looks_none (search rules))

pub returns-in_err-head-clause-looks : goal.returns-in_err-head-clause-looks
returns-in_err-head-clause-looks g c = λ honest. inr (looks_told c.in_err-head.ensures.wear (search rules))

pub returns-in_err-refuse_bad_parents-clause-looks : goal.returns-in_err-refuse_bad_parents-clause-looks
returns-in_err-refuse_bad_parents-clause-looks g c = λ honest. inr (looks_then c.in_ok-head.ensures.wear (looks_told c.in_err-refuse_bad_parents.ensures.wear (search rules)))

pub returns-in_err-parents-clause-looks : goal.returns-in_err-parents-clause-looks
returns-in_err-parents-clause-looks g c = λ honest. inr (looks_then c.in_ok-head.ensures.wear (looks_then c.in_ok-refuse_bad_parents.ensures.wear (looks_told c.in_err-parents.ensures.wear (search rules))))

pub returns-in_err-index-clause-looks : goal.returns-in_err-index-clause-looks
returns-in_err-index-clause-looks g c = λ honest. inr (looks_then c.in_ok-head.ensures.wear (looks_then c.in_ok-refuse_bad_parents.ensures.wear (looks_then c.in_ok-parents.ensures.wear (looks_told c.in_err-index.ensures.wear (search rules)))))

pub returns-in_err-write_objects-clause-looks : goal.returns-in_err-write_objects-clause-looks
returns-in_err-write_objects-clause-looks g c = λ honest. inr (looks_then c.in_ok-head.ensures.wear (looks_then c.in_ok-refuse_bad_parents.ensures.wear (looks_then c.in_ok-parents.ensures.wear (looks_told c.in_ok-index.ensures.wear (search rules)))))

pub returns-in_err-id-clause-looks : goal.returns-in_err-id-clause-looks
returns-in_err-id-clause-looks g c = λ honest.
    let w = c.args.words in
    let found = looked w.author.now w.committer.now c.in_ok-head.ensures.same c.in_ok-refuse_bad_parents.ensures.same c.in_ok-parents.ensures.same c.in_ok-index.ensures.same
    (c.in_ok-refuse_lines.ensures.author, c.in_ok-refuse_lines.ensures.committer) (c.in_ok-head.ensures.found honest) (c.in_ok-head.ensures.free honest) (c.in_ok-refuse_bad_parents.ensures.good honest)
    (c.in_ok-parents.ensures.parents honest) (c.in_ok-index.ensures.spelled honest) in
    inl (may_make found c.deref.ensures.value c.in_ok-write_objects.ensures.written)

pub returns-in_err-move_head-clause-looks : goal.returns-in_err-move_head-clause-looks
returns-in_err-move_head-clause-looks g c = λ honest.
    let w = c.args.words in
    let found = looked w.author.now w.committer.now c.in_ok-head.ensures.same c.in_ok-refuse_bad_parents.ensures.same c.in_ok-parents.ensures.same c.in_ok-index.ensures.same
    (c.in_ok-refuse_lines.ensures.author, c.in_ok-refuse_lines.ensures.committer) (c.in_ok-head.ensures.found honest) (c.in_ok-head.ensures.free honest) (c.in_ok-refuse_bad_parents.ensures.good honest)
    (c.in_ok-parents.ensures.parents honest) (c.in_ok-index.ensures.spelled honest) in
    inl (may_make found c.deref.ensures.value c.in_ok-write_objects.ensures.written)

pub returns-clause-looks : goal.returns-clause-looks
returns-clause-looks g c = λ honest.
    let w = c.args.words in
    let found = looked w.author.now w.committer.now c.in_ok-head.ensures.same c.in_ok-refuse_bad_parents.ensures.same c.in_ok-parents.ensures.same c.in_ok-index.ensures.same
    (c.in_ok-refuse_lines.ensures.author, c.in_ok-refuse_lines.ensures.committer) (c.in_ok-head.ensures.found honest) (c.in_ok-head.ensures.free honest) (c.in_ok-refuse_bad_parents.ensures.good honest)
    (c.in_ok-parents.ensures.parents honest) (c.in_ok-index.ensures.spelled honest) in
    inl (may_make found c.deref.ensures.value c.in_ok-write_objects.ensures.written)
