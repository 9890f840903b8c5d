use Rattle.std.proofs.Common.{rules, ◌≡◌, true, get_or, take}
use Rattle.std.specs.Prelude.{is_some}
use Rattle.std.specs.FinMap as files
use Rattle.vc_refs.proofs.ObstacleLemmas.{first_folder, free_above, none_shorter_all, there_from_read}
use Rattle.vc_refs.proofs.obstacle.taken_folder.Goals as goal

pub returns-then-is_some-clause-first : goal.returns-then-is_some-clause-first
returns-then-is_some-clause-first g c = λ honest.
    let content = g.F.Files.content c.args.files.now in
    let there : is_some (files.get content (take c.loop-i.i c.args.path.now)) ≡ true =
    rw (← c.split_at.ensures.front, ← c.loop-i.invariant.same) (there_from_read (λ bytes. bytes.items) c.in_ok-get.field-0 _ (c.in_ok-get.ensures.found honest) (search rules)) in
    let slash : get_or c.args.path.now c.loop-i.i 0 ≡ 47 = search rules in
    rw c.split_at.ensures.front (first_folder content c.args.path.now c.loop-i.i c.requires (search rules) (search rules) slash there (c.loop-i.invariant.none_shorter honest))

pub returns-clause-first : goal.returns-clause-first
returns-clause-first g c = λ honest. free_above _ _ (none_shorter_all _ _ c.loop-i.i (search rules) (c.loop-i.invariant.none_shorter honest))
