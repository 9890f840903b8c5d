use Rattle.std.proofs.Common.{◌∙◌, ap, sym, subst}
use Rattle.std.specs.Prelude.{IfErr}
use Rattle.vc_cli.proofs.StoreLemmas.{gave}
use Rattle.vc_cli.specs.Stores.{Contents}
use Rattle.vc_files.specs.FileMap.{FileMap}
use Rattle.vc_reading.specs.Pruned.{LeavesPruned}
use Rattle.vc_reading.proofs.PruneLemmas.{left_untold}
use Rattle.vc_reading.proofs.prune.prune.Goals as goal

pub returns-clause-left : goal.returns-clause-left
returns-clause-left g c = λ honest.
    let content = g.S.Files.Files.content in
    let store = g.S.Stores.of c.args.lock.now in
    let was = c.in_ok-files.ensures.opened ∙ ap (λ (held : Contents). held store) c.in_ok-_alone.ensures.same in
    let before = g.O.Write.contents c.args.output.now in
    let after = g.O.Write.contents c.print_pruned.new.output in
    let pruned = c.prune_in-pruned in
    let told = c.print_pruned.result in
    let own = left_untold (content c.new-counted.result.files) (content pruned.new.files.files) before after pruned.result told (pruned.ensures.pruned honest) (pruned.ensures.err honest) c.print_pruned.ensures.untold in
    let opened = subst (λ (m : FileMap). IfErr told (LeavesPruned m (content pruned.new.files.files) before after)) (ap content c.new-counted.ensures.files) own in
    let handed = subst (λ (m : FileMap). IfErr told (LeavesPruned (content c.in_ok-files.files) m before after)) (sym (ap content c.end-files.ensures.files)) opened in
    let stores = g.S.Stores.content in
    gave (λ (was is : FileMap). IfErr told (LeavesPruned was is before after)) store (content c.in_ok-files.files) (content c.end-files.result.0) (stores c.args.stores.now) (stores c.open_locked.new.self) (stores c.close_locked.new.self)
    was c.close_locked.ensures.back handed
