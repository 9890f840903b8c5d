use Rattle.std.proofs.Common.{ap, subst}
use Rattle.std.specs.Prelude.{◌↔◌, Contains}
use Rattle.vc_files.specs.FileMap.{FileMap}
use Rattle.vc_object.specs.declared.id.ObjectId.{ObjectId}
use Rattle.vc_repository.specs.Resolving.{over}
use Rattle.vc_repository.specs.State.{state}
use Rattle.vc_rev_set.specs.Selection.{IsSelectedBy, IsToldOfSet, IsWalked}
use Rattle.vc_expression.specs.SetViews.{terms_view}
use Rattle.vc_object_map.specs.Store.{objects, IsDamaged}
use Rattle.vc_repository.specs.State.{IsCause}
use Rattle.vc_cli.proofs.repository.select.Goals as goal

pub returns-in-Ok-resolve_set-clause-selected : goal.returns-in-Ok-resolve_set-clause-selected
returns-in-Ok-resolve_set-clause-selected g c = λ honest.
    let repository = c.new-repository.result in
    let s = state repository.files.ghost_name (g.F.Files.content repository.files.now) repository.index.now in
    let same = ap g.F.Files.content c.new-repository.ensures.files in
    let found = c.in-Ok-resolve_set.ensures.ok honest in
    record {
      terms = terms_view c.in-Ok.set;
      spelled = c.in-Ok.ensures.ok;
      s = s;
      files = same;
      chosen = found.0;
      gives = found.1;
      walked = subst (λ (m : FileMap). IsWalked (objects m) found.0) same found.2;
      exact = subst (λ (m : FileMap). (id : ObjectId) → Contains c.in-Ok-resolve_set.ids.items id ↔ IsSelectedBy (objects m) found.0 id) same found.3;
    }

pub returns-clause-refused : goal.returns-clause-refused
returns-clause-refused g c = λ honest.
    let repository = c.new-repository.result in
    let s = state repository.files.ghost_name (g.F.Files.content repository.files.now) repository.index.now in
    let same = ap g.F.Files.content c.new-repository.ensures.files in (
      terms_view c.in-Ok.set,
      s,
      c.in-Ok.ensures.ok,
      same,
      subst (λ (m : FileMap). IsToldOfSet (over s) (IsCause s) (IsDamaged m) (terms_view c.in-Ok.set) c.in-Err-resolve_set.fault) same (c.in-Err-resolve_set.ensures.refused honest),
    )
