-- A whole exchange of the clone that files hold, from the files before it to those after it.
use Rattle.std.specs.Prelude.{◌≡◌, IsTrue, Result, Err}
use Rattle.vc_files.specs.FileMap.{FileMap}
use Rattle.vc_local.specs.NodeFault.{is_fault}
use Rattle.vc_local.specs.Opening.{IsOpenable, opened_node}
use Rattle.vc_local.specs.declared.fault.NodeFault.{NodeFault}
use Rattle.vc_model.specs.Repository.{Repository}
use Rattle.vc_node.specs.declared.clone_fault.CloneFault.TheVariants.{Node}
use Rattle.vc_rules.specs.Git.{git}
use Rattle.vc_trail.specs.Trail.{AreExchanged, IsTrail, Trail, clone_after}
use Rattle.vc_values.proofs.GitLaws.{git_rules}
use Rattle.vc_world.specs.declared.ending.ExchangeEnd.{ExchangeEnd}
use Rattle.vc_world.specs.declared.ending.ExchangeEnd.TheVariants as of

-- A fault came before the clone was opened, and nobody was asked.
abbrev pub IsUnopened : {P T R : Type 0} → P → Result T (ExchangeEnd R) → P → Type 0
IsUnopened p result q = (fault : NodeFault) × (result ≡ Err (of.Clone (Node fault))) × IsTrue (is_fault fault) × (q ≡ p)

-- The files can be opened as before; or a trail leads from the clone that was opened to one as whose repository they can be opened now.
pub data LeadsFiles (new : FileMap) (r : Repository) (Unopened : Type 0) (Comes : Trail → Type 0) : Type 0 where
  unopened : Unopened → IsOpenable new r → LeadsFiles new r Unopened Comes
  led : (trail : Trail) → IsTrail git git_rules (opened_node r) trail → AreExchanged git trail → IsOpenable new (clone_after (opened_node r) trail).repository → Comes trail → LeadsFiles new r Unopened Comes
