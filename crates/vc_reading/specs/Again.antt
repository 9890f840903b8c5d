-- Words of a command line that are refused when they are looked up alone.
use Rattle.std.specs.Prelude.{◌≡◌, ℕ, List}
use Rattle.vc_files.specs.FileMap.{FileMap}
use Rattle.vc_cli.specs.Failure.{status_of}
use Rattle.vc_cli.specs.Revisions.{IsOfRevision, IsOfTerms}
use Rattle.vc_cli.specs.declared.failure.Failure.{Failure}

-- the revision has no value, and that is no fault
pub record IsRefusedRevision (content : FileMap) (text : List ℕ) : Type 0 where
  pub failure : Failure
  pub refused : IsOfRevision content text failure
  pub status : status_of failure ≡ 1

-- the terms select nothing, and that is no fault
pub record IsRefusedTerms (content : FileMap) (text : List ℕ) : Type 0 where
  pub failure : Failure
  pub refused : IsOfTerms content text failure
  pub status : status_of failure ≡ 1
