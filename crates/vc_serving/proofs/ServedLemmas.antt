-- For a store that is made ready to be served.
use Rattle.std.proofs.Common.{◌≡◌, List, ℕ}
use Rattle.vc_cli.proofs.StoreLemmas.{gave, of_lock}
use Rattle.vc_cli.specs.Stores.{Contents, GivesBack}
use Rattle.vc_files.specs.FileMap.{FileMap}

-- what was done to the files that were opened by a lock is done to the store that was locked
pub made_so : (P : FileMap → FileMap → Type 0) (held store : List ℕ) (files back : FileMap) (old mid before new : Contents) → held ≡ store → mid ≡ old → files ≡ mid held → GivesBack held back before new → P files back → P (old store) (new store)
made_so P held store files back old mid before new is same opened given h = of_lock P held store old mid new is same (gave P held files back mid before new opened given h)
