use Rattle.std.proofs.Common.{rules, Result, Ok}
use Rattle.std.specs.BTreeSet.{IsFromIterResult}
use Rattle.std.specs.declared.alloc.AllocError.{AllocError}
use Rattle.std.proofs.lemmas.Iterator.Adapters.{fact_from_collect, YieldsList-from_vec}
use Rattle.vc_index.proofs.MapLemmas.{key_cmp}
use Rattle.vc_checkout.proofs.PathSetLemmas.{Paths, has_path-listed}
use Rattle.vc_checkout.proofs.paths.path_set.Goals as goal

pub returns : goal.returns
returns c =
    let made : IsFromIterResult key_cmp c.args.paths.items c.in_ok-set.set =
    fact_from_collect (IsFromIterResult key_cmp) (let r : Result Paths AllocError = Ok c.in_ok-set.set in r) c.in_ok-set.ensures.ran
    (YieldsList-from_vec {s = c.into_iter.result} c.args.paths.items (search rules) (search rules)) in
    has_path-listed c.args.paths.items c.in_ok-set.set made
