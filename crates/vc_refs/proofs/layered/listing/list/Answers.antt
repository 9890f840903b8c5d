use Rattle.std.proofs.Common.{sym, subst}
use Rattle.vc_refs.specs.Refs.{refs}
use Rattle.vc_refs.specs.RefMap.{IsListOf}
use Rattle.vc_refs.proofs.LayeredListingLemmas.{listed_map}
use Rattle.vc_refs.proofs.layered.listing.list.Goals as goal

pub returns-clause-listed : goal.returns-clause-listed
returns-clause-listed g c = λ honest.
    let content = g.F.Files.content c.args.files.now in
    subst (IsListOf (refs content)) (sym c.in_ok-listed.ensures) (listed_map content c.in_ok-refs.refs (c.in_ok-refs.ensures.found honest))
