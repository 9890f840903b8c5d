use Rattle.std.proofs.Common.{rules, ◌≡◌, Err}
use Rattle.std.specs.FinMap as names
use Rattle.vc_refs.proofs.LayeredListingLemmas.{same_map_of}
use Rattle.vc_refs.specs.Refs.{refs}
use Rattle.vc_session.proofs.TogetherLemmas.{list_refused}
use Rattle.vc_session.specs.SessionFault.{from_refs}
use Rattle.vc_session.proofs.updating_all.judge_all.Goals as goal

pub returns-in_err-refs-clause-refused : goal.returns-in_err-refs-clause-refused
returns-in_err-refs-clause-refused g c = λ honest.
    let e = c.in_err-refs.field-0.0 in
    let is : c.from_residual.result ≡ Err (from_refs e) = search rules in
    rw is (list_refused (g.F.Files.content c.args.files.now) e (c.in_err-refs.ensures.refused honest))

pub returns-clause-judged : goal.returns-clause-judged
returns-clause-judged g c =
    let content = g.F.Files.content c.args.files.now in
    (names.get c.in_ok-refs.refs, c.in_ok-made.ensures, λ honest. same_map_of (refs content) c.in_ok-refs.refs (c.in_ok-refs.ensures.found honest))
