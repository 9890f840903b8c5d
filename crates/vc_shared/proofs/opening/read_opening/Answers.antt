use Rattle.std.proofs.Common.{◌≡◌, Err, inl, inr, rules}
use Rattle.vc_local.specs.declared.fault.NodeFault.TheVariants.{Ref, Store}
use Rattle.vc_shared.proofs.opening.read_opening.Goals as goal
use Rattle.vc_shared.specs.Opening.{BlamesOpening}

pub returns-clause-shows : goal.returns-clause-shows
returns-clause-shows g c = λ honest. record {
  refs = c.in_ok-refs.ensures.listed honest;
  spelled = c.in_ok-refs.ensures.good honest;
  head = rw c.in_ok-refs.ensures.same at (c.in_ok-head.ensures.found honest);
  good = rw c.in_ok-refs.ensures.same at (c.in_ok-head.ensures.good honest);
  sorted = c.in_ok-names.ensures.lists.sorted honest;
  names = rw (c.in_ok-head.ensures.same, c.in_ok-refs.ensures.same) at (c.in_ok-names.ensures.lists.exact honest);
}

pub returns-in_err-refs-clause-refused : goal.returns-in_err-refs-clause-refused
returns-in_err-refs-clause-refused g c = λ honest.
    let e = c.in_err-refs.field-0.0 in
    let told : BlamesOpening (g.F.Files.content c.args.files.now) (Ref e) = inl (c.in_err-refs.ensures.refused honest) in
    let is : c.from_residual.result ≡ Err (Ref e) = search rules in
    rw is told

pub returns-in_err-head-clause-refused : goal.returns-in_err-head-clause-refused
returns-in_err-head-clause-refused g c = λ honest.
    let e = c.in_err-head.field-0.0 in
    let told : BlamesOpening (g.F.Files.content c.args.files.now) (Ref e) = inr (c.in_ok-refs.ensures.good honest, rw c.in_ok-refs.ensures.same at (c.in_err-head.ensures.refused honest)) in
    let is : c.from_residual-in_err-head.result ≡ Err (Ref e) = search rules in
    rw is told

pub returns-in_err-names-clause-refused : goal.returns-in_err-names-clause-refused
returns-in_err-names-clause-refused g c = λ honest.
    let e = c.in_err-names.field-0.0 in
    let told : BlamesOpening (g.F.Files.content c.args.files.now) (Store e) = c.in_err-names.ensures.fault in
    let is : c.from_residual-in_err-names.result ≡ Err (Store e) = search rules in
    rw is told
