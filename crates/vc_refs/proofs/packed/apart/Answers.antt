use Rattle.std.proofs.Common.{rules, sym}
use Rattle.vc_refs.proofs.ApartLemmas.{apart_map-found, apart_map-not_found}
use Rattle.vc_refs.proofs.packed.apart.Goals as goal

pub returns-then-is_some-clause-found : goal.returns-then-is_some-clause-found
returns-then-is_some-clause-found c = sym (apart_map-found (λ name. name.now) c.args.refs c.in_ok-first_folder.field-0 c.in_ok-first_folder.ensures.first (search rules))

pub returns-clause-found : goal.returns-clause-found
returns-clause-found c = sym (apart_map-not_found (λ name. name.now) c.args.refs c.in_ok-first_folder.field-0 c.in_ok-first_folder.ensures.first (search rules))
