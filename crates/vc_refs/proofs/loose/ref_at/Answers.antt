use Rattle.std.proofs.Common.{rules, ◌≡◌, false, Some, None, sym, ap, ◌∙◌, subst}
use Rattle.std.specs.Prelude.{codes, nat_eq, option_map}
use Rattle.std.specs.List.{starts_with}
use Rattle.std.proofs.lemmas.Bool.{and_parts}
use Rattle.vc_refname.specs.RefName.{is_ref_name}
use Rattle.vc_refs.specs.RefMap.{IsInRefs, is_ref}
use Rattle.vc_refs.specs.Refs.{loose_refs}
use Rattle.vc_refs.proofs.RefsLemmas.{loose-none}
use Rattle.vc_refs.proofs.HeadLemmas.{named_ref, no_named_ref}
use Rattle.vc_refs.proofs.loose.ref_at.Goals as goal

pub returns-in_default-clause-refused : goal.returns-in_default-clause-refused
returns-in_default-clause-refused g c = λ honest.
    let other : is_ref c.args.path.now ≡ false = no_named_ref c.args.path.now (rw c.in_default.is at c.in_ok-name.ensures) in
    (search rules, loose-none _ _ other)

pub get-requires : goal.get-requires
get-requires g c =
    let named = named_ref c.args.path.now c.in-Some.name (rw c.in-Some.is at c.in_ok-name.ensures) in
    subst IsInRefs (sym named.0) (and_parts (is_ref_name c.args.path.now) (starts_with nat_eq c.args.path.now (codes "refs/")) named.1).1

pub returns-in-Some-2-clause-inside : goal.returns-in-Some-2-clause-inside
returns-in-Some-2-clause-inside g c =
    let named = named_ref c.args.path.now c.in-Some.name (rw c.in-Some.is at c.in_ok-name.ensures) in
    subst IsInRefs (sym named.0) (and_parts (is_ref_name c.args.path.now) (starts_with nat_eq c.args.path.now (codes "refs/")) named.1).1

pub returns-in-Some-2-clause-found : goal.returns-in-Some-2-clause-found
returns-in-Some-2-clause-found g c = λ honest.
    let named = named_ref c.args.path.now c.in-Some.name (rw c.in-Some.is at c.in_ok-name.ensures) in
    let found : Some c.in-Some-2.id ≡ loose_refs (g.F.Files.content c.args.files.now) c.args.path.now = rw (← named.0) (search rules) in
    ap (λ n. Some (n, c.in-Some-2.id)) named.0 ∙ ap (option_map (λ id. (c.args.path.now, id))) found

pub returns-in-None-clause-found : goal.returns-in-None-clause-found
returns-in-None-clause-found g c = λ honest.
    let named = named_ref c.args.path.now c.in-Some.name (rw c.in-Some.is at c.in_ok-name.ensures) in
    let found : None ≡ loose_refs (g.F.Files.content c.args.files.now) c.args.path.now = rw (← named.0) (search rules) in
    ap (option_map (λ id. (c.args.path.now, id))) found

pub returns-in-None-clause-good : goal.returns-in-None-clause-good
returns-in-None-clause-good g c = λ honest.
    let named = named_ref c.args.path.now c.in-Some.name (rw c.in-Some.is at c.in_ok-name.ensures) in
    rw (← named.0) (search rules)
