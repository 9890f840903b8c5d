use Rattle.std.proofs.Common.{rules, ◌≡◌, ◌++◌, ◌∷◌, [], ◌∙◌, ap, Some, None}
use Rattle.std.specs.Map.{values_of}
use Rattle.vc_pack.proofs.ValuesLemmas.{values-none, values-branch, values-detached}
use Rattle.vc_refs.specs.Head.{head_of}
use Rattle.vc_refs.specs.declared.heads.Head.TheVariants as head
use Rattle.vc_pack.proofs.values.ref_values.Goals as goal

pub returns-in_default-clause-values : goal.returns-in_default-clause-values
returns-in_default-clause-values g c honest =
    let content = g.F.Files.content c.args.files.now in
    let listed = c.in_ok-listed.listed.items in
    let ids : c.in_ok-ids.ids.items ≡ values_of listed = c.in_ok-ids.ensures ∙ ap values_of c.deref.ensures.value in
    let here : head_of content ≡ None = search (rules, c.in_ok-found.ensures.found honest, c.in_ok-listed.ensures.same, c.in_default.is) in
    rw ids (values-none content listed (c.in_ok-listed.ensures.listed honest) here)

pub returns-in-Branch-clause-values : goal.returns-in-Branch-clause-values
returns-in-Branch-clause-values g c honest =
    let content = g.F.Files.content c.args.files.now in
    let listed = c.in_ok-listed.listed.items in
    let ids : c.in_ok-ids.ids.items ≡ values_of listed = c.in_ok-ids.ensures ∙ ap values_of c.deref.ensures.value in
    let here : head_of content ≡ Some (head.Branch c.in-Branch.field-0) = search (rules, c.in_ok-found.ensures.found honest, c.in_ok-listed.ensures.same, c.in-Some.is, c.in-Branch.is) in
    rw ids (values-branch content listed (c.in_ok-listed.ensures.listed honest) c.in-Branch.field-0 here)

pub returns-clause-values : goal.returns-clause-values
returns-clause-values g c honest =
    let content = g.F.Files.content c.args.files.now in
    let listed = c.in_ok-listed.listed.items in
    let ids : c.push.new.self.items ≡ values_of listed ++ c.in-Id.id ∷ [] = search (rules, c.in_ok-push-in-Id.ensures.items, c.in_ok-ids.ensures, c.deref.ensures.value) in
    let here : head_of content ≡ Some (head.Id c.in-Id.id) = search (rules, c.in_ok-found.ensures.found honest, c.in_ok-listed.ensures.same, c.in-Some.is, c.in-Id.is) in
    rw ids (values-detached content listed (c.in_ok-listed.ensures.listed honest) c.in-Id.id here)

pub returns-in_default-clause-good : goal.returns-in_default-clause-good
returns-in_default-clause-good g c honest = (c.in_ok-listed.ensures.good honest, rw c.in_ok-listed.ensures.same at (c.in_ok-found.ensures.good honest))

pub returns-in-Branch-clause-good : goal.returns-in-Branch-clause-good
returns-in-Branch-clause-good g c honest = (c.in_ok-listed.ensures.good honest, rw c.in_ok-listed.ensures.same at (c.in_ok-found.ensures.good honest))

pub returns-clause-good : goal.returns-clause-good
returns-clause-good g c honest = (c.in_ok-listed.ensures.good honest, rw c.in_ok-listed.ensures.same at (c.in_ok-found.ensures.good honest))
