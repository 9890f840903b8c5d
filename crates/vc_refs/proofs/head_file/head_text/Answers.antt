use Rattle.std.proofs.Common.{rules, ◌≡◌, true, subst}
use Rattle.std.specs.Prelude.{string_bytes}
use Rattle.std.specs.Str.{is_utf8}
use Rattle.std.proofs.lemmas.Str.{is_utf8-from_IsUtf8}
use Rattle.vc_refname.specs.RefName.{IsRefName}
use Rattle.vc_refs.specs.declared.heads.Head.TheVariants.{Branch, Id}
use Rattle.vc_refs.specs.RefFile.{id_text}
use Rattle.vc_refs.specs.RefMap.{is_ref}
use Rattle.vc_refs.specs.Head.{head_text, IsHeadInRefs}
use Rattle.vc_refs.proofs.RefsLemmas.{is_ref-from_legal}
use Rattle.vc_refs.proofs.HeadLemmas.{read_head-branch, read_head-id}
use Rattle.vc_refs.proofs.head_file.head_text.Goals as goal

pub returns-in_ok-push-in-Branch-clause-read_back : goal.returns-in_ok-push-in-Branch-clause-read_back
returns-in_ok-push-in-Branch-clause-read_back c =
    let name = c.in-Branch.name in
    let is : c.args.head.now ≡ Branch name = search rules in
    let made : string_bytes c.push.new.self ≡ head_text (Branch name) = search rules in
    let legal : is_ref name ≡ true = is_ref-from_legal name (subst IsRefName c.as_str.ensures.text c.as_str.ensures.legal) (subst IsHeadInRefs is c.requires) in
    let text : is_utf8 name ≡ true = is_utf8-from_IsUtf8 name (rw (← c.as_str.ensures.text) (c.as_str.utf8)) in
    rw (made, is) (read_head-branch name legal text)

pub returns-in_ok-text-in-Id-clause-read_back : goal.returns-in_ok-text-in-Id-clause-read_back
returns-in_ok-text-in-Id-clause-read_back c =
    let id = c.in-Id.id in
    let is : c.args.head.now ≡ Id id = search rules in
    let made : string_bytes c.in_ok-text-in-Id.text ≡ id_text id = search rules in
    rw (made, is) (read_head-id id (search rules))
