use Rattle.std.proofs.Common.{rules, ◌≡◌, ◌∙◌, Ok, Some, None, ap, inl, inr, refl, subst}
use Rattle.vc_files.specs.FileMap.{FileMap}
use Rattle.vc_refs.specs.Refs.{refs}
use Rattle.vc_refs.specs.declared.heads.Head.TheVariants as heads
use Rattle.vc_working.specs.Checkout.{IsCommitTree, IsOfCommit, IsOfTarget}
use Rattle.vc_working.specs.CloneWords.{branch_ref}
use Rattle.vc_cli.specs.Revisions.{Denoted, IsOfRevision}
use Rattle.vc_cli.proofs.ToldLemmas.{handed_on}
use Rattle.vc_working.proofs.CheckoutLemmas.{no_branch, no_detached, target_branch, target_detached, value_found}
use Rattle.vc_working.proofs.checkout.target.Goals as goal

pub returns-in_err-named-clause-refused : goal.returns-in_err-named-clause-refused
returns-in_err-named-clause-refused g c = λ honest.
    let old = g.F.Files.content c.args.files.now in
    let revision = c.args.revision.now in
    let e = c.in_err-named.field-0.0 in
    let none : refs old (branch_ref revision) ≡ None = search (rules, c.in_ok-branch.ensures.found honest) in
    handed_on (IsOfTarget old revision) e c.from_residual-in_err-named.result c.from_residual-in_err-named.ensures.1
    (no_detached old revision (c.in_ok-branch.ensures.good honest) e none (inl (subst (λ (m : FileMap). IsOfRevision m revision e) c.in_ok-branch.ensures.same (c.in_err-named.ensures.refused honest))))

pub returns-in_err-commit-clause-refused : goal.returns-in_err-commit-clause-refused
returns-in_err-commit-clause-refused g c = λ honest.
    let content = g.F.Files.content in
    let old = content c.args.files.now in
    let revision = c.args.revision.now in
    let e = c.in_err-commit.field-0.0 in
    let looked : content c.branch_at.new.files ≡ old = c.in_ok-branch.ensures.same in
    let resolved : content c.resolve.new.files ≡ old = c.in_ok-named.ensures.same ∙ looked in
    let none : refs old (branch_ref revision) ≡ None = search (rules, c.in_ok-branch.ensures.found honest) in
    handed_on (IsOfTarget old revision) e c.from_residual-in_err-commit.result c.from_residual-in_err-commit.ensures.1
    (no_detached old revision (c.in_ok-branch.ensures.good honest) e none
    (inr (
      c.in_ok-named.named,
      subst (λ (m : FileMap). Denoted m revision (Ok c.in_ok-named.named)) looked (c.in_ok-named.ensures.value honest),
      subst (λ (m : FileMap). IsOfCommit m c.in_ok-named.named e) resolved (c.in_err-commit.ensures.refused honest),
    )))

pub returns-in_default-clause-target : goal.returns-in_default-clause-target
returns-in_default-clause-target g c = λ honest.
    let content = g.F.Files.content in
    let old = content c.args.files.now in
    let revision = c.args.revision.now in
    let named = c.in_ok-named.named in
    let commit = c.in_ok-commit.commit in
    let root = c.in_ok-commit.tree in
    let looked : content c.branch_at.new.files ≡ old = c.in_ok-branch.ensures.same in
    let resolved : content c.resolve.new.files ≡ old = c.in_ok-named.ensures.same ∙ looked in
    let none : refs old (branch_ref revision) ≡ None = search (rules, c.in_ok-branch.ensures.found honest) in
    target_detached old revision (c.in_ok-branch.ensures.good honest) (heads.Id commit) root none
    (record {
      named = named;
      commit = commit;
      named_is = subst (λ (m : FileMap). Denoted m revision (Ok named)) looked (c.in_ok-named.ensures.value honest);
      tree = subst (λ (m : FileMap). IsCommitTree m named commit root) resolved (c.in_ok-commit.ensures.tree honest);
      head_is = refl;
    })

pub returns-in_err-tree-clause-refused : goal.returns-in_err-tree-clause-refused
returns-in_err-tree-clause-refused g c = λ honest.
    let content = g.F.Files.content in
    let old = content c.args.files.now in
    let revision = c.args.revision.now in
    let e = c.in_err-tree.field-0.0 in
    let looked : content c.branch_at.new.files ≡ old = c.in_ok-branch.ensures.same in
    let some : refs old (branch_ref revision) ≡ Some c.in-Some.id = value_found c.in_ok-branch.field-0 c.in-Some.branch c.in-Some.id (refs old (branch_ref revision)) (search rules) (c.in_ok-branch.ensures.found honest) in
    handed_on (IsOfTarget old revision) e c.from_residual-in_err-tree.result c.from_residual-in_err-tree.ensures.1
    (no_branch old revision (c.in_ok-branch.ensures.good honest) e c.in-Some.id some (subst (λ (m : FileMap). IsOfCommit m c.in-Some.id e) looked (c.in_err-tree.ensures.refused honest)))

pub returns-clause-target : goal.returns-clause-target
returns-clause-target g c = λ honest.
    let content = g.F.Files.content in
    let old = content c.args.files.now in
    let revision = c.args.revision.now in
    let id = c.in-Some.id in
    let root = c.in_ok-tree.tree in
    let commit = c.in_ok-tree.field-0-0 in
    let looked : content c.branch_at.new.files ≡ old = c.in_ok-branch.ensures.same in
    let some : refs old (branch_ref revision) ≡ Some id = value_found c.in_ok-branch.field-0 c.in-Some.branch id (refs old (branch_ref revision)) (search rules) (c.in_ok-branch.ensures.found honest) in
    let name : c.in-Some.branch ≡ branch_ref revision = search (rules, c.in_ok-branch.ensures.name) in
    target_branch old revision (c.in_ok-branch.ensures.good honest) (heads.Branch c.in-Some.branch) root id some
    (record {
      commit = commit;
      tree = subst (λ (m : FileMap). IsCommitTree m id commit root) looked (c.in_ok-tree.ensures.tree honest);
      head_is = ap heads.Branch name;
    })
