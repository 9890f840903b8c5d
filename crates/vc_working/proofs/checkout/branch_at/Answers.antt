use Rattle.std.proofs.Common.{rules, ℕ, List, subst}
use Rattle.vc_refs.specs.RefFault.{BlamesRef}
use Rattle.vc_refs.specs.Refs.{deciding_file, IsBadRef}
use Rattle.vc_working.specs.Checkout.{IsOfRef}
use Rattle.vc_working.specs.CloneWords.{IsOfBranch, branch_ref}
use Rattle.vc_cli.specs.declared.failure.Failure.TheVariants.{Refs}
use Rattle.vc_working.proofs.CloneLemmas.{no_ref}
use Rattle.vc_working.proofs.checkout.branch_at.Goals as goal

pub returns-in-Err-Name-clause-found : goal.returns-in-Err-Name-clause-found
returns-in-Err-Name-clause-found g c = λ honest.
    no_ref _ (branch_ref c.args.name.now) c.in-Err-Name.field-0-0 (subst (IsOfBranch c.args.name.now) c.in-Err-Name.field-0-is c.in-Err-Name.ensures.refused)

pub returns-in_err-id-clause-refused : goal.returns-in_err-id-clause-refused
returns-in_err-id-clause-refused g c = λ honest.
    let content = g.F.Files.content c.args.files.now in
    let fault = c.in_err-id.field-0.0 in
    let told : IsOfRef content (branch_ref c.args.name.now) (Refs fault) = subst (λ (n : List ℕ). BlamesRef content n fault) c.in-Ok.ensures.name (c.in_err-id.ensures.refused honest) in
    search (rules, told)

pub returns-in_default-clause-good : goal.returns-in_default-clause-good
returns-in_default-clause-good g c = λ honest legal.
    let content = g.F.Files.content c.args.files.now in
    subst (λ (n : List ℕ). IsBadRef content (deciding_file content n) → ⊥) c.in-Ok.ensures.name (c.in_ok-id.ensures.good honest)

pub returns-clause-good : goal.returns-clause-good
returns-clause-good g c = λ honest legal.
    let content = g.F.Files.content c.args.files.now in
    subst (λ (n : List ℕ). IsBadRef content (deciding_file content n) → ⊥) c.in-Ok.ensures.name (c.in_ok-id.ensures.good honest)
