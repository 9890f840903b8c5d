use Rattle.std.proofs.Common.{rules, ◌≡◌, ℕ, Some, sym, ap, ◌∙◌}
use Rattle.std.specs.Prelude.{Vec, codes, option_and_then, option_map}
use Rattle.std.specs.FinMap.{get}
use Rattle.std.specs.Global.{Global}
use Rattle.vc_refs.specs.RefFile.{id_in}
use Rattle.vc_working.proofs.begun.begun.Goals as goal

pub returns-clause-found : goal.returns-clause-found
returns-clause-found g c = λ honest.
    let some : c.in_ok-text.field-0 ≡ Some c.in-Some.text = search rules in
    let there : get (g.F.Files.content c.args.files.now) (codes "begun-checkout") ≡ Some c.in-Some.text.items = sym (c.in_ok-text.ensures.found honest) ∙ ap (option_map (λ (v : Vec ℕ Global). v.items)) some in
    let is : c.id_in.result ≡ id_in c.in-Some.text.items = search rules in
    is ∙ sym (ap (option_and_then id_in) there)
