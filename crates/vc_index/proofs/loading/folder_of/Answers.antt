use Rattle.std.proofs.Common.{rules, ◌≡◌, ◌∷◌, ◌++◌, sym, ◌∙◌, ap, []}
use Rattle.vc_index.specs.HeldFiles.{under}
use Rattle.vc_index.proofs.PartLemmas.{under_some}
use Rattle.vc_index.proofs.ReadLemmas.{nothing}
use Rattle.vc_index.proofs.loading.folder_of.Goals as goal
use Rattle.vc_lemmas.proofs.Texts.{not_nothing}

pub returns-then-is_empty : goal.returns-then-is_empty
returns-then-is_empty c =
    let none : c.args.path.now ≡ [] = nothing c.args.path.now (search rules) in
    c.new.ensures.items ∙ sym (ap under none)

pub returns : goal.returns
returns c =
    let made : c.push.new.self.items ≡ c.args.path.now ++ 47 ∷ [] = search rules in
    made ∙ sym (under_some c.args.path.now (not_nothing c.args.path.now (search rules)))
