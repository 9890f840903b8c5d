use Rattle.std.proofs.Common.{◌≡◌, ◌++◌, None, Some, sym, ap, ◌∙◌}
use Rattle.std.proofs.lemmas.Bool.Decides.{Decides-eqb}
use Rattle.std.proofs.lemmas.Slice.Eq.{strip_prefix_is}
use Rattle.vc_files.specs.Path.{is_above}
use Rattle.vc_files.proofs.PathLemmas.{is_above-behind, is_above-never}
use Rattle.vc_files.proofs.path.is_above.Goals as goal

pub returns-in-Some : goal.returns-in-Some
returns-in-Some c =
    let is : c.args.path.now ≡ c.args.folder.now ++ c.in-Some.rest.now = strip_prefix_is Decides-eqb c.args.path.now c.args.folder.now (Some c.in-Some.rest) c.in-Some.ensures.cases in
    c.starts_with.ensures.value ∙ is_above-behind c.args.folder.now c.in-Some.rest.now ∙ ap (is_above c.args.folder.now) (sym is)

pub returns-in-None : goal.returns-in-None
returns-in-None c = is_above-never c.args.folder.now c.args.path.now (strip_prefix_is Decides-eqb c.args.path.now c.args.folder.now None c.in-None.ensures.cases)
