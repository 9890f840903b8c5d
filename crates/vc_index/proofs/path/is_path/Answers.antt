use Rattle.std.proofs.Common.{rules, ◌≡◌, ◌==◌}
use Rattle.std.specs.List.{list_all}
use Rattle.std.proofs.lemmas.Iterator.Search.{all_from_yields_List}
use Rattle.std.proofs.lemmas.Iterator.Splits.{YieldsList-from_slice_split}
use Rattle.vc_object.specs.Decoding.{is_entry_name}
use Rattle.vc_index.specs.Path.{names_in}
use Rattle.vc_index.proofs.PathLemmas.{path_decides, name_test}
use Rattle.vc_index.proofs.path.is_path.Goals as goal

pub returns : goal.returns
returns c =
    let is : c.all.result ≡ list_all is_entry_name (names_in c.args.path.now) =
    all_from_yields_List is_entry_name _ _ c.all.result c.all.ensures.ran (YieldsList-from_slice_split _ (λ b. b == 47) c.args.path.now c.split.ensures.rest c.split.ensures.done c.split.ensures.closure (λ x b q k. search (rules))) (λ x b q k. (search rules, name_test x.now b (search (rules, k)))) in
    path_decides c.args.path.now c.all.result c.if-path-gt-MAX_PATH.false is
