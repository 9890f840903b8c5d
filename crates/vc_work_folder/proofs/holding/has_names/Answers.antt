use Rattle.std.proofs.Common.{rules, ◌==◌}
use Rattle.std.proofs.lemmas.Iterator.Search.{all_from_yields_List}
use Rattle.std.proofs.lemmas.Iterator.Splits.{YieldsList-from_slice_split}
use Rattle.vc_work_folder.specs.Holding.{is_part}
use Rattle.vc_work_folder.proofs.holding.has_names.Goals as goal

pub returns : goal.returns
returns c =
    all_from_yields_List is_part _ _ c.all.result c.all.ensures.ran
    (YieldsList-from_slice_split _ (λ byte. byte == 47) c.args.path.now c.split.ensures.rest c.split.ensures.done c.split.ensures.closure (λ x b q k. search rules))
    (λ x b q k. (search rules, search (rules, k)))
