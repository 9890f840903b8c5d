use Rattle.std.proofs.Common.{rules, sym, ◌∙◌}
use Rattle.std.proofs.lemmas.Iterator.{YieldsList-from_slice}
use Rattle.std.proofs.lemmas.Iterator.Search.{all_from_yields_List}
use Rattle.std.proofs.lemmas.List.Folds.{list_all-map}
use Rattle.vc_object.specs.ObjectId.{id_eq}
use Rattle.vc_push.specs.Push.{CommandText, zero_id}
use Rattle.vc_push.specs.PushView.{command_of}
use Rattle.vc_push.specs.declared.command.Command.{Command}
use Rattle.vc_push.proofs.command.only_deletes.Goals as goal

pub returns : goal.returns
returns c =
    all_from_yields_List (λ (k : Command). id_eq k.new zero_id) _ _ c.all.result c.all.ensures.ran
    (YieldsList-from_slice c.args.commands.now (search rules))
    (λ x b q k. search rules)
    ∙ sym (list_all-map (λ (k : CommandText). id_eq k.new zero_id) command_of c.args.commands.now)
