use Rattle.std.proofs.Common.{◌∙◌, Bool, Some, sym, ap, ap₂, codes, option_map}
use Rattle.std.specs.Borrow.{Bor}
use Rattle.clap.specs.Walk.{Text}
use Rattle.clap.specs.Words.{found_of, rows_of}
use Rattle.clap.proofs.WalkLemmas.{first_value-rows}
use Rattle.vc_arguments.specs.Reading.{is_said}
use Rattle.vc_arguments.specs.Requests.{request_of, store_of}
use Rattle.vc_arguments.specs.Views.{held, task_view}
use Rattle.vc_arguments.specs.declared.arguments.Request.{Request}
use Rattle.vc_arguments.specs.declared.arguments.Task.{Task}
use Rattle.vc_arguments.proofs.RowLemmas.{entered_some, text_or}
use Rattle.vc_arguments.proofs.reading.request_of.Goals as goal

pub returns : goal.returns
returns c =
    let found = found_of c.in_ok-name.words.now in
    let rows = rows_of found in
    let make : Bor Text → Bool → Task → Request = λ store is_named task. record { store = store; is_named = is_named; task = task } in
    let store = text_or c.get_str.result _ _ _ (c.get_str.ensures ∙ first_value-rows found (codes "store")) c.unwrap_or.ensures in
    let entered = entered_some c.args.matches.now c.subcommand.result c.in_ok-name.name c.in_ok-name.words
    c.subcommand.ensures.name c.subcommand.ensures.rows c.in_ok-name.was in
    ap₂ (λ (s : Bor Text) (n : Bool). Some (make s n (task_view c.in_ok-task.task))) (ap held store) c.is_said.ensures
    ∙ (ap (option_map (make (store_of rows) (is_said (codes "store") rows))) c.in_ok-task.ensures ∙ ap request_of (sym entered))
