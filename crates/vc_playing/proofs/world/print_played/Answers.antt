use Rattle.std.proofs.Common.{◌≡◌, ◌⊎◌, ℕ, List, subst}
use Rattle.std.proofs.lemmas.Result.{IfErr-at_err}
use Rattle.vc_cli.proofs.PrintLemmas.{OnErr-map, front_whole, on_err}
use Rattle.vc_cli.specs.Printed.{AppendsFront}
use Rattle.vc_playing.proofs.FrontLemmas.{front_of_all, front_of_first}
use Rattle.vc_simulation.specs.Playing.{PlaysFront}
use Rattle.vc_playing.proofs.world.print_played.Goals as goal

pub returns-in-Ok-clause-front : goal.returns-in-Ok-clause-front
returns-in-Ok-clause-front g c =
    let before = g.O.Write.contents c.args.output.now in
    let after = g.O.Write.contents c.print_text.new.output in
    let lines = c.run_script-played.new.output.items in
    OnErr-map c.print_text.result (λ front. front_of_all c.args.script.now before after c.new-lines.result.items lines c.new-lines.ensures.items c.in-Ok.ensures.plays
    (subst (λ (l : List ℕ). AppendsFront before after l) c.deref.ensures.value front)) c.print_text.ensures.front

pub returns-in_err-print_text-in-Err-Fault-clause-front : goal.returns-in_err-print_text-in-Err-Fault-clause-front
returns-in_err-print_text-in-Err-Fault-clause-front g c =
    let before = g.O.Write.contents c.args.output.now in
    let after = g.O.Write.contents c.print_text-in-Err-Fault.new.output in
    let lines = c.run_script-played.new.output.items in
    let none = c.new-lines.result.items in
    let played = IfErr-at_err (λ _. (lines ≡ none) ⊎ PlaysFront c.args.script.now none lines) c.in-Err-Fault.is c.run_script-played.ensures.fault in
    on_err c.from_residual.result (front_of_first c.args.script.now before after none lines c.new-lines.ensures.items played
    (subst (λ (l : List ℕ). AppendsFront before after l) c.deref-in-Err-Fault.ensures.value c.in_err-print_text-in-Err-Fault.ensures.front))

pub returns-clause-front : goal.returns-clause-front
returns-clause-front g c =
    let before = g.O.Write.contents c.args.output.now in
    let after = g.O.Write.contents c.print_text-in-Err-Fault.new.output in
    let lines = c.run_script-played.new.output.items in
    let none = c.new-lines.result.items in
    let played = IfErr-at_err (λ _. (lines ≡ none) ⊎ PlaysFront c.args.script.now none lines) c.in-Err-Fault.is c.run_script-played.ensures.fault in
    let text = c.deref-in-Err-Fault.result.now in
    front_of_first c.args.script.now before after none lines c.new-lines.ensures.items played
    (subst (λ (l : List ℕ). AppendsFront before after l) c.deref-in-Err-Fault.ensures.value (front_whole before after text c.in_ok-print_text-in-Err-Fault.ensures.text))
