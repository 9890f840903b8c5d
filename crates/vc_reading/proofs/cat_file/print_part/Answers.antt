use Rattle.std.proofs.Common.{rules, ◌≡◌, List, ℕ, subst}
use Rattle.std.specs.Prelude.{OnErr}
use Rattle.vc_cli.proofs.PrintLemmas.{front_none, on_err}
use Rattle.vc_cli.specs.Printed.{AppendsFront}
use Rattle.vc_object.specs.Decoding.{stored_object}
use Rattle.vc_reading.specs.Shown.{part_text}
use Rattle.vc_reading.proofs.cat_file.print_part.Goals as goal

pub returns-in_err-extend_from_slice-in-Kind-clause-front : goal.returns-in_err-extend_from_slice-in-Kind-clause-front
returns-in_err-extend_from_slice-in-Kind-clause-front g c = on_err _ (front_none (g.O.Write.contents c.args.output.now) _)

pub returns-in_err-push-in-Kind-clause-front : goal.returns-in_err-push-in-Kind-clause-front
returns-in_err-push-in-Kind-clause-front g c = on_err _ (front_none (g.O.Write.contents c.args.output.now) _)

pub returns-in_err-line-in-Size-clause-front : goal.returns-in_err-line-in-Size-clause-front
returns-in_err-line-in-Size-clause-front g c = on_err _ (front_none (g.O.Write.contents c.args.output.now) _)

pub returns-in_ok-push-in-Kind-clause-front : goal.returns-in_ok-push-in-Kind-clause-front
returns-in_ok-push-in-Kind-clause-front g c =
    let before = g.O.Write.contents c.args.output.now in
    let after = g.O.Write.contents c.print_text.new.output in
    let line : c.deref.result.now ≡ part_text c.args.part (stored_object c.args.object.now.kind c.args.object.now.body.items) = search rules in
    subst (λ (text : List ℕ). OnErr c.print_text.result (AppendsFront before after text)) line c.print_text.ensures.front

pub returns-in_ok-line-in-Size-clause-front : goal.returns-in_ok-line-in-Size-clause-front
returns-in_ok-line-in-Size-clause-front g c =
    let before = g.O.Write.contents c.args.output.now in
    let after = g.O.Write.contents c.print_text-in-Size.new.output in
    let line : c.as_bytes.result.now ≡ part_text c.args.part (stored_object c.args.object.now.kind c.args.object.now.body.items) = search rules in
    subst (λ (text : List ℕ). OnErr c.print_text-in-Size.result (AppendsFront before after text)) line c.print_text-in-Size.ensures.front
