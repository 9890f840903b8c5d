use Rattle.std.proofs.Common.{◌≡◌, subst, refl}
use Rattle.std.specs.Io.KnownBytes.{Appends}
use Rattle.vc_object.specs.Object.{object_name, IsObject}
use Rattle.vc_object.specs.ObjectFault.{BodyFault}
use Rattle.vc_reading.proofs.BodyLemmas.{refused_front, object_of_front, line_of_front, legal_front, none_of_line, OnOk-of}
use Rattle.vc_cli.proofs.PrintLemmas.{OnErr-map, on_err}
use Rattle.vc_cli.proofs.ToldLemmas.{OnOk-map}
use Rattle.vc_cli.specs.Printed.{AppendsFront}
use Rattle.vc_reading.proofs.hash_object.name_stream.Goals as goal

pub returns-in-Ok-clause-printed : goal.returns-in-Ok-clause-printed
returns-in-Ok-clause-printed g c =
    let before = g.O.Write.contents c.args.output.now in
    let after = g.O.Write.contents c.print_id.new.output in
    let items = c.in_ok-body.body.items in
    let known = g.I.Read.remaining c.args.stream in
    let object : IsObject c.args.kind items = subst (λ xs. IsObject c.args.kind xs) c.deref.ensures.value (c.in-Ok.ensures.legal refl) in
    let whole = object_of_front c.args.kind known items c.in_ok-body.ensures.front object in
    let named : c.in-Ok.id ≡ object_name c.args.kind items = subst (λ xs. c.in-Ok.id ≡ object_name c.args.kind xs) c.deref.ensures.value c.in-Ok.ensures.value in
    OnOk-map c.print_id.result (λ line. line_of_front (Appends before after) c.args.kind known items c.in-Ok.id whole named line) c.print_id.ensures.line

pub returns-in-Ok-clause-front : goal.returns-in-Ok-clause-front
returns-in-Ok-clause-front g c =
    let before = g.O.Write.contents c.args.output.now in
    let after = g.O.Write.contents c.print_id.new.output in
    let items = c.in_ok-body.body.items in
    let known = g.I.Read.remaining c.args.stream in
    let object : IsObject c.args.kind items = subst (λ xs. IsObject c.args.kind xs) c.deref.ensures.value (c.in-Ok.ensures.legal refl) in
    let whole = object_of_front c.args.kind known items c.in_ok-body.ensures.front object in
    let named : c.in-Ok.id ≡ object_name c.args.kind items = subst (λ xs. c.in-Ok.id ≡ object_name c.args.kind xs) c.deref.ensures.value c.in-Ok.ensures.value in
    OnErr-map c.print_id.result (λ front. line_of_front (AppendsFront before after) c.args.kind known items c.in-Ok.id whole named front) c.print_id.ensures.front

pub returns-in_err-body-clause-front : goal.returns-in_err-body-clause-front
returns-in_err-body-clause-front g c = on_err c.from_residual.result (none_of_line c.args.kind (g.I.Read.remaining c.args.stream) (g.O.Write.contents c.args.output.now))

pub returns-clause-front : goal.returns-clause-front
returns-clause-front g c = none_of_line c.args.kind (g.I.Read.remaining c.args.stream) (g.O.Write.contents c.args.output.now)

pub returns-in-Ok-clause-legal : goal.returns-in-Ok-clause-legal
returns-in-Ok-clause-legal g c =
    let items = c.in_ok-body.body.items in
    let known = g.I.Read.remaining c.args.stream in
    let object : IsObject c.args.kind items = subst (λ xs. IsObject c.args.kind xs) c.deref.ensures.value (c.in-Ok.ensures.legal refl) in
    let whole = object_of_front c.args.kind known items c.in_ok-body.ensures.front object in
    OnOk-of c.print_id.result (legal_front c.args.kind known items whole object)

pub returns-clause-refused : goal.returns-clause-refused
returns-clause-refused g c =
    let items = c.in_ok-body.body.items in
    let fault : BodyFault c.args.kind items c.in-Err.fault = subst (λ xs. BodyFault c.args.kind xs c.in-Err.fault) c.deref.ensures.value c.in-Err.ensures.fault in
    refused_front c.args.kind (g.I.Read.remaining c.args.stream) items c.in-Err.fault c.in_ok-body.ensures.front fault
