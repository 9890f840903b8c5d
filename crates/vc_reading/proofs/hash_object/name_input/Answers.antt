use Rattle.std.proofs.Common.{rules, ◌≡◌, subst, sym}
use Rattle.std.specs.Prelude.{IfSome, OnErr}
use Rattle.vc_cli.specs.Printed.{AppendsFront, id_line}
use Rattle.vc_object.specs.Object.{object_name}
use Rattle.vc_object.specs.declared.kind.Kind.{Kind}
use Rattle.vc_object.specs.declared.kind.Kind.TheVariants.{Blob}
use Rattle.vc_reading.proofs.hash_object.name_input.Goals as goal

pub returns-clause-front : goal.returns-clause-front
returns-clause-front g c =
    let before = g.O.Write.contents c.args.output.now in
    let after = g.O.Write.contents c.name_blob.new.output in
    let blob : c.args.kind ≡ Blob = search (rules, c.eq.ensures, c.if-eq.true) in
    subst (λ (kind : Kind). OnErr c.name_blob.result (IfSome (g.I.Read.remaining c.args.input.stream) (λ body. AppendsFront before after (id_line (object_name kind body))))) (sym blob) c.name_blob.ensures.front
