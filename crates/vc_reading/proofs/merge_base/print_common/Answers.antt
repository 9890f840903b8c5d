use Rattle.std.proofs.Common.{◌≡◌, ◌∙◌, ℕ, List, inl, inr, Ok, subst}
use Rattle.std.proofs.KnownBytes.{Keeps-refl}
use Rattle.std.specs.Prelude.{Option}
use Rattle.std.specs.Io.KnownBytes.{Appends}
use Rattle.std.proofs.lemmas.Result.{IfErr-weaker, IfOk-weaker}
use Rattle.vc_cli.proofs.PrintLemmas.{OnErr-map, on_err}
use Rattle.vc_cli.specs.Printed.{AppendsFront, PrintsFront}
use Rattle.vc_cli.specs.Revisions.{Denoted}
use Rattle.vc_files.specs.FileMap.{FileMap}
use Rattle.vc_object.specs.declared.id.ObjectId.{ObjectId}
use Rattle.vc_object_map.specs.Store.{objects}
use Rattle.vc_reading.specs.Shown.{IsOfBases, IsOfCommon, PrintsBases, PrintsCommon, SomeBases, SomeCommon}
use Rattle.vc_reading.proofs.merge_base.print_common.Goals as goal

pub returns-clause-printed : goal.returns-clause-printed
returns-clause-printed g c = λ honest.
    let content = g.F.Files.content in
    let old = content c.args.files.now in
    let last = content c.resolve-2.new.files in
    let before = g.O.Write.contents c.args.output.now in
    let after = g.O.Write.contents c.print_bases.new.output in
    let a = c.in_ok-a.a in
    let b = c.in_ok-b.b in
    IfOk-weaker c.print_bases.result (λ some. PrintsBases (objects last) a b some (Appends before after)) (λ some. PrintsCommon old c.args.first.now c.args.second.now some (Appends before after)) (λ some bases. record {
      a = a;
      b = b;
      first_is = c.in_ok-a.ensures.value honest;
      second_is = subst (λ (m : FileMap). Denoted m c.args.second.now (Ok b)) c.in_ok-a.ensures.same (c.in_ok-b.ensures.value honest);
      bases = subst (λ (m : FileMap). PrintsBases (objects m) a b some (Appends before after)) (c.in_ok-b.ensures.same ∙ c.in_ok-a.ensures.same) bases;
    }) (c.print_bases.ensures.printed honest)

pub returns-clause-refused : goal.returns-clause-refused
returns-clause-refused g c = λ honest.
    let content = g.F.Files.content in
    let old = content c.args.files.now in
    let last = content c.resolve-2.new.files in
    let a = c.in_ok-a.a in
    let b = c.in_ok-b.b in
    let second = subst (λ (m : FileMap). Denoted m c.args.second.now (Ok b)) c.in_ok-a.ensures.same (c.in_ok-b.ensures.value honest) in
    IfErr-weaker c.print_bases.result (IsOfBases last a b) (IsOfCommon old c.args.first.now c.args.second.now)
    (λ e told. inr (a, c.in_ok-a.ensures.value honest, inr (b, second, subst (λ (m : FileMap). IsOfBases m a b e) (c.in_ok-b.ensures.same ∙ c.in_ok-a.ensures.same) told)))
    (c.print_bases.ensures.refused honest)

-- a front of the lines of what two ids have in common is one of what their revisions have
common_front : (old last : FileMap) (first second : List ℕ) (a b : ObjectId) (before after : Option (List ℕ)) → last ≡ old → Denoted old first (Ok a) → Denoted old second (Ok b)
    → PrintsFront (SomeBases (objects last) a b) before after → PrintsFront (SomeCommon old first second) before after
common_front old last first second a b before after same first_is second_is (inl none) = inl none
common_front old last first second a b before after same first_is second_is (inr (some, bases)) = inr (
  some,
  record {
    a = a;
    b = b;
    first_is = first_is;
    second_is = second_is;
    bases = subst (λ (m : FileMap). PrintsBases (objects m) a b some (AppendsFront before after)) same bases;
  },
)

pub returns-in_err-a-clause-front : goal.returns-in_err-a-clause-front
returns-in_err-a-clause-front g c = λ honest. on_err c.from_residual.result (inl (Keeps-refl (g.O.Write.contents c.args.output.now)))

pub returns-clause-front : goal.returns-clause-front
returns-clause-front g c = λ honest.
    let content = g.F.Files.content in
    let contents = g.O.Write.contents in
    let b = c.in_ok-b.b in
    let second = subst (λ (m : FileMap). Denoted m c.args.second.now (Ok b)) c.in_ok-a.ensures.same (c.in_ok-b.ensures.value honest) in
    OnErr-map c.print_bases.result (common_front (content c.args.files.now) (content c.resolve-2.new.files) c.args.first.now c.args.second.now c.in_ok-a.a b (contents c.args.output.now) (contents c.print_bases.new.output) (c.in_ok-b.ensures.same ∙ c.in_ok-a.ensures.same) (c.in_ok-a.ensures.value honest) second)
    (c.print_bases.ensures.front honest)
