use Rattle.std.proofs.Common.{◌≡◌, ℕ, List, sym, subst}
use Rattle.std.specs.Prelude.{IfSome, OnOk, take}
use Rattle.std.specs.Io.KnownBytes.{Appends}
use Rattle.vc_object.specs.Object.{object_name, oversize}
use Rattle.vc_cli.specs.Printed.{id_line}
use Rattle.vc_reading.specs.HashObject.{StoresBody}
use Rattle.vc_reading.proofs.BodyLemmas.{left_of_front, legal_of_front, ok_of_front}
use Rattle.vc_reading.proofs.hash_object.hash_object.Goals as goal

pub returns-clause-printed : goal.returns-clause-printed
returns-clause-printed g c =
    let items = c.deref.result.now in
    let known = g.I.Read.remaining c.args.input.stream in
    let front = subst (λ (xs : List ℕ). IfSome known (λ bytes. xs ≡ take oversize bytes)) (sym c.deref.ensures.value) c.in_ok-body.ensures.front in
    ok_of_front (λ (body : List ℕ). Appends (g.O.Write.contents c.args.output.now) (g.O.Write.contents c.print_stored.new.output) (id_line (object_name c.args.kind body))) c.args.kind known items c.print_stored.result front c.print_stored.ensures.legal c.print_stored.ensures.printed

pub returns-clause-stored : goal.returns-clause-stored
returns-clause-stored g c = λ honest.
    let items = c.deref.result.now in
    let known = g.I.Read.remaining c.args.input.stream in
    let front = subst (λ (xs : List ℕ). IfSome known (λ bytes. xs ≡ take oversize bytes)) (sym c.deref.ensures.value) c.in_ok-body.ensures.front in
    let store = g.S.Stores.of c.args.lock.now in
    ok_of_front (λ (body : List ℕ). StoresBody (g.S.Stores.content c.args.stores.now store) c.args.kind body (g.S.Stores.content c.print_stored.new.stores store)) c.args.kind known items c.print_stored.result front c.print_stored.ensures.legal (c.print_stored.ensures.stored honest)

pub returns-clause-legal : goal.returns-clause-legal
returns-clause-legal g c =
    let items = c.deref.result.now in
    let known = g.I.Read.remaining c.args.input.stream in
    let front = subst (λ (xs : List ℕ). IfSome known (λ bytes. xs ≡ take oversize bytes)) (sym c.deref.ensures.value) c.in_ok-body.ensures.front in
    legal_of_front c.args.kind known items c.print_stored.result front c.print_stored.ensures.legal

pub returns-clause-left : goal.returns-clause-left
returns-clause-left g c = λ honest.
    let items = c.deref.result.now in
    let known = g.I.Read.remaining c.args.input.stream in
    let front = subst (λ (xs : List ℕ). IfSome known (λ bytes. xs ≡ take oversize bytes)) (sym c.deref.ensures.value) c.in_ok-body.ensures.front in
    let store = g.S.Stores.of c.args.lock.now in
    let contents = g.O.Write.contents in
    left_of_front (g.S.Stores.content c.args.stores.now store) (g.S.Stores.content c.print_stored.new.stores store) (contents c.args.output.now) (contents c.print_stored.new.output) c.args.kind known items c.print_stored.result front (c.print_stored.ensures.left honest)
