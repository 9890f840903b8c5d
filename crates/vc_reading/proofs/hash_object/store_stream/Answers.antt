use Rattle.std.proofs.Common.{◌≡◌, ℕ, List, sym, subst}
use Rattle.std.specs.Prelude.{IfErr, IfSome, OnOk, take}
use Rattle.std.specs.Io.KnownBytes.{Appends}
use Rattle.vc_object.specs.Object.{object_name, oversize}
use Rattle.vc_cli.proofs.StoreLemmas.{of_lock}
use Rattle.vc_cli.specs.Printed.{id_line}
use Rattle.vc_files.specs.FileMap.{FileMap}
use Rattle.vc_reading.specs.HashObject.{LeavesHashed, StoresBody}
use Rattle.vc_reading.proofs.BodyLemmas.{left_of_front, legal_of_front, ok_of_front}
use Rattle.vc_reading.proofs.hash_object.store_stream.Goals as goal

pub returns-clause-printed : goal.returns-clause-printed
returns-clause-printed g c =
    let items = c.deref.result.now in
    let known = g.I.Read.remaining c.args.input.stream in
    let front = subst (λ (xs : List ℕ). IfSome known (λ bytes. xs ≡ take oversize bytes)) (sym c.deref.ensures.value) c.in_ok-body.ensures.front in
    ok_of_front (λ (body : List ℕ). Appends (g.O.Write.contents c.args.output.now) (g.O.Write.contents c.print_stored.new.output) (id_line (object_name c.args.kind body))) c.args.kind known items c.print_stored.result front c.print_stored.ensures.legal c.print_stored.ensures.printed

pub returns-clause-stored : goal.returns-clause-stored
returns-clause-stored g c = λ honest.
    let items = c.deref.result.now in
    let known = g.I.Read.remaining c.args.input.stream in
    let front = subst (λ (xs : List ℕ). IfSome known (λ bytes. xs ≡ take oversize bytes)) (sym c.deref.ensures.value) c.in_ok-body.ensures.front in
    let old = g.S.Stores.content c.args.stores.now in
    let mid = g.S.Stores.content c.lock.new.self in
    let new = g.S.Stores.content c.print_stored.new.stores in
    let held = g.S.Stores.of c.in_ok-lock.lock in
    let stored = of_lock (λ (was is : FileMap). OnOk c.print_stored.result (StoresBody was c.args.kind items is)) held c.args.store.now old mid new c.in_ok-lock.ensures.of c.in_ok-lock.ensures.same (c.print_stored.ensures.stored honest) in
    ok_of_front (λ (body : List ℕ). StoresBody (old c.args.store.now) c.args.kind body (new c.args.store.now)) c.args.kind known items c.print_stored.result front c.print_stored.ensures.legal stored

pub returns-clause-legal : goal.returns-clause-legal
returns-clause-legal g c =
    let items = c.deref.result.now in
    let known = g.I.Read.remaining c.args.input.stream in
    let front = subst (λ (xs : List ℕ). IfSome known (λ bytes. xs ≡ take oversize bytes)) (sym c.deref.ensures.value) c.in_ok-body.ensures.front in
    legal_of_front c.args.kind known items c.print_stored.result front c.print_stored.ensures.legal

pub returns-clause-left : goal.returns-clause-left
returns-clause-left g c = λ honest.
    let items = c.deref.result.now in
    let known = g.I.Read.remaining c.args.input.stream in
    let front = subst (λ (xs : List ℕ). IfSome known (λ bytes. xs ≡ take oversize bytes)) (sym c.deref.ensures.value) c.in_ok-body.ensures.front in
    let contents = g.O.Write.contents in
    let before = contents c.args.output.now in
    let after = contents c.print_stored.new.output in
    let old = g.S.Stores.content c.args.stores.now in
    let mid = g.S.Stores.content c.lock.new.self in
    let new = g.S.Stores.content c.print_stored.new.stores in
    let held = g.S.Stores.of c.in_ok-lock.lock in
    let left = of_lock (λ (was is : FileMap). IfErr c.print_stored.result (LeavesHashed was c.args.kind items is before after)) held c.args.store.now old mid new c.in_ok-lock.ensures.of c.in_ok-lock.ensures.same (c.print_stored.ensures.left honest) in
    left_of_front (old c.args.store.now) (new c.args.store.now) before after c.args.kind known items c.print_stored.result front left
